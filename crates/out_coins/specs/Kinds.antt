-- The kinds of the words, or of the coins alone, round by round: messages, out coins, and the words up to the next round.
use Rattle.std.specs.Prelude.{ℕ, zero, suc, ◌+◌, ◌≤◌, ◌<◌, Bool, cond, List, [], ◌∷◌, ◌++◌, ◌≡◌, length, get_or}
use Rattle.std.proofs.Common.{arith, append_assoc, ap, ◌∙◌, length-append}
use Rattle.std.proofs.Math.Bool.{true, false}
use Rattle.std.proofs.Math.Path.{refl, sym}
use Rattle.std.proofs.Math.ListN.{replicate}
use Rattle.std.proofs.lemmas.List.{length-replicate}
use Rattle.list_laws.specs.All.{All, all_append, all_replicate}
use Rattle.layouts.proofs.CoinsAfter.{chosen_append, words_first, words_last, words_next}
use Rattle.layouts.specs.KindsAfter.{chosen, words_after}
use Rattle.layouts.proofs.LayoutFacts.{coins_final, layout_coins, outs_length, round_coins_lem}
use Rattle.layouts.specs.Spellings.{count_zero}
use Rattle.layouts.specs.LawfulSheets.{Paired}
use Rattle.layouts.specs.Levels.{level_of, out_coin_count, rounds_of, words_for}
use Rattle.definition.specs.Field.{Spelling, spelling_of, word_count}
use Rattle.definition.specs.Layout.{Kind, coin, coin_kinds, index, layout, message, out, out_layout, rest_layout, round_layout}
use Rattle.definition.specs.Sheet.{Level, Sheet, final_count, first_level, later_levels, shift_count}

-- the kinds of the words after fold coin 0
abbrev pub kinds_after_fold : Sheet → List Kind
kinds_after_fold h = rest_layout h.spelling h.out_coins (first_level h) (later_levels h)

-- how many of n messages stand among the words
unfoldable pub messages_in : Bool → ℕ → ℕ
messages_in alone n = cond alone 0 n

-- the number of words of round i + 1 of a sheet w from its out coins on
unfoldable pub round_word_count : Bool → List ℕ → ℕ → ℕ
round_word_count alone w i = word_count (spelling_of (get_or w 0 0)) (get_or w 5 0 + messages_in alone (get_or w 5 0) + 2) + get_or w (6 + i) 0

-- a kind that is no out coin
abbrev pub Silent : Kind → Type 0
Silent message = Unit {0}
Silent coin = Unit {0}
Silent (out l) = ⊥
Silent (index n) = Unit {0}

-- kinds without an out coin, among them a message or an index, where a round's out coins end
abbrev pub Ends : List Kind → Type 0
Ends [] = ⊥
Ends (message ∷ ks) = All Silent ks
Ends (coin ∷ ks) = Ends ks
Ends (out l ∷ ks) = ⊥
Ends (index n ∷ ks) = All Silent ks

module _ (alone : Bool) (σ : Spelling) where
  -- the words of a round before its out coins and after them
  abbrev pub head_kinds : Level → List Kind
  head_kinds l = replicate (word_count σ (messages_in alone l.size)) message

  abbrev later_kinds : Level → List Kind
  later_kinds b = replicate (word_count σ 2) coin ++ replicate b.repetitions (index (shift_count b))

  abbrev pub tail_kinds : ℕ → Level → List Kind
  tail_kinds s b = replicate (word_count σ (messages_in alone s)) message ++ later_kinds b

  pub silent_head : (l : Level) → All Silent (head_kinds l)
  silent_head l = all_replicate Silent (word_count σ (messages_in alone l.size)) message tt

  later_silent : (b : Level) → All Silent (later_kinds b)
  later_silent b = all_append Silent (replicate (word_count σ 2) coin) _ (all_replicate Silent (word_count σ 2) coin tt) (all_replicate Silent b.repetitions (index (shift_count b)) tt)

  later_ends : (c n m : ℕ) → 1 ≤ n → Ends (replicate c coin ++ replicate n (index m))
  later_ends zero zero m l = absurd (omega arith)
  later_ends zero (suc n) m l = all_replicate Silent n (index m) tt
  later_ends (suc c) n m l = later_ends c n m l

  pub tail_ends : (s : ℕ) (b : Level) → 1 ≤ b.repetitions → Ends (tail_kinds s b)
  tail_ends s b l = go (word_count σ (messages_in alone s))
    where
      go : (n : ℕ) → Ends (replicate n message ++ later_kinds b)
      go zero = later_ends (word_count σ 2) b.repetitions (shift_count b) l
      go (suc n) = all_append Silent (replicate n message) _ (all_replicate Silent n message tt) (later_silent b)

  pub tail_count : (s : ℕ) (b : Level) → length (tail_kinds s b) ≡ word_count σ (messages_in alone s) + (word_count σ 2 + b.repetitions)
  tail_count s b =
      omega (
        arith,
        length-append (replicate (word_count σ (messages_in alone s)) message) (later_kinds b),
        length-append (replicate (word_count σ 2) coin) (replicate b.repetitions (index (shift_count b))),
        length-replicate (word_count σ (messages_in alone s)) message,
        length-replicate (word_count σ 2) coin,
        length-replicate b.repetitions (index (shift_count b)),
      )

-- no messages take no words
no_messages : (σ : Spelling) (ks : List Kind) → replicate (word_count σ 0) message ++ ks ≡ ks
no_messages σ ks = ap (λ (n : ℕ). replicate n message ++ ks) (count_zero σ)

chosen_round : (alone : Bool) (σ : Spelling) (s : ℕ) (b l : Level) → chosen alone (round_layout σ s b l) ≡ head_kinds alone σ l ++ (out_layout σ s l ++ tail_kinds alone σ s b)
unfolding chosen messages_in round_layout
chosen_round false σ s b l = refl
chosen_round true σ s b l =
    round_coins_lem σ s b l
    ∙ sym (no_messages σ (out_layout σ s l ++ tail_kinds true σ s b) ∙ ap {B = List Kind} (λ ks. out_layout σ s l ++ ks) (no_messages σ (later_kinds true σ b)))

chosen_final : (alone : Bool) (σ : Spelling) (s : ℕ) (b : Level) → chosen alone (rest_layout σ s b [])
    ≡ replicate (word_count σ (messages_in alone (final_count b))) message ++ replicate b.repetitions (index (shift_count b))
unfolding chosen messages_in rest_layout
chosen_final false σ s b = refl
chosen_final true σ s b = coins_final σ s b ∙ sym (no_messages σ (replicate b.repetitions (index (shift_count b))))

module _ (alone : Bool) (h : Sheet) where
  pub kinds_next : (i : ℕ) → i < rounds_of h → chosen alone (words_after h i)
      ≡ head_kinds alone h.spelling (level_of h (i + 1)) ++ (out_layout h.spelling (out_coin_count h) (level_of h (i + 1)) ++ (tail_kinds alone h.spelling (out_coin_count h) (level_of h i) ++ chosen alone (words_after h (i + 1))))
  kinds_next i l =
      let head = head_kinds alone h.spelling (level_of h (i + 1)) in
      let outs = out_layout h.spelling (out_coin_count h) (level_of h (i + 1)) in
      let tail = tail_kinds alone h.spelling (out_coin_count h) (level_of h i) in
      let rest = chosen alone (words_after h (i + 1)) in
      ap (chosen alone) (words_next h i l) ∙ chosen_append alone (round_layout h.spelling (out_coin_count h) (level_of h i) (level_of h (i + 1))) (words_after h (i + 1))
      ∙ ap {B = List Kind} (λ ks. ks ++ rest) (chosen_round alone h.spelling (out_coin_count h) (level_of h i) (level_of h (i + 1)))
      ∙ append_assoc head (outs ++ tail) rest ∙ ap {B = List Kind} (λ ks. head ++ ks) (append_assoc outs tail rest)

  pub kinds_last : (i : ℕ) → rounds_of h ≤ i → All Silent (chosen alone (words_after h i))
  kinds_last i l =
      let b = level_of h i in
      rw (words_last h i l, chosen_final alone h.spelling (out_coin_count h) b)
      (all_append Silent (replicate (words_for h (messages_in alone (final_count b))) message) _ (all_replicate Silent (words_for h (messages_in alone (final_count b))) message tt)
      (all_replicate Silent b.repetitions (index (shift_count b)) tt))

  pub kinds_first : Paired h → chosen alone (kinds_after_fold h) ≡ chosen alone (words_after h 0)
  kinds_first long = ap (chosen alone) (words_first h long)

  -- the number of words of a round
  pub round_count : (i : ℕ) → i < rounds_of h → length (chosen alone (words_after h i))
      ≡ words_for h (messages_in alone (level_of h (i + 1)).size) + (words_for h (out_coin_count h) + (words_for h (messages_in alone (out_coin_count h)) + (words_for h 2 + (level_of h i).repetitions))) + length (chosen alone (words_after h (i + 1)))
  round_count i l =
      let head = head_kinds alone h.spelling (level_of h (i + 1)) in
      let outs = out_layout h.spelling (out_coin_count h) (level_of h (i + 1)) in
      let tail = tail_kinds alone h.spelling (out_coin_count h) (level_of h i) in
      let rest = chosen alone (words_after h (i + 1)) in
      omega (
        arith,
        ap length (kinds_next i l),
        length-append head (outs ++ (tail ++ rest)),
        length-append outs (tail ++ rest),
        length-append tail rest,
        length-replicate (words_for h (messages_in alone (level_of h (i + 1)).size)) message,
        outs_length h.spelling (out_coin_count h) (level_of h (i + 1)),
        tail_count alone h.spelling (out_coin_count h) (level_of h i),
      )

  -- table 0 and fold coin 0 come first, or fold coin 0 alone
  pub kinds_all : chosen alone (layout h) ≡ replicate (words_for h (messages_in alone h.size)) message ++ (replicate (words_for h 1) coin ++ chosen alone (kinds_after_fold h))
  unfolding chosen messages_in layout
  kinds_all = go alone
    where
      go : (a : Bool) → chosen a (layout h) ≡ replicate (words_for h (messages_in a h.size)) message ++ (replicate (words_for h 1) coin ++ chosen a (kinds_after_fold h))
      go false = refl
      go true = layout_coins h ∙ sym (no_messages h.spelling (replicate (words_for h 1) coin ++ coin_kinds (kinds_after_fold h)))
