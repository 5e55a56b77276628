-- The batch's prover by the plain one: with the combined polynomial and the coins after r the plain prover's input is allowed, and the words from fold coin 0 on are its.
use Rattle.std.specs.Prelude.{ℕ, zero, suc, ◌+◌, ◌-◌, ◌≤◌, ◌<◌, Bool, false, ◌≡◌, refl, get_or, drop, replicate}
use Rattle.std.proofs.Common.{arith, sym, ◌∙◌, subst, length-append, length-drop, drop_at, drop-drop}
use Rattle.std.proofs.Math.Bool.{not}
use mathlib.Core.List.{List, [], ◌∷◌, ◌++◌, flat_map, zip_with, append_assoc, append-nil}
use Rattle.std.proofs.Math.Option.{none}
use Rattle.std.proofs.Math.Path.{ap}
use Rattle.std.proofs.Math.ListN.{length}
use Rattle.std.proofs.lemmas.List.{length-replicate}
use borrow.Author.Tests.{eq-eqb, lt-leb}
use Rattle.batch_definition.specs.Batch.{combine_poly, cut_by, honest_batch}
use Rattle.definition.specs.Deciding.{out_before, out_in_domain, out_repeated, repeated_outs}
use Rattle.definition.specs.Field.{Element, Field, Spelling, begun_by, elements_in, field_in, number_in, power, word_count, words_of}
use Rattle.definition.specs.Layout.{Kind, coin, coin_kinds, layout, limit, message, read_coins}
use Rattle.definition.specs.Lists.{first_true}
use Rattle.definition.specs.Polynomial.{add_poly, geometric, mul_poly, scale}
use Rattle.definition.specs.Prove.{coefficients_test, coin_domain_test, coin_equal_test, coins_test, input_range_test}
use Rattle.definition.specs.Prover.{honest, honest_rest, honest_stream, table_of}
use Rattle.definition.specs.Reading.{out_of_range}
use Rattle.definition.specs.Sheet.{Sheet, edition1, first_level, sheet_of}
use Rattle.definition.specs.Transcript.{Coins, rest_words, transcript_words}
use Rattle.list_laws.specs.All.{All, all_map, all_replicate}
use Rattle.layouts.specs.EachWord.{Each, each_join, each_none, each_same}
use Rattle.layouts.specs.Levels.{sheet_field, sheet_root, words_for}
use Rattle.layouts.specs.Spellings.{begun_drop, begun_length, read_written, words_append, words_length}
use Rattle.algebra.specs.FieldIn.{Below, below_in, sum_below, words_below, zero_below}
use Rattle.algebra.specs.Laws.{FieldLaws}
use Rattle.layouts.specs.Tests.{at_none, if_false, none_true}
use Rattle.completeness.specs.DecidingAccepts.{table_length}
use Rattle.completeness.specs.EqualOuts.{NoRepeat}
use Rattle.completeness.specs.Numbered.{Allowed}
use Rattle.batches.proofs.AllowedBatches.{batch_apart, batch_coins, batch_count, batch_long, batch_some, coins_after, outside_after}
use Rattle.batches.proofs.BatchStream.{combined_length, sheet_ready}
use Rattle.batches.specs.Batched.{AllowedBatch}

first_size : (h : Sheet) → (first_level h).size ≡ h.size
unfolding first_level
first_size h = refl

-- coins of no round in front
coins_past : {A : Type 0} (F : Field A) (n : ℕ) (ks : List Kind) (cs : List A) → n ≤ length cs → NoRepeat F none (replicate n coin ++ ks) cs → NoRepeat F none ks (drop n cs)
unfolding repeated_outs out_repeated out_before
coins_past F zero ks cs l k = k
coins_past F (suc n) ks [] l k = absurd (omega arith)
coins_past F (suc n) ks (c ∷ cs) l k = coins_past F n ks cs (omega arith) k.1

-- the coefficients of a combination are elements
module _ (σ : Spelling) (p : ℕ) (L : FieldLaws (field_in σ p)) (positive : 0 < p) where
  abbrev F : Field (Element σ)
  F = field_in σ p

  scaled_below : (a : Element σ) (f : List (Element σ)) → All (Below σ p) (scale F a f)
  unfolding scale
  scaled_below a [] = tt
  scaled_below a (c ∷ cs) = (below_in σ p L positive (F.◌⊗◌ a c) (L.reduce_mul a c), scaled_below a cs)

  added_below : (f g : List (Element σ)) → All (Below σ p) f → All (Below σ p) g → All (Below σ p) (add_poly F f g)
  unfolding add_poly
  added_below [] g hf hg = hg
  added_below (a ∷ f) [] hf hg = hf
  added_below (a ∷ f) (b ∷ g) hf hg = (sum_below σ p positive a b, added_below f g hf.1 hg.1)

  pub combined_below : (d n : ℕ) (r : Element σ) (fs : List (List (Element σ))) → All (Below σ p) (combine_poly F d n r fs)
  unfolding combine_poly
  combined_below d n r [] = all_replicate (Below σ p) d F.𝟘 (zero_below σ p positive)
  combined_below d n r (f ∷ fs) = added_below _ _ (scaled_below (power F r n) (mul_poly F f (geometric F r (d - length f)))) (combined_below d (n + suc (d - length f)) r fs)

module _ {w bounds f coins : List ℕ} (ok : AllowedBatch w bounds f coins) where
  abbrev h : Sheet
  h = sheet_of edition1 w

  abbrev σ : Spelling
  σ = (sheet_of edition1 w).spelling

  abbrev plain : List ℕ
  plain = drop (words_for (sheet_of edition1 w) 1) coins

  abbrev ks : List Kind
  ks = coin_kinds (layout (sheet_of edition1 w))

  -- the combined polynomial, and its words
  abbrev pub combined : List (Element (sheet_of edition1 w).spelling)
  combined = combine_poly (sheet_field (sheet_of edition1 w)) (sheet_of edition1 w).degree 0 (get_or (elements_in (sheet_of edition1 w).spelling coins) 0 (number_in (sheet_of edition1 w).spelling 0))
      (cut_by bounds (elements_in (sheet_of edition1 w).spelling f))

  abbrev pub combined_words : List ℕ
  combined_words = words_of (sheet_of edition1 w).spelling combined

  combined_long : length combined ≡ h.degree
  unfolding first_level
  combined_long = combined_length ok

  words_long : length combined_words ≡ words_for h h.degree
  words_long = words_length σ combined ∙ ap (word_count σ) combined_long

  plain_count : length plain ≡ length ks
  plain_count = length-drop (words_for h 1) coins
      ∙ omega (arith, batch_count ok, ap length (batch_coins h (length bounds)), length-append (replicate (words_for h 1) coin) ks, length-replicate (words_for h 1) coin)

  -- no two out coins of a round are equal: r is no out coin
  plain_apart : NoRepeat (sheet_field h) none ks (begun_by σ plain)
  plain_apart =
      subst (NoRepeat (sheet_field h) none ks) (begun_drop σ (words_for h 1) coins)
      (past_coins (words_for h 1) (begun_by σ coins) (omega (arith, begun_length σ coins, (batch_some ok).0)) (subst (λ (l : List Kind). NoRepeat (sheet_field h) none l (begun_by σ coins)) (batch_coins h (length bounds)) (batch_apart ok)))
    where
      past_coins : (n : ℕ) (cs : List (Element (sheet_of edition1 w).spelling)) → n ≤ length cs → NoRepeat (sheet_field (sheet_of edition1 w)) none (replicate n coin ++ coin_kinds (layout (sheet_of edition1 w))) cs →
          NoRepeat (sheet_field (sheet_of edition1 w)) none (coin_kinds (layout (sheet_of edition1 w))) (drop n cs)
      past_coins n cs l k = coins_past (sheet_field (sheet_of edition1 w)) n (coin_kinds (layout (sheet_of edition1 w))) cs l k

  -- THE PLAIN PROVER'S INPUT IS ALLOWED,
  pub plain_allowed : Allowed edition1 w combined_words (drop (words_for (sheet_of edition1 w) 1) coins)
  unfolding coefficients_test coins_test input_range_test coin_domain_test coin_equal_test out_of_range limit
  plain_allowed = record {
    words = ok.words;
    sheet = ok.sheet;
    coefficients = if_false 10 1 _ (ap not (eq-eqb (length combined_words) (words_for h h.degree) words_long));
    full = if_false 10 2 _ (ap not (eq-eqb (length plain) (length ks) plain_count));
    range = at_none 5 _ (none_row (out_of_range h) 0 (replicate (words_for h h.degree) message ++ ks) (combined_words ++ plain)
        (each_join (λ k x. out_of_range h k x ≡ false) (replicate (words_for h h.degree) message) ks combined_words plain
        (each_same (λ k x. out_of_range h k x ≡ false) (words_for h h.degree) message combined_words words_long
        (all_map combined_words (words_below σ h.prime combined (combined_below σ h.prime (sheet_ready ok).laws (omega (arith, (sheet_ready ok).large)) h.degree 0 _ _)) (λ c l. lt-leb h.prime c l)))
        (coins_after ok)));
    outside = at_none 7 _ (none_row (out_in_domain σ h) 0 ks (begun_by σ plain) (outside_after ok));
    apart = at_none 14 _ (none_true 0 _ plain_apart);
  }
    where
      none_row : {A : Type 0} (t : Kind → A → Bool) (from : ℕ) (cs : List Kind) (xs : List A) → Each (λ k x. t k x ≡ false) cs xs → first_true from (zip_with t cs xs) ≡ none
      none_row {A} t from cs xs e = ap (λ (l : List A). first_true from (zip_with t cs l)) (sym (append-nil xs)) ∙ each_none t from cs xs [] e

  -- AND THE WORDS FROM FOLD COIN 0 ON ARE ITS.
  pub prover_as_plain : honest_batch w bounds f coins
      ≡ w ++ (length bounds ∷ (bounds ++ (flat_map (λ p. words_of (sheet_of edition1 w).spelling (table_of (sheet_field (sheet_of edition1 w)) (sheet_root (sheet_of edition1 w)) (first_level (sheet_of edition1 w)) p)) (cut_by bounds (elements_in (sheet_of edition1 w).spelling f))
      ++ (words_of (sheet_of edition1 w).spelling (get_or (elements_in (sheet_of edition1 w).spelling coins) 0 (number_in (sheet_of edition1 w).spelling 0) ∷ [])
      ++ drop (12 + words_for (sheet_of edition1 w) (sheet_of edition1 w).size) (honest_stream edition1 w combined_words (drop (words_for (sheet_of edition1 w) 1) coins))))))
  unfolding honest_batch honest_stream transcript_words honest
  prover_as_plain =
      ap {B = List ℕ} (λ t. w ++ (length bounds ∷ (bounds ++ (tables ++ t))))
      (ap (λ (t : List ℕ). t ++ rest_words σ (honest_rest F₁ ω₁ (first_level h) combined c.fold c.rounds c.finals)) (words_append σ (r ∷ []) (c.fold ∷ [])) ∙ append_assoc (words_of σ (r ∷ [])) (words_of σ (c.fold ∷ [])) _
      ∙ ap (λ (t : List ℕ). words_of σ (r ∷ []) ++ t) (sym plain_tail))
    where
      F₁ : Field (Element (sheet_of edition1 w).spelling)
      F₁ = sheet_field (sheet_of edition1 w)

      ω₁ : Element (sheet_of edition1 w).spelling
      ω₁ = sheet_root (sheet_of edition1 w)

      r : Element (sheet_of edition1 w).spelling
      r = get_or (elements_in (sheet_of edition1 w).spelling coins) 0 (number_in (sheet_of edition1 w).spelling 0)

      c : Coins (Element (sheet_of edition1 w).spelling)
      c = read_coins (sheet_of edition1 w).spelling (sheet_of edition1 w) (drop (words_for (sheet_of edition1 w) 1) coins)

      tables : List ℕ
      tables = flat_map (λ p. words_of (sheet_of edition1 w).spelling (table_of (sheet_field (sheet_of edition1 w)) (sheet_root (sheet_of edition1 w)) (first_level (sheet_of edition1 w)) p)) (cut_by bounds (elements_in (sheet_of edition1 w).spelling f))

      tbl : List (Element (sheet_of edition1 w).spelling) → List ℕ
      tbl p = words_of (sheet_of edition1 w).spelling (table_of (sheet_field (sheet_of edition1 w)) (sheet_root (sheet_of edition1 w)) (first_level (sheet_of edition1 w)) p)

      tbl_long : length (words_of (sheet_of edition1 w).spelling (table_of (sheet_field (sheet_of edition1 w)) (sheet_root (sheet_of edition1 w)) (first_level (sheet_of edition1 w)) combined)) ≡ words_for h h.size
      tbl_long = words_length σ (table_of F₁ ω₁ (first_level h) combined) ∙ ap (word_count σ) (table_length F₁ ω₁ (first_level h) combined ∙ first_size h)

      plain_tail : drop (12 + words_for h h.size) (honest_stream edition1 w combined_words plain) ≡ words_of σ (c.fold ∷ []) ++ rest_words σ (honest_rest F₁ ω₁ (first_level h) combined c.fold c.rounds c.finals)
      plain_tail =
          sym (drop-drop (words_for h h.size) 12 (honest_stream edition1 w combined_words plain))
          ∙ ap (λ (x : List (Element (sheet_of edition1 w).spelling)). drop (words_for h h.size) (drop 12 (w ++ transcript_words σ (honest F₁ ω₁ (first_level h) x c)))) (read_written σ combined)
          ∙ ap (drop (words_for h h.size)) (drop_at w _ 12 (batch_long ok)) ∙ drop_at (tbl combined) _ (words_for h h.size) tbl_long
