-- THE TESTS OF OUT COINS, 7 AND 14, of a stream whose tables were replaced: they find no fault where they found none. Both go from word to word, with the out coin before.
use Prim.Native.Nat.{ℕ, zero, suc, ◌*◌, ◌<◌}
use Rattle.std.proofs.Common.{arith, sym}
use Rattle.std.specs.Prelude.{Bool, false, ◌≡◌, refl, length, drop, replicate}
use mathlib.Core.List.{List, [], ◌∷◌, ◌++◌, flat_map}
use Rattle.std.proofs.Math.Option.{Option, none, some}
use Rattle.std.proofs.Math.Path.{subst}
use Rattle.definition.specs.Field.{Spelling, one, four, Element, word_count, begun_by}
use Rattle.definition.specs.Sheet.{Level}
use Rattle.definition.specs.Layout.{Kind, message, coin, out, out_layout}
use Rattle.definition.specs.Deciding.{out_before}
use Rattle.list_laws.specs.All.{All}

module _ {A : Type 0} (t : Option A → Kind → A → Bool) where
  -- the tests of the words, each with the out coin before it
  unfoldable pub scan : Option A → List Kind → List A → List Bool
  scan b [] ys = []
  scan b (k ∷ ks) [] = []
  scan b (k ∷ ks) (y ∷ ys) = t b k y ∷ scan (out_before b k y) ks ys

  abbrev pub Clear : Option A → List Kind → List A → Type 0
  Clear b ks ys = All (λ (c : Bool). c ≡ false) (scan b ks ys)

  -- a kind of which nothing is asked, after which there is no out coin if there was none
  pub record Quiet (k : Kind) : Type 0 where
    pub asks : (b : Option A) (y : A) → t b k y ≡ false
    pub keeps : (y : A) → out_before none k y ≡ none

  pub run_off : (k : Kind) → Quiet k → (n : ℕ) (ks : List Kind) (ys : List A) → Clear none (replicate n k ++ ks) ys → Clear none ks (drop n ys)
  unfolding scan
  run_off k q zero ks ys h = h
  run_off k q (suc n) [] [] h = tt
  run_off k q (suc n) (j ∷ ks) [] h = tt
  run_off k q (suc n) ks (y ∷ ys) h = run_off k q n ks ys (subst (λ (b : Option A). Clear b (replicate n k ++ ks) ys) (q.keeps y) h.1)

  pub run_on : (k : Kind) → Quiet k → (n : ℕ) (ks : List Kind) (ys : List A) → Clear none ks (drop n ys) → Clear none (replicate n k ++ ks) ys
  unfolding scan
  run_on k q zero ks ys h = h
  run_on k q (suc n) ks [] h = tt
  run_on k q (suc n) ks (y ∷ ys) h = (q.asks none y, subst (λ (b : Option A). Clear b (replicate n k ++ ks) ys) (sym (q.keeps y)) (run_on k q n ks ys h))

  -- messages, after any word: at least one
  pub messages_off : Quiet message → (b : Option A) (n : ℕ) (ks : List Kind) (ys : List A) → 0 < n → Clear b (replicate n message ++ ks) ys → Clear none ks (drop n ys)
  unfolding scan out_before
  messages_off q b zero ks ys l h = absurd (omega arith)
  messages_off q b (suc n) [] [] l h = tt
  messages_off q b (suc n) (j ∷ ks) [] l h = tt
  messages_off q b (suc n) ks (y ∷ ys) l h = run_off message q n ks ys h.1

  pub messages_on : Quiet message → (b : Option A) (n : ℕ) (ks : List Kind) (ys : List A) → 0 < n → Clear none ks (drop n ys) → Clear b (replicate n message ++ ks) ys
  unfolding scan out_before
  messages_on q b zero ks ys l h = absurd (omega arith)
  messages_on q b (suc n) ks [] l h = tt
  messages_on q b (suc n) ks (y ∷ ys) l h = (q.asks b y, run_on message q n ks ys h)

-- the elements that words begin
pub begun_drop : (σ : Spelling) (n : ℕ) (w : List ℕ) → drop n (begun_by σ w) ≡ begun_by σ (drop n w)
unfolding begun_by
begun_drop one n w = refl
begun_drop four zero w = refl
begun_drop four (suc n) [] = refl
begun_drop four (suc n) (x ∷ w) = begun_drop four n w

-- out coins, before other words
module _ (t : Option ℕ → Kind → ℕ → Bool) where
  outs_one : (l : Level) (s : ℕ) (b : Option ℕ) (ks js : List Kind) (o v u : List ℕ) → length o ≡ s → Clear t b (replicate s (out l) ++ ks) (o ++ v)
      → ((c : Option ℕ) → Clear t c ks v → Clear t c js u) → Clear t b (replicate s (out l) ++ js) (o ++ u)
  unfolding scan
  outs_one l zero b ks js [] v u e h f = f b h
  outs_one l zero b ks js (x ∷ o) v u e h f = absurd (omega arith)
  outs_one l (suc s) b ks js [] v u e h f = absurd (omega arith)
  outs_one l (suc s) b ks js (x ∷ o) v u e h f = (h.0, outs_one l s (out_before b (out l) x) ks js o v u (omega arith) h.1 f)

module _ (t : Option (Element four) → Kind → Element four → Bool) (q : Quiet t coin) where
  outs_four : (l : Level) (s : ℕ) (b : Option (Element four)) (ks js : List Kind) (o v u : List ℕ) → length o ≡ 4 * s
      → Clear t b (flat_map (λ k. k ∷ coin ∷ coin ∷ coin ∷ []) (replicate s (out l)) ++ ks) (begun_by four (o ++ v))
      → ((c : Option (Element four)) → Clear t c ks (begun_by four v) → Clear t c js (begun_by four u))
      → Clear t b (flat_map (λ k. k ∷ coin ∷ coin ∷ coin ∷ []) (replicate s (out l)) ++ js) (begun_by four (o ++ u))
  unfolding scan begun_by flat_map out_before
  outs_four l zero b ks js [] v u e h f = f b h
  outs_four l zero b ks js (x ∷ o) v u e h f = absurd (omega arith)
  outs_four l (suc s) b ks js [] v u e h f = absurd (omega arith)
  outs_four l (suc s) b ks js (x ∷ []) v u e h f = absurd (omega arith)
  outs_four l (suc s) b ks js (x ∷ y ∷ []) v u e h f = absurd (omega arith)
  outs_four l (suc s) b ks js (x ∷ y ∷ z ∷ []) v u e h f = absurd (omega arith)
  outs_four l (suc s) b ks js (x ∷ y ∷ z ∷ a ∷ o) v u e h f =
      (h.0, (q.asks _ _, (q.asks _ _, (q.asks _ _, outs_four l s (some (record { a = x; b = y; c = z; d = a })) ks js o v u (omega arith) h.1.1.1.1 f))))

pub outs_move : (σ : Spelling) (t : Option (Element σ) → Kind → Element σ → Bool) → Quiet t coin → (l : Level) (s : ℕ) (b : Option (Element σ)) (ks js : List Kind) (o v u : List ℕ)
    → length o ≡ word_count σ s → Clear t b (out_layout σ s l ++ ks) (begun_by σ (o ++ v)) → ((c : Option (Element σ)) → Clear t c ks (begun_by σ v) → Clear t c js (begun_by σ u))
    → Clear t b (out_layout σ s l ++ js) (begun_by σ (o ++ u))
unfolding out_layout word_count begun_by
outs_move one t q l s b ks js o v u e h f = outs_one t l s b ks js o v u e h f
outs_move four t q l s b ks js o v u e h f = outs_four t q l s b ks js o v u e h f
