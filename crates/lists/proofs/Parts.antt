-- The geometric sum in front of zeros, in words. Assumes nothing.
use Prim.Native.Nat.{ℕ, suc, ◌+◌, ◌-◌, ◌*◌, ◌<◌}
use mathlib.Core.Path.{◌≡◌, sym, ap, ◌∙◌, subst}
use mathlib.Core.List.{List, ◌++◌}
use lib.ListN.{length, take, drop}
use Rattle.definition.specs.Field.{Field}
use Rattle.definition.specs.Polynomial.{evaluate, geometric}
use Rattle.algebra.specs.Laws.{FieldLaws}
use Rattle.arithmetic.specs.Parts.{joined_of}
use Rattle.sums.specs.ZeroPadding.{ZeroFrom}
use Rattle.lists.proofs.Interpolating.{growth_is}

module _ {C : Type 0} (F : Field C) (L : FieldLaws F) (width : ℕ) (elements : List ℕ → List C) (first : (n : ℕ) (w : List ℕ) → elements (take (width * n) w) ≡ take n (elements w))
    (behind : (n : ℕ) (w : List ℕ) → elements (drop (width * n) w) ≡ drop n (elements w)) where
  pub growth_words : (c : C) (e : ℕ) (front old : List ℕ) {n : ℕ} → e < length (elements old) → ZeroFrom F (elements old) 0 → n ≡ width * (e + 1) → length front ≡ n →
      elements front ≡ geometric F c (length (elements (take n old)) - 1) →
      ((x : C) → evaluate F (elements (front ++ drop n old)) x ≡ evaluate F (geometric F c e) x) × ZeroFrom F (elements (front ++ drop n old)) (suc e)
  growth_words c e front old {n} l h en size ef =
      let taken : elements (take n old) ≡ take (e + 1) (elements old) = ap (λ (m : ℕ). elements (take m old)) en ∙ first (e + 1) old in
      let left : elements (drop n old) ≡ drop (e + 1) (elements old) = ap (λ (m : ℕ). elements (drop m old)) en ∙ behind (e + 1) old in
      let whole : elements (front ++ drop n old) ≡ elements front ++ drop (e + 1) (elements old) =
      joined_of width elements first behind (e + 1) front (drop n old) (size ∙ en) ∙ ap (λ v. elements front ++ v) left in
      subst (λ v. ((x : C) → evaluate F v x ≡ evaluate F (geometric F c e) x) × ZeroFrom F v (suc e)) (sym whole)
      (growth_is F L c e (elements front) (elements old) l h (ef ∙ ap (λ v. geometric F c (length v - 1)) taken))
