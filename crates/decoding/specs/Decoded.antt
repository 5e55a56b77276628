-- At the end of Euclid's algorithm: the quotient of the last pair is the nearest polynomial, if there is one.
use Rattle.std.specs.Prelude.{ℕ, suc, ◌+◌, ◌≤◌, ◌<◌, ◌≡◌, List, ◌∷◌, length, take}
use Rattle.std.proofs.Common.{arith, sym, ap, ◌∙◌, length-take-le}
use Rattle.definition.specs.Field.{Field, reciprocal}
use Rattle.definition.specs.Polynomial.{evaluate, mul_poly}
use Rattle.list_laws.specs.All.{all_take}
use Rattle.algebra.specs.Laws.{FieldLaws}
use Rattle.algebra.specs.RingLaws.{zero_mul}
use Rattle.algebra.specs.Different.{Apart}
use Rattle.algebra.specs.Evaluation.{evaluate_cons, evaluate_mul}
use Rattle.algebra.specs.Coefficients.{Elements}
use Rattle.decoding.specs.Errors.{Each, wrong_at, key}
use Rattle.decoding.specs.Series.{series, series_exact}
use Rattle.decoding.specs.Reduction.{Meets, Stage}

module _ {A : Type 0} (F : Field A) (L : FieldLaws F) where
  infixl 70 ◌⊗◌
  infixl 65 ◌⊕◌
  open F use {𝟘, ◌⊕◌, ◌⊗◌}
  open L use {reduce, mul-zero, add_zero}

  at_nought : (x : A) (w : List A) → evaluate F (x ∷ w) 𝟘 ≡ reduce x
  at_nought x w = evaluate_cons F x w 𝟘 ∙ ap (λ (u : A). x ⊕ u) (zero_mul F L _) ∙ add_zero x

  -- s has d + t coefficients and w has t + 1, d + 2t ≤ n; a polynomial f of degree below d differs from the table in at most t points
  module _ (xs ys f : List A) (n m b d t : ℕ) (s : List A) (x : A) (w u v : List A) (apart : Apart F xs) (long : length xs ≡ length ys)
      (h : Stage F L n s (x ∷ w) m u v b) (meets : Each (Meets F (take m s) (x ∷ w)) xs ys)
      (hm : m ≡ d + t) (room : m ≤ length s) (hw : length w ≡ t) (hd : 0 < d) (hn : d + t + t ≤ length xs)
      (hf : length f ≡ d) (ef : Elements F L f) (errors : length (wrong_at F xs ys f) ≤ t) where
    product : take m s ≡ mul_poly F f (x ∷ w)
    product =
        key F L xs ys apart long f (take m s) (x ∷ w) t t meets (all_take (λ c. reduce c ≡ c) m s h.elements_s) (omega (arith, hd, hf)) (ap suc hw) (omega (arith, length-take-le m s room, hm, hf)) errors
        (omega (arith, hf, hn))

    -- w is not 0 at 0
    pub divisor : reduce x ≡ 𝟘 → ⊥
    divisor z =
        let zw : evaluate F (x ∷ w) 𝟘 ≡ 𝟘 = at_nought x w ∙ z in
        let zs : evaluate F (take m s) 𝟘 ≡ 𝟘 = ap (λ (l : List A). evaluate F l 𝟘) product ∙ evaluate_mul F L f (x ∷ w) 𝟘 ∙ ap (λ (e : A). evaluate F f 𝟘 ⊗ e) zw ∙ mul-zero _ in
        h.apart (ap (λ (e : A). e ⊗ evaluate F v 𝟘) zs ∙ zero_mul F L _ ∙ sym (ap (λ (e : A). evaluate F (take b u) 𝟘 ⊗ e) zw ∙ mul-zero _))

    -- THE QUOTIENT IS THE NEAREST POLYNOMIAL
    pub decoded : series F (reciprocal F x) (x ∷ w) (take m s) d ≡ f
    decoded = (λ i. series F (reciprocal F x) (x ∷ w) (product i) (sym hf i)) ∙ series_exact F L f x w ef divisor
