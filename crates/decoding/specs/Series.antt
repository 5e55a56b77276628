-- Division of power series: where s = f·w and the constant term of w is not 0, the coefficients of f come out one by one, from the lowest.
use Prim.Native.Nat.{ℕ, zero, suc, ◌+◌, ◌≤◌, ◌<◌}
use Rattle.std.proofs.Common.{arith, ◌∙◌}
use Rattle.std.specs.Prelude.{◌≡◌, length, take, drop}
use Rattle.std.proofs.Math.Path.{refl, sym, ap}
use mathlib.Core.List.{List, [], ◌∷◌}
use Rattle.std.proofs.Math.ListN.{get_or, length-drop}
use Rattle.definition.specs.Field.{Field, reciprocal}
use Rattle.definition.specs.Polynomial.{scale, add_poly, mul_poly}
use Rattle.list_laws.specs.All.{all_drop}
use Rattle.algebra.specs.Laws.{FieldLaws}
use Rattle.algebra.specs.Solver.{◌:+◌, ◌:-◌, ◌:*◌, :-◌, ◌:=◌, solve₃}
use Rattle.algebra.specs.Lengths.{length_mul_pos}
use Rattle.algebra.specs.Coefficients.{Elements, elements_mul}
use Rattle.decoding.specs.Adding.{added, elements_added, length_added}
use Rattle.decoding.specs.Reduction.{Noughts}

module _ {A : Type 0} (F : Field A) where
  infixl 65 ◌⊖◌
  infixl 70 ◌⊗◌
  open F use {𝟘, ◌⊖◌, ◌⊗◌}

  -- the first d coefficients of s/w, where c is the inverse of w's constant term: each is the constant term of what is left, times c
  unfoldable pub series : A → List A → List A → ℕ → List A
  series c w s zero = []
  series c w s (suc d) = (get_or s 0 𝟘 ⊗ c) ∷ series c w (drop 1 (added F 0 (𝟘 ⊖ get_or s 0 𝟘 ⊗ c) w s)) d

module _ {A : Type 0} (F : Field A) (L : FieldLaws F) where
  infixl 65 ◌⊕◌ ◌⊖◌
  infixl 70 ◌⊗◌
  open F use {𝟘, 𝟙, ◌⊕◌, ◌⊖◌, ◌⊗◌}
  open L use {reduce, mul_assoc, mul_one, mul-zero, add_zero, mul_inverse, reduce_zero, reduce_mul}

  -- what was added is taken away
  undo : (a : A) (w l : List A) → length w ≤ length l → Elements F L l → added F 0 (𝟘 ⊖ a) w (add_poly F (scale F a w) l) ≡ l
  unfolding added add_poly scale
  undo a [] l h e = refl
  undo a (x ∷ w) [] h e = absurd (omega arith)
  undo a (x ∷ w) (y ∷ l) h e = λ i. (solve₃ F L (λ a x y. (a :* x :+ y) :+ (:- a) :* x := y) tt a x y ∙ e.0) i ∷ undo a w l (omega arith) e.1 i

  -- the constant term of f·w, and f's from it
  head_mul : (a x : A) (f w : List A) → get_or (mul_poly F (a ∷ f) (x ∷ w)) 0 𝟘 ≡ a ⊗ x
  unfolding mul_poly add_poly scale
  head_mul a x f w = add_zero (a ⊗ x) ∙ reduce_mul a x

  first : (a x : A) (f w : List A) → reduce a ≡ a → (reduce x ≡ 𝟘 → ⊥) → get_or (mul_poly F (a ∷ f) (x ∷ w)) 0 𝟘 ⊗ reciprocal F x ≡ a
  first a x f w e h = ap (λ (v : A). v ⊗ reciprocal F x) (head_mul a x f w) ∙ mul_assoc a x (reciprocal F x) ∙ ap (λ (v : A). a ⊗ v) (mul_inverse x h) ∙ mul_one a ∙ e

  mul_cons : (a : A) (f w : List A) → mul_poly F (a ∷ f) w ≡ add_poly F (scale F a w) (𝟘 ∷ mul_poly F f w)
  unfolding mul_poly
  mul_cons a f w = refl

  -- one coefficient of f taken away
  rest : (a b : A) (f w : List A) → 0 < length w → added F 0 (𝟘 ⊖ a) w (mul_poly F (a ∷ b ∷ f) w) ≡ 𝟘 ∷ mul_poly F (b ∷ f) w
  rest a b f w h =
      ap (added F 0 (𝟘 ⊖ a) w) (mul_cons a (b ∷ f) w)
      ∙ undo a w (𝟘 ∷ mul_poly F (b ∷ f) w) (omega (arith, length_mul_pos F (b ∷ f) w (omega arith) h)) (reduce_zero, elements_mul F L (b ∷ f) w)

  -- s = f·w, w not 0 at 0: the series is f
  pub series_exact : (f : List A) (x : A) (w : List A) → Elements F L f → (reduce x ≡ 𝟘 → ⊥) →
      series F (reciprocal F x) (x ∷ w) (mul_poly F f (x ∷ w)) (length f) ≡ f
  unfolding series
  series_exact [] x w e h = refl
  series_exact (a ∷ []) x w e h = ap (λ (v : A). v ∷ []) (first a x [] w e.0 h)
  series_exact (a ∷ b ∷ f) x w e h =
      let q : get_or (mul_poly F (a ∷ b ∷ f) (x ∷ w)) 0 𝟘 ⊗ reciprocal F x ≡ a = first a x (b ∷ f) w e.0 h in
      λ i. q i ∷ (ap (λ (v : A). series F (reciprocal F x) (x ∷ w) (drop 1 (added F 0 (𝟘 ⊖ v) (x ∷ w) (mul_poly F (a ∷ b ∷ f) (x ∷ w)))) (suc (length f))) q
      ∙ ap (λ (l : List A). series F (reciprocal F x) (x ∷ w) (drop 1 l) (suc (length f))) (rest a b f (x ∷ w) (omega arith)) ∙ series_exact (b ∷ f) x w e.1 h) i

  -- its coefficients are elements
  pub elements_series : (c : A) (w s : List A) (d : ℕ) → Elements F L (series F c w s d)
  unfolding series
  elements_series c w s zero = tt
  elements_series c w s (suc d) = (reduce_mul _ c, elements_series c w (drop 1 (added F 0 (𝟘 ⊖ get_or s 0 𝟘 ⊗ c) w s)) d)

  -- ---- noughts at the top of w are of no account

  add_noughts : (c : A) (z l : List A) → length z ≤ length l → Noughts F z → Elements F L l → added F 0 c z l ≡ l
  unfolding added
  add_noughts c [] l h n e = refl
  add_noughts c (x ∷ z) [] h n e = absurd (omega arith)
  add_noughts c (x ∷ z) (y ∷ l) h n e = λ i. (ap (λ (v : A). y ⊕ c ⊗ v) n.0 ∙ ap (λ (v : A). y ⊕ v) (mul-zero c) ∙ add_zero y ∙ e.0) i ∷ add_noughts c z l (omega arith) n.1 e.1 i

  add_trimmed : (m : ℕ) (c : A) (w l : List A) → length w ≤ length l → Noughts F (drop m w) → Elements F L l → added F 0 c (take m w) l ≡ added F 0 c w l
  unfolding added
  add_trimmed zero c w l h n e = sym (add_noughts c w l h n e)
  add_trimmed (suc m) c [] l h n e = refl
  add_trimmed (suc m) c (x ∷ w) [] h n e = refl
  add_trimmed (suc m) c (x ∷ w) (y ∷ l) h n e = ap (λ (r : List A). (y ⊕ c ⊗ x) ∷ r) (add_trimmed m c w l (omega arith) n e.1)

  pub series_trimmed : (m : ℕ) (c : A) (w s : List A) (d : ℕ) → length w + d ≤ length s + 1 → Noughts F (drop m w) → Elements F L s → series F c (take m w) s d ≡ series F c w s d
  unfolding series
  series_trimmed m c w s zero h n e = refl
  series_trimmed m c w s (suc d) h n e =
      let q = 𝟘 ⊖ get_or s 0 𝟘 ⊗ c in
      λ i. (get_or s 0 𝟘 ⊗ c) ∷ (ap (λ (l : List A). series F c (take m w) (drop 1 l) d) (add_trimmed m q w s (omega arith) n e)
      ∙ series_trimmed m c w (drop 1 (added F 0 q w s)) d (omega (arith, length-drop 1 (added F 0 q w s), length_added F 0 q w s)) n (all_drop (λ x. reduce x ≡ x) 1 (added F 0 q w s) (elements_added F L 0 q w s e))) i
