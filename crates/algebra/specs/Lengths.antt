-- The number of coefficients that each operation on polynomials gives. No law of the field is used.
use Prim.Native.Nat.{ℕ, zero, suc, ◌+◌, ◌-◌, ◌/◌, ◌≤◌, ◌<◌, max}
use Rattle.std.specs.Prelude.{◌≡◌, drop}
use Rattle.std.proofs.Math.Path.{refl, ap}
use Rattle.std.proofs.Common.{◌∙◌, not-suc-le-zero}
use mathlib.Core.List.{List, [], ◌∷◌}
use native.Mathlib.Omega.{arith}
use Rattle.std.proofs.Math.ListN.{length, length-map}
use Rattle.definition.specs.Lists.{chunks}
use Rattle.definition.specs.Field.{Field, reciprocal}
use Rattle.definition.specs.Polynomial.{Sample, points, evaluate, scale, add_poly, sub_poly, mul_poly, vanishing, interpolate, horner, divide, quotient, geometric, fold_poly, corrected_poly}

module _ {A : Type 0} (F : Field A) where
  infixl 65 ◌⊖◌
  infixl 70 ◌⊗◌
  open F use {𝟘, 𝟙, ◌⊖◌, ◌⊗◌}

  pub length_scale : (a : A) (f : List A) → length (scale F a f) ≡ length f
  unfolding scale
  length_scale a f = length-map f (λ c. a ⊗ c)

  pub length_add : (f g : List A) → length (add_poly F f g) ≡ max (length f) (length g)
  unfolding add_poly
  length_add [] g = omega arith
  length_add (a ∷ f) [] = omega arith
  length_add (a ∷ f) (b ∷ g) = omega (arith, length_add f g)

  pub length_add_le : (f g : List A) (n : ℕ) → length f ≤ n → length g ≤ n → length (add_poly F f g) ≤ n
  length_add_le f g n hf hg = omega (arith, length_add f g)

  pub length_sub : (f g : List A) → length g ≤ length f → length (sub_poly F f g) ≡ length f
  unfolding sub_poly
  length_sub f g h = omega (arith, length_add f (scale F (𝟘 ⊖ 𝟙) g), length_scale (𝟘 ⊖ 𝟙) g)

  pub length_sub_le : (f g : List A) (n : ℕ) → length f ≤ n → length g ≤ n → length (sub_poly F f g) ≤ n
  unfolding sub_poly
  length_sub_le f g n hf hg = length_add_le f (scale F (𝟘 ⊖ 𝟙) g) n hf (rw length_scale hg)

  pub length_mul : (a : A) (f g : List A) → 0 < length g → length (mul_poly F (a ∷ f) g) ≡ length f + length g
  unfolding mul_poly
  length_mul a [] g h = omega (arith, length_add (scale F a g) (𝟘 ∷ []), length_scale a g)
  length_mul a (b ∷ f) g h = omega (arith, length_add (scale F a g) (𝟘 ∷ mul_poly F (b ∷ f) g), length_scale a g, length_mul b f g h)

  pub length_mul_pos : (f g : List A) → 0 < length f → 0 < length g → length (mul_poly F f g) + 1 ≡ length f + length g
  length_mul_pos [] g h k = absurd (not-suc-le-zero h)
  length_mul_pos (a ∷ f) g h k = omega (arith, length_mul a f g k)

  pub length_horner : (a : A) (f : List A) → length (horner F a f) ≡ length f
  unfolding horner
  length_horner a [] = refl
  length_horner a (c ∷ cs) = ap suc (length_horner a cs)

  pub length_divide : (f : List A) (a : A) → length (divide F f a) ≡ length f - 1
  unfolding divide
  length_divide [] a = length_horner a []
  length_divide (c ∷ cs) a = length_horner a cs ∙ omega arith

  pub length_quotient : (f xs : List A) → length (quotient F f xs) ≡ length f - length xs
  unfolding quotient
  length_quotient f [] = omega arith
  length_quotient f (a ∷ xs) = omega (arith, length_quotient (divide F f a) xs, length_divide f a)

  pub length_geometric : (c : A) (e : ℕ) → length (geometric F c e) ≡ suc e
  unfolding geometric
  length_geometric c zero = refl
  length_geometric c (suc e) = ap suc (length_scale c (geometric F c e) ∙ length_geometric c e)

  pub length_points : (ps : List (Sample A)) → length (points ps) ≡ length ps
  unfolding points
  length_points ps = length-map ps (λ p. p.point)

  pub length_vanishing : (xs : List A) → length (vanishing F xs) ≡ suc (length xs)
  unfolding vanishing
  length_vanishing [] = refl
  length_vanishing (a ∷ xs) = length_mul (𝟘 ⊖ a) (𝟙 ∷ []) (vanishing F xs) (omega (arith, length_vanishing xs)) ∙ omega (arith, length_vanishing xs)

  pub length_interpolate : (ps : List (Sample A)) → length (interpolate F ps) ≡ length ps
  unfolding interpolate
  length_interpolate [] = refl
  length_interpolate (p ∷ ps) =
      length_add (interpolate F ps) _
      ∙ omega (arith, length_interpolate ps, length_scale ((p.value ⊖ evaluate F (interpolate F ps) p.point) ⊗ reciprocal F (evaluate F (vanishing F (points ps)) p.point)) (vanishing F (points ps)), length_vanishing (points ps), length_points ps)

  pub length_corrected : (ps : List (Sample A)) (c : A) (f : List A) → length ps < length f → length (corrected_poly F ps c f) ≡ length f
  unfolding corrected_poly
  length_corrected ps c f h =
      let a : length (sub_poly F f (interpolate F ps)) ≡ length f = length_sub f (interpolate F ps) (omega (arith, length_interpolate ps)) in
      let q : length (quotient F (sub_poly F f (interpolate F ps)) (points ps)) ≡ length f - length ps =
      length_quotient _ (points ps) ∙ rw (a, length_points) in
      let g : length (geometric F c (length ps)) ≡ suc (length ps) = length_geometric c (length ps) in
      omega (arith, length_mul_pos (quotient F (sub_poly F f (interpolate F ps)) (points ps)) (geometric F c (length ps)) (omega arith) (omega arith))

  pub length_chunks : (n k : ℕ) (f : List A) → length (chunks n k f) ≡ n
  unfolding chunks
  length_chunks zero k f = refl
  length_chunks (suc n) k f = ap suc (length_chunks n k (drop k f))

  pub length_fold : (k : ℕ) (r : A) (f : List A) → length (fold_poly F k r f) ≡ length f / k
  unfolding fold_poly
  length_fold k r f = length-map (chunks (length f / k) k f) (λ c. evaluate F c r) ∙ length_chunks (length f / k) k f
