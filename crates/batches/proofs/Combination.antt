-- The combination of several polynomials has degree below d, and the combined values, in any field with the laws.
use Prim.Native.Nat.{ℕ, zero, suc, ◌+◌, ◌-◌, ◌≤◌, ◌<◌}
use native.Mathlib.Omega.{arith}
use Rattle.std.specs.Prelude.{◌≡◌, replicate}
use Rattle.std.proofs.Math.Path.{refl, sym, ap}
use Rattle.std.proofs.Common.{◌∙◌}
use mathlib.Core.List.{List, [], ◌∷◌, map}
use Rattle.std.proofs.Math.ListN.{length, get_or, length-replicate}
use Rattle.batch_definition.specs.Batch.{combine_at, combine_poly}
use Rattle.definition.specs.Field.{Field, power}
use Rattle.definition.specs.Polynomial.{evaluate, scale, mul_poly, geometric}
use Rattle.algebra.specs.Laws.{FieldLaws}
use Rattle.definition.specs.Lists.{range}
use Rattle.list_laws.specs.All.{All, everywhere, map_all}
use Rattle.list_laws.specs.Lists.{map_range_suc}
use Rattle.batches.specs.Batched.{exponent, sum_in}
use Rattle.algebra.specs.Lengths.{length_scale, length_add, length_mul_pos, length_geometric}
use Rattle.algebra.specs.RingLaws.{mul_left_comm, one_mul}
use Rattle.algebra.specs.Evaluation.{evaluate_nil, evaluate_cons, evaluate_scale, evaluate_add, evaluate_mul}

module _ {A : Type 0} (F : Field A) where
  open F use {𝟘}

  -- each addend has d coefficients, and so has their sum
  addend_length : (d n : ℕ) (r : A) (f : List A) → 0 < length f → length f ≤ d → length (scale F (power F r n) (mul_poly F f (geometric F r (d - length f)))) ≡ d
  addend_length d n r f some few =
      let g = geometric F r (d - length f) in
      let e = length_geometric F r (d - length f) in
      omega (arith, length_scale F (power F r n) (mul_poly F f g), length_mul_pos F f g some (omega (arith, e)), e)

  pub combine_length : (d n : ℕ) (r : A) (fs : List (List A)) → All (λ f. (0 < length f) × (length f ≤ d)) fs → length (combine_poly F d n r fs) ≡ d
  unfolding combine_poly
  combine_length d n r [] h = length-replicate d 𝟘
  combine_length d n r (f ∷ fs) h =
      omega (
        arith,
        addend_length d n r f h.0.0 h.0.1,
        combine_length d (n + suc (d - length f)) r fs h.1,
        length_add F (scale F (power F r n) (mul_poly F f (geometric F r (d - length f)))) (combine_poly F d (n + suc (d - length f)) r fs),
      )

module _ {A : Type 0} (F : Field A) (L : FieldLaws F) where
  open F use {𝟘}
  open L use {mul-zero, add_zero, reduce_zero}

  zeros_value : (n : ℕ) (x : A) → evaluate F (replicate n 𝟘) x ≡ 𝟘
  zeros_value zero x = evaluate_nil F x
  zeros_value (suc n) x = evaluate_cons F 𝟘 (replicate n 𝟘) x ∙ rw (zeros_value n x, mul-zero, add_zero, reduce_zero)

  -- the combined polynomial has the combined values, for every r and x: r = 0 and rx = 1 are no cases of their own
  pub combine_value : (d n : ℕ) (r x : A) (fs : List (List A)) →
      evaluate F (combine_poly F d n r fs) x ≡ combine_at F d n r x (map length fs) (map (λ f. evaluate F f x) fs)
  unfolding combine_poly combine_at
  combine_value d n r x [] = zeros_value d x
  combine_value d n r x (f ∷ fs) =
      evaluate_add F L (scale F (power F r n) (mul_poly F f (geometric F r (d - length f)))) (combine_poly F d (n + suc (d - length f)) r fs) x
      ∙ rw (evaluate_scale F L, evaluate_mul F L, combine_value d (n + suc (d - length f)) r x fs)

-- THE COMBINATION AS 001 PRINTS IT (equation 18), by number: table m + 1 is multiplied by the sum of (rx)^l, l from 0 to e, and by r to the power m + e_1 + .. + e_m.
module _ {A : Type 0} (F : Field A) (L : FieldLaws F) where
  infixl 65 ◌⊕◌
  infixl 70 ◌⊗◌
  open F use {𝟘, 𝟙, ◌⊕◌, ◌⊗◌}
  open L use {mul_add, mul_assoc, mul_one, mul-zero, add_zero, reduce, reduce_mul, reduce_one}

  -- table m + 1's term, with the power shifted by n
  shifted : ℕ → ℕ → A → A → List ℕ → List A → ℕ → A
  shifted d n r x bs ys m = power F r (n + exponent d bs m) ⊗ (get_or ys m 𝟘 ⊗ evaluate F (geometric F r (d - get_or bs m 0)) x)

  combine_shifted : (d n : ℕ) (r x : A) (bs : List ℕ) (ys : List A) → length ys ≡ length bs → combine_at F d n r x bs ys ≡ sum_in F (map (shifted d n r x bs ys) (range 0 (length bs)))
  unfolding combine_at sum_in range shifted exponent
  combine_shifted d n r x [] [] e = refl
  combine_shifted d n r x [] (y ∷ ys) e = absurd (omega arith)
  combine_shifted d n r x (b ∷ bs) [] e = absurd (omega arith)
  combine_shifted d n r x (b ∷ bs) (y ∷ ys) e =
      λ i. power F r (zero_end n i) ⊗ (y ⊗ evaluate F (geometric F r (d - b)) x)
      ⊕ (combine_shifted d (n + suc (d - b)) r x bs ys (omega arith) ∙ ap (sum_in F) (moved ∙ sym (map_range_suc (shifted d n r x (b ∷ bs) (y ∷ ys)) 0 (length bs)))) i
    where
      zero_end : (k : ℕ) → k ≡ k + 0
      zero_end k = omega arith

      step : (m : ℕ) → n + suc (d - b) + exponent d bs m ≡ n + exponent d (b ∷ bs) (suc m)
      step m = omega arith

      moved : map (shifted d (n + suc (d - b)) r x bs ys) (range 0 (length bs)) ≡ map (λ m. shifted d n r x (b ∷ bs) (y ∷ ys) (suc m)) (range 0 (length bs))
      moved = map_all (λ m. Unit {0}) _ _ (range 0 (length bs)) (everywhere (range 0 (length bs)) (λ m. tt)) (λ m t i. power F r (step m i) ⊗ (get_or ys m 𝟘 ⊗ evaluate F (geometric F r (d - get_or bs m 0)) x))

  pub combine_is : (d : ℕ) (r x : A) (bs : List ℕ) (ys : List A) → length ys ≡ length bs →
      combine_at F d 0 r x bs ys ≡ sum_in F (map (λ m. power F r (exponent d bs m) ⊗ (get_or ys m 𝟘 ⊗ evaluate F (geometric F r (d - get_or bs m 0)) x)) (range 0 (length bs)))
  unfolding shifted
  combine_is d r x bs ys e =
      combine_shifted d 0 r x bs ys e
      ∙ ap (sum_in F) (map_all (λ m. Unit {0}) _ _ (range 0 (length bs)) (everywhere (range 0 (length bs)) (λ m. tt)) (λ m t i. power F r (none (exponent d bs m) i) ⊗ (get_or ys m 𝟘 ⊗ evaluate F (geometric F r (d - get_or bs m 0)) x)))
    where
      none : (k : ℕ) → 0 + k ≡ k
      none k = omega arith

  sum_times : (a : A) (f : ℕ → A) (xs : List ℕ) → sum_in F (map (λ l. a ⊗ f l) xs) ≡ a ⊗ sum_in F (map f xs)
  unfolding sum_in
  sum_times a f [] = sym (mul-zero a)
  sum_times a f (l ∷ xs) = ap (λ (s : A). a ⊗ f l ⊕ s) (sum_times a f xs) ∙ sym (mul_add a (f l) (sum_in F (map f xs)))

  -- the factor is the sum of the powers of rx
  pub geometric_is : (r x : A) (e : ℕ) → evaluate F (geometric F r e) x ≡ sum_in F (map (λ l. power F (r ⊗ x) l) (range 0 (suc e)))
  unfolding geometric power sum_in range evaluate
  geometric_is r x zero = ap (λ (s : A). 𝟙 ⊕ s) (mul-zero x)
  geometric_is r x (suc e) =
      ap (λ (s : A). 𝟙 ⊕ x ⊗ s) (evaluate_scale F L r (geometric F r e) x) ∙ ap (λ (s : A). 𝟙 ⊕ s) (mul_left_comm F L x r (evaluate F (geometric F r e) x) ∙ sym (mul_assoc r x (evaluate F (geometric F r e) x)))
      ∙ ap (λ (s : A). 𝟙 ⊕ (r ⊗ x) ⊗ s) (geometric_is r x e)
      ∙ ap (λ (s : A). 𝟙 ⊕ s) (sym (ap (sum_in F) (map_range_suc (λ l. power F (r ⊗ x) l) 0 (suc e)) ∙ sum_times (r ⊗ x) (λ l. power F (r ⊗ x) l) (range 0 (suc e))))

  -- one table with bound d: its own values
  pub combine_one : (d : ℕ) (r x y : A) → combine_at F d 0 r x (d ∷ []) (y ∷ []) ≡ reduce y
  unfolding combine_at power geometric evaluate
  combine_one d r x y =
      ap (λ (k : ℕ). 𝟙 ⊗ (y ⊗ evaluate F (geometric F r k) x) ⊕ 𝟘) (let e : d - d ≡ 0 = omega arith in e)
      ∙ add_zero (𝟙 ⊗ (y ⊗ (𝟙 ⊕ x ⊗ 𝟘))) ∙ reduce_mul 𝟙 (y ⊗ (𝟙 ⊕ x ⊗ 𝟘)) ∙ one_mul F L (y ⊗ (𝟙 ⊕ x ⊗ 𝟘)) ∙ reduce_mul y (𝟙 ⊕ x ⊗ 𝟘)
      ∙ ap (λ (s : A). y ⊗ s) (ap (λ (s : A). 𝟙 ⊕ s) (mul-zero x) ∙ add_zero 𝟙 ∙ reduce_one) ∙ mul_one y
