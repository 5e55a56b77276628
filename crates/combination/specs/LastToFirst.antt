-- The combination from the last part to the first, in any field with the laws: what is there is multiplied by r to the power 1 + e, and the part is added, so
-- that no power is higher than d (document 02, CR 9; 001, equation 18).
use Prim.Native.Nat.{ℕ, zero, suc, ◌+◌, ◌-◌, ◌≤◌, ◌<◌}
use native.Mathlib.Omega.{arith}
use Rattle.std.proofs.Common.{le_refl, zero-add, add-one, ◌∙◌, drop-cons, drop-drop}
use Rattle.std.specs.Prelude.{◌≡◌, take, drop, replicate}
use Rattle.std.proofs.Math.Path.{refl, sym, ap, ap₂}
use mathlib.Core.List.{List, [], ◌∷◌, map}
use Rattle.std.proofs.Math.ListN.{length, get_or, get_or-replicate}
use Rattle.std.proofs.lemmas.List.{length-replicate}
use Rattle.batch_definition.specs.Batch.{combine_at, combine_poly, cut_by, sum_of}
use Rattle.definition.specs.Field.{Field, power}
use Rattle.definition.specs.Lists.{range}
use Rattle.definition.specs.Polynomial.{evaluate, scale, add_poly, mul_poly, geometric}
use Rattle.algebra.specs.Coefficients.{Elements, elements_mul}
use Rattle.algebra.specs.Laws.{FieldLaws}
use Rattle.algebra.specs.Lengths.{length_scale, length_add}
use Rattle.algebra.specs.RingLaws.{one_mul, power_add}
use Rattle.combination.specs.Added.{Added}
use Rattle.list_laws.specs.Lists.{by_number, get_d_map_range, part_length_lem}

module _ {A : Type 0} (F : Field A) where
  open F use {𝟘}

  -- the combined values at the first n of some points, of tables with their bounds
  abbrev pub combined_over : ℕ → A → (ℕ → A) → ℕ → List ℕ → List (List A) → List A
  combined_over d r point n bs ts = map (λ j. combine_at F d 0 r (point j) bs (map (λ t. get_or t j 𝟘) ts)) (range 0 n)

module _ {A : Type 0} (F : Field A) (L : FieldLaws F) where
  infixl 65 ◌⊕◌
  infixl 70 ◌⊗◌
  open F use {𝟘, 𝟙, ◌⊕◌, ◌⊗◌}
  open L use {reduce, add_comm, add_reduce, mul_assoc, mul_add, mul-zero}

  -- ---- values

  values_moved : (d k n : ℕ) (r x : A) (bs : List ℕ) (ys : List A) → combine_at F d (k + n) r x bs ys ≡ power F r k ⊗ combine_at F d n r x bs ys
  unfolding combine_at
  values_moved d k n r x [] ys = sym (mul-zero (power F r k))
  values_moved d k n r x (b ∷ bs) [] = sym (mul-zero (power F r k))
  values_moved d k n r x (b ∷ bs) (y ∷ ys) =
      let t = y ⊗ evaluate F (geometric F r (d - b)) x in
      let far : k + n + suc (d - b) ≡ k + (n + suc (d - b)) = omega arith in
      ap₂ (λ (u v : A). u ⊕ v) (ap (λ (u : A). u ⊗ t) (power_add F L r k n) ∙ mul_assoc (power F r k) (power F r n) t)
      (ap (λ (m : ℕ). combine_at F d m r x bs ys) far ∙ values_moved d k (n + suc (d - b)) r x bs ys)
      ∙ sym (mul_add (power F r k) (power F r n ⊗ t) (combine_at F d (n + suc (d - b)) r x bs ys))

  one_added : (a b : A) → 𝟙 ⊗ a ⊕ b ≡ a ⊕ b
  one_added a b = ap (λ (u : A). u ⊕ b) (one_mul F L a) ∙ add_comm (reduce a) b ∙ add_reduce b a ∙ add_comm b a

  values_first : (d : ℕ) (r x : A) (b : ℕ) (bs : List ℕ) (y : A) (ys : List A) →
      combine_at F d 0 r x (b ∷ bs) (y ∷ ys) ≡ y ⊗ evaluate F (geometric F r (d - b)) x ⊕ power F r (suc (d - b)) ⊗ combine_at F d 0 r x bs ys
  unfolding combine_at power
  values_first d r x b bs y ys =
      let t = y ⊗ evaluate F (geometric F r (d - b)) x in
      let far : 0 + suc (d - b) ≡ suc (d - b) + 0 = omega arith in
      one_added t (combine_at F d (0 + suc (d - b)) r x bs ys)
      ∙ ap (λ (u : A). t ⊕ u) (ap (λ (m : ℕ). combine_at F d m r x bs ys) far ∙ values_moved d (suc (d - b)) 0 r x bs ys)

  -- no table yet
  pub values_none : (d : ℕ) (r : A) (point : ℕ → A) (n : ℕ) (bs : List ℕ) (ts : List (List A)) (out : List A) → length out ≡ n → ((j : ℕ) → j < n → get_or out j 𝟘 ≡ 𝟘) →
      bs ≡ [] → out ≡ combined_over F d r point n bs ts
  unfolding combine_at
  values_none d r point n bs ts out size zeros none = by_number 𝟘 out _ n size (λ j l. zeros j l ∙ sym (ap (λ (b : List ℕ). combine_at F d 0 r (point j) b (map (λ t. get_or t j 𝟘) ts)) none))

  -- one table more, of number m
  pub values_turn : (d : ℕ) (r : A) (point : ℕ → A) (n m : ℕ) (bs : List ℕ) (ts : List (List A)) (table old new : List A) → m < length bs → length ts ≡ length bs →
      old ≡ combined_over F d r point n (drop (m + 1) bs) (drop (m + 1) ts) → length old ≡ n → table ≡ get_or ts m [] →
      Added F (λ j. get_or table j 𝟘 ⊗ evaluate F (geometric F r (d - get_or bs m 0)) (point j)) (power F r (suc (d - get_or bs m 0))) old new n →
      new ≡ combined_over F d r point n (drop m bs) (drop m ts)
  values_turn d r point n m bs ts table old new inside size before long is filled =
      by_number 𝟘 new _ n (filled.same ∙ long) each
    where
      b : ℕ
      b = get_or bs m 0

      later : ℕ → A
      later j = combine_at F d 0 r (point j) (drop (suc m) bs) (map (λ t. get_or t j 𝟘) (drop (suc m) ts))

      before_at : (j : ℕ) → j < n → get_or old j 𝟘 ≡ later j
      before_at j l =
          ap (λ (v : List A). get_or v j 𝟘) (before ∙ ap (λ (k : ℕ). combined_over F d r point n (drop k bs) (drop k ts)) (add-one m))
          ∙ get_d_map_range later 𝟘 0 n j l ∙ ap later (zero-add j)

      each : (j : ℕ) → j < n → get_or new j 𝟘 ≡ combine_at F d 0 r (point j) (drop m bs) (map (λ t. get_or t j 𝟘) (drop m ts))
      each j l =
          filled.passed j l
          ∙ ap₂ (λ (y u : A). y ⊗ evaluate F (geometric F r (d - b)) (point j) ⊕ power F r (suc (d - b)) ⊗ u) (ap (λ (v : List A). get_or v j 𝟘) is) (before_at j l)
          ∙ sym (values_first d r (point j) b (drop (suc m) bs) (get_or (get_or ts m []) j 𝟘) (map (λ t. get_or t j 𝟘) (drop (suc m) ts)))
          ∙ sym (ap₂ (λ (v : List ℕ) (w : List (List A)). combine_at F d 0 r (point j) v (map (λ t. get_or t j 𝟘) w)) (drop-cons bs m 0 inside) (drop-cons ts m [] (omega (arith, size, inside))))

  -- ---- polynomials

  scale_add : (a : A) (f g : List A) → scale F a (add_poly F f g) ≡ add_poly F (scale F a f) (scale F a g)
  unfolding scale add_poly
  scale_add a [] g = refl
  scale_add a (b ∷ f) [] = refl
  scale_add a (b ∷ f) (c ∷ g) = ap₂ (λ (x : A) (xs : List A). x ∷ xs) (mul_add a b c) (scale_add a f g)

  scale_scale : (a b : A) (f : List A) → scale F (a ⊗ b) f ≡ scale F a (scale F b f)
  unfolding scale
  scale_scale a b [] = refl
  scale_scale a b (c ∷ f) = ap₂ (λ (x : A) (xs : List A). x ∷ xs) (mul_assoc a b c) (scale_scale a b f)

  scale_zeros : (a : A) (n : ℕ) → replicate n 𝟘 ≡ scale F a (replicate n 𝟘)
  unfolding scale
  scale_zeros a zero = refl
  scale_zeros a (suc n) = ap₂ (λ (x : A) (xs : List A). x ∷ xs) (sym (mul-zero a)) (scale_zeros a n)

  scale_one : (f : List A) → Elements F L f → scale F 𝟙 f ≡ f
  unfolding scale
  scale_one [] h = refl
  scale_one (c ∷ f) h = ap₂ (λ (x : A) (xs : List A). x ∷ xs) (one_mul F L c ∙ h.0) (scale_one f h.1)

  -- a part times its factor
  times : ℕ → A → List A → List A
  times d r f = mul_poly F f (geometric F r (d - length f))

  poly_moved : (d k n : ℕ) (r : A) (fs : List (List A)) → combine_poly F d (k + n) r fs ≡ scale F (power F r k) (combine_poly F d n r fs)
  unfolding combine_poly times
  poly_moved d k n r [] = scale_zeros (power F r k) d
  poly_moved d k n r (f ∷ fs) =
      let e = suc (d - length f) in
      let far : k + n + e ≡ k + (n + e) = omega arith in
      ap₂ (add_poly F) (ap (λ (u : A). scale F u (times d r f)) (power_add F L r k n) ∙ scale_scale (power F r k) (power F r n) (times d r f))
      (ap (λ (m : ℕ). combine_poly F d m r fs) far ∙ poly_moved d k (n + e) r fs)
      ∙ sym (scale_add (power F r k) (scale F (power F r n) (times d r f)) (combine_poly F d (n + e) r fs))

  poly_first : (d : ℕ) (r : A) (f : List A) (fs : List (List A)) →
      combine_poly F d 0 r (f ∷ fs) ≡ add_poly F (mul_poly F f (geometric F r (d - length f))) (scale F (power F r (suc (d - length f))) (combine_poly F d 0 r fs))
  unfolding combine_poly power
  poly_first d r f fs =
      let e = suc (d - length f) in
      let g = mul_poly F f (geometric F r (d - length f)) in
      let far : 0 + e ≡ e + 0 = omega arith in
      ap₂ (add_poly F) (scale_one g (elements_mul F L f (geometric F r (d - length f)))) (ap (λ (m : ℕ). combine_poly F d m r fs) far ∙ poly_moved d e 0 r fs)

  sum_at : (s : A) (p q : List A) (j : ℕ) → j < length p → j < length q → get_or (add_poly F p (scale F s q)) j 𝟘 ≡ get_or p j 𝟘 ⊕ s ⊗ get_or q j 𝟘
  unfolding add_poly scale
  sum_at s [] q j l k = absurd (omega arith)
  sum_at s (a ∷ p) [] j l k = absurd (omega arith)
  sum_at s (a ∷ p) (b ∷ q) zero l k = refl
  sum_at s (a ∷ p) (b ∷ q) (suc j) l k = sum_at s p q j (omega arith) (omega arith)

  -- coefficient by coefficient
  sum_filled : (s : A) (p q new : List A) (n : ℕ) → length p ≡ n → length q ≡ n → Added F (λ j. get_or p j 𝟘) s q new n → new ≡ add_poly F p (scale F s q)
  sum_filled s p q new n lp lq filled =
      by_number 𝟘 new _ n (filled.same ∙ lq) filled.passed
      ∙ sym (by_number 𝟘 (add_poly F p (scale F s q)) _ n (omega (arith, length_add F p (scale F s q), length_scale F s q, lp, lq)) (λ j l. sum_at s p q j (omega (arith, l, lp)) (omega (arith, l, lq))))

  -- no part yet
  pub poly_none : (d : ℕ) (r : A) (fs : List (List A)) (out : List A) → length out ≡ d → ((j : ℕ) → j < d → get_or out j 𝟘 ≡ 𝟘) → fs ≡ [] → out ≡ combine_poly F d 0 r fs
  unfolding combine_poly
  poly_none d r fs out size zeros none =
      by_number 𝟘 out (λ j. 𝟘) d size zeros
      ∙ sym (by_number 𝟘 (replicate d 𝟘) (λ j. 𝟘) d (length-replicate d 𝟘) (λ j l. get_or-replicate d j 𝟘 𝟘 l))
      ∙ ap (combine_poly F d 0 r) (sym none)

  -- one part more, of number m, which begins with coefficient number `at`
  pub poly_turn : (d : ℕ) (r : A) (at m : ℕ) (bs : List ℕ) (f part old new : List A) → m < length bs → at + get_or bs m 0 ≤ length f → length old ≡ d →
      old ≡ combine_poly F d 0 r (cut_by (drop (m + 1) bs) (drop (at + get_or bs m 0) f)) → part ≡ mul_poly F (take (get_or bs m 0) (drop at f)) (geometric F r (d - get_or bs m 0)) → length part ≡ d →
      Added F (λ j. get_or part j 𝟘) (power F r (suc (d - get_or bs m 0))) old new d →
      new ≡ combine_poly F d 0 r (cut_by (drop m bs) (drop at f))
  unfolding cut_by
  poly_turn d r at m bs f part old new inside there long before is size filled =
      sum_filled (power F r (suc (d - b))) part old new d size long filled
      ∙ (λ i. add_poly F (is i) (scale F (power F r (suc (d - b))) (before i)))
      ∙ (λ i. add_poly F (mul_poly F g (geometric F r (d - sym width i))) (scale F (power F r (suc (d - sym width i))) (combine_poly F d 0 r (cut_by (drop (add-one m i) bs) (sym (drop-drop b at f) i)))))
      ∙ sym (poly_first d r g (cut_by (drop (suc m) bs) (drop b (drop at f))))
      ∙ sym (ap (λ (v : List ℕ). combine_poly F d 0 r (cut_by v (drop at f))) (drop-cons bs m 0 inside))
    where
      b : ℕ
      b = get_or bs m 0

      g : List A
      g = take b (drop at f)

      width : length g ≡ b
      width = part_length_lem at b f there

-- the parts from number m on have no more coefficients than all
pub sum_behind : (m : ℕ) (bs : List ℕ) → sum_of (drop m bs) ≤ sum_of bs
unfolding sum_of
sum_behind zero bs = le_refl (sum_of bs)
sum_behind (suc m) [] = le_refl 0
sum_behind (suc m) (b ∷ bs) = omega (arith, sum_behind m bs)

pub sum_from : (m : ℕ) (bs : List ℕ) → m < length bs → sum_of (drop m bs) ≡ get_or bs m 0 + sum_of (drop (m + 1) bs)
unfolding sum_of
sum_from m bs inside = ap sum_of (drop-cons bs m 0 inside) ∙ ap (λ (n : ℕ). get_or bs m 0 + sum_of (drop n bs)) (sym (add-one m))
