-- Equality of coefficient lists from equality of values: a polynomial with as many roots as coefficients has no coefficient but 0. So interpolation is unique.
use Rattle.std.specs.Prelude.{ℕ, ◌/◌, ◌≤◌, ◌≡◌, length}
use Rattle.std.proofs.Math.Path.{refl, sym, ap}
use Rattle.std.proofs.Common.{◌∙◌, subst, le_of_suc-le-suc, not-suc-le-zero, arith}
use mathlib.Core.List.{List, [], ◌∷◌, map}
use Rattle.definition.specs.Lists.{chunks}
use Rattle.definition.specs.Field.{Field}
use Rattle.definition.specs.Polynomial.{Sample, points, evaluate, scale, add_poly, sub_poly, mul_poly, vanishing, interpolate, horner, fold_poly}
use Rattle.list_laws.specs.All.{All, all_map, all_map₂}
use Rattle.algebra.specs.Laws.{FieldLaws}
use Rattle.algebra.specs.RingLaws.{neg_one, sub_self, sub_zero}
use Rattle.algebra.specs.Lengths.{length_sub_le, length_horner, length_points, length_interpolate}
use Rattle.algebra.specs.Evaluation.{evaluate_nil, evaluate_cons, reduce_evaluate, evaluate_sub}
use Rattle.algebra.specs.Different.{Apart}
use Rattle.algebra.specs.Division.{horner_cons, quotient_root}
use Rattle.algebra.specs.Interpolation.{all_of_points, interpolate_through}

module _ {A : Type 0} (F : Field A) (L : FieldLaws F) where
  infixl 65 ◌⊕◌ ◌⊖◌
  infixl 70 ◌⊗◌
  open F use {𝟘, 𝟙, ◌⊕◌, ◌⊖◌, ◌⊗◌}
  open L use {reduce, add_zero, mul-zero, sub_def, reduce_zero, reduce_add, reduce_mul}

  -- every coefficient is an element
  abbrev pub Elements : List A → Type 0
  Elements f = All (λ c. reduce c ≡ c) f

  abbrev Zeros : List A → Type 0
  Zeros f = All (λ c. reduce c ≡ 𝟘) f

  -- the constant term of a polynomial whose upper part is 0 at a
  constant : (a c : A) (cs : List A) → evaluate F cs a ≡ 𝟘 → evaluate F (c ∷ cs) a ≡ reduce c
  constant a c cs e = evaluate_cons F c cs a ∙ rw (e, mul-zero, add_zero)

  horner_zeros : (a : A) (cs : List A) → Zeros (horner F a cs) → Zeros cs × (evaluate F cs a ≡ 𝟘)
  horner_zeros a [] h = (tt, evaluate_nil F a)
  horner_zeros a (c ∷ cs) h =
      let k : Zeros (evaluate F (c ∷ cs) a ∷ horner F a cs) = subst Zeros (horner_cons F L a c cs) h in
      let r = horner_zeros a cs k.1 in
      let z : evaluate F (c ∷ cs) a ≡ 𝟘 = sym (reduce_evaluate F L (c ∷ cs) a) ∙ k.0 in
      ((sym (constant a c cs r.1) ∙ z, r.0), z)

  -- as many roots as coefficients: all coefficients are 0
  pub all_zeros : (xs f : List A) → length f ≤ length xs → Apart F xs → All (λ a. evaluate F f a ≡ 𝟘) xs → Zeros f
  all_zeros [] [] l h e = tt
  all_zeros [] (c ∷ cs) l h e = absurd (not-suc-le-zero l)
  all_zeros (a ∷ xs) [] l h e = tt
  all_zeros (a ∷ xs) (c ∷ cs) l h e =
      let q = all_zeros xs (horner F a cs) (rw (length_horner F) (le_of_suc-le-suc l)) h.1 (all_map₂ xs h.0 e.1 (λ b d z. quotient_root F L a c cs b e.0 d z)) in
      let r = horner_zeros a cs q in
      (sym (constant a c cs r.1) ∙ e.0, r.0)

  -- equal lists, where the difference has no coefficient but 0
  sub_zeros : (f g : List A) → length f ≡ length g → Elements f → Elements g → Zeros (sub_poly F f g) → f ≡ g
  unfolding sub_poly add_poly scale
  sub_zeros [] [] l hf hg n = refl
  sub_zeros [] (b ∷ g) l hf hg n = absurd (omega arith)
  sub_zeros (a ∷ f) [] l hf hg n = absurd (omega arith)
  sub_zeros (a ∷ f) (b ∷ g) l hf hg n = λ i. same a b hf.0 hg.0 n.0 i ∷ sub_zeros f g (omega arith) hf.1 hg.1 n.1 i
    where
      same : (x y : A) → reduce x ≡ x → reduce y ≡ y → reduce (x ⊕ (𝟘 ⊖ 𝟙) ⊗ y) ≡ 𝟘 → x ≡ y
      same x y hx hy z =
          sym hx ∙ sub_zero F L x y (sub_def x y ∙ ap (λ (v : A). x ⊕ v) (sym (neg_one F L y)) ∙ sym (reduce_add x ((𝟘 ⊖ 𝟙) ⊗ y)) ∙ z) ∙ hy

  -- two polynomials of one length that agree at as many points have the same coefficients
  pub same_coefficients : (xs f g : List A) → length f ≡ length g → length f ≤ length xs → Apart F xs → Elements f → Elements g →
      All (λ a. evaluate F f a ≡ evaluate F g a) xs → f ≡ g
  same_coefficients xs f g l m h ef eg e =
      sub_zeros f g l ef eg
      (all_zeros xs (sub_poly F f g) (length_sub_le F f g (length xs) m (subst (λ (n : ℕ). n ≤ length xs) l m)) h
      (all_map xs e (λ a z. evaluate_sub F L f g a ∙ ap (λ (v : A). v ⊖ evaluate F g a) z ∙ sub_self F L (evaluate F g a))))

  -- what each operation gives has elements as coefficients
  pub elements_scale : (a : A) (f : List A) → Elements (scale F a f)
  unfolding scale
  elements_scale a [] = tt
  elements_scale a (c ∷ f) = (reduce_mul a c, elements_scale a f)

  pub elements_add : (f g : List A) → Elements f → Elements g → Elements (add_poly F f g)
  unfolding add_poly
  elements_add [] g hf hg = hg
  elements_add (a ∷ f) [] hf hg = hf
  elements_add (a ∷ f) (b ∷ g) hf hg = (reduce_add a b, elements_add f g hf.1 hg.1)

  pub elements_mul : (f g : List A) → Elements (mul_poly F f g)
  unfolding mul_poly
  elements_mul [] g = tt
  elements_mul (a ∷ f) g = elements_add (scale F a g) (𝟘 ∷ mul_poly F f g) (elements_scale a g) (reduce_zero, elements_mul f g)

  pub elements_interpolate : (ps : List (Sample A)) → Elements (interpolate F ps)
  unfolding interpolate
  elements_interpolate [] = tt
  elements_interpolate (p ∷ ps) = elements_add (interpolate F ps) _ (elements_interpolate ps) (elements_scale _ (vanishing F (points ps)))

  pub elements_fold : (k : ℕ) (r : A) (f : List A) → Elements (fold_poly F k r f)
  unfolding fold_poly
  elements_fold k r f = go (chunks (length f / k) k f)
    where
      go : (cs : List (List A)) → Elements (map (λ c. evaluate F c r) cs)
      go [] = tt
      go (c ∷ cs) = (reduce_evaluate F L c r, go cs)

  -- A is the only polynomial of degree below the number of samples, with elements as coefficients, through samples at different points
  pub interpolate_only : (ps : List (Sample A)) (q : List A) → Apart F (points ps) → length q ≡ length ps → Elements q →
      All (λ p. evaluate F q p.point ≡ reduce p.value) ps → q ≡ interpolate F ps
  interpolate_only ps q apart size elements through =
      same_coefficients (points ps) q (interpolate F ps) (size ∙ sym (length_interpolate F ps)) (omega (arith, size, length_points F ps)) apart elements (elements_interpolate ps)
      (all_of_points (λ x. evaluate F q x ≡ evaluate F (interpolate F ps) x) ps
      (all_map₂ ps through (interpolate_through F L ps apart) (λ p e i. e ∙ sym i)))
