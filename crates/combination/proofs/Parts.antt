-- The combined polynomial by one part after the other, in either spelling. Assumes nothing.
use Prim.Native.Nat.{ℕ, suc, ◌+◌, ◌-◌, ◌≤◌, ◌<◌}
use native.Mathlib.Numerals.{add-one}
use native.Mathlib.Omega.{arith}
use mathlib.Core.Path.{◌≡◌, sym, ap, ◌∙◌, subst}
use mathlib.Core.List.{List}
use lib.ListN.{length, get_or, take, drop, drop_of_length-le}
use Rattle.batch_definition.specs.Batch.{combine_poly, cut_by, sum_of}
use Rattle.definition.specs.Field.{Field, power}
use Rattle.definition.specs.Polynomial.{geometric, mul_poly}
use Rattle.list_laws.specs.Filled.{FilledOver}
use Rattle.list_laws.specs.Lists.{part_length_lem}
use Rattle.sums.specs.ZeroPadding.{ZeroFrom}
use Rattle.spelling.specs.ByField.{ElementOf, field_at, elements_at, laws_at}
use Rattle.correction.proofs.Products.{product_length}
use Rattle.combination.specs.Asked.{Parted}
use Rattle.combination.specs.Added.{Added, AddedAt, multiplied_at}
use Rattle.combination.specs.LastToFirst.{poly_none, poly_turn, sum_behind, sum_from}
use Rattle.combination.proofs.Tables.{bound_at}

module _ {A : Type 0} (F : Field A) where
  infixl 65 ◌⊕◌
  infixl 70 ◌⊗◌
  open F use {𝟘, ◌⊕◌, ◌⊗◌}

  -- by the power and the product that were worked out
  pub part_added : (r s : A) (e n : ℕ) (p q old new : List A) → s ≡ power F r (e + 1) → p ≡ q → Added F (λ j. get_or p j 𝟘) s old new n → Added F (λ j. get_or q j 𝟘) (power F r (suc e)) old new n
  part_added r s e n p q old new es ep t = record {
    same = t.same;
    passed = λ j l. t.passed j l ∙ (λ i. get_or (ep i) j 𝟘 ⊕ (es ∙ ap (power F r) (add-one e)) i ⊗ get_or old j 𝟘);
    left = t.left;
  }

module _ (field d : ℕ) (r : ElementOf field) (bounds f : List ℕ) where
  -- the combined polynomial of the parts from number m on, whose coefficients begin at number `at`
  abbrev pub from_part : ℕ → ℕ → List (ElementOf field)
  from_part at m = combine_poly (field_at field) d 0 r (cut_by (drop m bounds) (drop at (elements_at field f)))

  pub no_part : (at : ℕ) (out : List ℕ) → length (elements_at field out) ≡ d → ZeroFrom (field_at field) (elements_at field out) 0 → elements_at field out ≡ from_part at (length bounds)
  unfolding cut_by
  no_part at out size zeros =
      poly_none (field_at field) (laws_at field) d r (cut_by (drop (length bounds) bounds) (drop at (elements_at field f))) (elements_at field out) size (λ j l. zeros j (omega arith))
      (ap (λ (b : List ℕ). cut_by b (drop at (elements_at field f))) (drop_of_length-le bounds {i = length bounds} (omega arith)))

  pub no_sum : sum_of (drop (length bounds) bounds) ≡ 0
  unfolding sum_of
  no_sum = ap sum_of (drop_of_length-le bounds {i = length bounds} (omega arith))

  -- where part m stands: its coefficients end at number `at`
  pub record Standing (at i : ℕ) : Type 0 where
    pub here : i - 1 < length bounds
    pub some : 0 < get_or bounds (i - 1) 0
    pub few : get_or bounds (i - 1) 0 ≤ d
    pub back : get_or bounds (i - 1) 0 ≤ at
    pub inside : at - get_or bounds (i - 1) 0 + get_or bounds (i - 1) 0 ≤ length (elements_at field f)
    pub before : at - get_or bounds (i - 1) 0 + sum_of (drop (i - 1) bounds) ≡ length (elements_at field f)

  pub standing : {scratch out : List ℕ} (at i : ℕ) → Parted field d bounds f scratch out → 0 < i → i ≤ length bounds → at + sum_of (drop i bounds) ≡ length (elements_at field f) → Standing at i
  standing at i p some few e =
      let here : i - 1 < length bounds = omega arith in
      let b = bound_at d (i - 1) bounds p.bounded here in
      let next : i - 1 + 1 ≡ i = omega arith in
      let sum : sum_of (drop (i - 1) bounds) ≡ get_or bounds (i - 1) 0 + sum_of (drop i bounds) = sum_from (i - 1) bounds here ∙ ap (λ (k : ℕ). get_or bounds (i - 1) 0 + sum_of (drop k bounds)) next in
      let all = sum_behind (i - 1) bounds in
      record {
        here = here;
        some = b.0;
        few = b.1;
        back = omega (arith, sum, all, e, p.coefficients);
        inside = omega (arith, sum, all, e, p.coefficients);
        before = omega (arith, sum, all, e, p.coefficients);
      }

  pub part_turn : (at i : ℕ) (part old new : List ℕ) → Standing at i → 0 < i → length (elements_at field old) ≡ d → elements_at field old ≡ from_part at i →
      elements_at field part ≡ take (get_or bounds (i - 1) 0) (drop (at - get_or bounds (i - 1) 0) (elements_at field f)) →
      AddedAt field (multiplied_at field r (d - get_or bounds (i - 1) 0) part) (power (field_at field) r (suc (d - get_or bounds (i - 1) 0))) old new →
      elements_at field new ≡ from_part (at - get_or bounds (i - 1) 0) (i - 1)
  part_turn at i part old new s some size before is filled =
      let F = field_at field in
      let b = get_or bounds (i - 1) 0 in
      let number : i ≡ i - 1 + 1 = omega arith in
      let place : at ≡ at - b + b = omega (arith, s.back) in
      let wide : length (elements_at field part) ≡ b = ap length is ∙ part_length_lem (at - b) b (elements_at field f) s.inside in
      let long : length (mul_poly F (elements_at field part) (geometric F r (d - b))) ≡ d =
      omega (arith, product_length F (laws_at field) (elements_at field part) r (d - b) (omega (arith, wide, s.some)), wide, s.few) in
      poly_turn F (laws_at field) d r (at - b) (i - 1) bounds (elements_at field f) (mul_poly F (elements_at field part) (geometric F r (d - b))) (elements_at field old) (elements_at field new) s.here s.inside size
      (before ∙ (λ k. from_part (place k) (number k))) (ap (λ (v : List (ElementOf field)). mul_poly F v (geometric F r (d - b))) is) long
      (subst (FilledOver F.𝟘 _ (elements_at field old) (elements_at field new)) size filled)

  pub all_parts : {scratch out : List ℕ} (at i : ℕ) (new : List ℕ) → Parted field d bounds f scratch out → i ≤ 0 → at + sum_of (drop i bounds) ≡ length (elements_at field f) → elements_at field new ≡ from_part at i →
      elements_at field new ≡ combine_poly (field_at field) d 0 r (cut_by bounds (elements_at field f))
  all_parts at i new p end e before =
      let none : i ≡ 0 = omega arith in
      let whole : at + sum_of bounds ≡ length (elements_at field f) = ap (λ (k : ℕ). at + sum_of (drop k bounds)) (sym none) ∙ e in
      let begin : at ≡ 0 = omega (arith, whole, p.coefficients) in
      before ∙ (λ k. from_part (begin k) (none k))
