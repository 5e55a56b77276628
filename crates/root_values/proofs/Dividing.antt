-- One inversion for many fractions: the products before each denominator, then each numerator's own share. Assumes nothing.
use Prim.Native.Nat.{ℕ, zero, suc, ◌+◌, ◌-◌, ◌≤◌, ◌<◌}
use native.Mathlib.Decide.{ℕ_discrete}
use native.Mathlib.Nat.{le_refl}
use native.Mathlib.Numerals.{add-one}
use native.Mathlib.Omega.{arith}
use mathlib.Core.Path.{◌≡◌, refl, sym, ap, ◌∙◌, ◌≡⟨◌⟩◌, ◌∎}
use mathlib.Core.List.{List}
use mathlib.Core.Option.{none, some}
use lib.ListN.{length, get_or, set, length-set}
use lib.Seq.{get_or-set_same, get_or-set_other}
use Rattle.definition.specs.Field.{Field, found_or, reciprocal}
use Rattle.algebra.specs.Divisors.{found_differs, never_none}
use Rattle.algebra.specs.Laws.{FieldLaws}
use Rattle.algebra.specs.RingLaws.{cancel, one_mul}
use Rattle.algebra.specs.Solver.{◌:*◌, ◌:=◌, solve₃, solve₄}
use Rattle.list_laws.specs.Filled.{FilledOver}
use Rattle.root_values.specs.Dividing.{DividedOver, Divisible, SharedOver, product_before}

module _ {A : Type 0} (F : Field A) where
  infixl 70 ◌⊗◌
  open F use {𝟘, 𝟙, ◌⊗◌, inverse}

  -- one factor more
  pub before_first : (xs : List A) → 𝟙 ≡ product_before F xs 0
  unfolding product_before
  before_first xs = refl

  pub before_next : (xs : List A) (m : ℕ) {p r : A} → p ≡ product_before F xs m → r ≡ p ⊗ get_or xs m 𝟘 → r ≡ product_before F xs (m + 1)
  unfolding product_before
  before_next xs m ep er = rw add-one (er ∙ ap (λ (q : A). q ⊗ get_or xs m 𝟘) ep)

  -- numerator m, which is as it was, times the product before it
  pub times_turn : (f : ℕ → A) (old new xs : List A) (m : ℕ) {p r : A} → FilledOver 𝟘 f old new m → p ≡ product_before F xs m → r ≡ get_or new m 𝟘 ⊗ p → r ≡ get_or old m 𝟘 ⊗ product_before F xs m
  times_turn f old new xs m t ep er = er ∙ (λ i. t.left m (le_refl m) i ⊗ ep i)

  module _ (L : FieldLaws F) (bottoms : List A) where
    open L use {reduce, mul_comm, mul_assoc, mul_one, mul_reduce, reduce_one, reduce_mul, one≢zero, mul_inverse, inverse_found, inverse_none}

    before_reduced : (n : ℕ) → reduce (product_before F bottoms n) ≡ product_before F bottoms n
    unfolding product_before
    before_reduced zero = reduce_one
    before_reduced (suc n) = reduce_mul (product_before F bottoms n) (get_or bottoms n 𝟘)

    before_nonzero : (n : ℕ) → Divisible F bottoms n → product_before F bottoms n ≡ 𝟘 → ⊥
    unfolding product_before
    before_nonzero zero h e = one≢zero e
    before_nonzero (suc n) h e =
        let b = get_or bottoms n 𝟘 in
        before_nonzero n (λ m l. h m (omega (arith, l)))
        (sym (before_reduced n) ∙ cancel F L b (product_before F bottoms n) (λ z. h n (le_refl (suc n)) (inverse_none b z)) (mul_comm b (product_before F bottoms n) ∙ e))

    -- so the product of all has an inverse
    pub never_nothing : (n : ℕ) {p : A} → Divisible F bottoms n → p ≡ product_before F bottoms n → none ≡ inverse p → ⊥
    never_nothing n {p} h ep e = never_none F L p (λ z. before_nonzero n h (sym (before_reduced n) ∙ ap reduce (sym ep) ∙ z)) (sym e)

    unit_of : (x : A) {u : A} → inverse x ≡ some u → x ⊗ u ≡ 𝟙
    unfolding reciprocal found_or
    unit_of x {u} e =
        let h = found_differs F L x e in
        ap (λ (v : A). x ⊗ v) (ap (found_or 𝟘) (sym e ∙ inverse_found x h)) ∙ mul_inverse x h

    -- where w is the inverse of p·b, and u that of b, t·p·w is t·u
    share_is : (t p b w : A) {u : A} → w ⊗ (p ⊗ b) ≡ 𝟙 → inverse b ≡ some u → t ⊗ p ⊗ w ≡ t ⊗ u
    share_is t p b w {u} ew eu =
        t ⊗ p ⊗ w ≡⟨ mul_assoc t p w ⟩
        t ⊗ (p ⊗ w) ≡⟨ ap (λ (v : A). t ⊗ v) (sym (mul_one (p ⊗ w) ∙ reduce_mul p w) ∙ ap (λ (v : A). p ⊗ w ⊗ v) (sym (unit_of b eu)) ∙ turned p w b u ∙ ap (λ (v : A). v ⊗ u) ew ∙ one_mul F L u) ⟩
        t ⊗ reduce u ≡⟨ mul_reduce t u ⟩
        t ⊗ u ∎
      where
        turned : (p w b u : A) → p ⊗ w ⊗ (b ⊗ u) ≡ w ⊗ (p ⊗ b) ⊗ u
        turned = solve₄ F L (λ p w b u. p :* w :* (b :* u) := w :* (p :* b) :* u) tt

    -- the numerators from number i on have their shares, the others are as before, and left is the inverse of the first i denominators
    pub record Sharing (old new : List A) (i : ℕ) (left : A) : Type 0 where
      pub same : length new ≡ length old
      pub unit : left ⊗ product_before F bottoms i ≡ 𝟙
      pub rest : (m : ℕ) → m < i → get_or new m 𝟘 ≡ get_or old m 𝟘
      pub done : (m : ℕ) (t u : A) → i ≤ m → m < length old → get_or old m 𝟘 ≡ t ⊗ product_before F bottoms m → inverse (get_or bottoms m 𝟘) ≡ some u → get_or new m 𝟘 ≡ t ⊗ u

    pub sharing_first : (old : List A) (n : ℕ) (u : A) → n ≡ length old → inverse (product_before F bottoms (length old)) ≡ some u → Sharing old old n u
    sharing_first old n u en e = record {
      same = refl;
      unit = ap (λ (k : ℕ). u ⊗ product_before F bottoms k) en ∙ mul_comm u (product_before F bottoms (length old)) ∙ unit_of (product_before F bottoms (length old)) e;
      rest = λ m l. refl;
      done = λ m t v h l. absurd (omega (arith, en, h, l));
    }

    pub sharing_next : (old new : List A) (i : ℕ) (left : A) {r l : A} → Sharing old new i left → 0 < i → i ≤ length old → r ≡ get_or new (i - 1) 𝟘 ⊗ left → l ≡ left ⊗ get_or bottoms (i - 1) 𝟘 →
        Sharing old (set new (i - 1) r) (i - 1) l
    unfolding product_before
    sharing_next old new i left {r} {l} s more inside er el = record {
      same = length-set new (i - 1) r ∙ s.same;
      unit = ap (λ (v : A). v ⊗ p) el ∙ regroup left b p ∙ whole;
      rest = λ m h. get_or-set_other new (i - 1) m r 𝟘 (λ e. omega (arith, e, h)) ∙ s.rest m (omega (arith, h));
      done = λ m t u h k e eu. go m t u h k e eu (ℕ_discrete m (i - 1));
    }
      where
        p : A
        p = product_before F bottoms (i - 1)

        b : A
        b = get_or bottoms (i - 1) 𝟘

        whole : left ⊗ (p ⊗ b) ≡ 𝟙
        whole = let e : suc (i - 1) ≡ i = omega (arith, more) in ap (λ (n : ℕ). left ⊗ product_before F bottoms n) e ∙ s.unit

        regroup : (w b p : A) → w ⊗ b ⊗ p ≡ w ⊗ (p ⊗ b)
        regroup = solve₃ F L (λ w b p. w :* b :* p := w :* (p :* b)) tt

        go : (m : ℕ) (t u : A) → i - 1 ≤ m → m < length old → get_or old m 𝟘 ≡ t ⊗ product_before F bottoms m → inverse (get_or bottoms m 𝟘) ≡ some u → Dec (m ≡ i - 1) → get_or (set new (i - 1) r) m 𝟘 ≡ t ⊗ u
        go m t u h k e eu (yes same) =
            let eo : get_or old (i - 1) 𝟘 ≡ t ⊗ p = ap (λ (n : ℕ). get_or old n 𝟘) (sym same) ∙ e ∙ ap (λ (n : ℕ). t ⊗ product_before F bottoms n) same in
            ap (λ (n : ℕ). get_or (set new (i - 1) r) n 𝟘) same
            ∙ get_or-set_same new (i - 1) r 𝟘 (omega (arith, s.same, more, inside))
            ∙ er ∙ ap (λ (v : A). v ⊗ left) (s.rest (i - 1) (omega (arith, more)) ∙ eo)
            ∙ share_is t p b left whole (ap (λ (n : ℕ). inverse (get_or bottoms n 𝟘)) (sym same) ∙ eu)
        go m t u h k e eu (no other) = get_or-set_other new (i - 1) m r 𝟘 other ∙ s.done m t u (omega (arith, h, more, other)) k e eu

  -- both steps
  pub divided : (bottoms old mid new : List A) → FilledOver 𝟘 (λ m. get_or old m 𝟘 ⊗ product_before F bottoms m) old mid (length old) → SharedOver F bottoms mid new → DividedOver F bottoms old new
  divided bottoms old mid new t shared m u l eu = shared m (get_or old m 𝟘) u (omega (arith, l, t.same)) (t.passed m l) eu
