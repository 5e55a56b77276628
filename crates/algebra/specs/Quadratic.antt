-- A field with a square root added: a + bU with U² = δ, over any field in which δ is no square.
use Rattle.std.specs.Prelude.{◌≡◌, refl, Bool, true, false, ◌&&◌}
use Rattle.std.proofs.Common.{sym, ap₂, ◌∙◌, true≢false}
use Rattle.std.proofs.Math.Path.{ap}
use Rattle.std.proofs.Math.Option.{some}
use Rattle.definition.specs.Field.{Field, found_or, where_found, reciprocal}
use Rattle.algebra.specs.Laws.{FieldLaws}
use Rattle.algebra.specs.RingLaws.{reduce_sub, cancel}
use Rattle.algebra.specs.Solver.{:0, :1, ◌:+◌, ◌:-◌, ◌:*◌, :-◌, ◌:=◌, given, solve, solve₂, solve₃, solve₄, solve₅}

pub pair_path : {A : Type 0} {x y : A × A} → x.0 ≡ y.0 → x.1 ≡ y.1 → x ≡ y
pair_path p q = λ i. (p i, q i)

and_both : (s t : Bool) → s ≡ true → t ≡ true → (s && t) ≡ true
and_both s t e f = ap₂ ◌&&◌ e f

and_first : (s t : Bool) → (s && t) ≡ true → s ≡ true
and_first true t e = refl
and_first false t e = e

and_second : (s t : Bool) → (s && t) ≡ true → t ≡ true
and_second true t e = e
and_second false t e = absurd (true≢false (sym e))

module _ {A : Type 0} (F : Field A) (δ : A) where
  infixl 65 ◌⊕◌ ◌⊖◌
  infixl 70 ◌⊗◌
  open F use {𝟘, 𝟙, ◌⊕◌, ◌⊖◌, ◌⊗◌, inverse, equal}

  -- (a + bU)·(a - bU), which lies in F
  abbrev pub quadratic_norm : A × A → A
  quadratic_norm x = x.0 ⊗ x.0 ⊖ δ ⊗ (x.1 ⊗ x.1)

  abbrev pub quadratic : Field (A × A)
  quadratic = record {
    𝟘 = (𝟘, 𝟘);
    𝟙 = (𝟙, 𝟘);
    ◌⊕◌ = λ x y. (x.0 ⊕ y.0, x.1 ⊕ y.1);
    ◌⊖◌ = λ x y. (x.0 ⊖ y.0, x.1 ⊖ y.1);
    ◌⊗◌ = λ x y. (x.0 ⊗ y.0 ⊕ δ ⊗ (x.1 ⊗ y.1), x.0 ⊗ y.1 ⊕ x.1 ⊗ y.0);
    inverse = λ x. where_found (λ i. (x.0 ⊗ i, (𝟘 ⊖ x.1) ⊗ i)) (inverse (quadratic_norm x));
    equal = λ x y. equal x.0 y.0 && equal x.1 y.1;
  }

-- y is no square
abbrev pub NoSquare : {A : Type 0} → Field A → A → Type 0
NoSquare {A} F y = (s : A) → F.◌⊗◌ s s ≡ F.◌⊕◌ y F.𝟘 → ⊥

module _ {A : Type 0} (F : Field A) (L : FieldLaws F) (δ : A) where
  infixl 65 ◌⊕◌ ◌⊖◌
  infixl 70 ◌⊗◌
  open F use {𝟘, 𝟙, ◌⊕◌, ◌⊖◌, ◌⊗◌, inverse, equal}
  open L use {reduce, equal_refl, equal_true, mul_inverse, inverse_found, inverse_none}

  -- is a word a spelling of 0?
  pub zero_or_not : {C : Type 0} (x : A) → (reduce x ≡ 𝟘 → C) → ((reduce x ≡ 𝟘 → ⊥) → C) → C
  zero_or_not {C} x is isnt = go (equal (reduce x) 𝟘) refl
    where
      go : (t : Bool) → equal (reduce x) 𝟘 ≡ t → C
      go true e = is (equal_true (reduce x) 𝟘 e)
      go false e = isnt (λ z. true≢false (sym (equal_refl 𝟘) ∙ ap (λ (y : A). equal y 𝟘) (sym z) ∙ e))

  -- where δ is no square, a norm is 0 for 0 alone
  pub norm_not_zero : NoSquare F δ → (x : A × A) → (◌≡◌ {A = A × A} (reduce x.0, reduce x.1) (𝟘, 𝟘) → ⊥) → quadratic_norm F δ x ≡ 𝟘 → ⊥
  norm_not_zero root x h e =
      let a : A = x.0 in
      let b : A = x.1 in
      let i : A = reciprocal F b in
      zero_or_not b
      (λ z. zero_or_not a (λ y. h (pair_path y z))
      (λ y. y (cancel F L a a y
      (solve₃ F L (λ w a b. given (b :+ :0) :0 (w :* b) (given (a :* a :- w :* (b :* b)) :0 :1 (a :* a := :0))) tt δ a b (L.add_zero b ∙ z) e))))
      (λ y. root (a ⊗ i)
      (solve₄ F L (λ w a b i. given (b :* i) :1 (w :* (b :* i :+ :1)) (given (a :* a :- w :* (b :* b)) :0 (i :* i) (a :* i :* (a :* i) := w :+ :0))) tt δ a b i
      (mul_inverse b y) e))

  -- so the norm has an inverse, and so has what it is the norm of
  norm_found : NoSquare F δ → (x : A × A) → (◌≡◌ {A = A × A} (reduce x.0, reduce x.1) (𝟘, 𝟘) → ⊥) →
      (quadratic F δ).inverse x ≡ some (x.0 ⊗ reciprocal F (quadratic_norm F δ x), (𝟘 ⊖ x.1) ⊗ reciprocal F (quadratic_norm F δ x))
  unfolding where_found
  norm_found root x h =
      ap (where_found (λ i. (x.0 ⊗ i, (𝟘 ⊖ x.1) ⊗ i)))
      (inverse_found (quadratic_norm F δ x) (λ z. norm_not_zero root x h (sym (reduce_sub F L (x.0 ⊗ x.0) (δ ⊗ (x.1 ⊗ x.1))) ∙ z)))

  -- the norm of 0 is 0
  norm_zero : (x : A × A) → ◌≡◌ {A = A × A} (reduce x.0, reduce x.1) (𝟘, 𝟘) → reduce (quadratic_norm F δ x) ≡ 𝟘
  norm_zero x e =
      reduce_sub F L (x.0 ⊗ x.0) (δ ⊗ (x.1 ⊗ x.1))
      ∙ solve₃ F L (λ w a b. given (a :+ :0) :0 a (given (b :+ :0) :0 (:- (w :* b)) (a :* a :- w :* (b :* b) := :0))) tt δ x.0 x.1
      (L.add_zero x.0 ∙ ap (λ y. y.0) e) (L.add_zero x.1 ∙ ap (λ y. y.1) e)

  recip_found : NoSquare F δ → (x : A × A) → (◌≡◌ {A = A × A} (reduce x.0, reduce x.1) (𝟘, 𝟘) → ⊥) →
      reciprocal (quadratic F δ) x ≡ (x.0 ⊗ reciprocal F (quadratic_norm F δ x), (𝟘 ⊖ x.1) ⊗ reciprocal F (quadratic_norm F δ x))
  unfolding reciprocal found_or
  recip_found root x h = ap (found_or (𝟘, 𝟘)) (norm_found root x h)

  pub quadratic_laws : NoSquare F δ → FieldLaws (quadratic F δ)
  unfolding where_found
  quadratic_laws root = record {
    reduce = λ x. (reduce x.0, reduce x.1);
    add_comm = λ x y. pair_path (L.add_comm x.0 y.0) (L.add_comm x.1 y.1);
    add_assoc = λ x y z. pair_path (L.add_assoc x.0 y.0 z.0) (L.add_assoc x.1 y.1 z.1);
    mul_comm = λ x y. pair_path
        (solve₅ F L (λ w a b c d. a :* c :+ w :* (b :* d) := c :* a :+ w :* (d :* b)) tt δ x.0 x.1 y.0 y.1)
        (solve₄ F L (λ a b c d. a :* d :+ b :* c := c :* b :+ d :* a) tt x.0 x.1 y.0 y.1);
    mul_assoc = λ x y z. pair_path
        (solve F L 7 (λ w a b c d e f. (a :* c :+ w :* (b :* d)) :* e :+ w :* ((a :* d :+ b :* c) :* f) := a :* (c :* e :+ w :* (d :* f)) :+ w :* (b :* (c :* f :+ d :* e))) tt
        δ x.0 x.1 y.0 y.1 z.0 z.1)
        (solve F L 7 (λ w a b c d e f. (a :* c :+ w :* (b :* d)) :* f :+ (a :* d :+ b :* c) :* e := a :* (c :* f :+ d :* e) :+ b :* (c :* e :+ w :* (d :* f))) tt
        δ x.0 x.1 y.0 y.1 z.0 z.1);
    mul_add = λ x y z. pair_path
        (solve F L 7 (λ w a b c d e f. a :* (c :+ e) :+ w :* (b :* (d :+ f)) := (a :* c :+ w :* (b :* d)) :+ (a :* e :+ w :* (b :* f))) tt
        δ x.0 x.1 y.0 y.1 z.0 z.1)
        (solve F L 6 (λ a b c d e f. a :* (d :+ f) :+ b :* (c :+ e) := (a :* d :+ b :* c) :+ (a :* f :+ b :* e)) tt
        x.0 x.1 y.0 y.1 z.0 z.1);
    add_zero = λ x. pair_path (L.add_zero x.0) (L.add_zero x.1);
    mul_one = λ x. pair_path
        (solve₃ F L (λ w a b. a :* :1 :+ w :* (b :* :0) := a) tt δ x.0 x.1)
        (solve₂ F L (λ a b. a :* :0 :+ b :* :1 := b) tt x.0 x.1);
    mul-zero = λ x. pair_path
        (solve₃ F L (λ w a b. a :* :0 :+ w :* (b :* :0) := :0) tt δ x.0 x.1)
        (solve₂ F L (λ a b. a :* :0 :+ b :* :0 := :0) tt x.0 x.1);
    sub_def = λ x y. pair_path (L.sub_def x.0 y.0) (L.sub_def x.1 y.1);
    neg_add = λ x. pair_path (L.neg_add x.0) (L.neg_add x.1);
    reduce_zero = pair_path L.reduce_zero L.reduce_zero;
    reduce_one = pair_path L.reduce_one L.reduce_zero;
    reduce_add = λ x y. pair_path (L.reduce_add x.0 y.0) (L.reduce_add x.1 y.1);
    reduce_mul = λ x y. pair_path (L.reduce_add (x.0 ⊗ y.0) (δ ⊗ (x.1 ⊗ y.1))) (L.reduce_add (x.0 ⊗ y.1) (x.1 ⊗ y.0));
    add_reduce = λ x y. pair_path (L.add_reduce x.0 y.0) (L.add_reduce x.1 y.1);
    mul_reduce = λ x y. pair_path
        (ap₂ (λ u v. u ⊕ δ ⊗ v) (L.mul_reduce x.0 y.0) (L.mul_reduce x.1 y.1))
        (ap₂ (λ u v. u ⊕ v) (L.mul_reduce x.0 y.1) (L.mul_reduce x.1 y.0));
    equal_refl = λ x. and_both (equal x.0 x.0) (equal x.1 x.1) (equal_refl x.0) (equal_refl x.1);
    equal_true = λ x y e. pair_path
        (equal_true x.0 y.0 (and_first (equal x.0 y.0) (equal x.1 y.1) e))
        (equal_true x.1 y.1 (and_second (equal x.0 y.0) (equal x.1 y.1) e));
    one≢zero = λ e. L.one≢zero (ap (λ x. x.0) e);
    mul_inverse = λ x h. ap (λ y. (quadratic F δ).◌⊗◌ x y) (recip_found root x h) ∙ pair_path
        (solve₄ F L (λ w a b i. a :* (a :* i) :+ w :* (b :* ((:0 :- b) :* i)) := (a :* a :- w :* (b :* b)) :* i) tt δ x.0 x.1 (reciprocal F (quadratic_norm F δ x))
        ∙ mul_inverse (quadratic_norm F δ x) (λ z. norm_not_zero root x h (sym (reduce_sub F L (x.0 ⊗ x.0) (δ ⊗ (x.1 ⊗ x.1))) ∙ z)))
        (solve₃ F L (λ a b i. a :* ((:0 :- b) :* i) :+ b :* (a :* i) := :0) tt x.0 x.1 (reciprocal F (quadratic_norm F δ x)));
    inverse_found = λ x h. norm_found root x h ∙ ap some (sym (recip_found root x h));
    inverse_none = λ x e. ap (where_found (λ i. (x.0 ⊗ i, (𝟘 ⊖ x.1) ⊗ i))) (inverse_none (quadratic_norm F δ x) (norm_zero x e));
  }
