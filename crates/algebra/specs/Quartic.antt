-- Elements a + bX + cX² + dX³ with X⁴ = δ, over any field in which neither δ nor -δ is a square: they are a field, and contain the first.
use Prim.Native.Nat.{ℕ, zero, suc}
use Rattle.std.specs.Prelude.{◌≡◌, Bool, true, false, ◌&&◌}
use Rattle.std.proofs.Math.Path.{refl, sym, ap, ap₂}
use Rattle.std.proofs.Common.{◌∙◌}
use Rattle.std.proofs.Math.Option.{Option, none, some}
use Rattle.definition.specs.Field.{Field, Quad, embed, found_or, inverse_by, norm, norm_first, norm_second, power, quartic, quartic_product, reciprocal, where_found}
use Rattle.algebra.specs.Laws.{FieldLaws}
use Rattle.algebra.specs.RingLaws.{sub_self}
use Rattle.algebra.specs.RootsOfUnity.{minus_one}
use Rattle.algebra.specs.Solver.{:0, :1, ◌:+◌, ◌:-◌, ◌:*◌, :-◌, ◌:=◌, given, solve, solve₂, solve₃, solve₄, solve₅, solve₆}
use Rattle.algebra.specs.Quadratic.{quadratic, quadratic_laws, quadratic_norm, NoSquare, pair_path}

pub quad_path : {A : Type 0} {x y : Quad A} → x.a ≡ y.a → x.b ≡ y.b → x.c ≡ y.c → x.d ≡ y.d → x ≡ y
quad_path p q r s = λ i. record { a = p i; b = q i; c = r i; d = s i }

pub and_exchange : (p q r s : Bool) → (p && q && r && s) ≡ ((p && r) && (q && s))
and_exchange false q r s = refl
and_exchange true false true s = refl
and_exchange true false false s = refl
and_exchange true true r s = refl

-- A field under another spelling: `to` is one to one and onto, and keeps the operations.
module _ {A B : Type 0} (F : Field A) (G : Field B) (L : FieldLaws G) (to : A → B) (from : B → A)
    (there : (y : B) → to (from y) ≡ y) (back : (x : A) → from (to x) ≡ x)
    (zero' : to F.𝟘 ≡ G.𝟘) (one' : to F.𝟙 ≡ G.𝟙)
    (add : (x y : A) → to (F.◌⊕◌ x y) ≡ G.◌⊕◌ (to x) (to y))
    (sub : (x y : A) → to (F.◌⊖◌ x y) ≡ G.◌⊖◌ (to x) (to y))
    (mul : (x y : A) → to (F.◌⊗◌ x y) ≡ G.◌⊗◌ (to x) (to y))
    (inv : (x : A) → F.inverse x ≡ where_found from (G.inverse (to x)))
    (same : (x y : A) → F.equal x y ≡ G.equal (to x) (to y)) where
  one_to_one : {x y : A} → to x ≡ to y → x ≡ y
  one_to_one {x} {y} e = sym (back x) ∙ ap from e ∙ back y

  onto : (x : A) {y : B} → to x ≡ y → x ≡ from y
  onto x e = sym (back x) ∙ ap from e

  found' : (x : A) → (from (L.reduce (to x)) ≡ F.𝟘 → ⊥) → F.inverse x ≡ some (from (reciprocal G (to x)))
  unfolding where_found
  found' x h = inv x ∙ ap (where_found from) (L.inverse_found (to x) (λ z. h (ap from z ∙ sym (onto F.𝟘 zero'))))

  recip' : (x : A) → (from (L.reduce (to x)) ≡ F.𝟘 → ⊥) → reciprocal F x ≡ from (reciprocal G (to x))
  unfolding reciprocal found_or
  recip' x h = ap (found_or F.𝟘) (found' x h)

  pub respelt : FieldLaws F
  unfolding where_found
  respelt = record {
    reduce = λ x. from (L.reduce (to x));
    add_comm = λ x y. one_to_one (add x y ∙ L.add_comm (to x) (to y) ∙ sym (add y x));
    add_assoc = λ x y z. one_to_one (add (F.◌⊕◌ x y) z ∙ ap (λ u. G.◌⊕◌ u (to z)) (add x y) ∙ L.add_assoc (to x) (to y) (to z)
        ∙ sym (add x (F.◌⊕◌ y z) ∙ ap (λ u. G.◌⊕◌ (to x) u) (add y z)));
    mul_comm = λ x y. one_to_one (mul x y ∙ L.mul_comm (to x) (to y) ∙ sym (mul y x));
    mul_assoc = λ x y z. one_to_one (mul (F.◌⊗◌ x y) z ∙ ap (λ u. G.◌⊗◌ u (to z)) (mul x y) ∙ L.mul_assoc (to x) (to y) (to z)
        ∙ sym (mul x (F.◌⊗◌ y z) ∙ ap (λ u. G.◌⊗◌ (to x) u) (mul y z)));
    mul_add = λ x y z. one_to_one (mul x (F.◌⊕◌ y z) ∙ ap (λ u. G.◌⊗◌ (to x) u) (add y z) ∙ L.mul_add (to x) (to y) (to z)
        ∙ sym (add (F.◌⊗◌ x y) (F.◌⊗◌ x z) ∙ ap₂ G.◌⊕◌ (mul x y) (mul x z)));
    add_zero = λ x. onto (F.◌⊕◌ x F.𝟘) (add x F.𝟘 ∙ ap (λ u. G.◌⊕◌ (to x) u) zero' ∙ L.add_zero (to x));
    mul_one = λ x. onto (F.◌⊗◌ x F.𝟙) (mul x F.𝟙 ∙ ap (λ u. G.◌⊗◌ (to x) u) one' ∙ L.mul_one (to x));
    mul-zero = λ x. one_to_one (mul x F.𝟘 ∙ ap (λ u. G.◌⊗◌ (to x) u) zero' ∙ L.mul-zero (to x) ∙ sym zero');
    sub_def = λ x y. one_to_one (sub x y ∙ L.sub_def (to x) (to y)
        ∙ sym (add x (F.◌⊖◌ F.𝟘 y) ∙ ap (λ u. G.◌⊕◌ (to x) u) (sub F.𝟘 y ∙ ap (λ u. G.◌⊖◌ u (to y)) zero')));
    neg_add = λ x. one_to_one (add (F.◌⊖◌ F.𝟘 x) x ∙ ap (λ u. G.◌⊕◌ u (to x)) (sub F.𝟘 x ∙ ap (λ u. G.◌⊖◌ u (to x)) zero') ∙ L.neg_add (to x) ∙ sym zero');
    reduce_zero = sym (onto F.𝟘 (zero' ∙ sym (ap L.reduce zero' ∙ L.reduce_zero)));
    reduce_one = sym (onto F.𝟙 (one' ∙ sym (ap L.reduce one' ∙ L.reduce_one)));
    reduce_add = λ x y. sym (onto (F.◌⊕◌ x y) (add x y ∙ sym (ap L.reduce (add x y) ∙ L.reduce_add (to x) (to y))));
    reduce_mul = λ x y. sym (onto (F.◌⊗◌ x y) (mul x y ∙ sym (ap L.reduce (mul x y) ∙ L.reduce_mul (to x) (to y))));
    add_reduce = λ x y. one_to_one (add x (from (L.reduce (to y))) ∙ ap (λ u. G.◌⊕◌ (to x) u) (there (L.reduce (to y))) ∙ L.add_reduce (to x) (to y) ∙ sym (add x y));
    mul_reduce = λ x y. one_to_one (mul x (from (L.reduce (to y))) ∙ ap (λ u. G.◌⊗◌ (to x) u) (there (L.reduce (to y))) ∙ L.mul_reduce (to x) (to y) ∙ sym (mul x y));
    equal_refl = λ x. same x x ∙ L.equal_refl (to x);
    equal_true = λ x y e. one_to_one (L.equal_true (to x) (to y) (sym (same x y) ∙ e));
    one≢zero = λ e. L.one≢zero (sym one' ∙ ap to e ∙ zero');
    mul_inverse = λ x h. one_to_one (mul x (reciprocal F x) ∙ ap (λ u. G.◌⊗◌ (to x) u) (ap to (recip' x h) ∙ there (reciprocal G (to x)))
        ∙ L.mul_inverse (to x) (λ z. h (ap from z ∙ sym (onto F.𝟘 zero'))) ∙ sym one');
    inverse_found = λ x h. found' x h ∙ ap some (sym (recip' x h));
    inverse_none = λ x e. inv x ∙ ap (where_found from) (L.inverse_none (to x) (sym (there (L.reduce (to x))) ∙ ap to e ∙ zero'));
  }

module _ {A : Type 0} (F : Field A) (L : FieldLaws F) (δ : A) where
  infixl 65 ◌⊕◌ ◌⊖◌
  infixl 70 ◌⊗◌
  open F use {𝟘, 𝟙, ◌⊕◌, ◌⊖◌, ◌⊗◌, inverse, equal}
  open L use {reduce, mul_inverse}

  -- U with U² = δ, and X with X² = U
  abbrev Half : Field (A × A)
  Half = quadratic F δ

  abbrev U : A × A
  U = (𝟘, 𝟙)

  abbrev Tower : Field ((A × A) × (A × A))
  Tower = quadratic Half U

  abbrev to : Quad A → (A × A) × (A × A)
  to x = ((x.a, x.c), (x.b, x.d))

  abbrev from : (A × A) × (A × A) → Quad A
  from y = record { a = y.0.0; b = y.1.0; c = y.0.1; d = y.1.1 }

  -- U is no square: (a + bU)² = U gives a² = -δb² and 2ab = 1, so a/b would be a root of -δ
  U_no_square : NoSquare F (𝟘 ⊖ δ) → NoSquare Half U
  U_no_square minus s e =
      let a : A = s.0 in
      let b : A = s.1 in
      let i : A = reciprocal F b in
      let first : a ⊗ a ⊕ δ ⊗ (b ⊗ b) ≡ 𝟘 = ap (λ x. x.0) e ∙ L.add_zero 𝟘 ∙ L.reduce_zero in
      let second : a ⊗ b ⊕ b ⊗ a ≡ 𝟙 = ap (λ x. x.1) e ∙ L.add_zero 𝟙 ∙ L.reduce_one in
      let some : reduce b ≡ 𝟘 → ⊥ = λ z. L.one≢zero
      (solve₂ F L (λ a b. given (b :+ :0) :0 (a :+ a) (given (a :* b :+ b :* a) :1 (:- :1) (:1 := :0))) tt a b (L.add_zero b ∙ z) second) in
      minus (a ⊗ i)
      (solve₄ F L (λ w a b i. given (b :* i) :1 (:- (w :* (b :* i :+ :1))) (given (a :* a :+ w :* (b :* b)) :0 (i :* i) (a :* i :* (a :* i) := :0 :- w :+ :0))) tt δ a b i
      (mul_inverse b some) first)

  product_to : (x y : Quad A) → to (quartic_product F δ x y) ≡ Tower.◌⊗◌ (to x) (to y)
  unfolding quartic_product
  product_to x y = pair_path
      (pair_path
      (solve F L 9 (λ w a b c d e f g h. a :* e :+ w :* (b :* h :+ c :* g :+ d :* f)
      := (a :* e :+ w :* (c :* g)) :+ (:0 :* (b :* f :+ w :* (d :* h)) :+ w :* (:1 :* (b :* h :+ d :* f)))) tt
      δ x.a x.b x.c x.d y.a y.b y.c y.d)
      (solve F L 9 (λ w a b c d e f g h. a :* g :+ b :* f :+ c :* e :+ w :* (d :* h)
      := (a :* g :+ c :* e) :+ (:0 :* (b :* h :+ d :* f) :+ :1 :* (b :* f :+ w :* (d :* h)))) tt
      δ x.a x.b x.c x.d y.a y.b y.c y.d))
      (pair_path
      (solve F L 9 (λ w a b c d e f g h. a :* f :+ b :* e :+ w :* (c :* h :+ d :* g)
      := (a :* f :+ w :* (c :* h)) :+ (b :* e :+ w :* (d :* g))) tt
      δ x.a x.b x.c x.d y.a y.b y.c y.d)
      (solve F L 8 (λ a b c d e f g h. a :* h :+ b :* g :+ c :* f :+ d :* e := (a :* h :+ c :* f) :+ (b :* g :+ d :* e)) tt
      x.a x.b x.c x.d y.a y.b y.c y.d))

  norm_to : (x : Quad A) → ◌≡◌ {A = A × A} (norm_first F δ x, norm_second F δ x) (quadratic_norm Half U (to x))
  unfolding norm_first norm_second
  norm_to x = pair_path
      (solve₅ F L (λ w a b c d. a :* a :+ w :* (c :* c) :- w :* (b :* d :+ d :* b)
      := (a :* a :+ w :* (c :* c)) :- (:0 :* (b :* b :+ w :* (d :* d)) :+ w :* (:1 :* (b :* d :+ d :* b)))) tt δ x.a x.b x.c x.d)
      (solve₅ F L (λ w a b c d. a :* c :+ c :* a :- (b :* b :+ w :* (d :* d))
      := (a :* c :+ c :* a) :- (:0 :* (b :* d :+ d :* b) :+ :1 :* (b :* b :+ w :* (d :* d)))) tt δ x.a x.b x.c x.d)

  -- the inverse of the tower, where i is the inverse of the norm of the norm y
  abbrev tower_inverse : Quad A → A × A → A → (A × A) × (A × A)
  tower_inverse x y i =
      let u : A × A = (y.0 ⊗ i, (𝟘 ⊖ y.1) ⊗ i) in (Half.◌⊗◌ (x.a, x.c) u, Half.◌⊗◌ (𝟘 ⊖ x.b, 𝟘 ⊖ x.d) u)

  inverse_by_lem : (x : Quad A) (i : A) → inverse_by F δ x i ≡ from (tower_inverse x (norm_first F δ x, norm_second F δ x) i)
  unfolding inverse_by quartic_product
  inverse_by_lem x i = quad_path
      (solve F L 7 (λ w a b c d n m. a :* n :+ w :* ((:0 :- b) :* :0 :+ c :* m :+ (:0 :- d) :* :0) := a :* n :+ w :* (c :* m)) tt δ x.a x.b x.c x.d n m)
      (solve F L 7 (λ w a b c d n m. a :* :0 :+ (:0 :- b) :* n :+ w :* (c :* :0 :+ (:0 :- d) :* m) := (:0 :- b) :* n :+ w :* ((:0 :- d) :* m)) tt δ x.a x.b x.c x.d n m)
      (solve F L 7 (λ w a b c d n m. a :* m :+ (:0 :- b) :* :0 :+ c :* n :+ w :* ((:0 :- d) :* :0) := a :* m :+ c :* n) tt δ x.a x.b x.c x.d n m)
      (solve F L 6 (λ a b c d n m. a :* :0 :+ (:0 :- b) :* m :+ c :* :0 :+ (:0 :- d) :* n := (:0 :- b) :* m :+ (:0 :- d) :* n) tt x.a x.b x.c x.d n m)
    where
      n : A
      n = norm_first F δ x ⊗ i

      m : A
      m = (𝟘 ⊖ norm_second F δ x) ⊗ i

  inverse_to : (x : Quad A) → (quartic F δ).inverse x ≡ where_found from (Tower.inverse (to x))
  unfolding quartic norm where_found
  inverse_to x =
      go (inverse (norm_first F δ x ⊗ norm_first F δ x ⊖ δ ⊗ (norm_second F δ x ⊗ norm_second F δ x)))
      ∙ ap (λ y. where_found from (where_found (λ u. (Half.◌⊗◌ (x.a, x.c) u, Half.◌⊗◌ (𝟘 ⊖ x.b, 𝟘 ⊖ x.d) u)) (Half.inverse y))) (norm_to x)
    where
      go : (o : Option A) → where_found (inverse_by F δ x) o
          ≡ where_found from (where_found (λ u. (Half.◌⊗◌ (x.a, x.c) u, Half.◌⊗◌ (𝟘 ⊖ x.b, 𝟘 ⊖ x.d) u)) (where_found (λ i. (norm_first F δ x ⊗ i, (𝟘 ⊖ norm_second F δ x) ⊗ i)) o))
      go none = refl
      go (some i) = ap some (inverse_by_lem x i)

  -- They are a field.
  pub quartic_laws : NoSquare F δ → NoSquare F (𝟘 ⊖ δ) → FieldLaws (quartic F δ)
  unfolding quartic embed
  quartic_laws H minus =
      respelt (quartic F δ) Tower (quadratic_laws Half (quadratic_laws F L δ H) U (U_no_square minus)) to from (λ y. refl) (λ x. refl)
      refl refl (λ x y. refl) (λ x y. refl) product_to inverse_to (λ x y. and_exchange (equal x.a y.a) (equal x.b y.b) (equal x.c y.c) (equal x.d y.d))

  -- The first field inside it.

  pub embed_mul : (x y : A) → (quartic F δ).◌⊗◌ (embed F x) (embed F y) ≡ embed F (x ⊗ y)
  unfolding quartic embed quartic_product
  embed_mul x y = quad_path
      (solve₃ F L (λ w x y. x :* y :+ w :* (:0 :* :0 :+ :0 :* :0 :+ :0 :* :0) := x :* y) tt δ x y)
      (solve₃ F L (λ w x y. x :* :0 :+ :0 :* y :+ w :* (:0 :* :0 :+ :0 :* :0) := :0) tt δ x y)
      (solve₃ F L (λ w x y. x :* :0 :+ :0 :* :0 :+ :0 :* y :+ w :* (:0 :* :0) := :0) tt δ x y)
      (solve₂ F L (λ x y. x :* :0 :+ :0 :* :0 :+ :0 :* :0 :+ :0 :* y := :0) tt x y)

  -- a product with an element of the first field is four products there
  pub embed_scale : (k : A) (y : Quad A) → (quartic F δ).◌⊗◌ (embed F k) y ≡ record { a = k ⊗ y.a; b = k ⊗ y.b; c = k ⊗ y.c; d = k ⊗ y.d }
  unfolding quartic embed quartic_product
  embed_scale k y = quad_path
      (solve₆ F L (λ w k a b c d. k :* a :+ w :* (:0 :* d :+ :0 :* c :+ :0 :* b) := k :* a) tt δ k y.a y.b y.c y.d)
      (solve₆ F L (λ w k a b c d. k :* b :+ :0 :* a :+ w :* (:0 :* d :+ :0 :* c) := k :* b) tt δ k y.a y.b y.c y.d)
      (solve₆ F L (λ w k a b c d. k :* c :+ :0 :* b :+ :0 :* a :+ w :* (:0 :* d) := k :* c) tt δ k y.a y.b y.c y.d)
      (solve₅ F L (λ k a b c d. k :* d :+ :0 :* c :+ :0 :* b :+ :0 :* a := k :* d) tt k y.a y.b y.c y.d)

  pub embed_power : (x : A) (n : ℕ) → power (quartic F δ) (embed F x) n ≡ embed F (power F x n)
  unfolding power quartic
  embed_power x zero = refl
  embed_power x (suc n) = ap (λ u. (quartic F δ).◌⊗◌ (embed F x) u) (embed_power x n) ∙ embed_mul x (power F x n)

  pub embed_minus_one : minus_one (quartic F δ) ≡ embed F (minus_one F)
  unfolding quartic embed minus_one
  embed_minus_one = let z : 𝟘 ⊖ 𝟘 ≡ 𝟘 = sub_self F L 𝟘 in quad_path refl z z z

  -- what fits the first field fits it
  pub embed_root : (ω : A) (h : ℕ) → power F ω h ≡ minus_one F → power (quartic F δ) (embed F ω) h ≡ minus_one (quartic F δ)
  embed_root ω h e = embed_power ω h ∙ ap (embed F) e ∙ sym embed_minus_one

  pub embed_signs : (minus_one F ≡ 𝟙 → ⊥) → minus_one (quartic F δ) ≡ (quartic F δ).𝟙 → ⊥
  unfolding quartic embed
  embed_signs h e = h (ap (λ x. x.a) (sym embed_minus_one ∙ e))
