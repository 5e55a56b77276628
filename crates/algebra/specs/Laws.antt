-- The laws of a field whose carrier may hold more spellings than elements, as words that are not below p: `reduce x` is the spelling in range of what x
-- spells. The commutative, associative and distributive laws hold of every spelling, and a unit law gives the reduced one.
use Rattle.std.specs.Prelude.{◌≡◌, refl, true}
use Rattle.std.proofs.Common.{sym, ap, ◌∙◌}
use Rattle.std.proofs.Math.Option.{none, some}
use Rattle.definition.specs.Field.{Field, reciprocal}

pub record FieldLaws {A : Type 0} (F : Field A) : Type 0 where
  pub reduce : A → A
  pub add_comm : (x y : A) → F.◌⊕◌ x y ≡ F.◌⊕◌ y x
  pub add_assoc : (x y z : A) → F.◌⊕◌ (F.◌⊕◌ x y) z ≡ F.◌⊕◌ x (F.◌⊕◌ y z)
  pub mul_comm : (x y : A) → F.◌⊗◌ x y ≡ F.◌⊗◌ y x
  pub mul_assoc : (x y z : A) → F.◌⊗◌ (F.◌⊗◌ x y) z ≡ F.◌⊗◌ x (F.◌⊗◌ y z)
  pub mul_add : (x y z : A) → F.◌⊗◌ x (F.◌⊕◌ y z) ≡ F.◌⊕◌ (F.◌⊗◌ x y) (F.◌⊗◌ x z)
  pub add_zero : (x : A) → F.◌⊕◌ x F.𝟘 ≡ reduce x
  pub mul_one : (x : A) → F.◌⊗◌ x F.𝟙 ≡ reduce x
  pub mul-zero : (x : A) → F.◌⊗◌ x F.𝟘 ≡ F.𝟘
  pub sub_def : (x y : A) → F.◌⊖◌ x y ≡ F.◌⊕◌ x (F.◌⊖◌ F.𝟘 y)
  pub neg_add : (x : A) → F.◌⊕◌ (F.◌⊖◌ F.𝟘 x) x ≡ F.𝟘
  pub reduce_zero : reduce F.𝟘 ≡ F.𝟘
  pub reduce_one : reduce F.𝟙 ≡ F.𝟙
  pub reduce_add : (x y : A) → reduce (F.◌⊕◌ x y) ≡ F.◌⊕◌ x y
  pub reduce_mul : (x y : A) → reduce (F.◌⊗◌ x y) ≡ F.◌⊗◌ x y
  pub add_reduce : (x y : A) → F.◌⊕◌ x (reduce y) ≡ F.◌⊕◌ x y
  pub mul_reduce : (x y : A) → F.◌⊗◌ x (reduce y) ≡ F.◌⊗◌ x y
  pub equal_refl : (x : A) → F.equal x x ≡ true
  pub equal_true : (x y : A) → F.equal x y ≡ true → x ≡ y
  pub one≢zero : F.𝟙 ≡ F.𝟘 → ⊥
  pub mul_inverse : (x : A) → (reduce x ≡ F.𝟘 → ⊥) → F.◌⊗◌ x (reciprocal F x) ≡ F.𝟙
  pub inverse_found : (x : A) → (reduce x ≡ F.𝟘 → ⊥) → F.inverse x ≡ some (reciprocal F x)
  pub inverse_none : (x : A) → reduce x ≡ F.𝟘 → F.inverse x ≡ none

-- An ordinary field: every element has one spelling.
pub record OrdinaryField {A : Type 0} (F : Field A) : Type 0 where
  pub add_comm : (x y : A) → F.◌⊕◌ x y ≡ F.◌⊕◌ y x
  pub add_assoc : (x y z : A) → F.◌⊕◌ (F.◌⊕◌ x y) z ≡ F.◌⊕◌ x (F.◌⊕◌ y z)
  pub add_zero : (x : A) → F.◌⊕◌ x F.𝟘 ≡ x
  pub sub_add : (x y : A) → F.◌⊕◌ (F.◌⊖◌ x y) y ≡ x
  pub mul_comm : (x y : A) → F.◌⊗◌ x y ≡ F.◌⊗◌ y x
  pub mul_assoc : (x y z : A) → F.◌⊗◌ (F.◌⊗◌ x y) z ≡ F.◌⊗◌ x (F.◌⊗◌ y z)
  pub mul_one : (x : A) → F.◌⊗◌ x F.𝟙 ≡ x
  pub mul_add : (x y z : A) → F.◌⊗◌ x (F.◌⊕◌ y z) ≡ F.◌⊕◌ (F.◌⊗◌ x y) (F.◌⊗◌ x z)
  pub one≢zero : F.𝟙 ≡ F.𝟘 → ⊥
  pub mul_inverse : (x : A) → (x ≡ F.𝟘 → ⊥) → F.◌⊗◌ x (reciprocal F x) ≡ F.𝟙
  pub inverse_found : (x : A) → (x ≡ F.𝟘 → ⊥) → F.inverse x ≡ some (reciprocal F x)
  pub inverse_none : (x : A) → x ≡ F.𝟘 → F.inverse x ≡ none
  pub equal_refl : (x : A) → F.equal x x ≡ true
  pub equal_true : (x y : A) → F.equal x y ≡ true → x ≡ y

module _ {A : Type 0} (F : Field A) (O : OrdinaryField F) where
  infixl 65 ◌⊕◌ ◌⊖◌
  infixl 70 ◌⊗◌
  open F use {𝟘, ◌⊕◌, ◌⊖◌, ◌⊗◌}
  open O use {add_comm, add_assoc, add_zero, sub_add, mul_comm, mul_assoc, mul_one, mul_add, one≢zero, mul_inverse, inverse_found, inverse_none, equal_refl, equal_true}

  add_cancel : (x y z : A) → x ⊕ z ≡ y ⊕ z → x ≡ y
  add_cancel x y z e =
      sym (undo x) ∙ ap (λ (v : A). v ⊕ (𝟘 ⊖ z)) e ∙ undo y
    where
      undo : (v : A) → v ⊕ z ⊕ (𝟘 ⊖ z) ≡ v
      undo v = add_assoc v z (𝟘 ⊖ z) ∙ ap (λ (u : A). v ⊕ u) (add_comm z (𝟘 ⊖ z) ∙ sub_add 𝟘 z) ∙ add_zero v

  -- Every ordinary field obeys the laws, with `reduce x` for x.
  pub ordinary : FieldLaws F
  ordinary = record {
    reduce = λ x. x;
    add_comm = add_comm;
    add_assoc = add_assoc;
    mul_comm = mul_comm;
    mul_assoc = mul_assoc;
    mul_add = mul_add;
    add_zero = add_zero;
    mul_one = mul_one;
    mul-zero = λ x. add_cancel (x ⊗ 𝟘) 𝟘 (x ⊗ 𝟘)
        (sym (mul_add x 𝟘 𝟘) ∙ ap (λ (v : A). x ⊗ v) (add_zero 𝟘) ∙ sym (add_comm 𝟘 (x ⊗ 𝟘) ∙ add_zero (x ⊗ 𝟘)));
    sub_def = λ x y. add_cancel (x ⊖ y) (x ⊕ (𝟘 ⊖ y)) y
        (sub_add x y ∙ sym (add_assoc x (𝟘 ⊖ y) y ∙ ap (λ (v : A). x ⊕ v) (sub_add 𝟘 y) ∙ add_zero x));
    neg_add = λ x. sub_add 𝟘 x;
    reduce_zero = refl;
    reduce_one = refl;
    reduce_add = λ x y. refl;
    reduce_mul = λ x y. refl;
    add_reduce = λ x y. refl;
    mul_reduce = λ x y. refl;
    equal_refl = equal_refl;
    equal_true = equal_true;
    one≢zero = one≢zero;
    mul_inverse = mul_inverse;
    inverse_found = inverse_found;
    inverse_none = inverse_none;
  }
