-- The public inverse of field 3: none exactly where all four words are multiples of p, and where it is found, an element whose product with x is 1. And the public
-- power: 1 for the exponent 0, and for each next one the product of x with the power before.
use Rattle.std.specs.Prelude.{ℕ, suc, ◌%◌, Bool, ◌↔◌, ◌≡◌, refl}
use Rattle.std.proofs.Math.Nat.{mod-mod}
use Rattle.std.proofs.Math.Bool.{true, false, true≢false}
use Rattle.std.proofs.Math.Option.{none, some}
use Rattle.std.proofs.Math.Path.{sym, ap}
use Rattle.std.proofs.Common.{◌∙◌}
use Rattle.std.proofs.Math.Dec.{eqb}
use borrow.Author.Tests.{eq-eqb, eqb-true}
use Rattle.definition.specs.Field.{Quad, binary_digits, embed, field_in, field3, four, inverse3, number_in, power, power3, power_turns3, prime_field, prime_of, product3, quartic, reciprocal, reduced}
use Rattle.list_laws.specs.Booleans.{some≢none}
use Rattle.algebra.specs.Field3.{laws₃, reduce₃}
use Rattle.algebra.specs.FieldIn
use Rattle.algebra.specs.Laws.{FieldLaws}
use Rattle.algebra.specs.Quartic.{quad_path}
use Rattle.algebra.specs.RingLaws.{reduce_power}

-- all four words are multiples of p
abbrev pub IsZero3 : Quad ℕ → Type 0
IsZero3 x = (x.a % prime_of 3 ≡ 0) × (x.b % prime_of 3 ≡ 0) × (x.c % prime_of 3 ≡ 0) × (x.d % prime_of 3 ≡ 0)

pub laws : FieldLaws field3
unfolding field_in prime_of
laws = laws₃

reduce_is : (x : Quad ℕ) → laws.reduce x ≡ reduced x
unfolding laws field_in prime_of
reduce_is x = reduce₃ x

reduced_twice : (x : Quad ℕ) → reduced (reduced x) ≡ reduced x
unfolding reduced
reduced_twice x = quad_path (mod-mod x.a (prime_of 3)) (mod-mod x.b (prime_of 3)) (mod-mod x.c (prime_of 3)) (mod-mod x.d (prime_of 3))

module _ (x : Quad ℕ) where
  zero_then : IsZero3 x → laws.reduce (reduced x) ≡ field3.𝟘
  unfolding reduced field_in quartic embed prime_field
  zero_then z = reduce_is (reduced x) ∙ reduced_twice x ∙ quad_path z.0 z.1 z.2 z.3

  then_zero : laws.reduce (reduced x) ≡ field3.𝟘 → IsZero3 x
  unfolding reduced field_in quartic embed prime_field
  then_zero e =
      let q : reduced x ≡ field3.𝟘 = sym (reduced_twice x) ∙ sym (reduce_is (reduced x)) ∙ e in
      (ap (λ (y : Quad ℕ). y.a) q, ap (λ (y : Quad ℕ). y.b) q, ap (λ (y : Quad ℕ). y.c) q, ap (λ (y : Quad ℕ). y.d) q)

  pub inverse_there : (IsZero3 x → ⊥) → (u : Quad ℕ) × (inverse3 x ≡ some u) × (product3 x u ≡ number_in four 1)
  unfolding inverse3 product3
  inverse_there h =
      let some_word : laws.reduce (reduced x) ≡ field3.𝟘 → ⊥ = λ e. h (then_zero e) in
      let u = reciprocal field3 (reduced x) in
      (u, laws.inverse_found (reduced x) some_word, ap (λ (y : Quad ℕ). field3.◌⊗◌ (reduced x) y) (sym (reduce_is u)) ∙ laws.mul_reduce (reduced x) u ∙ laws.mul_inverse (reduced x) some_word ∙ one_is)
    where
      one_is : field3.𝟙 ≡ number_in four 1
      one_is = FieldIn.one_in four (prime_of 3)

  pub none_exactly : (inverse3 x ≡ none) ↔ IsZero3 x
  unfolding inverse3
  none_exactly = (λ e. words (λ h. let r = inverse_there h in some≢none r.0 (sym r.1 ∙ e)), λ z. laws.inverse_none (reduced x) (zero_then z))
    where
      stable : (n : ℕ) → ((n ≡ 0 → ⊥) → ⊥) → n ≡ 0
      stable n h = eqb-true n 0 (go (eqb n 0) refl)
        where
          go : (b : Bool) → eqb n 0 ≡ b → eqb n 0 ≡ true
          go true e = e
          go false e = absurd (h (λ z. true≢false (sym (eq-eqb n 0 z) ∙ e)))

      words : ((IsZero3 x → ⊥) → ⊥) → IsZero3 x
      words h = (stable _ (λ k. h (λ z. k z.0)), stable _ (λ k. h (λ z. k z.1)), stable _ (λ k. h (λ z. k z.2)), stable _ (λ k. h (λ z. k z.3)))

pub power_none : (x : Quad ℕ) → power3 x 0 ≡ number_in four 1
unfolding power3 power
power_none x = FieldIn.one_in four (prime_of 3)

pub power_next : (x : Quad ℕ) (e : ℕ) → power3 x (suc e) ≡ product3 x (power3 x e)
unfolding power3 power product3
power_next x e = ap (λ (y : Quad ℕ). field3.◌⊗◌ (reduced x) y) (sym (sym (reduce_is (power field3 (reduced x) e)) ∙ reduce_power field3 laws (reduced x) e))

pub power_turns : (x : Quad ℕ) (e : ℕ) → power_turns3 x e ≡ record { power = power3 x e; turns = binary_digits e }
unfolding power_turns3
power_turns x e = refl
