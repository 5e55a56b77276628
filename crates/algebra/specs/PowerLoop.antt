-- The loop of a power by squaring, over any field with the laws: what stands between two turns, and what a turn keeps. The loop for a^e has a result r, a base b,
-- the exponent n that is left, and the turns made so far.
use Prim.Native.Nat.{ℕ, zero, suc, ◌+◌, ◌/◌, ◌%◌, ◌^◌, ◌<◌}
use Rattle.std.proofs.Math.Nat as N
use native.Mathlib.Omega.{arith}
use Rattle.std.specs.Prelude.{◌≡◌}
use Rattle.std.proofs.Math.Path.{refl, sym, ap}
use Rattle.std.proofs.Common.{◌∙◌}
use Rattle.definition.specs.Field.{Field, power, binary_digits}
use Rattle.algebra.specs.BinaryDigits.{digits_half, digits_none, digits_few}
use Rattle.algebra.specs.Laws.{FieldLaws}
use Rattle.algebra.specs.RingLaws.{one_mul, reduce_power}

module _ {A : Type 0} (F : Field A) (L : FieldLaws F) where
  infixl 70 ◌⊗◌
  open F use {𝟙, ◌⊗◌}
  open L use {reduce, mul_assoc, mul_one, reduce_one, reduce_mul}

  -- r is reduced, what is to be multiplied to it is b^n, and as many turns are left as n has binary digits
  pub record Turn (a : A) (e : ℕ) (r b : A) (n turns : ℕ) : Type 0 where
    pub reduced : reduce r ≡ r
    pub left : r ⊗ power F b n ≡ power F a e
    pub counted : turns + binary_digits n ≡ binary_digits e

  power_square : (b : A) (n : ℕ) → power F (b ⊗ b) n ≡ power F b (n + n)
  unfolding power
  power_square b zero = refl
  power_square b (suc n) =
      ap (λ (v : A). (b ⊗ b) ⊗ v) (power_square b n) ∙ mul_assoc b b (power F b (n + n)) ∙ ap (λ (m : ℕ). power F b m) (next n)
    where
      next : (k : ℕ) → suc (suc (k + k)) ≡ suc k + suc k
      next k = omega arith

  pub turn_first : (a : A) (e : ℕ) → Turn a e 𝟙 a e 0
  turn_first a e = record { reduced = reduce_one; left = one_mul F L (power F a e) ∙ reduce_power F L a e; counted = N.zero-add (binary_digits e) }

  pub turn_even : {a r b r' b' : A} {e n turns turns' : ℕ} → Turn a e r b n turns → 0 < n → (n % 2 ≡ 1 → ⊥) → r' ≡ r → b' ≡ b ⊗ b → turns' ≡ turns + 1 →
      Turn a e r' b' (n / 2) turns'
  turn_even {a} {r} {b} {n = n} t some even er eb et =
      let whole : n / 2 + n / 2 ≡ n = omega arith in
      rw (er, eb) (record {
        reduced = t.reduced;
        left = ap (λ (v : A). r ⊗ v) (power_square b (n / 2) ∙ ap (λ (m : ℕ). power F b m) whole) ∙ t.left;
        counted = omega (arith, t.counted, digits_half n some);
      })

  pub turn_odd : {a r b r' b' : A} {e n turns turns' : ℕ} → Turn a e r b n turns → n % 2 ≡ 1 → r' ≡ r ⊗ b → b' ≡ b ⊗ b → turns' ≡ turns + 1 →
      Turn a e r' b' (n / 2) turns'
  unfolding power
  turn_odd {a} {r} {b} {n = n} t odd er eb et =
      let whole : suc (n / 2 + n / 2) ≡ n = omega arith in
      rw (er, eb) (record {
        reduced = reduce_mul r b;
        left = mul_assoc r b (power F (b ⊗ b) (n / 2)) ∙ ap (λ (v : A). r ⊗ (b ⊗ v)) (power_square b (n / 2)) ∙ ap (λ (m : ℕ). r ⊗ power F b m) whole ∙ t.left;
        counted = omega (arith, t.counted, digits_half n (omega arith));
      })

  -- where no one bit of the exponent is left, r is the power, and the turns are as many as the exponent has binary digits
  pub turn_last : {a r b : A} {e n turns : ℕ} → Turn a e r b n turns → n ≡ 0 → r ≡ power F a e
  unfolding power
  turn_last {a} {r} {b} t z = sym (ap (λ (m : ℕ). r ⊗ power F b m) z ∙ mul_one r ∙ t.reduced) ∙ t.left

  pub turns_last : {a r b : A} {e n turns : ℕ} → Turn a e r b n turns → n ≡ 0 → turns ≡ binary_digits e
  turns_last {n = n} t z = omega (arith, t.counted, digits_none n z)

  -- an exponent of d bits has at most d turns
  pub turns_few : {a r b : A} {e n turns : ℕ} (d : ℕ) → Turn a e r b n turns → 0 < n → e < 2 ^ d → turns < d
  turns_few {e = e} {n = n} d t some h = omega (arith, t.counted, digits_half n some, digits_few d e h)
