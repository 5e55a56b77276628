-- The definition's power by squaring is x^n modulo p, for every x, n and p.
use Rattle.std.specs.Prelude.{ℕ, zero, suc, ◌+◌, ◌*◌, ◌/◌, ◌%◌, ◌^◌, ◌<◌, ◌≡◌}
use Rattle.std.proofs.Math.Nat
use Rattle.std.proofs.Common.{pow-suc, le_refl, arith, sym, ap, ◌∙◌, pow-add}
use Rattle.std.proofs.Math.Nat.{pow-zero, mod-mod}
use Rattle.definition.specs.Field.{binary_digits, squaring, power_mod}
use Rattle.algebra.specs.BinaryDigits.{digits_many}
use Rattle.algebra.specs.ModularArithmetic.{mul_mod, pow_mod}

square_pow : (x n : ℕ) → (x * x) ^ n ≡ x ^ (n + n)
square_pow x zero = pow-zero (x * x) ∙ sym (pow-zero x)
square_pow x (suc n) = pow-suc (x * x) n ∙ ap (λ (m : ℕ). m * (x * x)) (square_pow x n) ∙ sym (Nat.mul_assoc (x ^ (n + n)) x x)
    ∙ ap (λ (m : ℕ). m * x) (sym (pow-suc x (n + n))) ∙ sym (pow-suc x (suc (n + n))) ∙ ap (λ (m : ℕ). x ^ m) (next n)
  where
    next : (k : ℕ) → suc (suc (k + k)) ≡ suc k + suc k
    next k = omega arith

-- with as many turns as n has binary digits, or more
squaring_is : (turns x n p : ℕ) → n < 2 ^ turns → squaring turns x n p ≡ x ^ n % p
unfolding squaring
squaring_is zero x n p h =
    let z : n ≡ 0 = omega arith in
    sym (ap (λ (m : ℕ). x ^ m % p) z ∙ ap (λ (m : ℕ). m % p) (pow-zero x))
squaring_is (suc turns) x n p h =
    let whole : n % 2 + (n / 2 + n / 2) ≡ n = omega arith in
    ap (λ (m : ℕ). x ^ (n % 2) * m % p) (squaring_is turns (x * x % p) (n / 2) p (omega (arith, pow-suc 2 turns)) ∙ pow_mod p (x * x) (n / 2))
    ∙ mul_mod p (x ^ (n % 2)) ((x * x) ^ (n / 2))
    ∙ ap (λ (m : ℕ). m % p) (ap (λ (m : ℕ). x ^ (n % 2) * m) (square_pow x (n / 2)) ∙ sym (pow-add x (n % 2) (n / 2 + n / 2)) ∙ ap (λ (m : ℕ). x ^ m) whole)

pub power_mod_is : (x n p : ℕ) → power_mod x n p ≡ x ^ n % p
unfolding power_mod
power_mod_is x n p = squaring_is (binary_digits n) x n p (digits_many (binary_digits n) n (le_refl (binary_digits n)))

pub power_mod_reduced : (x n p : ℕ) → power_mod x n p % p ≡ power_mod x n p
power_mod_reduced x n p = ap (λ (m : ℕ). m % p) (power_mod_is x n p) ∙ mod-mod (x ^ n) p ∙ sym (power_mod_is x n p)
