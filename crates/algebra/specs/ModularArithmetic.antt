-- Products and powers modulo p, on natural numbers; and the prime field's power as a power modulo p.
use Rattle.std.specs.Prelude.{ℕ, zero, suc, ◌+◌, ◌*◌, ◌/◌, ◌%◌, ◌^◌, ◌<◌, ◌≡◌}
use Rattle.std.proofs.Math.Nat
use Rattle.std.proofs.Common.{pow-suc, mod-eq_of_lt, sym, ap, ◌∙◌, pow-add}
use Rattle.std.proofs.Math.Nat.{pow-zero, mod-add-div', add-mul-mod_self_right}
use Rattle.definition.specs.Field.{prime_field, power}

module _ (p : ℕ) where
  pub mod_mul : (x y : ℕ) → x % p * y % p ≡ x * y % p
  mod_mul x y =
      sym (add-mul-mod_self_right (x % p * y) (x / p * y) p)
      ∙ ap (λ (n : ℕ). n % p) (ap (λ (n : ℕ). x % p * y + n) swap ∙ sym (Nat.add-mul (x % p) (x / p * p) y) ∙ ap (λ (n : ℕ). n * y) (mod-add-div' x p))
    where
      swap : x / p * y * p ≡ x / p * p * y
      swap = Nat.mul_assoc (x / p) y p ∙ ap (λ (n : ℕ). x / p * n) (Nat.mul_comm y p) ∙ sym (Nat.mul_assoc (x / p) p y)

  pub mul_mod : (x y : ℕ) → x * (y % p) % p ≡ x * y % p
  mul_mod x y = ap (λ (n : ℕ). n % p) (Nat.mul_comm x (y % p)) ∙ mod_mul y x ∙ ap (λ (n : ℕ). n % p) (Nat.mul_comm y x)

pub pow_mod : (p x n : ℕ) → (x % p) ^ n % p ≡ x ^ n % p
pow_mod p x zero = ap (λ (m : ℕ). m % p) (pow-zero (x % p) ∙ sym (pow-zero x))
pow_mod p x (suc n) =
    ap (λ (m : ℕ). m % p) (pow-suc (x % p) n) ∙ mul_mod p ((x % p) ^ n) x ∙ sym (mod_mul p ((x % p) ^ n) x)
    ∙ ap (λ (m : ℕ). m * x % p) (pow_mod p x n) ∙ mod_mul p (x ^ n) x ∙ ap (λ (m : ℕ). m % p) (sym (pow-suc x n))

pub pow_pow : (x m n : ℕ) → (x ^ m) ^ n ≡ x ^ (m * n)
pow_pow x m zero = pow-zero (x ^ m) ∙ sym (ap (λ (k : ℕ). x ^ k) (Nat.mul-zero m) ∙ pow-zero x)
pow_pow x m (suc n) =
    pow-suc (x ^ m) n ∙ ap (λ (k : ℕ). k * x ^ m) (pow_pow x m n) ∙ sym (pow-add x (m * n) m) ∙ ap (λ (k : ℕ). x ^ k) (sym (Nat.mul-suc m n))

-- the field's power is the power modulo p
pub power_is : (p : ℕ) → 1 < p → (x n : ℕ) → power (prime_field p) x n ≡ x ^ n % p
unfolding power prime_field
power_is p big x zero = sym (ap (λ (m : ℕ). m % p) (pow-zero x) ∙ mod-eq_of_lt big)
power_is p big x (suc n) = ap (λ (m : ℕ). x * m % p) (power_is p big x n) ∙ mul_mod p x (x ^ n) ∙ ap (λ (m : ℕ). m % p) (Nat.mul_comm x (x ^ n) ∙ sym (pow-suc x n))
