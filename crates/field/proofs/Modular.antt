-- Products of words fit. Assumes nothing.
use mathlib.Core.Path.{subst⁻¹}
use Prim.Native.Nat.{ℕ, ◌+◌, ◌*◌, ◌^◌, ◌<◌, ◌≤◌}
use native.Mathlib.Nat.{lt_of_le_of_lt, mul-le-mul_left, mul-le-mul_right, mul-lt-mul_of_pos_right, le_of_lt}
use native.Mathlib.Omega.{arith}
use lib.Pow.{pow-add, pow_pos}

-- The product of two numbers of k bits has 2k bits.
pub product_fits : (k : ℕ) {a b : ℕ} → a < 2 ^ k → b < 2 ^ k → a * b < 2 ^ (k + k)
product_fits k {a} {b} ha hb =
    subst⁻¹ (λ (n : ℕ). a * b < n) (pow-add 2 k k)
    (lt_of_le_of_lt (mul-le-mul_left a (le_of_lt hb)) (mul-lt-mul_of_pos_right ha (pow_pos k)))

-- And room for one number more.
pub product_and_one_fits : (k : ℕ) {a b c : ℕ} → a < 2 ^ k → b < 2 ^ k → c < 2 ^ k → a + b * c < 2 ^ (k + k)
product_and_one_fits k {a} {b} {c} ha hb hc =
    let n : ℕ = 2 ^ k in
    let less : b * c ≤ b * n = mul-le-mul_left b (le_of_lt hc) in
    let next : (1 + b) * n ≤ n * n = mul-le-mul_right n (omega (arith, hb)) in
    subst⁻¹ (λ (m : ℕ). a + b * c < m) (pow-add 2 k k) (omega arith)
