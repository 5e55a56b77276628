-- The number of binary digits of n: one more than that of its half, none for 0; it is the least d with n < 2^d.
use Rattle.std.specs.Prelude.{ℕ, zero, suc, ◌/◌, ◌^◌, ◌≤◌, ◌<◌, ◌≡◌, refl}
use Rattle.std.proofs.Common.{ap, ◌∙◌, pow-suc, arith}
use Rattle.std.proofs.Math.Nat.{pow-zero}
use Rattle.std.proofs.Math.Decide.{le_ind}
use Rattle.definition.specs.Field.{digits_within, binary_digits}

-- turns beyond the number's own size change nothing
more : (most n : ℕ) → n ≤ most → digits_within (suc most) n ≡ digits_within most n
unfolding digits_within
more zero zero h = refl
more zero (suc n) h = absurd (omega arith)
more (suc most) zero h = refl
more (suc most) (suc n) h = ap suc (more most (suc n / 2) (omega arith))

enough : (most n : ℕ) → n ≤ most → digits_within most n ≡ digits_within n n
enough most n h = le_ind (λ (m : ℕ). digits_within m n ≡ digits_within n n) refl (λ m k e. more m n k ∙ e) most h

pub digits_half : (n : ℕ) → 0 < n → binary_digits n ≡ suc (binary_digits (n / 2))
unfolding binary_digits digits_within
digits_half zero h = absurd (omega arith)
digits_half (suc n) h = ap suc (enough n (suc n / 2) (omega arith))

pub digits_none : (n : ℕ) → n ≡ 0 → binary_digits n ≡ 0
unfolding binary_digits digits_within
digits_none n e = ap binary_digits e

-- n is below 2^d exactly where it has at most d digits
pub digits_few : (d n : ℕ) → n < 2 ^ d → binary_digits n ≤ d
unfolding binary_digits digits_within
digits_few zero n h = omega (arith, pow-zero 2, digits_none n (omega (arith, pow-zero 2)))
digits_few (suc d) zero h = omega arith
digits_few (suc d) (suc n) h = omega (arith, digits_half (suc n) (omega arith), digits_few d (suc n / 2) (omega (arith, pow-suc 2 d)))

pub digits_many : (d n : ℕ) → binary_digits n ≤ d → n < 2 ^ d
digits_many zero zero h = omega (arith, pow-zero 2)
digits_many zero (suc n) h = absurd (omega (arith, digits_half (suc n) (omega arith)))
digits_many (suc d) zero h = omega (arith, digits_many d zero (omega (arith, digits_none 0 refl)), pow-suc 2 d)
digits_many (suc d) (suc n) h = omega (arith, digits_many d (suc n / 2) (omega (arith, digits_half (suc n) (omega arith))), pow-suc 2 d)
