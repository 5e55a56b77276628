-- Powers of a root of unity ω with ω^(n/2) = -1, n a power of two, in any field where -1 is not 1: those below n are pairwise different, and odd and even powers differ.
use Rattle.std.specs.Prelude.{ℕ, zero, suc, ◌+◌, ◌-◌, ◌*◌, ◌^◌, ◌<◌, ◌≡◌, map}
use Rattle.std.proofs.Math.Nat
use Rattle.std.proofs.Common.{mul-suc, mul-zero, pow-suc, arith, pow_pos, ap, ◌∙◌, subst}
use Rattle.std.proofs.Math.Path.{refl, sym}
use Rattle.definition.specs.Field.{Field, power}
use Rattle.definition.specs.Lists.{range}
use Rattle.algebra.specs.Laws.{FieldLaws}
use Rattle.algebra.specs.RingLaws.{neg_one, neg_unique, power_add, reduce_power, reduce_sub, sub_zero}
use Rattle.algebra.specs.Different.{Differ, Apart, apart_range}

-- a number is even or odd
pub data Half : ℕ → Type 0 where
  even : (d : ℕ) → Half (d + d)
  odd : (d : ℕ) → Half (suc (d + d))

pub half : (n : ℕ) → Half n
half zero = even 0
half (suc n) = elim (half n) as (λ m (x : Half m). Half (suc m)) [ even d ↦ odd d | odd d ↦ subst Half (next d) (even (suc d)) ]
  where
    next : (d : ℕ) → suc d + suc d ≡ suc (suc (d + d))
    next d = omega arith

module _ {A : Type 0} (F : Field A) where
  infixl 65 ◌⊖◌
  open F use {𝟘, 𝟙, ◌⊖◌}

  -- -1
  unfoldable pub minus_one : A
  minus_one = 𝟘 ⊖ 𝟙

module _ {A : Type 0} (F : Field A) (L : FieldLaws F) where
  infixl 65 ◌⊖◌
  infixl 70 ◌⊗◌
  open F use {𝟘, 𝟙, ◌⊖◌, ◌⊗◌}
  open L use {reduce, add_comm, mul_comm, mul_assoc, mul_one, mul-zero, neg_add, reduce_one}

  pub power_suc : (x : A) (n : ℕ) → power F x (suc n) ≡ x ⊗ power F x n
  unfolding power
  power_suc x n = refl

  pub power_zero : (x : A) → power F x 0 ≡ 𝟙
  unfolding power
  power_zero x = refl

  one_times : (x : A) (n : ℕ) → 𝟙 ⊗ power F x n ≡ power F x n
  one_times x n = mul_comm 𝟙 _ ∙ mul_one _ ∙ reduce_power F L x n

  pub power_mul : (x : A) (m n : ℕ) → power F (power F x m) n ≡ power F x (m * n)
  power_mul x m zero = rw (Nat.mul-zero, power_zero, power_zero)
  power_mul x m (suc n) = rw (power_suc (power F x m) n, power_mul x m n, ← power_add F L, mul-suc, Nat.add_comm m (m * n))

  pub power_one : (n : ℕ) → power F 𝟙 n ≡ 𝟙
  power_one zero = power_zero 𝟙
  power_one (suc n) = rw (power_suc 𝟙 n, power_one n, mul_one, reduce_one)

  pub minus_square : minus_one F ⊗ minus_one F ≡ 𝟙
  unfolding minus_one
  minus_square = neg_one F L (𝟘 ⊖ 𝟙) ∙ sym (neg_unique F L 𝟙 (𝟘 ⊖ 𝟙) (add_comm 𝟙 _ ∙ neg_add 𝟙)) ∙ reduce_one

  pub minus_reduced : reduce (minus_one F) ≡ minus_one F
  unfolding minus_one
  minus_reduced = reduce_sub F L 𝟘 𝟙

  three : (d : ℕ) → suc (suc d + suc d) ≡ suc (suc (suc (d + d)))
  three d = omega arith

  -- (-1)^(2d+1) = -1
  minus_odd : (d : ℕ) → power F (minus_one F) (suc (d + d)) ≡ minus_one F
  minus_odd zero = power_suc (minus_one F) 0 ∙ rw (power_zero, mul_one) minus_reduced
  minus_odd (suc d) =
      ap (power F (minus_one F)) (three d) ∙ power_suc (minus_one F) (suc (suc (d + d)))
      ∙ rw (power_suc (minus_one F) (suc (d + d)), minus_odd d, minus_square, mul_one) minus_reduced

  size : (n : ℕ) → 0 < n → suc (n + n - 1) ≡ n + n
  size n h = omega arith

  two_times : (d : ℕ) → 2 * d ≡ d + d
  two_times d = omega arith

  module _ (distinct-signs : minus_one F ≡ 𝟙 → ⊥) where
    -- an odd power of ω is not 1 where some power of ω is -1
    pub odd_power : (ω : A) (h d : ℕ) → power F ω h ≡ minus_one F → power F ω (suc (d + d)) ≡ 𝟙 → ⊥
    odd_power ω h d e z = distinct-signs
        (sym (minus_odd d) ∙ ap (λ (y : A). power F y (suc (d + d))) (sym e) ∙ power_mul ω h (suc (d + d)) ∙ ap (power F ω) (Nat.mul_comm h (suc (d + d)))
        ∙ sym (power_mul ω (suc (d + d)) h) ∙ ap (λ (y : A). power F y h) z ∙ power_one h)

    -- no lower power of ω is 1
    pub nontrivial : (e : ℕ) (ω : A) (c : ℕ) → Half c → power F ω (2 ^ e) ≡ minus_one F → 0 < c → c < 2 ^ e + 2 ^ e → power F ω c ≡ 𝟙 → ⊥
    nontrivial zero ω c (even d) h l u z = omega arith
    nontrivial zero ω c (odd d) h l u z = odd_power ω (2 ^ 0) d h z
    nontrivial (suc e) ω c (even d) h l u z =
        nontrivial e (power F ω 2) d (half d)
        (power_mul ω 2 (2 ^ e) ∙ ap (power F ω) (Nat.mul_comm 2 (2 ^ e) ∙ sym (pow-suc 2 e)) ∙ h) (omega arith) (omega (arith, pow-suc 2 e))
        (power_mul ω 2 d ∙ ap (power F ω) (two_times d) ∙ z)
    nontrivial (suc e) ω c (odd d) h l u z = odd_power ω (2 ^ suc e) d h z

    -- powers with different exponents less than n apart differ
    pub powers_differ : (e : ℕ) (ω : A) (a c : ℕ) → power F ω (2 ^ e) ≡ minus_one F → 0 < c → c < 2 ^ e + 2 ^ e → Differ F (power F ω (a + c)) (power F ω a)
    powers_differ e ω a c h l u z = nontrivial e ω c (half c) h l u
        (sym (one_times ω c) ∙ ap (λ (y : A). y ⊗ power F ω c) (sym unit) ∙ mul_assoc _ _ _
        ∙ ap (λ (y : A). power F ω (a * m) ⊗ y) (sym (power_add F L ω a c) ∙ same) ∙ unit)
      where
        m : ℕ
        m = 2 ^ e + 2 ^ e - 1

        full : power F ω (suc m) ≡ 𝟙
        full = ap (power F ω) (size (2 ^ e) (pow_pos e)) ∙ power_add F L ω (2 ^ e) (2 ^ e) ∙ rw h minus_square

        unit : power F ω (a * m) ⊗ power F ω a ≡ 𝟙
        unit = sym (power_add F L ω (a * m) a) ∙ ap (power F ω) (sym (mul-suc a m) ∙ Nat.mul_comm a (suc m)) ∙ sym (power_mul ω (suc m) a) ∙ ap (λ (y : A). power F y a) full ∙ power_one a

        same : power F ω (a + c) ≡ power F ω a
        same = sym (reduce_power F L ω (a + c)) ∙ sub_zero F L (power F ω (a + c)) (power F ω a) z ∙ reduce_power F L ω a

    minus_even : (d : ℕ) → power F (minus_one F) (d + d) ≡ 𝟙
    minus_even d = ap (power F (minus_one F)) (sym (two_times d)) ∙ sym (power_mul (minus_one F) 2 d) ∙ ap (λ (y : A). power F y d) square ∙ power_one d
      where
        square : power F (minus_one F) 2 ≡ 𝟙
        square = power_suc (minus_one F) 1 ∙ ap (λ (y : A). (minus_one F) ⊗ y) (minus_odd 0) ∙ minus_square

    -- an odd power of ω and an even one differ: a domain's points and the shift points before it (000, Remark 5.3)
    pub odd_even_differ : (ω : A) (h d c : ℕ) → power F ω h ≡ minus_one F → Differ F (power F ω (suc (d + d))) (power F ω (c + c))
    odd_even_differ ω h d c e z = distinct-signs (sym (raised (suc (d + d)) (minus_odd d)) ∙ ap (λ (y : A). power F y h) same ∙ raised (c + c) (minus_even c))
      where
        raised : (n : ℕ) {v : A} → power F (minus_one F) n ≡ v → power F (power F ω n) h ≡ v
        raised n k = power_mul ω n h ∙ ap (power F ω) (Nat.mul_comm n h) ∙ sym (power_mul ω h n) ∙ ap (λ (y : A). power F y n) e ∙ k

        same : power F ω (suc (d + d)) ≡ power F ω (c + c)
        same = sym (reduce_power F L ω (suc (d + d))) ∙ sub_zero F L _ _ z ∙ reduce_power F L ω (c + c)

    -- THE POWERS OF ω BELOW n ARE PAIRWISE DIFFERENT, n = 2^(e+1)
    pub powers_apart : (e : ℕ) (ω : A) → power F ω (2 ^ e) ≡ minus_one F → Apart F (map (power F ω) (range 0 (2 ^ e + 2 ^ e)))
    powers_apart e ω h = apart_range F L (power F ω) 0 (2 ^ e + 2 ^ e) (λ a c u k. powers_differ e ω a c h k (below a c u))
      where
        below : (a c : ℕ) → a + c < 0 + (2 ^ e + 2 ^ e) → c < 2 ^ e + 2 ^ e
        below a c u = omega arith
