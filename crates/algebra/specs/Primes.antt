-- Primes: no number up to the square root divides p, by a test that computes; the three primes.
use Rattle.std.specs.Prelude.{ℕ, zero, suc, ◌+◌, ◌-◌, ◌*◌, ◌/◌, ◌%◌, ◌≤◌, ◌<◌, ◌≡◌, ◌≢◌, Bool, true, not, ◌&&◌, eqb, T}
use Rattle.std.proofs.Math.Nat
use Rattle.std.proofs.Common.{div-add-mod', mul-le-mul, arith, sym, ap, ◌∙◌, subst, T_not, lit<}
use Rattle.std.proofs.Math.Nat.{mul-mod_right}
use Rattle.std.proofs.Math.Decide.{dec_lt}
use Rattle.list_laws.specs.Booleans.{and_left, and_right}

-- p is prime: above 1, and divided by no number between 1 and p
pub record Prime (p : ℕ) : Type 0 where
  pub above_one : 1 < p
  pub indivisible : (d : ℕ) → 1 < d → d < p → p % d ≢ 0

-- none of from, from + 1, .., count numbers, divides p
unfoldable pub no_divisor : ℕ → ℕ → ℕ → Bool
no_divisor p from zero = true
no_divisor p from (suc count) = not (eqb (p % from) 0) && no_divisor p (suc from) count

no_divisor_lem : (p from count : ℕ) → T (no_divisor p from count) → (d : ℕ) → from ≤ d → d < from + count → p % d ≢ 0
unfolding no_divisor
no_divisor_lem p from zero t d l u e = omega arith
no_divisor_lem p from (suc count) t d l u e = go (dec_lt from d) (no_divisor_lem p (suc from) count (and_right (not (eqb (p % from) 0)) (no_divisor p (suc from) count) t) d)
  where
    go : Dec (from < d) → (suc from ≤ d → d < suc from + count → p % d ≢ 0) → ⊥
    go (yes h) r = r h (omega arith) e
    go (no h) r =
        let same : d ≡ from = omega arith in
        let z : p % from ≡ 0 = ap (λ (n : ℕ). p % n) (sym same) ∙ e in
        T_not (eqb (p % from) 0) (and_left (not (eqb (p % from) 0)) (no_divisor p (suc from) count) t) (subst (λ (n : ℕ). T (eqb n 0)) (sym z) tt)

-- a number below c * c that no number below c divides has no divisor at all
no_divisor_below : (p c : ℕ) → 1 < c → p < c * c → T (no_divisor p 2 (c - 2)) → (d : ℕ) → 1 < d → d < p → p % d ≢ 0
no_divisor_below p c hc hp t d l u e = go (dec_lt d c)
  where
    q : ℕ
    q = p / d

    parts : q * d ≡ p
    parts = omega (arith, div-add-mod' p d, e)

    divides : p % q ≡ 0
    divides = ap (λ (n : ℕ). n % q) (sym parts) ∙ mul-mod_right q d

    -- q = 0 and q = 1 would give p = 0 and p = d
    more : 1 < q
    more = go_more (dec_lt 1 q)
      where
        go_more : Dec (1 < q) → 1 < q
        go_more (yes h) = h
        go_more (no h) =
            let small : p / d ≤ 1 = omega arith in
            omega (arith, Nat.mul-le-mul_right d small, parts)

    go : Dec (d < c) → ⊥
    go (yes h) = no_divisor_lem p 2 (c - 2) t d l (omega arith) e
    go (no h) = no_divisor_lem p 2 (c - 2) t q more (below (dec_lt q c)) divides
      where
        below : Dec (p / d < c) → p / d < 2 + (c - 2)
        below (yes k) = omega arith
        below (no k) =
            let large : c ≤ p / d = omega arith in
            let wide : c ≤ d = omega arith in
            omega (arith, mul-le-mul large wide, parts)

-- trial division by all numbers below c
pub prime_test : (p c : ℕ) → 1 < p → 1 < c → p < c * c → T (no_divisor p 2 (c - 2)) → Prime p
prime_test p c big hc hp t = record { above_one = big; indivisible = no_divisor_below p c hc hp t }

pub prime₁₇ : Prime 17
unfolding no_divisor
prime₁₇ = prime_test 17 5 (lit< tt) (lit< tt) (lit< tt) tt

pub prime₆₅₅₃₇ : Prime 65537
unfolding no_divisor
prime₆₅₅₃₇ = prime_test 65537 257 (lit< tt) (lit< tt) (lit< tt) tt

pub prime₂₀₁₃₂₆₅₉₂₁ : Prime 2013265921
unfolding no_divisor
prime₂₀₁₃₂₆₅₉₂₁ = prime_test 2013265921 44870 (lit< tt) (lit< tt) (lit< tt) tt
