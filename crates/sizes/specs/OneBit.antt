-- A number with a single one bit is a power of two, and its trailing zeros are the logarithm.
use Rattle.std.specs.Prelude.{ℕ, zero, suc, ◌+◌, ◌/◌, ◌%◌, ◌^◌, ◌≤◌, ◌<◌, ◌≡◌, refl, Bool, true, false, eqb}
use Rattle.std.proofs.Common.{pow-suc, one-mul, add-zero, arith, sym, ap, ◌∙◌, true≢false, pow_mono, pow_pos, eq-eqb, ne_eqb}
use Rattle.std.proofs.Math.Nat.{pow-zero}
use Rattle.std.specs.Int.Count.{ones, ones_step, count_trailing_zeros, under}
use Rattle.std.proofs.lemmas.Nat.{ones_cat}
use Rattle.layouts.specs.SheetRules.{power_of_two_lem}
use Rattle.definition.specs.Sheet.{power_of_two}
use Rattle.list_laws.specs.Booleans.{is_false}
use Rattle.layouts.proofs.PlainSheet.{is_power}

half_below : (n k : ℕ) → n < 2 ^ suc k → n / 2 < 2 ^ k
half_below n k h = omega (arith, pow-suc 2 k)

-- no one bit: 0
no_bit : (k n : ℕ) → n < 2 ^ k → ones n ≡ 0 → n ≡ 0
no_bit zero n h e = omega (arith, pow-zero 2)
no_bit (suc k) n h e =
    let z : n / 2 ≡ 0 = no_bit k (n / 2) (half_below n k h) (omega (arith, ones_step n)) in
    omega (arith, ones_step n)

zero_ones : ones 0 ≡ 1 → ⊥
unfolding ones
zero_ones h = omega arith

pub one_bit : (k n : ℕ) → n < 2 ^ k → ones n ≡ 1 → n ≡ 2 ^ count_trailing_zeros k n
unfolding count_trailing_zeros
one_bit zero n h e = let z : n ≡ 0 = omega (arith, pow-zero 2) in absurd (zero_ones (ap ones (sym z) ∙ e))
one_bit (suc k) n h e = go (n % 2) refl (one_bit k (n / 2) (half_below n k h))
  where
    go : (r : ℕ) → n % 2 ≡ r → (ones (n / 2) ≡ 1 → n / 2 ≡ 2 ^ count_trailing_zeros k (n / 2)) → n ≡ 2 ^ under r (count_trailing_zeros k (n / 2))
    go zero q ih =
        let t : ℕ = count_trailing_zeros k (n / 2) in
        omega (arith, ih (omega (arith, ones_step n)), pow-suc 2 t)
    go (suc r) q ih =
        let z : n / 2 ≡ 0 = no_bit k (n / 2) (half_below n k h) (omega (arith, ones_step n)) in
        omega (arith, pow-zero 2)

pub power_ones : (k : ℕ) → ones (2 ^ k) ≡ 1
unfolding ones
power_ones k = ap ones (sym (add-zero (2 ^ k) ∙ refl)) ∙ ap (λ (x : ℕ). ones (x + 0)) (sym (one-mul (2 ^ k))) ∙ ones_cat k 1 0 (pow_pos k)

-- a power of two by the definition has one bit
pub power_one_bit : (x : ℕ) → power_of_two x ≡ true → ones x ≡ 1
power_one_bit x e = let q = power_of_two_lem x e in ap ones q.2 ∙ power_ones q.0

-- and is at most 4096
pub power_small : (x : ℕ) → power_of_two x ≡ true → x ≤ 4096
power_small x e =
    let q = power_of_two_lem x e in
    let l : q.0 ≤ 12 = omega (arith, q.1) in
    omega (arith, q.2, pow_mono l)

-- Up to 4096 the ones count decides.
pub one_bit_power : (x : ℕ) → x ≤ 4096 → ones x ≡ 1 → power_of_two x ≡ true
one_bit_power x h e = is_power x (count_trailing_zeros 32 x) (one_bit 32 x (omega arith) e) h

pub power_of_two_large : (x : ℕ) → 4096 < x → power_of_two x ≡ false
power_of_two_large x h = is_false (power_of_two x) (λ e. omega (arith, power_small x e))

pub power_of_two_ones : (x : ℕ) → x ≤ 4096 → eqb (ones x) 1 ≡ power_of_two x
power_of_two_ones x h = go (power_of_two x) refl
  where
    go : (b : Bool) → power_of_two x ≡ b → eqb (ones x) 1 ≡ b
    go true e = eq-eqb (ones x) 1 (power_one_bit x e)
    go false e = ne_eqb (ones x) 1 (λ o. let z : true ≡ false = sym (one_bit_power x h o) ∙ e in true≢false z)
