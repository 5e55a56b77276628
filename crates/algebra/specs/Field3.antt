-- Field 3: a + bX + cX² + dX³ over p = 2013265921 with X⁴ = 11. It is a field, since 11 and -11 are no squares modulo p: their (p-1)/2-th powers are -1.
use Rattle.std.specs.Prelude.{ℕ, ◌+◌, ◌-◌, ◌*◌, ◌/◌, ◌%◌, ◌^◌, ◌<◌, ◌≡◌, refl}
use Rattle.std.proofs.Math.Nat
use Rattle.std.proofs.Math.Decide.{dec_lt}
use Rattle.std.proofs.Common.{arith, sym, ap, ◌∙◌, lit<}
use Rattle.definition.specs.Field.{Field, Quad, binary_digits, digits_within, embed, power_mod, prime_field, prime_of, quartic, reduced, squaring}
use Rattle.algebra.specs.Laws.{FieldLaws}
use Rattle.algebra.specs.ModularArithmetic.{mod_mul, mul_mod, pow_mod, pow_pow}
use Rattle.algebra.specs.Primes.{prime₂₀₁₃₂₆₅₉₂₁}
use Rattle.algebra.specs.Fermat.{fermat}
use Rattle.algebra.specs.PowerBySquaring.{power_mod_is}
use Rattle.algebra.specs.PrimeField.{prime_field_lem}
use Rattle.algebra.specs.Quadratic.{NoSquare}
use Rattle.algebra.specs.Quartic.{quartic_laws, quad_path}

abbrev pub base : Field ℕ
base = prime_field 2013265921

abbrev pub base_laws : FieldLaws base
base_laws = prime_field_lem 2013265921 prime₂₀₁₃₂₆₅₉₂₁

abbrev F₃ : Field (Quad ℕ)
F₃ = quartic base 11

-- Euler's criterion, one way: where y^((p-1)/2) is -1, y is no square. A root s would have s^(p-1) = -1, and s^p = s gives -s = s.
minus_itself : (s : ℕ) → s * 2013265920 % 2013265921 ≡ s % 2013265921 → s % 2013265921 ≡ 0
minus_itself s e =
    let sum : (s * 2013265920 + s) % 2013265921 ≡ 0 = omega arith in
    let twice : (s % 2013265921 + s % 2013265921) % 2013265921 ≡ 0 = ap (λ (n : ℕ). (n + s % 2013265921) % 2013265921) (sym e) ∙ sym (Nat.add-mod (s * 2013265920) s 2013265921) ∙ sum in
    half (s % 2013265921) (Nat.mod-lt s (lit< tt)) twice
  where
    half : (r : ℕ) → r < 2013265921 → (r + r) % 2013265921 ≡ 0 → r ≡ 0
    half r small e = go (dec_lt (r + r) 2013265921)
      where
        go : Dec (r + r < 2013265921) → r ≡ 0
        go (yes less) = let z : r + r ≡ 0 = sym (Nat.mod-eq_of_lt less) ∙ e in omega arith
        go (no more) =
            let less : r + r - 2013265921 < 2013265921 = omega arith in
            let rest : r + r - 2013265921 + 2013265921 ≡ r + r = omega arith in
            let none' : r + r - 2013265921 ≡ 0 = sym (Nat.mod-eq_of_lt less) ∙ sym (Nat.add-mod_right (r + r - 2013265921) 2013265921) ∙ ap (λ (n : ℕ). n % 2013265921) rest ∙ e in
            let whole : r + r ≡ 2013265921 = omega arith in
            let even : (r + r) % 2 ≡ 0 = omega arith in
            let odd : ◌≡◌ {A = ℕ} 1 0 = ap (λ (n : ℕ). n % 2) (sym whole) ∙ even in
            omega arith

square : (s : ℕ) → s ^ 2 ≡ s * s
square s = Nat.pow-suc s 1 ∙ ap (λ (n : ℕ). n * s) (Nat.pow-suc s 0 ∙ ap (λ (n : ℕ). n * s) (Nat.pow-zero s) ∙ Nat.one-mul s)

no_root : (y s : ℕ) → y ^ 1006632960 % 2013265921 ≡ 2013265920 → s * s % 2013265921 ≡ y % 2013265921 → y % 2013265921 ≡ 0
no_root y s power root =
    sym root ∙ sym (mod_mul p s s) ∙ ap (λ (n : ℕ). n * s % p) (minus_itself s minus) ∙ ap (λ (n : ℕ). n % p) (Nat.zero-mul s)
  where
    p : ℕ
    p = 2013265921

    -- s^(p-1) = (s²)^((p-1)/2) = y^((p-1)/2)
    top : s ^ 2013265920 % p ≡ 2013265920
    top =
        ap (λ (n : ℕ). n % p) (sym (pow_pow s 2 1006632960) ∙ ap (λ (n : ℕ). n ^ 1006632960) (square s))
        ∙ sym (pow_mod p (s * s) 1006632960) ∙ ap (λ (n : ℕ). n ^ 1006632960 % p) root ∙ pow_mod p y 1006632960 ∙ power

    minus : s * 2013265920 % p ≡ s % p
    minus = ap (λ (n : ℕ). s * n % p) (sym top) ∙ mul_mod p s (s ^ 2013265920) ∙ ap (λ (n : ℕ). n % p) (sym (Nat.pow-succ' s 2013265920)) ∙ fermat p prime₂₀₁₃₂₆₅₉₂₁ s

eleven : NoSquare base 11
unfolding prime_field digits_within binary_digits squaring power_mod
eleven s e = let z : ◌≡◌ {A = ℕ} 11 0 = no_root 11 s (sym (power_mod_is 11 1006632960 2013265921) ∙ refl) e in omega arith

minus_eleven : NoSquare base (base.◌⊖◌ base.𝟘 11)
unfolding prime_field digits_within binary_digits squaring power_mod
minus_eleven s e = let z : ◌≡◌ {A = ℕ} 2013265910 0 = no_root 2013265910 s (sym (power_mod_is 2013265910 1006632960 2013265921) ∙ refl) e in omega arith

-- Field 3 obeys the laws of a field, on every four words.
pub laws₃ : FieldLaws F₃
laws₃ = quartic_laws base base_laws 11 eleven minus_eleven

-- the spelling in range of four words
pub reduce₃ : (x : Quad ℕ) → laws₃.reduce x ≡ reduced x
unfolding quartic embed prime_field reduced prime_of
reduce₃ x =
    sym (laws₃.add_zero x)
    ∙ quad_path (ap (λ (n : ℕ). n % 2013265921) (Nat.add-zero x.a)) (ap (λ (n : ℕ). n % 2013265921) (Nat.add-zero x.b))
    (ap (λ (n : ℕ). n % 2013265921) (Nat.add-zero x.c)) (ap (λ (n : ℕ). n % 2013265921) (Nat.add-zero x.d))
