-- The prime field obeys the laws of a field, for ANY prime p and on every word; the three fields of the definition, and what fits them.
use Rattle.std.specs.Prelude.{ℕ, zero, suc, ◌+◌, ◌-◌, ◌*◌, ◌/◌, ◌%◌, ◌^◌, ◌<◌, ◌≡◌, refl, Bool, true, false, eqb, T}
use Rattle.std.proofs.Math.Nat
use Rattle.std.proofs.Math.Nat.{mod-add-mod, add-mod-mod, mod-mod, mod_self, zero-mod}
use Rattle.std.proofs.Common.{mod-lt, mod-eq_of_lt, div-add-mod', arith, sym, ap, ◌∙◌, subst, eqb→eq, lit<, eq-eqb, ne_eqb}
use Rattle.std.proofs.Math.Dec.{eqb_refl}
use Rattle.std.proofs.Math.Option.{some}
use Rattle.definition.specs.Field.{digits_within, binary_digits, squaring, power_mod, prime_field, found_or, reciprocal, power, field_of, prime_of, generator_of}
use Rattle.algebra.specs.Laws.{FieldLaws}
use Rattle.algebra.specs.ModularArithmetic.{mod_mul, mul_mod, pow_mod, pow_pow, power_is}
use Rattle.algebra.specs.Primes.{Prime, prime₁₇, prime₆₅₅₃₇, prime₂₀₁₃₂₆₅₉₂₁}
use Rattle.algebra.specs.Fermat.{fermat_inverse}
use Rattle.algebra.specs.PowerBySquaring.{power_mod_is}
use Rattle.algebra.specs.RootsOfUnity.{minus_one}

T_true : (b : Bool) → T b → b ≡ true
T_true true t = refl
T_true false t = absurd t

-- where there is an inverse, it is x^(p-2)
found_value : (p x : ℕ) → (x % p ≡ 0 → ⊥) → reciprocal (prime_field p) x ≡ x ^ (p - 2) % p
unfolding prime_field reciprocal found_or
found_value p x h = rw (ne_eqb (x % p) 0 h) (power_mod_is x (p - 2) p)

pub prime_field_lem : (p : ℕ) → Prime p → FieldLaws (prime_field p)
unfolding prime_field
prime_field_lem p prime = record {
  reduce = λ x. x % p;
  add_comm = λ x y. ap (λ (n : ℕ). n % p) (Nat.add_comm x y);
  add_assoc = λ x y z. mod-add-mod (x + y) p z ∙ ap (λ (n : ℕ). n % p) (Nat.add_assoc x y z) ∙ sym (add-mod-mod x (y + z) p);
  mul_comm = λ x y. ap (λ (n : ℕ). n % p) (Nat.mul_comm x y);
  mul_assoc = λ x y z. mod_mul p (x * y) z ∙ ap (λ (n : ℕ). n % p) (Nat.mul_assoc x y z) ∙ sym (mul_mod p x (y * z));
  mul_add = λ x y z. mul_mod p x (y + z) ∙ ap (λ (n : ℕ). n % p) (Nat.mul-add x y z) ∙ sym (add-mod-mod (x * y % p) (x * z) p ∙ mod-add-mod (x * y) p (x * z));
  add_zero = λ x. ap (λ (n : ℕ). n % p) (Nat.add-zero x);
  mul_one = λ x. ap (λ (n : ℕ). n % p) (Nat.mul-one x);
  mul-zero = λ x. ap (λ (n : ℕ). n % p) (Nat.mul-zero x) ∙ zero-mod p;
  sub_def = λ x y. ap (λ (n : ℕ). (x + n) % p) (sym (Nat.zero-add (p - y % p))) ∙ sym (add-mod-mod x (0 + (p - y % p)) p);
  neg_add = λ x. mod-add-mod (0 + (p - x % p)) p x ∙ sym (add-mod-mod (0 + (p - x % p)) x p) ∙ ap (λ (n : ℕ). n % p) (below x) ∙ mod_self p;
  reduce_zero = zero-mod p;
  reduce_one = mod-eq_of_lt prime.above_one;
  reduce_add = λ x y. mod-mod (x + y) p;
  reduce_mul = λ x y. mod-mod (x * y) p;
  add_reduce = λ x y. add-mod-mod x y p;
  mul_reduce = λ x y. mul_mod p x y;
  equal_refl = λ x. T_true (eqb x x) (eqb_refl x);
  equal_true = λ x y e. eqb→eq x y (subst (λ (b : Bool). T b) (sym e) tt);
  one≢zero = λ e. let z : ◌≡◌ {A = ℕ} 1 0 = e in omega arith;
  mul_inverse = λ x h. ap (λ (y : ℕ). x * y % p) (found_value p x h) ∙ fermat_inverse p prime x h;
  inverse_found = λ x h. rw (found_value p x h, ne_eqb (x % p) 0 h) (ap some (power_mod_is x (p - 2) p));
  inverse_none = λ x h. simp (eq-eqb (x % p) 0 h);
}
  where
    below : (x : ℕ) → 0 + (p - x % p) + x % p ≡ p
    below x = let h : x % p < p = mod-lt x (omega (arith, prime.above_one)) in omega arith

-- in a prime field with more than two elements -1 is p - 1, and not 1
minus_one_lem : (p : ℕ) → 2 < p → minus_one (prime_field p) ≡ p - 1
unfolding minus_one prime_field
minus_one_lem p large =
    let big : 1 < p = omega arith in
    let less : p - 1 < p = omega arith in
    ap (λ (m : ℕ). (0 + (p - m)) % p) (mod-eq_of_lt big) ∙ ap (λ (m : ℕ). m % p) (Nat.zero-add (p - 1)) ∙ mod-eq_of_lt less

pub signs_differ : (p : ℕ) → 2 < p → minus_one (prime_field p) ≡ (prime_field p).𝟙 → ⊥
unfolding prime_field
signs_differ p large e = let z : p - 1 ≡ 1 = sym (minus_one_lem p large) ∙ e in omega arith

-- g fits p: g^((p-1)/2) = -1
abbrev pub Fits : ℕ → ℕ → Type 0
Fits p g = g ^ ((p - 1) / 2) % p ≡ p - 1

-- ω = g^((p-1)/n) has ω^(n/2) = -1, where g fits p and the even number n divides p - 1
pub fitting_root : (p g h : ℕ) → 2 < p → Fits p g → (p - 1) % (h + h) ≡ 0 → power (prime_field p) (g ^ ((p - 1) / (h + h)) % p) h ≡ minus_one (prime_field p)
fitting_root p g h large fits divides =
    let q = (p - 1) / (h + h) in
    let half : q * h ≡ (p - 1) / 2 = omega (arith, div-add-mod' (p - 1) (h + h), Nat.mul-add q h h, divides) in
    let big : 1 < p = omega arith in
    power_is p big (g ^ q % p) h ∙ pow_mod p (g ^ q) h ∙ ap (λ (m : ℕ). m % p) (pow_pow g q h ∙ ap (λ (m : ℕ). g ^ m) half) ∙ fits ∙ sym (minus_one_lem p large)

-- What the definition asks of a field: a prime above 2 whose elements are words, and a generator that fits it.
pub record Suited (p g : ℕ) : Type 0 where
  pub prime : Prime p
  pub large : 2 < p
  pub small : p < 4294967296
  pub fits : Fits p g

-- by squaring, since g^((p-1)/2) itself is too large a number
fits_by : (p g h : ℕ) → power_mod g h p ≡ p - 1 → g ^ h % p ≡ p - 1
fits_by p g h e = sym (power_mod_is g h p) ∙ e

suited₀ : Suited 17 3
suited₀ = record { prime = prime₁₇; large = lit< tt; small = lit< tt; fits = refl }

suited₁ : Suited 65537 3
unfolding digits_within binary_digits squaring power_mod
suited₁ = record { prime = prime₆₅₅₃₇; large = lit< tt; small = lit< tt; fits = fits_by 65537 3 ((65537 - 1) / 2) refl }

suited₂ : Suited 2013265921 31
unfolding digits_within binary_digits squaring power_mod
suited₂ = record { prime = prime₂₀₁₃₂₆₅₉₂₁; large = lit< tt; small = lit< tt; fits = fits_by 2013265921 31 ((2013265921 - 1) / 2) refl }

-- each field number has a suited prime and generator
pub suited : (field : ℕ) → Suited (prime_of field) (generator_of field)
unfolding prime_of generator_of
suited zero = suited₀
suited (suc zero) = suited₁
suited (suc (suc field)) = suited₂

-- The three fields obey the laws of a field.
pub laws : (field : ℕ) → FieldLaws (field_of field)
unfolding field_of
laws field = prime_field_lem (prime_of field) (suited field).prime

-- In each of them -1 differs from 1.
pub opposite_signs : (field : ℕ) → minus_one (field_of field) ≡ (field_of field).𝟙 → ⊥
unfolding field_of
opposite_signs field = signs_differ (prime_of field) (suited field).large
