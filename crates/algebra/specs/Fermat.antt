-- Euclid's lemma and Fermat's theorem for any prime p, on natural numbers and `% p`; so x^(p-2) is the inverse of x.
use Prim.Native.Nat.{ℕ, zero, suc, ◌+◌, ◌-◌, ◌*◌, ◌/◌, ◌%◌, ◌^◌, ◌≤◌, ◌<◌}
use Rattle.std.proofs.Math.Nat
use Rattle.std.proofs.Common.{pow-suc, mod-lt, div-add-mod', not-suc-le-zero, pos_of_ne-zero, mul-pos, le_of_lt, one-add, arith, sym, ◌∙◌, subst}
use Rattle.std.proofs.Math.Nat.{pow-zero, mod-add-mod, add-mod-mod, mod-eq_of_lt, zero-mod, mul-mod_right}
use Rattle.std.specs.Prelude.{◌≡◌, refl, ◌≢◌}
use Rattle.std.proofs.Math.Path.{ap}
use Rattle.algebra.specs.Primes.{Prime}
use Rattle.algebra.specs.ModularArithmetic.{mod_mul, mul_mod}

-- the entries of Pascal's triangle
binomial : ℕ → ℕ → ℕ
binomial n zero = 1
binomial zero (suc k) = 0
binomial (suc n) (suc k) = binomial n k + binomial n (suc k)

binomial_above : (n k : ℕ) → binomial n (suc (n + k)) ≡ 0
unfolding binomial
binomial_above zero k = refl
binomial_above (suc n) k = λ i. (ap (binomial n) (Nat.suc-add n k) ∙ binomial_above n k) i + (ap (λ (m : ℕ). binomial n (suc m)) (shift n k) ∙ binomial_above n (suc k)) i
  where
    shift : (n k : ℕ) → suc n + k ≡ n + suc k
    shift n k = omega arith

binomial_self : (n : ℕ) → binomial n n ≡ 1
unfolding binomial
binomial_self zero = refl
binomial_self (suc n) = λ i. binomial_self n i + (ap (λ (m : ℕ). binomial n (suc m)) (sym (Nat.add-zero n)) ∙ binomial_above n 0) i

absorb_step : (k n a b c : ℕ) → suc k * (a + b) ≡ suc n * a → suc (suc k) * (b + c) ≡ suc n * b → suc (suc k) * (a + b + (b + c)) ≡ suc (suc n) * (a + b)
absorb_step k n a b c e₁ e₂ =
    Nat.mul-add (suc (suc k)) (a + b) (b + c) ∙ (λ i. (Nat.suc-mul (suc k) (a + b) ∙ ap (λ (m : ℕ). m + (a + b)) e₁) i + e₂ i)
    ∙ turn (suc n * a) (a + b) (suc n * b) ∙ ap (λ (m : ℕ). m + (a + b)) (sym (Nat.mul-add (suc n) a b)) ∙ sym (Nat.suc-mul (suc n) (a + b))
  where
    turn : (x y z : ℕ) → x + y + z ≡ x + z + y
    turn x y z = omega arith

-- (k+1) C(n+1, k+1) = (n+1) C(n, k)
absorb : (n k : ℕ) → suc k * binomial (suc n) (suc k) ≡ suc n * binomial n k
unfolding binomial
absorb zero zero = refl
absorb zero (suc k) = Nat.mul-zero (suc (suc k))
absorb (suc n) zero = omega (arith, absorb n zero)
absorb (suc n) (suc k) = absorb_step k n (binomial n k) (binomial n (suc k)) (binomial n (suc (suc k))) (absorb n k) (absorb n (suc k))

-- the sum of C(n, k) a^k, k below m
partial : ℕ → ℕ → ℕ → ℕ
partial n a zero = 0
partial n a (suc m) = partial n a m + binomial n m * a ^ m

partial_step : (n a m : ℕ) → partial (suc n) a (suc m) ≡ partial n a (suc m) + a * partial n a m
unfolding partial binomial
partial_step n a zero = omega (arith, Nat.mul-zero a)
partial_step n a (suc m) =
    grow (partial (suc n) a (suc m)) (partial n a (suc m)) (partial n a m) (binomial n m) (binomial n (suc m)) (partial_step n a m)
  where
    grow : (s t u b c : ℕ) → s ≡ t + a * u → s + (b + c) * a ^ suc m ≡ t + c * a ^ suc m + a * (u + b * a ^ m)
    grow s t u b c e =
        omega (arith, Nat.add-mul b c (a ^ suc m), Nat.mul-add a u (b * a ^ m), Nat.mul_left_comm a b (a ^ m), ap (λ (x : ℕ). b * x) (Nat.pow-succ' a m))

binomial_theorem : (n a : ℕ) → partial n a (suc n) ≡ suc a ^ n
unfolding partial binomial
binomial_theorem zero a = omega (arith, pow-zero a, pow-zero (suc a))
binomial_theorem (suc n) a =
    partial_step n a (suc n)
    ∙ last (partial n a (suc n)) (binomial n (suc n)) (a ^ suc n) (suc a ^ n) (binomial_theorem n a) (ap (λ (m : ℕ). binomial n (suc m)) (sym (Nat.add-zero n)) ∙ binomial_above n 0)
    ∙ sym (pow-suc (suc a) n)
  where
    last : (t b x y : ℕ) → t ≡ y → b ≡ 0 → t + b * x + a * t ≡ y * suc a
    last t b x y e z = omega (arith, ap (λ (m : ℕ). m * x) z, Nat.zero-mul x, ap (λ (m : ℕ). a * m) e, Nat.mul-suc y a, Nat.mul_comm a y)

power_pos : (x n : ℕ) → 0 < x → 0 < x ^ n
power_pos x zero h = omega (arith, pow-zero x)
power_pos x (suc n) h = subst (λ (m : ℕ). 0 < m) (sym (pow-suc x n)) (mul-pos (power_pos x n h) h)

next : (b : ℕ) → 0 < b → suc (b - 1) ≡ b
next b h = omega arith

lt_trans' : {p : ℕ} → 1 < p → 0 < p
lt_trans' h = omega arith

-- the last term of the whole sum
module _ (p : ℕ) where
  top : (a : ℕ) → partial p a (suc p) ≡ partial p a p + 1 * a ^ p
  unfolding partial
  top a = ap (λ (n : ℕ). partial p a p + n * a ^ p) (binomial_self p)

module _ (p : ℕ) (prime : Prime p) where
  big : 1 < p
  big = prime.above_one

  rest_zero : (x y : ℕ) → x % p ≡ 0 → (x + y) % p ≡ 0 → y % p ≡ 0
  rest_zero x y ex e = ap (λ (n : ℕ). n % p) (sym (Nat.zero-add y)) ∙ ap (λ (n : ℕ). (n + y) % p) (sym ex) ∙ mod-add-mod x p y ∙ e

  times_zero : (x y : ℕ) → y % p ≡ 0 → x * y % p ≡ 0
  times_zero x y e = sym (mul_mod p x y) ∙ ap (λ (n : ℕ). x * n % p) e ∙ ap (λ (n : ℕ). n % p) (Nat.mul-zero x) ∙ zero-mod p

  -- Euclid's lemma, by descent from a to p % a: a prime that divides a * b, 0 < a < p, divides b
  euclid : (fuel a b : ℕ) → a ≤ fuel → 0 < a → a < p → a * b % p ≡ 0 → b % p ≡ 0
  euclid zero a b h l u e = absurd (not-suc-le-zero (Nat.le_trans l h))
  euclid (suc fuel) zero b h l u e = absurd (not-suc-le-zero l)
  euclid (suc fuel) (suc zero) b h l u e = ap (λ (n : ℕ). n % p) (sym (Nat.one-mul b)) ∙ e
  euclid (suc fuel) (suc (suc a)) b h l u e =
      euclid fuel r b (omega (arith, less)) (pos_of_ne-zero (prime.indivisible (suc (suc a)) (omega arith) u)) (omega (arith, less))
      (rest_zero (q * (suc (suc a) * b)) (r * b) (times_zero q (suc (suc a) * b) e)
      (ap (λ (n : ℕ). n % p) (ap (λ (n : ℕ). n + r * b) (sym (Nat.mul_assoc q (suc (suc a)) b)) ∙ sym (Nat.add-mul (q * suc (suc a)) r b) ∙ ap (λ (n : ℕ). n * b) (div-add-mod' p (suc (suc a)))) ∙ mul-mod_right p b))
    where
      q : ℕ
      q = p / suc (suc a)

      r : ℕ
      r = p % suc (suc a)

      less : p % suc (suc a) < suc (suc a)
      less = mod-lt p (omega arith)

  pred_p : p ≡ suc (p - 1)
  pred_p = omega arith

  -- p divides C(p, k), 0 < k < p
  prime_binomial : (m : ℕ) → suc m < p → binomial p (suc m) % p ≡ 0
  prime_binomial m h =
      euclid p (suc m) (binomial p (suc m)) (omega arith) (omega arith) h
      (ap (λ (q : ℕ). suc m * binomial q (suc m) % p) pred_p ∙ ap (λ (n : ℕ). n % p) (absorb (p - 1) m)
      ∙ ap (λ (q : ℕ). q * binomial (p - 1) m % p) (sym pred_p) ∙ mul-mod_right p (binomial (p - 1) m))

  plus_zero : (x y : ℕ) → y % p ≡ 0 → (x + y) % p ≡ x % p
  plus_zero x y e = sym (add-mod-mod x y p) ∙ ap (λ (n : ℕ). (x + n) % p) e ∙ ap (λ (n : ℕ). n % p) (Nat.add-zero x)

  partial_mod : (a m : ℕ) → m < p → partial p a (suc m) % p ≡ 1
  unfolding partial binomial
  partial_mod a zero h = ap (λ (n : ℕ). n % p) (first a) ∙ mod-eq_of_lt big
    where
      first : (a : ℕ) → 0 + 1 * a ^ 0 ≡ 1
      first a = omega (arith, pow-zero a)
  partial_mod a (suc m) h =
      plus_zero _ (binomial p (suc m) * a ^ suc m)
      (ap (λ (n : ℕ). n % p) (Nat.mul_comm (binomial p (suc m)) (a ^ suc m)) ∙ times_zero (a ^ suc m) (binomial p (suc m)) (prime_binomial m h))
      ∙ partial_mod a m (omega arith)

  -- Fermat's theorem: a^p = a
  pub fermat : (a : ℕ) → a ^ p % p ≡ a % p
  fermat zero = ap (λ (q : ℕ). 0 ^ q % p) pred_p ∙ ap (λ (n : ℕ). n % p) (pow-suc 0 (p - 1) ∙ Nat.mul-zero (0 ^ (p - 1)))
  fermat (suc a) =
      ap (λ (n : ℕ). n % p) (sym (binomial_theorem p a) ∙ top p a)
      ∙ sym (mod-add-mod (partial p a p) p (1 * a ^ p))
      ∙ ap (λ (n : ℕ). (n + 1 * a ^ p) % p) (ap (λ (q : ℕ). partial p a q % p) pred_p ∙ partial_mod a (p - 1) (omega arith))
      ∙ ap (λ (n : ℕ). (1 + n) % p) (Nat.one-mul (a ^ p)) ∙ sym (add-mod-mod 1 (a ^ p) p)
      ∙ ap (λ (n : ℕ). (1 + n) % p) (fermat a) ∙ add-mod-mod 1 a p ∙ ap (λ (n : ℕ). n % p) (one-add a)

  cancel_add : (y x : ℕ) → (y + x) % p ≡ x % p → y % p ≡ 0
  cancel_add y x e =
      sym (plus_zero y (x + (p - x % p)) (opposite x)) ∙ ap (λ (n : ℕ). n % p) (sym (Nat.add_assoc y x (p - x % p)))
      ∙ sym (mod-add-mod (y + x) p (p - x % p)) ∙ ap (λ (n : ℕ). (n + (p - x % p)) % p) e ∙ mod-add-mod x p (p - x % p) ∙ opposite x
    where
      opposite : (x : ℕ) → (x + (p - x % p)) % p ≡ 0
      opposite x = let h : x % p < p = mod-lt x (omega arith) in
          sym (mod-add-mod x p (p - x % p)) ∙ ap (λ (n : ℕ). n % p) (Nat.add-sub_of_le (omega arith)) ∙ Nat.mod_self p

  -- x · x^(p-2) = 1 for x that p does not divide
  pub fermat_inverse : (x : ℕ) → (x % p ≡ 0 → ⊥) → x * (x ^ (p - 2) % p) % p ≡ 1
  fermat_inverse x h = mul_mod p x (x ^ (p - 2)) ∙ ap (λ (n : ℕ). n % p) whole ∙ plus_zero 1 (b - 1) less_one ∙ mod-eq_of_lt big
    where
      b : ℕ
      b = x * x ^ (p - 2)

      nonzero : x ≢ 0
      nonzero e = h (ap (λ (n : ℕ). n % p) e ∙ zero-mod p)

      some : 0 < b
      some = mul-pos (pos_of_ne-zero nonzero) (power_pos x (p - 2) (pos_of_ne-zero nonzero))

      whole : x * x ^ (p - 2) ≡ 1 + (b - 1)
      whole = omega (arith, some)

      twice : p ≡ suc (suc (p - 2))
      twice = omega arith

      power : x * b ≡ x ^ p
      power = ap (λ (n : ℕ). x * n) (sym (Nat.pow-succ' x (p - 2))) ∙ sym (Nat.pow-succ' x (suc (p - 2))) ∙ ap (λ (n : ℕ). x ^ n) (sym twice)

      again : x * (b - 1) + x ≡ x * b
      again = sym (Nat.mul-suc x (b - 1)) ∙ ap (λ (n : ℕ). x * n) (next b some)

      zeroed : x * (b - 1) % p ≡ 0
      zeroed = cancel_add (x * (b - 1)) x (ap (λ (n : ℕ). n % p) (again ∙ power) ∙ fermat x)

      less_one : (b - 1) % p ≡ 0
      less_one = euclid p (x % p) (b - 1) (le_of_lt (mod-lt x (lt_trans' big))) (pos_of_ne-zero h) (mod-lt x (lt_trans' big)) (mod_mul p x (b - 1) ∙ zeroed)
