-- Domains (01, Domains), in any field with the laws and for any ω with ω^(n0/2) = -1: the points of a domain are different; the k roots of a shift point are k
-- different points of the domain, whose k-th power it is; different shift indices are different points; no shift point is a point of the next domain (000, Remark 5.3).
use Prim.Native.Nat.{ℕ, zero, suc, ◌+◌, ◌-◌, ◌*◌, ◌/◌, ◌^◌, ◌<◌}
use Rattle.std.proofs.Math.Nat
use Rattle.std.proofs.Common.{pow-suc, mul-pos, mul-le-mul_left, mul-lt-mul_of_pos_right, ◌∙◌, pow_pos}
use Rattle.std.proofs.Math.Nat.{mul-lt-mul_of_pos_left}
use native.Mathlib.Omega.{arith}
use Rattle.std.specs.Prelude.{◌≡◌}
use Rattle.std.proofs.Math.Path.{sym, ap, subst}
use Rattle.std.proofs.lemmas.Simd.{map-map}
use Rattle.definition.specs.Domain.{domain, point, root_numbers, shift_point}
use Rattle.definition.specs.Field.{Field, power}
use Rattle.definition.specs.Lists.{range}
use Rattle.definition.specs.Sheet.{Level, shift_count}
use Rattle.algebra.specs.Different.{Apart, Differ, apart_range}
use Rattle.algebra.specs.Laws.{FieldLaws}
use Rattle.list_laws.specs.All.{all_of_map, all_range}
use Rattle.algebra.specs.RingLaws
use Rattle.algebra.specs.RootsOfUnity
use Rattle.algebra.specs.RootsOfUnity.{minus_one}
use Rattle.completeness.specs.DecidingAccepts.{Foldable}
use Rattle.completeness.proofs.ValuesApart.{numbers_equal}
use Rattle.layouts.specs.LevelSizes.{Sized, positive_sizes}
use Rattle.layouts.specs.LawfulSheets.{Step}

-- exponents
further : (t a c : ℕ) → 1 + t * (a + c) ≡ 1 + t * a + t * c
further t a c = omega (arith, Nat.mul-add t a c)

further_folded : (t a c k : ℕ) → (1 + t * (a + c)) * k ≡ (1 + t * a) * k + t * (c * k)
further_folded t a c k = ap (λ (n : ℕ). n * k) (further t a c) ∙ Nat.add-mul (1 + t * a) (t * c) k ∙ ap (λ (n : ℕ). (1 + t * a) * k + n) (Nat.mul_assoc t c k)

odd_exponent : (i m : ℕ) → 1 + 2 ^ suc i * m ≡ suc (2 ^ i * m + 2 ^ i * m)
odd_exponent i m =
    let e : 2 ^ suc i * m ≡ 2 ^ i * m + 2 ^ i * m = ap (λ (x : ℕ). x * m) (pow-suc 2 i ∙ double (2 ^ i)) ∙ Nat.add-mul (2 ^ i) (2 ^ i) m in
    omega arith
  where
    double : (x : ℕ) → x * 2 ≡ x + x
    double x = omega arith

at_least : (a c n : ℕ) → a + c < 0 + n → c < n
at_least a c n h = omega arith

module _ {A : Type 0} (F : Field A) (ω : A) where
  -- Root m of shift point j, m from 0 to k-1: a point of the domain; its k-th power is the shift point; roots of different numbers are different points.
  pub record Roots (l : Level) (j : ℕ) : Type 0 where
    pub below : (m : ℕ) → m < l.fold → j + m * shift_count l < l.size
    pub power_is : (m : ℕ) → m < l.fold → power F (point F ω l (j + m * shift_count l)) l.fold ≡ shift_point F ω l j
    pub different : (m n : ℕ) → m < l.fold → n < l.fold → point F ω l (j + m * shift_count l) ≡ point F ω l (j + n * shift_count l) → m ≡ n

module _ {A : Type 0} (F : Field A) (L : FieldLaws F) (ω : A) (signs : minus_one F ≡ F.𝟙 → ⊥) (e : ℕ) (root : power F ω (2 ^ e) ≡ minus_one F) where
  infixl 65 ◌⊖◌
  infixl 70 ◌⊗◌
  open F use {𝟘, 𝟙, ◌⊖◌, ◌⊗◌}
  open L use {mul_comm, mul_one, mul-zero, one≢zero}

  -- the order of ω is n0
  double : (l : Level) → Sized (suc e) l → 2 ^ l.number * l.size ≡ 2 ^ e + 2 ^ e
  double l r = omega (arith, r.whole, pow-suc 2 e)

  pub full_power : (m : ℕ) → power F ω ((2 ^ e + 2 ^ e) * m) ≡ 𝟙
  full_power m =
      sym (RootsOfUnity.power_mul F L ω (2 ^ e + 2 ^ e) m)
      ∙ ap (λ (y : A). power F y m) (RingLaws.power_add F L ω (2 ^ e) (2 ^ e) ∙ rw root (RootsOfUnity.minus_square F L)) ∙ RootsOfUnity.power_one F L m

  -- no power of ω is 0
  pub power_nonzero : (n : ℕ) → power F ω n ≡ 𝟘 → ⊥
  power_nonzero n z =
      let k = 2 ^ e + 2 ^ e in
      one≢zero (sym (full_power n) ∙ ap (power F ω) (Nat.mul_comm k n) ∙ sym (RootsOfUnity.power_mul F L ω n k) ∙ ap (λ (y : A). power F y k) z ∙ zero_power k (omega (arith, pow_pos e)))
    where
      zero_power : (m : ℕ) → 0 < m → power F 𝟘 m ≡ 𝟘
      zero_power zero h = absurd (omega arith)
      zero_power (suc m) h = RootsOfUnity.power_suc F L 𝟘 m ∙ mul_comm 𝟘 (power F 𝟘 m) ∙ mul-zero (power F 𝟘 m)

  -- no odd power of ω is 1
  pub odd_not_one : (i m : ℕ) → power F ω (1 + 2 ^ suc i * m) ≡ 𝟙 → ⊥
  odd_not_one i m z = RootsOfUnity.odd_power F L signs ω (2 ^ e) (2 ^ i * m) root (ap (power F ω) (sym (odd_exponent i m)) ∙ z)

  -- points
  points_differ : (l : Level) (a c : ℕ) → Sized (suc e) l → c < l.size → 0 < c → Differ F (point F ω l (a + c)) (point F ω l a)
  unfolding point
  points_differ l a c r u k =
      let t = 2 ^ l.number in
      subst (λ (n : ℕ). Differ F (power F ω n) (power F ω (1 + t * a))) (sym (further t a c))
      (RootsOfUnity.powers_differ F L signs e ω (1 + t * a) (t * c) root (mul-pos (pow_pos l.number) k)
      (subst (λ (n : ℕ). t * c < n) (double l r) (mul-lt-mul_of_pos_left u (pow_pos l.number))))

  pub same_point : (l : Level) → Sized (suc e) l → (a b : ℕ) → a < l.size → b < l.size → point F ω l a ≡ point F ω l b → a ≡ b
  same_point l r = numbers_equal F L (point F ω l) l.size (λ a c u k. points_differ l a c r u k)

  pub domain_apart : (l : Level) → Sized (suc e) l → Apart F (domain F ω l)
  unfolding domain
  domain_apart l r = apart_range F L (point F ω l) 0 l.size (λ a c u k. points_differ l a c r (at_least a c l.size u) k)

  -- the roots of shift point j
  roots_power : (l : Level) (j m : ℕ) → Sized (suc e) l → power F (point F ω l (j + m * (l.size / l.fold))) l.fold ≡ shift_point F ω l j
  unfolding point shift_point
  roots_power l j m r =
      let t = 2 ^ l.number in
      let q = l.size / l.fold in
      RootsOfUnity.power_mul F L ω (1 + t * (j + m * q)) l.fold
      ∙ ap (power F ω) (further_folded t j (m * q) l.fold ∙ ap (λ (n : ℕ). (1 + t * j) * l.fold + n) whole)
      ∙ RingLaws.power_add F L ω ((1 + t * j) * l.fold) ((2 ^ e + 2 ^ e) * m)
      ∙ ap (λ (y : A). power F ω ((1 + t * j) * l.fold) ⊗ y) (full_power m) ∙ mul_one _ ∙ RingLaws.reduce_power F L ω ((1 + t * j) * l.fold)
      ∙ sym (RootsOfUnity.power_mul F L ω (1 + t * j) l.fold)
    where
      whole : 2 ^ l.number * (m * (l.size / l.fold) * l.fold) ≡ (2 ^ e + 2 ^ e) * m
      whole =
          ap (λ (n : ℕ). 2 ^ l.number * n) (Nat.mul_assoc m (l.size / l.fold) l.fold ∙ ap (λ (n : ℕ). m * n) r.folds ∙ Nat.mul_comm m l.size)
          ∙ sym (Nat.mul_assoc (2 ^ l.number) l.size m) ∙ ap (λ (n : ℕ). n * m) (double l r)

  root_below : (l : Level) (j m : ℕ) → Sized (suc e) l → j < l.size / l.fold → m < l.fold → j + m * (l.size / l.fold) < l.size
  root_below l j m r hj hm =
      let q = l.size / l.fold in
      omega (arith, mul-le-mul_left q hm, Nat.mul-suc q m, Nat.mul_comm m q, r.folds)

  roots_differ : (l : Level) (j a c : ℕ) → Sized (suc e) l → j < l.size / l.fold → a + c < l.fold → 0 < c →
      Differ F (point F ω l (j + (a + c) * (l.size / l.fold))) (point F ω l (j + a * (l.size / l.fold)))
  roots_differ l j a c r hj u k =
      let q = l.size / l.fold in
      let some : 0 < q = omega arith in
      let fewer : c < l.fold = omega arith in
      let less : c * q < l.size = subst (λ (n : ℕ). c * q < n) (Nat.mul_comm l.fold q ∙ r.folds) (mul-lt-mul_of_pos_right fewer some) in
      let e : j + (a + c) * q ≡ j + a * q + c * q = omega (arith, Nat.add-mul a c q) in
      subst (λ (n : ℕ). Differ F (point F ω l n) (point F ω l (j + a * q))) (sym e) (points_differ l (j + a * q) (c * q) r less (mul-pos k some))

  pub foldable : (l : Level) → Sized (suc e) l → Foldable F ω l
  unfolding root_numbers shift_count
  foldable l r = record {
    roots_below = λ j h. all_of_map _ _ (range 0 l.fold) (all_range _ 0 l.fold (λ m b u. root_below l j m r h (omega arith)));
    roots_power = λ j h. all_of_map _ _ (range 0 l.fold) (all_range _ 0 l.fold (λ m b u. roots_power l j m r));
    roots_apart = λ j h. rw (map-map (point F ω l) (λ m. j + m * (l.size / l.fold)) (range 0 l.fold))
        (apart_range F L (λ m. point F ω l (j + m * (l.size / l.fold))) 0 l.fold (λ a c u k. roots_differ l j a c r h (omega arith) k));
    divides = omega (arith, r.degrees);
  }

  pub roots : (l : Level) (j : ℕ) → Sized (suc e) l → j < shift_count l → Roots F ω l j
  unfolding shift_count
  roots l j r h = record {
    below = λ m u. root_below l j m r h u;
    power_is = λ m u. roots_power l j m r;
    different = λ m n u v q. root_number (l.size / l.fold) m n (omega arith) (same_point l r _ _ (root_below l j m r h u) (root_below l j n r h v) q);
  }
    where
      root_number : (q m n : ℕ) → 0 < q → j + m * q ≡ j + n * q → m ≡ n
      root_number q m n k x =
          let p : m * q ≡ n * q = omega arith in
          sym (Nat.mul-div_cancel m k) ∙ ap (λ (y : ℕ). y / q) p ∙ Nat.mul-div_cancel n k

  -- shift points of different indices
  shifts_differ : (l : Level) (a c : ℕ) → Sized (suc e) l → c < l.size / l.fold → 0 < c → Differ F (shift_point F ω l (a + c)) (shift_point F ω l a)
  unfolding point shift_point
  shifts_differ l a c r u k =
      let t = 2 ^ l.number in
      let f = (positive_sizes (suc e) l r).1 in
      let less : c * l.fold < l.size = subst (λ (n : ℕ). c * l.fold < n) r.folds (mul-lt-mul_of_pos_right u f) in
      subst (λ (x : A). Differ F x (power F (power F ω (1 + t * a)) l.fold)) (sym (RootsOfUnity.power_mul F L ω (1 + t * (a + c)) l.fold ∙ ap (power F ω) (further_folded t a c l.fold)))
      (subst (λ (x : A). Differ F (power F ω ((1 + t * a) * l.fold + t * (c * l.fold))) x) (sym (RootsOfUnity.power_mul F L ω (1 + t * a) l.fold))
      (RootsOfUnity.powers_differ F L signs e ω ((1 + t * a) * l.fold) (t * (c * l.fold)) root (mul-pos (pow_pos l.number) (mul-pos k f))
      (subst (λ (n : ℕ). t * (c * l.fold) < n) (double l r) (mul-lt-mul_of_pos_left less (pow_pos l.number)))))

  pub same_shift : (l : Level) → Sized (suc e) l → (a b : ℕ) → a < shift_count l → b < shift_count l → shift_point F ω l a ≡ shift_point F ω l b → a ≡ b
  unfolding shift_count
  same_shift l r = numbers_equal F L (shift_point F ω l) (l.size / l.fold) (λ a c u k. shifts_differ l a c r u k)

  -- a shift point is an even power of ω, a point of a later domain an odd one (000, Remark 5.3)
  pub never_meet : (s : ℕ) (b l : Level) (m j : ℕ) → Step s b l → Differ F (point F ω l m) (shift_point F ω b j)
  unfolding point shift_point
  never_meet s b l m j st =
      let q = (1 + 2 ^ b.number * j) * st.half in
      let odd : 1 + 2 ^ l.number * m ≡ suc (2 ^ st.before * m + 2 ^ st.before * m) = ap (λ (n : ℕ). 1 + 2 ^ n * m) st.number ∙ odd_exponent st.before m in
      let even : power F (power F ω (1 + 2 ^ b.number * j)) b.fold ≡ power F ω (q + q) =
      RootsOfUnity.power_mul F L ω (1 + 2 ^ b.number * j) b.fold
      ∙ ap (power F ω) (ap (λ (n : ℕ). (1 + 2 ^ b.number * j) * n) st.even ∙ Nat.mul-add (1 + 2 ^ b.number * j) st.half st.half) in
      subst (λ (x : A). Differ F (power F ω (1 + 2 ^ l.number * m)) x) (sym even)
      (subst (λ (n : ℕ). Differ F (power F ω n) (power F ω (q + q))) (sym odd)
      (RootsOfUnity.odd_even_differ F L signs ω (2 ^ e) (2 ^ st.before * m) q root))
