-- The decoder's start for a table over the powers of ω: what `solve` asks, and what its answer says.
use Prim.Native.Nat.{ℕ, zero, suc, ◌+◌, ◌-◌, ◌*◌, ◌/◌, ◌%◌, ◌^◌, ◌≤◌, ◌<◌}
use native.Mathlib.Nat.{pow-suc, zero-mod, add-mod-mod, mod-mod, mod-eq_of_lt}
use native.Mathlib.Nat as N
use native.Mathlib.Omega.{arith}
use mathlib.Core.Path.{◌≡◌, refl, sym, ap, ap₂, ◌∙◌, subst}
use mathlib.Core.List.{List, map}
use mathlib.Core.Option.{Option}
use lib.ListN.{length, take, get_or, set, replicate, length-replicate}
use lib.Seq.{length-take-le}
use Rattle.definition.specs.Field.{Field, prime_field, prime_of, field_of, power}
use Rattle.definition.specs.Lists.{range}
use Rattle.list_laws.specs.Lists.{by_number, take_replicate}
use Rattle.list_laws.specs.Zeros.{zeros, length_zeros}
use Rattle.definition.specs.Polynomial.{evaluate}
use Rattle.algebra.specs.Laws.{FieldLaws}
use Rattle.algebra.specs.PrimeField.{laws, opposite_signs}
use Rattle.algebra.specs.Different.{Differ, Apart, apart_range}
use Rattle.algebra.specs.RootsOfUnity.{minus_one, half, nontrivial, powers_differ, power_mul, power_one}
use Rattle.algebra.specs.Coefficients.{Elements}
use Rattle.decoding.specs.Errors.{Each, each_of, wrong_at}
use Rattle.decoding.specs.Reduction.{Meets, Stage}
use Rattle.decoding.specs.GeometricSum.{geometric_sum, multiple, multiple_nonzero}
use Rattle.decoding.specs.Transform.{transformed_is}
use Rattle.decoding.specs.Start.{unity, constant, constant_value, unity_meets, start_stage, length_unity, top_unity}
use Rattle.decoder.specs.Steps.{Reducible, Decodes}
use Rattle.domain.specs.Powers.{Powers}
use Rattle.candidate.specs.Tables.{Through, Sized, Candidate}

-- n as an element of a prime field
multiple_is : (p n : ℕ) → multiple (prime_field p) n ≡ n % p
unfolding multiple geometric_sum prime_field
multiple_is p zero = sym (zero-mod p)
multiple_is p (suc n) =
    ap (λ (u : ℕ). (1 + 1 * u % p) % p) (multiple_is p n)
    ∙ ap (λ (u : ℕ). (1 + u % p) % p) (N.one-mul (n % p)) ∙ ap (λ (u : ℕ). (1 + u) % p) (mod-mod n p) ∙ add-mod-mod 1 n p ∙ ap (λ (u : ℕ). u % p) (next n)
  where
    next : (n : ℕ) → 1 + n ≡ suc n
    next n = omega arith

-- a power of two above 1 is twice a power of two
halving : {B : Type 0} (l n : ℕ) → n ≡ 2 ^ l → 1 < n → ((e : ℕ) → n ≡ 2 ^ e + 2 ^ e → B) → B
halving zero n s h k = absurd (omega arith)
halving (suc e) n s h k = k e (omega (arith, pow-suc 2 e))

module _ (field : ℕ) where
  abbrev F : Field ℕ
  F = field_of field

  abbrev L : FieldLaws F
  L = laws field

  element_of : (n : ℕ) → n % prime_of field ≡ multiple F n
  unfolding field_of
  element_of n = sym (multiple_is (prime_of field) n)

  reduced : (n : ℕ) → L.reduce (n % prime_of field) ≡ n % prime_of field
  unfolding field_of prime_field
  reduced n =
      let e : n % prime_of field ≡ F.◌⊕◌ 0 n = ap (λ (m : ℕ). m % prime_of field) (sym (N.zero-add n)) in
      ap L.reduce e ∙ L.reduce_add 0 n ∙ sym e

  nonzero : (l n : ℕ) → n ≡ 2 ^ l → n % prime_of field ≡ F.𝟘 → ⊥
  nonzero l n e z = multiple_nonzero F L (opposite_signs field) l (sym (ap (multiple F) e) ∙ sym (element_of n) ∙ z)

  module _ (pw table : List ℕ) (ω : ℕ) (p : Powers field ω pw) (e : ℕ) (size : length pw ≡ 2 ^ e + 2 ^ e) (long : length table ≡ length pw) where
    halfway : power F ω (2 ^ e) ≡ minus_one F
    halfway = let z : length pw / 2 ≡ 2 ^ e = omega (arith, size) in ap (power F ω) (sym z) ∙ p.half

    points_apart : Apart F pw
    unfolding field_of prime_field
    points_apart = subst (Apart F) (sym (by_number 0 pw (λ j. power F ω (1 + j)) (length pw) refl p.entry))
        (apart_range F L (λ j. power F ω (1 + j)) 0 (length pw)
        (λ a c u k. subst (λ (i : ℕ). Differ F (power F ω i) (power F ω (1 + a))) (assoc a c) (powers_differ F L (opposite_signs field) e ω (1 + a) c halfway k (omega (arith, size)))))
      where
        assoc : (a c : ℕ) → 1 + a + c ≡ 1 + (a + c)
        assoc a c = omega arith

    -- each point is a root of X^n - 1
    point_round : (m j : ℕ) → length pw ≡ suc m → j < length pw → power F (get_or pw j 0) (suc m) ≡ F.𝟙
    unfolding field_of prime_field
    point_round m j en u =
        ap (λ (x : ℕ). power F x (suc m)) (p.entry j u) ∙ power_mul F L ω (1 + j) (suc m) ∙ ap (power F ω) (swap j m) ∙ sym (power_mul F L ω (suc m) (1 + j))
        ∙ ap (λ (x : ℕ). power F x (1 + j)) (ap (power F ω) (sym en) ∙ p.round) ∙ power_one F L (1 + j)
      where
        swap : (j m : ℕ) → (1 + j) * suc m ≡ suc m * (1 + j)
        swap j m = omega arith

    meets_s : (m u : ℕ) → length pw ≡ suc m → Each (Meets F (unity F m) (replicate u F.𝟘)) pw table
    meets_s m u en = each_of (Meets F (unity F m) (replicate u F.𝟘)) pw table 0 0 (λ j h. unity_meets F L m u (get_or pw j 0) (get_or table j 0) (point_round m j en h))

    meets_t : (m u : ℕ) (t : List ℕ) → length pw ≡ suc m → Through field pw table t → Each (Meets F t (constant F (length pw % prime_of field) u)) pw table
    unfolding field_of prime_field
    meets_t m u t en h = each_of (Meets F t (constant F (length pw % prime_of field) u)) pw table 0 0 (λ j k.
        ap₂ (λ (a : List ℕ) (b : ℕ). evaluate F a b) (h ω p ∙ ap (λ (n : ℕ). map (λ i. F.◌⊗◌ (power F ω (n - i)) (evaluate F table (power F ω (n - i)))) (range 0 n)) en) (p.entry j k)
        ∙ transformed_is F L ω m (ap (power F ω) (sym en) ∙ p.round) (λ c l g z. nontrivial F L (opposite_signs field) e ω c (half c) halfway l (omega (arith, size, en)) z) j table (omega (arith, long)) (omega (arith, long, en))
        ∙ ap (λ (n : ℕ). F.◌⊗◌ (get_or table j 0) n) (ap (multiple F) (sym en) ∙ sym (element_of (length pw)))
        ∙ L.mul_comm _ _
        ∙ ap (λ (x : ℕ). F.◌⊗◌ x (get_or table j 0)) (sym (constant_value F L (length pw % prime_of field) u (get_or pw j 0) (reduced (length pw)))))

  -- ---- the lists that the code makes

  -- X^n - 1
  pub made_s : (n m : ℕ) {s : List ℕ} {r : ℕ} → 0 < n → m ≡ n + 1 → s ≡ replicate m 0 → r ≡ F.◌⊖◌ 0 1 → set (set s 0 r) n 1 ≡ unity F (n - 1)
  unfolding field_of prime_field
  made_s zero m {s} {r} h e es er = absurd (omega arith)
  made_s (suc k) m {s} {r} h e es er =
      let two : m ≡ suc (suc k) = omega arith in
      let y : suc k - 1 ≡ k = omega arith in
      ap₂ (λ (l : List ℕ) (x : ℕ). set (set l 0 x) (suc k) 1) (es ∙ ap (λ (j : ℕ). replicate j 0) two) er ∙ ap (unity F) (sym y)

  pub made_v : (u n : ℕ) (v : List ℕ) {r : ℕ} → v ≡ replicate (u + 1) 0 → r ≡ n % prime_of field → set v 0 r ≡ constant F (n % prime_of field) u
  unfolding field_of prime_field
  made_v u n v {r} e er =
      let z : u + 1 ≡ suc u = omega arith in
      ap₂ (λ (l : List ℕ) (x : ℕ). set l 0 x) (e ∙ ap (λ (m : ℕ). replicate m 0) z) er

  pub ready : (n d : ℕ) (s w t v : List ℕ) → Sized n d → Elements F L t → length t ≡ n → s ≡ unity F (n - 1) → w ≡ replicate ((n - d) / 2 + 1) 0 → v ≡ constant F (n % prime_of field) ((n - d) / 2) →
      Reducible field n (d + (n - d) / 2) t v n s w (n + 1)
  unfolding field_of prime_field
  ready n d s w t v z et lt es ew ev =
      let u = (n - d) / 2 in
      let k = n - 1 in
      let y : suc k ≡ n = omega (arith, z.two) in
      let w1 : u + 1 ≡ suc u = omega arith in
      let ew' : w ≡ replicate (suc u) 0 = ew ∙ ap (λ (m : ℕ). replicate m 0) w1 in
      let width : suc u ≡ n + 1 - (d + u) = omega (arith, z.even) in
      let lw : length w ≡ suc u = ap length ew' ∙ length-replicate (suc u) 0 in
      let lv : length v ≡ suc u = ap length ev ∙ ap suc (length-replicate u 0) in
      let stage : Stage F L (suc k) t (constant F (n % prime_of field) u) (suc k) (unity F k) (replicate (suc u) 0) (suc k + 1) =
      start_stage F L k u (n % prime_of field) t et (reduced n) (nonzero z.halves.log_size n z.halves.size_is) in
      record {
        stage = subst (λ (m : ℕ). Stage F L m t v m s w (m + 1)) y
            (subst (λ (l : List ℕ). Stage F L (suc k) t l (suc k) s w (suc k + 1)) (sym ev)
            (subst (λ (l : List ℕ). Stage F L (suc k) t (constant F (n % prime_of field) u) (suc k) l w (suc k + 1)) (sym es)
            (subst (λ (l : List ℕ). Stage F L (suc k) t (constant F (n % prime_of field) u) (suc k) (unity F k) l (suc k + 1)) (sym ew') stage)));
        small = z.small;
        from = omega (arith, z.even);
        most = omega arith;
        below = omega (arith, z.even);
        room_s = omega (arith, lt);
        room_t = omega (arith, ap length es, length_unity F L k, y);
        width_w = lv ∙ width;
        width_v = lw ∙ width;
        top = λ q. one (sym (ap₂ (λ (l : List ℕ) (i : ℕ). get_or l i 0) es (index n z.two) ∙ top_unity F L k) ∙ q);
      }
    where
      index : (n : ℕ) → 1 < n → n + 1 - 1 ≡ suc (n - 1)
      index n h = omega arith

      one : ◌≡◌ {A = ℕ} 1 0 → ⊥
      one e = omega arith

  -- ---- and what the decoder's answer then says

  pub candidate_is : (pw table s w t v : List ℕ) (d : ℕ) (o : Option (List ℕ)) → Sized (length pw) d → length table ≡ length pw → Through field pw table t → s ≡ unity F (length pw - 1) →
      w ≡ replicate ((length pw - d) / 2 + 1) 0 → v ≡ constant F (length pw % prime_of field) ((length pw - d) / 2) →
      Decodes field s w t v (length pw - (d + (length pw - d) / 2)) d o → Candidate field pw table d o
  unfolding field_of prime_field
  candidate_is pw table s w t v d o z long h es ew ev r ω p f lf ef few =
      let n = length pw in
      let u = (n - d) / 2 in
      let y : n ≡ suc (n - 1) = omega (arith, z.two) in
      let rest : n - (d + u) ≡ u = omega (arith, z.even) in
      halving z.halves.log_size n z.halves.size_is z.two (λ e size.
      r pw table f (points_apart pw table ω p e size long) (sym long)
      (subst (λ (l : List ℕ). Each (Meets F l w) pw table) (sym es) (subst (λ (l : List ℕ). Each (Meets F (unity F (n - 1)) l) pw table) (sym ew) (meets_s pw table ω p e size long (n - 1) (u + 1) y)))
      (subst (λ (l : List ℕ). Each (Meets F t l) pw table) (sym ev) (meets_t pw table ω p e size long (n - 1) u t y h))
      (omega (arith, rest, z.even)) lf ef (subst (λ (m : ℕ). length (wrong_at F pw table f) ≤ m) (sym rest) few))

-- ---- places that are all 0

pub front_of : (k n : ℕ) → k ≤ n → take k (zeros n) ≡ replicate k 0
front_of k n h = take_replicate k n 0 h

pub front_long : (k n : ℕ) → k ≤ n → k ≡ length (take k (zeros n))
front_long k n h = sym (length-take-le k (zeros n) (omega (arith, length_zeros n)))
