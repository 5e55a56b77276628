-- The powers of x, stored one after the other. Assumes nothing.
use Prim.Native.Nat.{ℕ, suc, ◌+◌, ◌-◌, ◌*◌, ◌/◌, ◌%◌, ◌≤◌, ◌<◌}
use native.Mathlib.Nat
use native.Mathlib.Omega.{arith}
use mathlib.Core.Path.{◌≡◌, refl, sym, ap, ap₂, ◌∙◌, subst}
use mathlib.Core.List.{List}
use native.Mathlib.Decide.{ℕ_discrete}
use lib.ListN.{length, get_or, set, length-set}
use lib.Seq.{get_or-set_same, get_or-set_other}
use Rattle.definition.specs.Field.{prime_field, prime_of, field_of, power}
use Rattle.definition.specs.Polynomial.{geometric}
use Rattle.list_laws.specs.Lists.{by_number}
use Rattle.algebra.specs.Lengths.{length_geometric}
use native.Mathlib.Numerals.{add-one}
use Rattle.algebra.specs.PrimeField.{laws}
use Rattle.algebra.specs.RingLaws.{power_add}
use Rattle.algebra.specs.RootsOfUnity.{power_mul}
use Rattle.domain.specs.Powers.{Powers}
use Rattle.domain.specs.Roots.{around}
use Rattle.sums.specs.Sums.{geometric_power, power_of_two_lem, PowersTo}

pub powers_store : (field x : ℕ) (out : List ℕ) (i r : ℕ) → i < length out → PowersTo field x out i → r ≡ power (field_of field) x i → PowersTo field x (set out i r) (suc i)
powers_store field x out i r l h e m u = go (ℕ_discrete m i)
  where
    go : Dec (m ≡ i) → get_or (set out i r) m 0 ≡ power (field_of field) x m
    go (yes s) = ap (λ (n : ℕ). get_or (set out i r) n 0) s ∙ get_or-set_same out i r 0 l ∙ e ∙ ap (power (field_of field) x) (sym s)
    go (no s) = get_or-set_other out i m r 0 s ∙ h m (omega arith)

pub powers_none : (field x : ℕ) (out : List ℕ) → PowersTo field x out 0
powers_none field x out m u = absurd (omega arith)

pub power_first : (field x : ℕ) → 1 ≡ power (field_of field) x 0
unfolding power field_of prime_field
power_first field x = refl

pub power_second : (field x : ℕ) {r : ℕ} → r ≡ x % prime_of field → r ≡ power (field_of field) x 1
unfolding power field_of prime_field
power_second field x e = e ∙ ap (λ (n : ℕ). n % prime_of field) (sym (Nat.mul-one x))

pub powers_turn : (field x : ℕ) (out : List ℕ) (i : ℕ) {r : ℕ} → 1 < i → i < length out → PowersTo field x out i →
    r ≡ (field_of field).◌⊗◌ (get_or out (i / 2) 0) (get_or out (i - i / 2) 0) → PowersTo field x (set out i r) (suc i)
powers_turn field x out i {r} big l h e =
    let whole : i / 2 + (i - i / 2) ≡ i = omega arith in
    powers_store field x out i r l h
    (e ∙ ap₂ (λ (a b : ℕ). (field_of field).◌⊗◌ a b) (h (i / 2) (omega arith)) (h (i - i / 2) (omega arith)) ∙ power_of_two_lem (field_of field) (laws field) x i (i / 2) (i - i / 2) whole)

pub powers_all : (field x : ℕ) (out : List ℕ) (i n : ℕ) → length out ≡ n → 0 < n → n ≤ i → PowersTo field x out i → out ≡ geometric (field_of field) x (n - 1)
unfolding field_of prime_field
powers_all field x out i n size some full h =
    by_number 0 out (power (field_of field) x) n size (λ m l. h m (omega arith))
    ∙ sym (by_number 0 (geometric (field_of field) x (n - 1)) (power (field_of field) x) n (omega (arith, length_geometric (field_of field) x (n - 1)))
    (λ m l. geometric_power (field_of field) (laws field) x (n - 1) m (omega arith)))

pub first_two : (field x : ℕ) (out : List ℕ) {r : ℕ} → 1 < length out → r ≡ x % prime_of field → PowersTo field x (set (set out 0 1) 1 r) 2
first_two field x out {r} h e =
    powers_store field x (set out 0 1) 1 r (rw length-set h)
    (powers_store field x out 0 1 (omega arith) (powers_none field x out) (power_first field x)) (power_second field x e)

pub first_alone : (field x : ℕ) (out : List ℕ) → 0 < length out → (1 < length out → ⊥) → set out 0 1 ≡ geometric (field_of field) x (length out - 1)
first_alone field x out h few =
    powers_all field x (set out 0 1) 1 (length out) (length-set out 0 1) h (omega arith)
    (powers_store field x out 0 1 h (powers_none field x out) (power_first field x))

-- ---- from the table of the powers of ω

pub further_more : (n place s : ℕ) → place < n → s ≤ n → n ≤ place + s → place + s - n ≡ (place + s) % n
further_more n place s l h more =
    let whole : place + s ≡ place + s - n + n = omega arith in
    sym (ap (λ (t : ℕ). t % n) whole ∙ Nat.add-mod_right (place + s - n) n ∙ Nat.mod-eq_of_lt (omega arith))

-- the first i powers of ω^s are there, and the next stands at `place`
pub record Turning (pw : List ℕ) (s : ℕ) (out : List ℕ) (place i : ℕ) : Type 0 where
  pub inside : place < length pw
  pub next : (field ω : ℕ) → Powers field ω pw → power (field_of field) ω (1 + place) ≡ power (field_of field) ω (s * i)
  pub passed : (field ω : ℕ) → Powers field ω pw → PowersTo field (power (field_of field) ω s) out i

pub turning_first : (pw : List ℕ) (s : ℕ) (out : List ℕ) → 0 < length pw → Turning pw s out (length pw - 1) 0
unfolding power
turning_first pw s out h = record {
  inside = omega arith;
  next = λ field ω w.
      let whole : 1 + (length pw - 1) ≡ length pw = omega arith in
      ap (power (field_of field) ω) whole ∙ w.round ∙ ap (power (field_of field) ω) (sym (Nat.mul-zero s));
  passed = λ field ω w. powers_none field (power (field_of field) ω s) out;
}

pub turning_next : (pw : List ℕ) (s : ℕ) (out : List ℕ) (place i : ℕ) {v r : ℕ} → i < length out → Turning pw s out place i → v ≡ get_or pw place 0 →
    (r ≡ (place + s) % length pw) × (r < length pw) → Turning pw s (set out i v) r (i + 1)
unfolding field_of prime_field
turning_next pw s out place i {v} {r} l t ev er = record {
  inside = er.1;
  next = λ field ω w.
      let F = field_of field in
      let sum : 1 + (place + s) ≡ 1 + place + s = omega arith in
      let times : s * i + s ≡ s * (i + 1) = omega arith in
      ap (λ (n : ℕ). power F ω (1 + n)) er.0 ∙ around F (laws field) ω 1 (place + s) (length pw) w.round
      ∙ ap (power F ω) sum ∙ power_add F (laws field) ω (1 + place) s
      ∙ ap (λ (x : ℕ). F.◌⊗◌ x (power F ω s)) (t.next field ω w) ∙ sym (power_add F (laws field) ω (s * i) s) ∙ ap (power F ω) times;
  passed = λ field ω w.
      let F = field_of field in
      subst (PowersTo field (power F ω s) (set out i v)) (sym (add-one i))
      (powers_store field (power F ω s) out i v l (t.passed field ω w)
      (ev ∙ w.entry place t.inside ∙ t.next field ω w ∙ sym (power_mul F (laws field) ω s i)));
}
