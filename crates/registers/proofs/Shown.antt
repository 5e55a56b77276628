-- What the registers show and what their tests say, over the definition's device and plain numbers.
use Prim.Native.Nat.{ℕ, ◌-◌, ◌/◌, ◌%◌, ◌^◌, ◌≤◌}
use native.Mathlib.Omega.{arith}
use mathlib.Core.Bool.{Bool, true, false, cond, ◌&&◌}
use mathlib.Core.Path.{◌≡◌, refl, sym, ap, ◌∙◌}
use lib.Dec.{eqb, leb}
use borrow.Author.Tests.{eq-eqb, leb-true, ne_eqb}
use Rattle.device_definition.specs.Device.{Device, busy_test, full_test, is_busy, fault_place, read}
use Rattle.definition.specs.Sheet.{between}
use Rattle.definition.specs.Verdict.{Outcome, accepted, refuse_if, refused, ◌then◌}

-- the low byte of the place
pub place_low : (d : Device) → fault_place d.phase % 256 ≡ read d 5
unfolding read between
place_low d = let one : fault_place d.phase / 1 ≡ fault_place d.phase = omega arith in ap (λ (n : ℕ). n % 256) (sym one)

five_to_eight : (n : ℕ) → 5 ≤ n → n ≤ 8 → (n ≡ 5 → ⊥) → (n ≡ 6 → ⊥) → (n ≡ 7 → ⊥) → (n ≡ 8 → ⊥) → ⊥
five_to_eight n l u n5 n6 n7 n8 = omega arith

-- a register that shows nothing
pub shows_nothing : (d : Device) (n : ℕ) → (n ≡ 1 → ⊥) → (n ≡ 2 → ⊥) → (n ≡ 3 → ⊥) → (n ≡ 4 → ⊥) → (n ≡ 5 → ⊥) → (n ≡ 6 → ⊥) → (n ≡ 7 → ⊥) → (n ≡ 8 → ⊥) → 0 ≡ read d n
unfolding read between
shows_nothing d n n1 n2 n3 n4 n5 n6 n7 n8 = rw (ne_eqb n 1 n1, ne_eqb n 2 n2, ne_eqb n 3 n3, ne_eqb n 4 n4) (go (leb 5 n) refl (leb n 8) refl)
  where
    go : (a : Bool) → leb 5 n ≡ a → (b : Bool) → leb n 8 ≡ b → 0 ≡ cond (a && b) (fault_place d.phase / 256 ^ (n - 5) % 256) 0
    go false ea b eb = refl
    go true ea false eb = refl
    go true ea true eb = absurd (five_to_eight n (leb-true 5 n ea) (leb-true n 8 eb) n5 n6 n7 n8)

-- the tests of a write
module _ (register value : ℕ) (d : Device) where
  abbrev Says : Outcome → Type 0
  Says o = o ≡ (busy_test register value d then full_test register d)

  pub data_busy : register ≡ 9 → is_busy d.phase ≡ true → Says (refused 16 0)
  unfolding busy_test full_test refuse_if ◌then◌
  data_busy e b = rw (e, b)

  pub data_full : register ≡ 9 → is_busy d.phase ≡ false → leb 65536 d.taken ≡ true → Says (refused 16 1)
  unfolding busy_test full_test refuse_if ◌then◌
  data_full e b l = rw (e, b, l)

  pub data_fits : register ≡ 9 → is_busy d.phase ≡ false → leb 65536 d.taken ≡ false → Says accepted
  unfolding busy_test full_test refuse_if ◌then◌
  data_fits e b l = rw (e, b, l)

  pub start_busy : register ≡ 0 → value ≡ 1 → is_busy d.phase ≡ true → Says (refused 16 0)
  unfolding busy_test full_test refuse_if ◌then◌
  start_busy e v b = rw (e, v, b)

  pub start_free : register ≡ 0 → is_busy d.phase ≡ false → Says accepted
  unfolding busy_test full_test refuse_if ◌then◌
  start_free e b = rw (e, b)

  pub no_start : register ≡ 0 → (value ≡ 1 → ⊥) → Says accepted
  unfolding busy_test full_test refuse_if ◌then◌
  no_start e v = rw (e, ne_eqb value 1 v) (go (is_busy d.phase))
    where
      go : (b : Bool) → accepted ≡ (refuse_if 16 0 (b && false) then accepted)
      go true = refl
      go false = refl

  pub no_data : (register ≡ 9 → ⊥) → (register ≡ 0 → ⊥) → Says accepted
  unfolding busy_test full_test refuse_if ◌then◌
  no_data n z = rw (ne_eqb register 9 n, ne_eqb register 0 z) (go (is_busy d.phase))
    where
      go : (b : Bool) → accepted ≡ (refuse_if 16 0 (b && false) then accepted)
      go true = refl
      go false = refl

pub flag_kept : (b : Bool) → b ≡ (b && true)
flag_kept true = refl
flag_kept false = refl

pub flag_lost : (b : Bool) → false ≡ (b && false)
flag_lost true = refl
flag_lost false = refl
