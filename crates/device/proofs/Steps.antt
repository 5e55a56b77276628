-- What a call leaves, over the definition's device.
use Prim.Native.Nat.{ℕ, ◌<◌}
use native.Mathlib.Omega.{arith}
use mathlib.Core.Bool.{false, ◌&&◌}
use mathlib.Core.List.{List}
use mathlib.Core.Path.{◌≡◌, refl, sym, ap, ◌∙◌, subst}
use lib.Dec.{eqb, leb}
use lib.ListN.{length, take, set}
use lib.Seq.{take_all}
use borrow.Author.Tests.{leb-false, ne_eqb}
use Rattle.device_definition.specs.Device.{Device, began, buffer_after, buffer_test, busy_test, ended, full_test, start, start_by, start_tests, step_by, took_byte, write, write_tests, written}
use Rattle.definition.specs.Verdict.{accepted, refused}
use Rattle.layouts.specs.Tests.{equal_passes, if_passes, then_passes}
use Rattle.outcome.specs.declared.Outcome.{Outcome as Told}
use Rattle.outcome.specs.declared.Outcome.TheVariants.{Accepted, Refused}
use Rattle.outcome.specs.Meaning.{outcome_of}

pub whole_is : (n : ℕ) (l : List ℕ) → length l < n → take (length l) l ≡ take n l
whole_is n l h = take_all (length l) l (omega arith) ∙ sym (take_all n l (omega arith))

-- ---- a start

module _ (d : Device) (x : List ℕ) (o : Told) (e : outcome_of o ≡ start_tests x) where
  pub start_refused : {number place : ℕ} {b after : Device} → o ≡ Refused number place → b ≡ began d → after ≡ ended b (refused number place) → after ≡ start d x
  unfolding outcome_of start start_by
  start_refused {number} {place} r eb ea = ea ∙ ap (λ (z : Device). ended z (refused number place)) eb ∙ ap (start_by d) (ap outcome_of (sym r) ∙ e)

  pub start_accepted : {b : Device} → o ≡ Accepted → b ≡ began d → b ≡ start d x
  unfolding outcome_of start start_by
  start_accepted r eb = eb ∙ ap (start_by d) (ap outcome_of (sym r) ∙ e)

-- ---- a write

module _ (register value : ℕ) (d : Device) (buffer : List ℕ) (o : Told) (e : outcome_of o ≡ write_tests register value d buffer) where
  tested : {t : Told} → o ≡ t → write_tests register value d buffer ≡ outcome_of t
  tested r = sym e ∙ ap outcome_of r

  pub refused_call : {number place : ℕ} → o ≡ Refused number place →
      (refused number place ≡ (write register value d buffer).outcome) × ((d ≡ (write register value d buffer).device) × (buffer ≡ (write register value d buffer).buffer))
  unfolding outcome_of write step_by
  refused_call r = rw (tested r) (refl, (refl, refl))

  pub accepted_call : {next : Device} {after : List ℕ} → o ≡ Accepted → next ≡ written register value d buffer → after ≡ buffer_after register value d buffer →
      (accepted ≡ (write register value d buffer).outcome) × ((next ≡ (write register value d buffer).device) × (after ≡ (write register value d buffer).buffer))
  unfolding outcome_of write step_by
  accepted_call r en ea = rw (tested r) (refl, (en, ea))

  -- a data byte has a place
  pub data_there : o ≡ Accepted → register ≡ 9 → (d.taken < 65536) × (d.taken < length buffer)
  unfolding outcome_of write_tests buffer_test full_test
  data_there r nine =
      let p = then_passes (buffer_test buffer) _ (tested r) in
      let q = then_passes (busy_test register value d) _ p.1 in
      let long : length buffer ≡ 65536 = equal_passes 16 2 (length buffer) 65536 p.0 in
      let full : leb 65536 d.taken ≡ false = subst (λ (n : ℕ). (eqb n 9 && leb 65536 d.taken) ≡ false) nine (if_passes 16 1 _ q.1) in
      let fits = leb-false 65536 d.taken full in
      (fits, omega (arith, fits, long))

-- the device and the buffer after a data byte, and after any other write
module _ (register value : ℕ) (d : Device) (buffer : List ℕ) where
  pub data_taken : {next : Device} → register ≡ 9 → next ≡ took_byte d → next ≡ written register value d buffer
  unfolding written
  data_taken e h = h ∙ ap (λ (n : ℕ). written n value d buffer) (sym e)

  pub data_stored : register ≡ 9 → set buffer d.taken value ≡ buffer_after register value d buffer
  unfolding buffer_after
  data_stored e = ap (λ (n : ℕ). buffer_after n value d buffer) (sym e)

  pub none_stored : (register ≡ 9 → ⊥) → buffer ≡ buffer_after register value d buffer
  unfolding buffer_after
  none_stored n = rw (ne_eqb register 9 n)
