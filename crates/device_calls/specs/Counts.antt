-- The counts of a device keep their room in a word: bytes are taken up to the buffer's length, and coins are treated up to a file's number of them.
use Rattle.std.specs.Prelude.{ℕ, ◌≤◌, ◌<◌, Bool, true, false, cond, ◌&&◌, List, ◌≡◌, refl, eqb, leb, ltb, take}
use Rattle.std.proofs.Common.{arith, leb-false, ltb-true}
use Rattle.std.proofs.Math.Option.{Option, none, some}
use Rattle.definition.specs.Block.{stream_of}
use Rattle.definition.specs.Field.{Spelling, Element}
use Rattle.definition.specs.Reading.{reading}
use Rattle.definition.specs.Sheet.{Sheet, edition1}
use Rattle.definition.specs.Transcript.{Transcript}
use Rattle.definition.specs.Verdict.{Outcome, accepted, refused}
use Rattle.device_definition.specs.Device.{Device, Phase, Stepped, began, buffer_test, busy, busy_test, cleared, command, done, enabled, ended, ended_by, flagged, fresh, full_test, idle, start, start_by, start_tests, step_by, tick, tick_by, tick_in, took_byte, treat, treat_in, treated_one, write, write_tests, written}
use Rattle.layouts.specs.Tests.{if_passes, then_passes}
use Rattle.device_definition.specs.Coinwise.{index_count}
use Rattle.device_laws.specs.Coins.{few_coins}

pub record Small (d : Device) : Type 0 where
  pub taken : d.taken < 4294967296
  pub treated : d.treated < 4294967296

pub fresh_small : Small fresh
unfolding fresh
fresh_small = record { taken = omega arith; treated = omega arith }

-- one device or another
either : (b : Bool) {x y : Device} → Small x → Small y → Small (cond b x y)
either true h k = h
either false h k = k

start_small : (d : Device) (o : Outcome) → Small d → Small (start_by d o)
unfolding start_by began ended
start_small d accepted h = record { taken = h.taken; treated = omega arith }
start_small d (refused number place) h = record { taken = h.taken; treated = omega arith }

command_small : (value : ℕ) (d : Device) (bytes : List ℕ) → Small d → Small (command value d bytes)
unfolding command start cleared
command_small value d bytes h = either (eqb value 1) (start_small d (start_tests bytes) h) (either (eqb value 2) (record { taken = omega arith; treated = omega arith }) h)

-- a data byte is taken where there is room for it
took_small : (register : ℕ) (d : Device) → (eqb register 9 && leb 65536 d.taken) ≡ false → Small d → Small (cond (eqb register 9) (took_byte d) d)
unfolding took_byte
took_small register d h k = go (eqb register 9) h
  where
    go : (b : Bool) → (b && leb 65536 d.taken) ≡ false → Small (cond b (took_byte d) d)
    go true e = let l = leb-false 65536 d.taken e in record { taken = omega arith; treated = k.treated }
    go false e = k

written_small : (register value : ℕ) (d : Device) (buffer : List ℕ) → full_test register d ≡ accepted → Small d → Small (written register value d buffer)
unfolding written full_test enabled flagged
written_small register value d buffer fits h =
    either (eqb register 0) (command_small value d (take d.taken buffer) h)
    (either (eqb register 2) (record { taken = h.taken; treated = h.treated })
    (either (eqb register 3) (record { taken = h.taken; treated = h.treated }) (took_small register d (if_passes 16 1 _ fits) h)))

-- one coin more is treated where there is one, so that there are at most 288
ended_small : (d : Device) (o : Option Outcome) → Small d → Small (ended_by d o)
unfolding ended_by ended
ended_small d none h = h
ended_small d (some o) h = record { taken = h.taken; treated = h.treated }

treat_small : (σ : Spelling) (h : Sheet) (τ : Transcript (Element σ)) (d : Device) → index_count τ.rest ≤ 288 → Small d → Small (treat σ h τ d)
unfolding treat treat_in treated_one
treat_small σ h τ d few k = go (ltb d.treated (index_count τ.rest)) refl
  where
    go : (b : Bool) → ltb d.treated (index_count τ.rest) ≡ b → Small (cond b (treat_in σ h τ d) d)
    go true e = ended_small _ _ (record { taken = k.taken; treated = omega (arith, ltb-true d.treated (index_count τ.rest) e, few) })
    go false e = k

passes : (bytes : List ℕ) → start_tests bytes ≡ accepted → reading edition1 bytes ≡ accepted
unfolding start_tests
passes bytes e = (then_passes (reading edition1 bytes) _ e).0

tick_small : (phase : Phase) (d : Device) (bytes : List ℕ) → Small d → Small (tick_in phase d bytes)
unfolding tick_in tick_by ended
tick_small idle d bytes h = h
tick_small busy d bytes h = go (start_tests bytes) refl
  where
    go : (o : Outcome) → start_tests bytes ≡ o → Small (tick_by d (stream_of bytes) o)
    go accepted e = treat_small _ _ _ d (few_coins edition1 bytes (passes bytes e)) h
    go (refused number place) e = record { taken = h.taken; treated = h.treated }
tick_small (done o) d bytes h = h

-- what is told of a call: the counts after it are small, and where it is refused the device is as before
pub record Sound (d : Device) (s : Stepped) : Type 0 where
  pub small : Small s.device
  pub kept : (number place : ℕ) → s.outcome ≡ refused number place → s.device ≡ d

step_sound : (o : Outcome) (d next : Device) (buffer after : List ℕ) → Small d → (o ≡ accepted → Small next) → Sound d (step_by o d buffer next after)
unfolding step_by
step_sound accepted d next buffer after h k = record { small = k refl; kept = λ number place e. not_refused number place e }
  where
    not_refused : (number place : ℕ) → accepted ≡ refused number place → next ≡ d
    not_refused number place e = let w : ◌≡◌ {A = ℕ} 0 1 = cc in absurd (omega arith)
step_sound (refused number place) d next buffer after h k = record { small = h; kept = λ n p e. refl }

pub write_sound : (register value : ℕ) (d : Device) (buffer : List ℕ) → Small d → Sound d (write register value d buffer)
unfolding write write_tests
write_sound register value d buffer h =
    step_sound (write_tests register value d buffer) d (written register value d buffer) buffer _ h
    (λ e. written_small register value d buffer (then_passes (busy_test register value d) _ (then_passes (buffer_test buffer) _ e).1).1 h)

pub tick_sound : (d : Device) (buffer : List ℕ) → Small d → Sound d (tick d buffer)
unfolding tick
tick_sound d buffer h = step_sound (buffer_test buffer) d _ buffer buffer h (λ e. tick_small d.phase d (take d.taken buffer) h)
