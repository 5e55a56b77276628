-- THE DEVICE'S STATEMENTS (02, CR 10). Their words are those of the definition (Device, Coinwise), of Events, and, for two buffers, of the pages of `completeness`.
use Rattle.std.specs.Prelude.{ℕ, ◌+◌, ◌*◌, ◌/◌, ◌%◌, ◌≤◌, ◌<◌, Bool, true, false, List, ◌≡◌, refl, length, take}
use Rattle.std.proofs.Common.{arith, sym}
use Rattle.definition.specs.Block.{stream_of}
use Rattle.device_definition.specs.Device.{Device, Stepped, buffer_test, busy_test, cleared, done, fault_number, fault_place, fresh, full_test, is_busy, read, step_by, tick, write, write_tests}
use Rattle.definition.specs.Reading.{reading}
use Rattle.definition.specs.Sheet.{between, edition1}
use Rattle.definition.specs.Verdict.{Outcome, accepted, refuse_if, refused, ◌then◌}
use Rattle.definition.specs.Verify.{verify}
use Rattle.completeness.specs.Faults.{SameOutside, sheet_in}
use Rattle.device_laws.specs.Events.{Event, Runs, SameForCoins, after_start, beginning, history}
use Rattle.device_laws.proofs.Histories
use Rattle.device_laws.proofs.Quiet
use Rattle.device_laws.proofs.Runs as runs

-- FOR EVERY LIST OF WRITES AND TICKS from a fresh device, with a buffer that nothing else writes, a done outcome is verify's of the bytes that were taken, since the
-- last clear or since fresh, up to its start.
pub device_outcome : (es : List Event) (buffer : List ℕ) → length buffer ≡ 65536 → (o : Outcome) → (history (beginning buffer) es).device.phase ≡ done o →
    o ≡ (verify (history (beginning buffer) es).started).outcome
device_outcome = Histories.device_outcome

-- NO TABLE ENTRY SHOWS BEFORE ITS COIN. A device that is not busy is started with either of two buffers that pass reading, and given n ticks. Where the two streams are
-- the same outside the tables, and at the places of all coins treated with the first buffer, the two devices are equal, every field.
pub device_quiet : (d : Device) (X Y : List ℕ) (n : ℕ) → is_busy d.phase ≡ false → length X ≡ 65536 → length Y ≡ 65536 →
    reading edition1 (take d.taken X) ≡ accepted → reading edition1 (take d.taken Y) ≡ accepted →
    SameOutside edition1 (sheet_in edition1 (take d.taken X)) (stream_of (take d.taken X)) (stream_of (take d.taken Y)) →
    SameForCoins (sheet_in edition1 (take d.taken X)) (stream_of (take d.taken X)) (stream_of (take d.taken Y)) (after_start n d X).treated →
    after_start n d X ≡ after_start n d Y
device_quiet d X Y n free lx ly rx ry same k = Quiet.quiet d X Y free lx ly rx ry same n k

-- ONE COIN WITH EACH TICK: busy, with m coins treated, after m ticks; done with the last coin treated, or at once where none is; and the coins treated are deciding's.
pub device_runs : (d : Device) (buffer : List ℕ) → is_busy d.phase ≡ false → length buffer ≡ 65536 → Runs d buffer (take d.taken buffer)
device_runs d buffer free long = runs.runs d buffer free long

-- A REFUSED CALL keeps the device and the buffer, and is 16 at a place up to 2.
abbrev Kept : Outcome → Stepped → Device → List ℕ → Type 0
Kept accepted s d buffer = Unit {0}
Kept (refused number place) s d buffer = (number ≡ 16) × (place ≤ 2) × (s.device ≡ d) × (s.buffer ≡ buffer)

kept_by : (o : Outcome) (d next : Device) (buffer after : List ℕ) → ((number place : ℕ) → o ≡ refused number place → (number ≡ 16) × (place ≤ 2)) →
    Kept (step_by o d buffer next after).outcome (step_by o d buffer next after) d buffer
unfolding step_by
kept_by accepted d next buffer after k = tt
kept_by (refused number place) d next buffer after k = let p = k number place refl in (p.0, p.1, refl, refl)

sixteen : (q : ℕ) (b : Bool) → q ≤ 2 → (number place : ℕ) → refuse_if 16 q b ≡ refused number place → (number ≡ 16) × (place ≤ 2)
unfolding refuse_if
sixteen q false l number place e = let w : ◌≡◌ {A = ℕ} 0 1 = cc in absurd (omega arith)
sixteen q true l number place e = let n : 16 ≡ number = cc in let p : q ≡ place = cc in (sym n, omega (arith, p, l))

then_sixteen : (a b : Outcome) → ((n q : ℕ) → a ≡ refused n q → (n ≡ 16) × (q ≤ 2)) → ((n q : ℕ) → b ≡ refused n q → (n ≡ 16) × (q ≤ 2)) →
    (n q : ℕ) → (a then b) ≡ refused n q → (n ≡ 16) × (q ≤ 2)
unfolding ◌then◌
then_sixteen accepted b k l n q e = l n q e
then_sixteen (refused m p) b k l n q e = k n q e

pub tick_kept : (d : Device) (buffer : List ℕ) → Kept (tick d buffer).outcome (tick d buffer) d buffer
unfolding tick buffer_test
tick_kept d buffer = kept_by (buffer_test buffer) d _ buffer buffer (sixteen 2 _ (omega arith))

pub write_kept : (register value : ℕ) (d : Device) (buffer : List ℕ) → Kept (write register value d buffer).outcome (write register value d buffer) d buffer
unfolding write write_tests buffer_test busy_test full_test
write_kept register value d buffer =
    kept_by (write_tests register value d buffer) d _ buffer _
    (then_sixteen _ _ (sixteen 2 _ (omega arith)) (then_sixteen _ _ (sixteen 0 _ (omega arith)) (sixteen 1 _ (omega arith))))

-- A CLEAR leaves a fresh device, but for enable.
pub clear_is_fresh : (d : Device) → cleared d ≡ record {
  phase = fresh.phase;
  enable = d.enable;
  flag = fresh.flag;
  taken = fresh.taken;
  treated = fresh.treated;
  folds = fresh.folds;
}
unfolding cleared fresh
clear_is_fresh d = refl

-- a number by its four bytes, low byte first
four_bytes : (p : ℕ) → p < 4294967296 → p / 1 % 256 + 256 * (p / 256 % 256) + 65536 * (p / 65536 % 256) + 16777216 * (p / 16777216 % 256) ≡ p
four_bytes p l =
    let zeroth : p / 1 % 256 ≡ p % 256 = omega arith in
    let first : p ≡ 256 * (p / 256) + p % 256 = omega arith in
    let second : p / 256 ≡ 256 * (p / 65536) + p / 256 % 256 = omega arith in
    let third : p / 65536 ≡ 256 * (p / 16777216) + p / 65536 % 256 = omega arith in
    let last : p / 16777216 % 256 ≡ p / 16777216 = omega arith in
    omega (arith, zeroth, first, second, third, last)

-- THE REGISTERS GIVE A REFUSAL BACK: its number, and its place from four bytes.
pub register_reads : (d : Device) (number place : ℕ) → d.phase ≡ done (refused number place) → number < 256 → place < 4294967296 →
    (read d 4 ≡ number) × (read d 5 + 256 * read d 6 + 65536 * read d 7 + 16777216 * read d 8 ≡ place)
unfolding read fault_number fault_place between
register_reads d number place e small far = rw e (omega arith, four_bytes place far)
