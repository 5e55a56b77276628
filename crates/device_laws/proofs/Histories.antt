-- Every list of register writes and ticks from a fresh device: the done outcome is that of the bytes taken up to its start.
use Rattle.std.specs.Prelude.{ℕ, suc, ◌<◌, Bool, true, false, cond, ◌&&◌, List, [], ◌∷◌, ◌++◌, ◌≡◌, refl, eqb, ltb, length, take}
use Rattle.std.proofs.Common.{arith, true≢false, sym, ap, ◌∙◌, subst, length-set, take-suc-set, eqb-true, eq-eqb, ltb-true, ltb-false, leb-false}
use Rattle.std.proofs.lemmas.List.{length-replicate}
use Rattle.definition.specs.Block.{stream_of}
use Rattle.definition.specs.Deciding.{deciding, out_tests}
use Rattle.device_definition.specs.Device.{Device, Phase, began, buffer_after, buffer_test, busy, busy_test, cleared, command, done, enabled, ended, flagged, folds_of, fresh, full_test, idle, is_busy, no_folds, start, start_by, start_tests, step_by, tick, tick_in, took_byte, treated_one, write, write_tests, written}
use Rattle.definition.specs.Field.{word_count}
use Rattle.definition.specs.Layout.{layout}
use Rattle.definition.specs.Reading.{reading}
use Rattle.definition.specs.Sheet.{Sheet, edition1, sheet_of}
use Rattle.definition.specs.Verdict.{Outcome, Verdict, accepted, refuse_if, refused, then_verdict, ◌then◌}
use Rattle.definition.specs.Verify.{verify, verify_in}
use Rattle.layouts.specs.Tests.{if_passes, then_passes}
use Rattle.device_laws.specs.Events.{Event, History, beginning, history, perform, started_by, taken_by, ticks, writes}
use Rattle.device_laws.specs.FoldPlaces.{none_kept}
use Rattle.device_laws.specs.Running.{Running, S, still_running, tick_done, tick_goes_on}

-- a device that runs on a file
pub record Busy (d : Device) (x : List ℕ) : Type 0 where
  pub begins : start_tests x ≡ accepted
  pub running : Running x begins d

-- what a phase says of the bytes taken and of those of the last start
abbrev Told : Phase → Device → List ℕ → List ℕ → Type 0
Told idle d taken started = Unit {0}
Told busy d taken started = (started ≡ taken) × Busy d taken
Told (done o) d taken started = o ≡ (verify started).outcome

pub record Sound (s : History) : Type 0 where
  pub long : length s.buffer ≡ 65536
  pub bytes : take s.device.taken s.buffer ≡ s.taken
  pub told : Told s.device.phase s.device s.taken s.started

-- ---- a data byte

not_busy : (p : Phase) (d e : Device) (t u v : List ℕ) → is_busy p ≡ false → Told p d t v → Told p e u v
unfolding is_busy
not_busy idle d e t u v h k = tt
not_busy busy d e t u v h k = absurd (true≢false h)
not_busy (done o) d e t u v h k = k

data_byte : (s : History) (value : ℕ) → Sound s → is_busy s.device.phase ≡ false → s.device.taken < 65536 → write_tests 9 value s.device s.buffer ≡ accepted →
    Sound (perform s (writes 9 value))
unfolding perform write written buffer_after step_by taken_by started_by took_byte
data_byte s value ok free less e =
    rw e (record {
      long = length-set s.buffer s.device.taken value ∙ ok.long;
      bytes = take-suc-set s.buffer s.device.taken value (omega (arith, ok.long)) ∙ ap (λ (l : List ℕ). l ++ (value ∷ [])) ok.bytes;
      told = not_busy s.device.phase s.device _ s.taken _ s.started free ok.told;
    })

-- ---- a start

pub refusal_verdict : (x : List ℕ) (number place : ℕ) → start_tests x ≡ refused number place → record { outcome = refused number place; reads = 0 } ≡ verify x
unfolding start_tests verify_in deciding then_verdict ◌then◌
refusal_verdict x number place e = go (reading edition1 x) (out_tests h 12 (layout h) (stream_of x)) refl refl e
  where
    h : Sheet
    h = sheet_of edition1 (stream_of x)

    go : (a c : Outcome) → reading edition1 x ≡ a → out_tests h 12 (layout h) (stream_of x) ≡ c → (a then c) ≡ refused number place → record { outcome = refused number place; reads = 0 } ≡ verify x
    go accepted accepted ea ec k = let w : ◌≡◌ {A = ℕ} 0 1 = cc in absurd (omega arith)
    go accepted (refused m q) ea ec k = rw (ea, ec) (λ i. record { outcome = sym k i; reads = 0 })
    go (refused m q) c ea ec k = rw ea (λ i. record { outcome = sym k i; reads = 0 })

pub no_words : length no_folds ≡ 1152
unfolding no_folds word_count
no_words = length-replicate {A = ℕ} 1152 0

-- a run that has just begun
pub begun : (d : Device) (x : List ℕ) (e : start_tests x ≡ accepted) → Running x e (began d)
unfolding began
begun d x e = record { going = refl; before = (S x e).some_coin; room = no_words; kept = none_kept (sheet_of edition1 (stream_of x)).spelling (began d) refl }

started_told : (d : Device) (x : List ℕ) (o : Outcome) → start_tests x ≡ o → Told (start_by d o).phase (start_by d o) x x
unfolding start_by began ended
started_told d x accepted e = (refl, record { begins = e; running = begun d x e })
started_told d x (refused number place) e = ap (λ (v : Verdict). v.outcome) (refusal_verdict x number place e)

start_keeps : (d : Device) (o : Outcome) → (start_by d o).taken ≡ d.taken
unfolding start_by began ended
start_keeps d accepted = refl
start_keeps d (refused number place) = refl

start_case : (s : History) → Sound s → write_tests 0 1 s.device s.buffer ≡ accepted → Sound (perform s (writes 0 1))
unfolding perform write written buffer_after step_by taken_by started_by command start
start_case s ok e =
    let x = s.taken in
    rw (e, ok.bytes) (record {
      long = ok.long;
      bytes = ap (λ (n : ℕ). take n s.buffer) (start_keeps s.device (start_tests x)) ∙ ok.bytes;
      told = started_told s.device x (start_tests x) refl;
    })

-- ---- a tick

told_busy : (e : Device) (x : List ℕ) → Busy e x → Told e.phase e x x
told_busy e x k = subst (λ (p : Phase). Told p e x x) (sym k.running.going) (refl, k)

tick_busy : (d : Device) (x : List ℕ) → Busy d x → ((tick_in busy d x).taken ≡ d.taken) × Told (tick_in busy d x).phase (tick_in busy d x) x x
unfolding ended treated_one
tick_busy d x k = go (ltb (suc d.treated) (S x k.begins).coins) refl
  where
    go : (u : Bool) → ltb (suc d.treated) (S x k.begins).coins ≡ u → ((tick_in busy d x).taken ≡ d.taken) × Told (tick_in busy d x).phase (tick_in busy d x) x x
    go true e =
        let l = ltb-true (suc d.treated) (S x k.begins).coins e in
        let r = still_running x k.begins d k.running l in
        rw (tick_goes_on x k.begins d k.running l) (refl, told_busy _ x (record { begins = k.begins; running = r }))
    go false e =
        let g = ltb-false (suc d.treated) (S x k.begins).coins e in
        let l : suc d.treated ≡ (S x k.begins).coins = omega (arith, g, k.running.before) in
        rw (tick_done x k.begins d k.running l) (refl, refl)

tick_case : (s : History) → Sound s → Sound (perform s ticks)
unfolding perform tick step_by tick_in buffer_test refuse_if
tick_case s ok = rw (eq-eqb (length s.buffer) 65536 ok.long, ok.bytes) (go s.device.phase ok.told)
  where
    go : (p : Phase) → Told p s.device s.taken s.started → Sound (record { device = tick_in p s.device s.taken; buffer = s.buffer; taken = s.taken; started = s.started })
    go idle k = record { long = ok.long; bytes = ok.bytes; told = ok.told }
    go busy k =
        let t = tick_busy s.device s.taken k.1 in
        record {
          long = ok.long;
          bytes = ap (λ (n : ℕ). take n s.buffer) t.0 ∙ ok.bytes;
          told = subst (λ (z : List ℕ). Told (tick_in busy s.device s.taken).phase (tick_in busy s.device s.taken) s.taken z) (sym k.0) t.1;
        }
    go (done o) k = record { long = ok.long; bytes = ok.bytes; told = ok.told }

-- ---- the other writes

clear_case : (s : History) → Sound s → write_tests 0 2 s.device s.buffer ≡ accepted → Sound (perform s (writes 0 2))
unfolding perform write written buffer_after step_by taken_by started_by command cleared
clear_case s ok e = rw e (record { long = ok.long; bytes = refl; told = tt })

-- what a refused write leaves
refused_case : (s : History) (register value number place : ℕ) → Sound s → write_tests register value s.device s.buffer ≡ refused number place → Sound (perform s (writes register value))
unfolding perform write step_by taken_by started_by
refused_case s register value number place ok e = rw e (record { long = ok.long; bytes = ok.bytes; told = ok.told })

-- a device with another enable and flag
other_told : (p : Phase) (d : Device) (u v : Bool) (t z : List ℕ) → d.phase ≡ p → Told p d t z →
    Told p (record { phase = d.phase; enable = u; flag = v; taken = d.taken; treated = d.treated; folds = d.folds }) t z
unfolding folds_of
other_told idle d u v t z e k = tt
other_told busy d u v t z e k = (
  k.0,
  record { begins = k.1.begins; running = record { going = k.1.running.going; before = k.1.running.before; room = k.1.running.room; kept = k.1.running.kept } },
)
other_told (done o) d u v t z e k = k

other_command : (s : History) (value : ℕ) → Sound s → eqb value 1 ≡ false → eqb value 2 ≡ false → write_tests 0 value s.device s.buffer ≡ accepted →
    Sound (perform s (writes 0 value))
unfolding perform write written buffer_after step_by taken_by started_by command
other_command s value ok a c e = rw (e, a, c) (record { long = ok.long; bytes = ok.bytes; told = ok.told })

other_register : (s : History) (register value : ℕ) → Sound s → eqb register 0 ≡ false → eqb register 9 ≡ false → write_tests register value s.device s.buffer ≡ accepted →
    Sound (perform s (writes register value))
unfolding perform write written buffer_after step_by taken_by started_by enabled flagged
other_register s register value ok a c e = rw (e, a, c) (go (eqb register 2) (eqb register 3))
  where
    go : (two three : Bool) → Sound (record {
      device = cond two (enabled value s.device) (cond three (flagged value s.device) s.device);
      buffer = s.buffer;
      taken = s.taken;
      started = s.started;
    })
    go true three = record { long = ok.long; bytes = ok.bytes; told = other_told s.device.phase s.device _ _ s.taken s.started refl ok.told }
    go false true = record { long = ok.long; bytes = ok.bytes; told = other_told s.device.phase s.device _ _ s.taken s.started refl ok.told }
    go false false = record { long = ok.long; bytes = ok.bytes; told = ok.told }

-- what the tests of a data byte say
data_tests : (d : Device) (value : ℕ) (buffer : List ℕ) → write_tests 9 value d buffer ≡ accepted → (is_busy d.phase ≡ false) × (d.taken < 65536)
unfolding write_tests busy_test full_test
data_tests d value buffer e =
    let p = then_passes (buffer_test buffer) _ e in
    let q = then_passes (busy_test 9 value d) _ p.1 in
    (left (is_busy d.phase) (if_passes 16 0 _ q.0), leb-false 65536 d.taken (if_passes 16 1 _ q.1))
  where
    left : (b : Bool) → (b && true) ≡ false → b ≡ false
    left true k = k
    left false k = refl

write_case : (s : History) (register value : ℕ) → Sound s → (o : Outcome) → write_tests register value s.device s.buffer ≡ o → Sound (perform s (writes register value))
write_case s register value ok (refused number place) e = refused_case s register value number place ok e
write_case s register value ok accepted e = go (eqb register 9) refl (eqb register 0) refl (eqb value 1) refl (eqb value 2) refl
  where
    go : (r9 : Bool) → eqb register 9 ≡ r9 → (r0 : Bool) → eqb register 0 ≡ r0 → (v1 : Bool) → eqb value 1 ≡ v1 → (v2 : Bool) → eqb value 2 ≡ v2 → Sound (perform s (writes register value))
    go true e9 r0 e0 v1 e1 v2 e2 =
        let z = eqb-true register 9 e9 in
        let t = subst (λ (n : ℕ). write_tests n value s.device s.buffer ≡ accepted) z e in
        let p = data_tests s.device value s.buffer t in
        subst (λ (n : ℕ). Sound (perform s (writes n value))) (sym z) (data_byte s value ok p.0 p.1 t)
    go false e9 false e0 v1 e1 v2 e2 = other_register s register value ok e0 e9 e
    go false e9 true e0 true e1 v2 e2 =
        let z = eqb-true register 0 e0 in
        let y = eqb-true value 1 e1 in
        let t : write_tests 0 1 s.device s.buffer ≡ accepted = (λ i. write_tests (sym z i) (sym y i) s.device s.buffer) ∙ e in
        subst (λ (n : ℕ). Sound (perform s (writes n value))) (sym z) (subst (λ (n : ℕ). Sound (perform s (writes 0 n))) (sym y) (start_case s ok t))
    go false e9 true e0 false e1 true e2 =
        let z = eqb-true register 0 e0 in
        let y = eqb-true value 2 e2 in
        let t : write_tests 0 2 s.device s.buffer ≡ accepted = (λ i. write_tests (sym z i) (sym y i) s.device s.buffer) ∙ e in
        subst (λ (n : ℕ). Sound (perform s (writes n value))) (sym z) (subst (λ (n : ℕ). Sound (perform s (writes 0 n))) (sym y) (clear_case s ok t))
    go false e9 true e0 false e1 false e2 =
        let z = eqb-true register 0 e0 in
        let t : write_tests 0 value s.device s.buffer ≡ accepted = (λ i. write_tests (sym z i) value s.device s.buffer) ∙ e in
        subst (λ (n : ℕ). Sound (perform s (writes n value))) (sym z) (other_command s value ok e1 e2 t)

sound : (es : List Event) (s : History) → Sound s → Sound (history s es)
unfolding history
sound [] s ok = ok
sound (writes register value ∷ es) s ok = sound es (perform s (writes register value)) (write_case s register value ok _ refl)
sound (ticks ∷ es) s ok = sound es (perform s ticks) (tick_case s ok)

pub from_fresh : (es : List Event) (buffer : List ℕ) → length buffer ≡ 65536 → Sound (history (beginning buffer) es)
unfolding beginning fresh
from_fresh es buffer long = sound es (beginning buffer) (record { long = long; bytes = refl; told = tt })

-- THE DONE OUTCOME, after every list of writes and ticks from a fresh device, is verify's of the bytes that the last start had.
pub device_outcome : (es : List Event) (buffer : List ℕ) → length buffer ≡ 65536 → (o : Outcome) → (history (beginning buffer) es).device.phase ≡ done o →
    o ≡ (verify (history (beginning buffer) es).started).outcome
device_outcome es buffer long o e =
    let s = history (beginning buffer) es in
    subst (λ (p : Phase). Told p s.device s.taken s.started) e (from_fresh es buffer long).told

-- the bytes taken are the first of the buffer
pub device_bytes : (es : List Event) (buffer : List ℕ) → length buffer ≡ 65536 →
    take (history (beginning buffer) es).device.taken (history (beginning buffer) es).buffer ≡ (history (beginning buffer) es).taken
device_bytes es buffer long = (from_fresh es buffer long).bytes
