-- The judge behind registers (02, CR 10).
use Rattle.std.specs.Prelude.{ℕ, suc, ◌+◌, ◌-◌, ◌*◌, ◌/◌, ◌%◌, ◌^◌, Bool, true, false, cond, not, ◌&&◌, ◌||◌, List, [], ◌∷◌, ◌++◌, eqb, leb, ltb, length, take, drop, set, replicate}
use Rattle.std.proofs.Math.Option.{Option, none, some}
use Rattle.definition.specs.Field.{Spelling, four, Element, field_in, number_in, word_count, elements_in, words_of}
use Rattle.definition.specs.Sheet.{Sheet, edition1, sheet_of, sheet_length, most_repetitions, between, first_level, root_of_unity}
use Rattle.definition.specs.Transcript.{Transcript}
use Rattle.definition.specs.Layout.{layout, read_transcript}
use Rattle.definition.specs.Block.{stream_of}
use Rattle.definition.specs.Verdict.{Outcome, accepted, refused, refuse_if, ◌then◌}
use Rattle.definition.specs.Reading.{reading}
use Rattle.definition.specs.Deciding.{out_tests, table_function}
use Rattle.device_definition.specs.Coinwise.{index_count, next_fold, settled}

-- the length of the lent buffer, and the most shift and final coins of a file
abbrev pub buffer_length : ℕ
buffer_length = 65536

abbrev pub most_coins : ℕ
most_coins = 6 * most_repetitions

-- places for the words of their folds, nothing in them
unfoldable pub no_folds : List ℕ
no_folds = replicate (word_count four most_coins) 0

-- Neither running nor done; running; or done with an outcome.
pub data Phase : Type 0 where
  idle : Phase
  busy : Phase
  done : Outcome → Phase

-- The device's state between two calls; the buffer is lent anew to each. taken: how many bytes were taken since the last clear or since fresh. treated: how
-- many shift and final coins were treated in this run. folds: places for the words of the folds at them, of which those of the first `treated` are in use.
-- Nothing else of a run is kept.
pub record Device : Type 0 where
  pub phase : Phase
  pub enable : Bool
  pub flag : Bool
  pub taken : ℕ
  pub treated : ℕ
  pub folds : List ℕ

unfoldable pub fresh : Device
fresh = record { phase = idle; enable = false; flag = false; taken = 0; treated = 0; folds = no_folds }

-- a run begins, with no coin treated: done is dropped, the flag is not
unfoldable pub began : Device → Device
began d = record { phase = busy; enable = d.enable; flag = d.flag; taken = d.taken; treated = 0; folds = no_folds }

-- it ends: done sets the flag
unfoldable pub ended : Device → Outcome → Device
ended d o = record { phase = done o; enable = d.enable; flag = true; taken = d.taken; treated = d.treated; folds = d.folds }

-- words put into a list in place of those from a number on
unfoldable pub overwritten : List ℕ → ℕ → List ℕ → List ℕ
overwritten l at words = take at l ++ (words ++ drop (at + length words) l)

-- the folds at the coins treated
unfoldable pub folds_of : (σ : Spelling) → Device → List (Element σ)
folds_of σ d = elements_in σ (take (word_count σ d.treated) d.folds)

-- one coin more was treated, with this fold
unfoldable pub treated_one : (σ : Spelling) → Device → Element σ → Device
treated_one σ d fold = record {
  phase = d.phase;
  enable = d.enable;
  flag = d.flag;
  taken = d.taken;
  treated = suc d.treated;
  folds = overwritten d.folds (word_count σ d.treated) (words_of σ (fold ∷ []));
}

-- clear: no bytes taken, no run, neither done nor flag; enable stays
unfoldable pub cleared : Device → Device
cleared d = record { phase = idle; enable = d.enable; flag = false; taken = 0; treated = 0; folds = no_folds }

unfoldable pub is_busy : Phase → Bool
is_busy idle = false
is_busy busy = true
is_busy (done o) = false

-- Start, of the bytes taken: reading, and the refusals before the first shift or final coin. Such a refusal is done at once.
unfoldable pub start_tests : List ℕ → Outcome
start_tests bytes =
    let w = stream_of bytes in
    reading edition1 bytes then out_tests (sheet_of edition1 w) (sheet_length edition1) (layout (sheet_of edition1 w)) w

unfoldable pub start_by : Device → Outcome → Device
start_by d accepted = began d
start_by d (refused number place) = ended (began d) (refused number place)

unfoldable pub start : Device → List ℕ → Device
start d bytes = start_by d (start_tests bytes)

-- The next coin of a transcript treated: its fold is kept, and it may settle the outcome.
unfoldable pub ended_by : Device → Option Outcome → Device
ended_by d none = d
ended_by d (some o) = ended d o

unfoldable pub treat_in : (σ : Spelling) → Sheet → Transcript (Element σ) → Device → Device
treat_in σ h τ d =
    let F = field_in σ h.prime in
    let ω = number_in σ (root_of_unity h) in
    let first = first_level h in
    let fold = next_fold F ω first (table_function F ω first τ.table).value τ.fold (folds_of σ d) τ.rest in
    let next = treated_one σ d fold in
    ended_by next (settled F ω first (folds_of σ next) τ.rest)

-- where there is a next coin
unfoldable pub treat : (σ : Spelling) → Sheet → Transcript (Element σ) → Device → Device
treat σ h τ d = cond (ltb d.treated (index_count τ.rest)) (treat_in σ h τ d) d

-- A tick, of the bytes taken. Where they no longer pass the tests of a start the run ends with the refusal; where no coin is left nothing changes. Neither is met
-- from a fresh device whose buffer nothing else writes.
unfoldable pub tick_by : Device → List ℕ → Outcome → Device
tick_by d w accepted =
    let h = sheet_of edition1 w in
    treat h.spelling h (read_transcript h.spelling h (drop (sheet_length edition1) w)) d
tick_by d w (refused number place) = ended d (refused number place)

unfoldable pub tick_in : Phase → Device → List ℕ → Device
tick_in idle d bytes = d
tick_in busy d bytes = tick_by d (stream_of bytes) (start_tests bytes)
tick_in (done o) d bytes = d

-- What a call answers, and the device and the buffer after it; refused: both as before.
pub record Stepped : Type 0 where
  pub outcome : Outcome
  pub device : Device
  pub buffer : List ℕ

unfoldable pub step_by : Outcome → Device → List ℕ → Device → List ℕ → Stepped
step_by accepted d buffer next after = record { outcome = accepted; device = next; buffer = after }
step_by (refused number place) d buffer next after = record { outcome = refused number place; device = d; buffer = buffer }

-- 16 at place 2: a lent buffer of another length
unfoldable pub buffer_test : List ℕ → Outcome
buffer_test buffer = refuse_if 16 2 (not (eqb (length buffer) buffer_length))

-- A tick, with the buffer lent.
unfoldable pub tick : Device → List ℕ → Stepped
tick d buffer = step_by (buffer_test buffer) d buffer (tick_in d.phase d (take d.taken buffer)) buffer

-- register 0: 1 starts, 2 clears
unfoldable pub command : ℕ → Device → List ℕ → Device
command value d bytes = cond (eqb value 1) (start d bytes) (cond (eqb value 2) (cleared d) d)

-- register 2: interrupt enable; 3: a 1 clears the flag
unfoldable pub enabled : ℕ → Device → Device
enabled value d = record {
  phase = d.phase;
  enable = eqb (value % 2) 1;
  flag = d.flag;
  taken = d.taken;
  treated = d.treated;
  folds = d.folds;
}

unfoldable pub flagged : ℕ → Device → Device
flagged value d = record {
  phase = d.phase;
  enable = d.enable;
  flag = d.flag && eqb (value % 2) 0;
  taken = d.taken;
  treated = d.treated;
  folds = d.folds;
}

-- register 9: a data byte is taken
unfoldable pub took_byte : Device → Device
took_byte d = record {
  phase = d.phase;
  enable = d.enable;
  flag = d.flag;
  taken = suc d.taken;
  treated = d.treated;
  folds = d.folds;
}

-- the device after a write that no test refuses, and the buffer after it
unfoldable pub written : ℕ → ℕ → Device → List ℕ → Device
written register value d buffer =
    cond (eqb register 0) (command value d (take d.taken buffer))
    (cond (eqb register 2) (enabled value d)
    (cond (eqb register 3) (flagged value d)
    (cond (eqb register 9) (took_byte d) d)))

unfoldable pub buffer_after : ℕ → ℕ → Device → List ℕ → List ℕ
buffer_after register value d buffer = cond (eqb register 9) (set buffer d.taken value) buffer

-- 16: a buffer of another length (2), a data byte or start while busy (0), a data byte into a full buffer (1)
unfoldable pub busy_test : ℕ → ℕ → Device → Outcome
busy_test register value d = refuse_if 16 0 (is_busy d.phase && (eqb register 9 || (eqb register 0 && eqb value 1)))

unfoldable pub full_test : ℕ → Device → Outcome
full_test register d = refuse_if 16 1 (eqb register 9 && leb buffer_length d.taken)

unfoldable pub write_tests : ℕ → ℕ → Device → List ℕ → Outcome
write_tests register value d buffer = buffer_test buffer then busy_test register value d then full_test register d

-- A byte written to a register, with the buffer lent.
unfoldable pub write : ℕ → ℕ → Device → List ℕ → Stepped
write register value d buffer =
    step_by (write_tests register value d buffer) d buffer (written register value d buffer) (buffer_after register value d buffer)

-- A register read, a byte: 1 status (bit 0 busy, bit 1 done), 2 interrupt enable, 3 interrupt flag, 4 fault number, 5 to 8 place, low byte first.
unfoldable pub bit : Bool → ℕ
bit true = 1
bit false = 0

unfoldable pub status_in : Phase → ℕ
status_in idle = 0
status_in busy = 1
status_in (done o) = 2

unfoldable pub fault_number : Phase → ℕ
fault_number idle = 0
fault_number busy = 0
fault_number (done accepted) = 0
fault_number (done (refused number place)) = number

unfoldable pub fault_place : Phase → ℕ
fault_place idle = 0
fault_place busy = 0
fault_place (done accepted) = 0
fault_place (done (refused number place)) = place

unfoldable pub read : Device → ℕ → ℕ
read d register =
    cond (eqb register 1) (status_in d.phase)
    (cond (eqb register 2) (bit d.enable)
    (cond (eqb register 3) (bit d.flag)
    (cond (eqb register 4) (fault_number d.phase % 256)
    (cond (between 5 8 register) (fault_place d.phase / 256 ^ (register - 5) % 256) 0))))

-- the interrupt line
unfoldable pub line : Device → Bool
line d = d.flag && d.enable
