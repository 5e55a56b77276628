-- The device (02, CR 10): runs tick by tick, each register, the line, and 16 with its places, by computation.
use Rattle.std.specs.Prelude.{ℕ, zero, suc, Bool, true, false, List, [], ◌∷◌, ◌++◌, map, ◌≡◌, refl, length, set, replicate}
use Rattle.definition.specs.Lists.{range}
use Rattle.definition.specs.Block.{file_of}
use Rattle.definition.specs.Verdict.{Outcome, accepted, refused}
use Rattle.definition.specs.Sheet.{edition1}
use Rattle.definition.specs.Prover.{honest_stream}
use Rattle.device_definition.specs.Coinwise.{index_count, places_of_coin, answers_by, next_fold, differs_at, settled}
use Rattle.device_definition.specs.Device.{buffer_length, no_folds, overwritten, Phase, idle, busy, done, Device, fresh, began, ended, folds_of, treated_one, cleared, is_busy, start_tests, start_by, start, ended_by, treat_in, treat, tick_by, tick_in, Stepped, step_by, buffer_test, tick, command, enabled, flagged, took_byte, written, buffer_after, busy_test, full_test, write_tests, write, bit, status_in, fault_number, fault_place, read, line}
use Rattle.definition.specs.WorkedTranscript.{file, stream, doubled, two_outs, smallest, definitions}

-- all names of the device, unfolded by this one
unfoldable pub device_definitions : Unit {0}
unfolding
    overwritten index_count places_of_coin answers_by next_fold differs_at settled no_folds fresh began ended folds_of treated_one cleared is_busy start_tests start_by start ended_by treat_in treat tick_by
    tick_in step_by buffer_test tick command enabled flagged took_byte written buffer_after busy_test full_test write_tests write bit status_in fault_number fault_place read line
device_definitions = tt

-- a device, neither enabled nor flagged, that has taken so many bytes
abbrev pub loaded : ℕ → Device
loaded count = record { phase = idle; enable = false; flag = false; taken = count; treated = 0; folds = no_folds }

-- the state in a run of a file of one block: phase, flag, and the folds of the coins treated
abbrev pub in_run : Phase → Bool → List ℕ → Device
in_run p up folds = record { phase = p; enable = false; flag = up; taken = 512; treated = length folds; folds = overwritten no_folds 0 folds }

-- the same with so many coins treated, and the words of their folds
abbrev pub in_run_of : Phase → Bool → ℕ → List ℕ → Device
in_run_of p up count folds = record { phase = p; enable = false; flag = up; taken = 512; treated = count; folds = overwritten no_folds 0 folds }

abbrev pub first_fold : List ℕ
first_fold = 1876482973 ∷ 1384710539 ∷ 1421824780 ∷ 1458939021 ∷ []

-- field 3: the smallest sheet, with no round; and n0 = 16, d0 = 8, k = 2, M = 1, s = 2, whose table 1 is the words 80 to 111
abbrev pub small : List ℕ
small = honest_stream edition1 (3 ∷ 4 ∷ 2 ∷ 2 ∷ 0 ∷ 1 ∷ 1 ∷ replicate 5 0) (range 1 8) (9 ∷ 10 ∷ 11 ∷ 12 ∷ 1 ∷ [])

abbrev pub four_words : List ℕ
four_words =
    honest_stream edition1 (3 ∷ 16 ∷ 8 ∷ 2 ∷ 1 ∷ 2 ∷ 1 ∷ 1 ∷ replicate 4 0) (range 1 32)
    (2 ∷ 1 ∷ 0 ∷ 0 ∷ 3 ∷ 0 ∷ 0 ∷ 1 ∷ 3 ∷ 0 ∷ 0 ∷ 2 ∷ 5 ∷ 6 ∷ 7 ∷ 8 ∷ 4 ∷ 3 ∷ 2 ∷ 1 ∷ 0 ∷ 1 ∷ [])

-- so many ticks
unfoldable pub ticks : ℕ → List ℕ → Device → Device
ticks zero bytes d = d
ticks (suc n) bytes d = let e = ticks n bytes d in tick_in e.phase e bytes

-- a start on the bytes taken, and so many ticks
abbrev pub after : ℕ → List ℕ → Device
after n bytes = ticks n bytes (start (loaded 512) bytes)

-- registers 0 to 10
abbrev pub registers : Device → List ℕ
registers d = map (read d) (range 0 11)

-- done with a refusal whose place has four bytes
abbrev pub refused_far : Device
refused_far = record { phase = done (refused 5 67305985); enable = true; flag = true; taken = 3; treated = 0; folds = [] }

abbrev pub zeros : List ℕ
zeros = replicate buffer_length 0

-- the buffer with the transcript by hand at its front
abbrev pub lent : List ℕ
lent = file ++ replicate 65024 0

-- a device with no coin treated: phase, enable, flag and the number of bytes taken
abbrev pub with : Phase → Bool → Bool → ℕ → Device
with p enable flag taken = record { phase = p; enable = enable; flag = flag; taken = taken; treated = 0; folds = no_folds }

abbrev pub answered : Outcome → Device → List ℕ → Stepped
answered o d buffer = record { outcome = o; device = d; buffer = buffer }

-- Runs, of the bytes taken.
pub record RunCases : Type 0 where
  -- the transcript by hand: two coins, so two ticks; done comes with the second, and a tick more changes nothing
  pub hand_start : after 0 file ≡ in_run busy false []
  pub hand_first : after 1 file ≡ in_run busy false (16 ∷ [])
  pub hand_second : after 2 file ≡ in_run (done accepted) true (16 ∷ 9 ∷ [])
  pub hand_third : after 3 file ≡ after 2 file
  -- two coins a round: four ticks; one final coin and no round: one tick
  pub doubled_third : after 3 (file_of doubled) ≡ in_run busy false (7 ∷ 8 ∷ 13 ∷ [])
  pub doubled_fourth : after 4 (file_of doubled) ≡ in_run (done accepted) true (7 ∷ 8 ∷ 13 ∷ 14 ∷ [])
  pub no_round : after 1 (file_of smallest) ≡ in_run (done accepted) true (7 ∷ [])
  -- 8 at the last shift coin of its round, where the out coin is the first shift point
  pub eight_waits : after 1 (file_of (set doubled 37 9)) ≡ in_run busy false (7 ∷ [])
  pub eight : after 2 (file_of (set doubled 37 9)) ≡ in_run (done (refused 8 1)) true (7 ∷ 8 ∷ [])
  -- 9 at its final coin: the first; the second alone
  pub nine_at_first : after 3 (file_of (set (set doubled 43 12) 44 13)) ≡ in_run (done (refused 9 0)) true (7 ∷ 8 ∷ 13 ∷ [])
  pub nine_at_second : after 4 (file_of (set (set doubled 43 5) 44 13)) ≡ in_run (done (refused 9 1)) true (7 ∷ 8 ∷ 13 ∷ 14 ∷ [])
  -- done at once: each refusal before the first shift or final coin
  pub one : after 0 [] ≡ in_run (done (refused 1 0)) true []
  pub two : after 0 (set file 508 254) ≡ in_run (done (refused 2 0)) true []
  pub three : after 0 (file_of (set stream 7 0)) ≡ in_run (done (refused 3 7)) true []
  pub four : after 0 (file_of (stream ++ replicate 100 0)) ≡ in_run (done (refused 4 1)) true []
  pub five : after 0 (file_of (set stream 12 17)) ≡ in_run (done (refused 5 12)) true []
  pub six : after 0 (file_of (stream ++ (1 ∷ []))) ≡ in_run (done (refused 6 45)) true []
  pub seven : after 0 (file_of (set stream 37 3)) ≡ in_run (done (refused 7 37)) true []
  pub fourteen : after 0 (file_of (set two_outs 38 0)) ≡ in_run (done (refused 14 38)) true []
  -- an entry of table 1 that the final coin reads shows with that coin and not before; one that no coin reads never shows
  pub entry_hidden : after 1 (file_of (set stream 30 4)) ≡ after 1 file
  pub entry_shown : after 2 (file_of (set stream 30 4)) ≡ in_run (done (refused 9 0)) true (16 ∷ 6 ∷ [])
  pub entry_unread : after 2 (file_of (set stream 29 4)) ≡ after 2 file
  -- field 3: a fold is four words
  pub four_small : after 1 (file_of small) ≡ in_run_of (done accepted) true 1 (2565 ∷ 1998 ∷ 1237 ∷ 272 ∷ [])
  pub four_first : after 1 (file_of four_words) ≡ in_run_of busy false 1 first_fold
  pub four_second : after 2 (file_of four_words) ≡ in_run_of (done accepted) true 2 (first_fold ++ (320308531 ∷ 562798266 ∷ 337099998 ∷ 1797531877 ∷ []))
  pub four_hidden : after 1 (file_of (set four_words 84 1)) ≡ after 1 (file_of four_words)
  pub four_shown : after 2 (file_of (set four_words 84 1)) ≡ in_run_of (done (refused 9 0)) true 2 (first_fold ++ (375845599 ∷ 906075379 ∷ 586095871 ∷ 1070019216 ∷ []))
  -- a buffer that no longer passes reading, or the tests of out coins, ends the run
  pub buffer_inside : ticks 1 (file_of (set stream 37 3)) (after 1 file) ≡ in_run (done (refused 7 37)) true (16 ∷ [])
  pub buffer_changed : ticks 1 (set file 508 254) (after 1 file) ≡ in_run (done (refused 2 0)) true (16 ∷ [])
  -- a made-up state with no coin left
  pub no_coin_left : ticks 1 file (in_run busy false (16 ∷ 9 ∷ [])) ≡ in_run busy false (16 ∷ 9 ∷ [])

pub run_cases : RunCases
unfolding definitions device_definitions ticks
run_cases = record {
  hand_start = refl;
  hand_first = refl;
  hand_second = refl;
  hand_third = refl;
  doubled_third = refl;
  doubled_fourth = refl;
  no_round = refl;
  eight_waits = refl;
  eight = refl;
  nine_at_first = refl;
  nine_at_second = refl;
  one = refl;
  two = refl;
  three = refl;
  four = refl;
  five = refl;
  six = refl;
  seven = refl;
  fourteen = refl;
  entry_hidden = refl;
  entry_shown = refl;
  entry_unread = refl;
  four_small = refl;
  four_first = refl;
  four_second = refl;
  four_hidden = refl;
  four_shown = refl;
  buffer_inside = refl;
  buffer_changed = refl;
  no_coin_left = refl;
}

-- Calls. Of each kind some are with the whole buffer lent, which is long to compute.
pub record CallCases : Type 0 where
  -- start, ticks, the registers
  pub fresh_registers : registers fresh ≡ replicate 11 0
  pub fresh_line : line fresh ≡ false
  pub lent_start : write 0 1 (loaded 512) lent ≡ answered accepted (in_run busy false []) lent
  pub lent_tick : (tick (in_run busy false []) lent).device ≡ (in_run busy false (16 ∷ []))
  pub lent_done : tick (in_run busy false (16 ∷ [])) lent ≡ answered accepted (in_run (done accepted) true (16 ∷ 9 ∷ [])) lent
  pub busy_registers : registers (in_run busy false (16 ∷ [])) ≡ 0 ∷ 1 ∷ replicate 9 0
  pub done_registers : registers (in_run (done accepted) true (16 ∷ 9 ∷ [])) ≡ 0 ∷ 2 ∷ 0 ∷ 1 ∷ replicate 7 0
  pub place_low_byte_first : registers refused_far ≡ 0 ∷ 2 ∷ 1 ∷ 1 ∷ 5 ∷ 1 ∷ 2 ∷ 3 ∷ 4 ∷ 0 ∷ 0 ∷ []
  pub other_registers : map (read refused_far) (100 ∷ 255 ∷ []) ≡ 0 ∷ 0 ∷ []
  -- the line: flag and enable
  pub line_up : line refused_far ≡ true
  pub line_no_enable : line (in_run (done accepted) true []) ≡ false
  pub line_no_flag : line (enabled 1 (loaded 0)) ≡ false
  -- enable takes bit 0 alone; a 1 in bit 0 clears the flag, and nothing sets it
  pub enable_3 : written 2 3 (loaded 0) [] ≡ with idle true false 0
  pub enable_2 : written 2 2 (with idle true true 0) [] ≡ with idle false true 0
  pub flag_3 : written 3 3 (with idle true true 0) [] ≡ with idle true false 0
  pub flag_2 : written 3 2 (with idle true true 0) [] ≡ with idle true true 0
  pub flag_not_set : written 3 1 (with idle true false 0) [] ≡ with idle true false 0
  -- a data byte goes to the next place; also the last place, and after done, which stays
  pub data_byte : (write 9 7 (loaded 1) zeros).buffer ≡ set zeros 1 7
  pub data_byte_taken : written 9 7 (loaded 1) [] ≡ loaded 2
  pub data_last : write 9 7 (loaded 65535) zeros ≡ answered accepted (loaded 65536) (set zeros 65535 7)
  pub data_after_done : written 9 7 (with (done (refused 1 0)) false true 5) [] ≡ (with (done (refused 1 0)) false true 6)
  -- a start drops done and not the flag, and judges all bytes since the last clear
  pub start_again : written 0 1 (with (done (refused 9 0)) true true 512) file ≡ with busy true true 512
  pub start_forgets : start (in_run (done accepted) true (16 ∷ 9 ∷ [])) file ≡ in_run busy true []
  pub line_in_second_run : line (with busy true true 512) ≡ true
  pub start_longer : written 0 1 (with (done accepted) false false 513) (file ++ (0 ∷ [])) ≡ with (done (refused 1 0)) false true 513
  -- clear, also while busy: enable and the buffer's bytes stay; a start is then 1
  pub clear_busy : written 0 2 (record { phase = busy; enable = true; flag = true; taken = 512; treated = 1; folds = set (no_folds) 0 16 }) file ≡ with idle true false 0
  pub clear_done : written 0 2 refused_far file ≡ with idle true false 0
  pub clear_fresh : cleared fresh ≡ fresh
  pub start_after_clear : written 0 1 (with idle true false 0) file ≡ (with (done (refused 1 0)) true true 0)
  -- any other write changes nothing, also while busy; so does a tick while idle or done
  pub command_3 : written 0 3 (in_run busy false []) file ≡ in_run busy false []
  pub command_129 : written 0 129 (loaded 512) file ≡ loaded 512
  pub status_written : written 1 1 (loaded 512) file ≡ loaded 512
  pub register_10 : written 10 1 (in_run busy false []) file ≡ in_run busy false []
  pub tick_idle : (tick (loaded 512) lent).device ≡ loaded 512
  pub tick_done : (tick refused_far lent).device ≡ refused_far
  -- 16: place 2 first, on any write and on any tick; then 0; then 1; all stays
  pub shorter : write 9 7 (with busy false false 65536) (replicate 65535 0) ≡ answered (refused 16 2) (with busy false false 65536) (replicate 65535 0)
  pub longer : write_tests 2 1 (loaded 0) (replicate 65537 0) ≡ refused 16 2
  pub none_lent : write_tests 200 1 (loaded 0) [] ≡ refused 16 2
  pub tick_shorter : tick (in_run busy false []) file ≡ answered (refused 16 2) (in_run busy false []) file
  pub tick_idle_shorter : tick (loaded 512) file ≡ answered (refused 16 2) (loaded 512) file
  pub data_busy : write_tests 9 7 (with busy false false 65536) zeros ≡ refused 16 0
  pub refused_kept : (write 9 7 (with busy false false 5) zeros).buffer ≡ zeros
  pub start_busy : write_tests 0 1 (in_run busy false (16 ∷ [])) lent ≡ refused 16 0
  pub full : write_tests 9 7 (loaded 65536) zeros ≡ refused 16 1
  pub full_other : write_tests 2 1 (loaded 65536) zeros ≡ accepted

pub call_cases : CallCases
unfolding definitions device_definitions ticks
call_cases = record {
  fresh_registers = refl;
  fresh_line = refl;
  lent_start = refl;
  lent_tick = refl;
  lent_done = refl;
  busy_registers = refl;
  done_registers = refl;
  place_low_byte_first = refl;
  other_registers = refl;
  line_up = refl;
  line_no_enable = refl;
  line_no_flag = refl;
  enable_3 = refl;
  enable_2 = refl;
  flag_3 = refl;
  flag_2 = refl;
  flag_not_set = refl;
  data_byte = refl;
  data_byte_taken = refl;
  data_last = refl;
  data_after_done = refl;
  start_again = refl;
  start_forgets = refl;
  line_in_second_run = refl;
  start_longer = refl;
  clear_busy = refl;
  clear_done = refl;
  clear_fresh = refl;
  start_after_clear = refl;
  command_3 = refl;
  command_129 = refl;
  status_written = refl;
  register_10 = refl;
  tick_idle = refl;
  tick_done = refl;
  shorter = refl;
  longer = refl;
  none_lent = refl;
  tick_shorter = refl;
  tick_idle_shorter = refl;
  data_busy = refl;
  refused_kept = refl;
  start_busy = refl;
  full = refl;
  full_other = refl;
}
