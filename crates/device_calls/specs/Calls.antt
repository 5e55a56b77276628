-- The device behind lent words: what a call answers, and what it leaves in the words and in the buffer.
use Rattle.std.specs.Prelude.{ℕ, cond, List, eqb, length}
use Rattle.definition.specs.Verdict.{Outcome, accepted, refused}
use Rattle.device_definition.specs.Device.{Device, Stepped, bit, fresh, line, read, tick, write}
use Rattle.device_words.specs.Words.{device_in, state_length, words_of}

pub record Called : Type 0 where
  pub outcome : Outcome
  pub state : List ℕ
  pub buffer : List ℕ

-- a call that is refused leaves the words as they are, whatever they are; any other leaves those of the device after it
unfoldable pub state_after : Outcome → List ℕ → Device → List ℕ
state_after accepted state next = words_of next
state_after (refused number place) state next = state

unfoldable pub stepped : List ℕ → Stepped → Called
stepped state s = record { outcome = s.outcome; state = state_after s.outcome state s.device; buffer = s.buffer }

-- a state of another length is 16 at place 2, before everything else
unfoldable pub other_length : List ℕ → List ℕ → Called
other_length state buffer = record { outcome = refused 16 2; state = state; buffer = buffer }

unfoldable pub called : List ℕ → List ℕ → Stepped → Called
called state buffer s = cond (eqb (length state) state_length) (stepped state s) (other_length state buffer)

unfoldable pub write_call : ℕ → ℕ → List ℕ → List ℕ → Called
write_call register value state buffer = called state buffer (write register value (device_in state) buffer)

unfoldable pub tick_call : List ℕ → List ℕ → Called
tick_call state buffer = called state buffer (tick (device_in state) buffer)

-- fresh: its answer, and the words
unfoldable pub fresh_answer : List ℕ → ℕ
fresh_answer state = cond (eqb (length state) state_length) 0 16

unfoldable pub fresh_state : List ℕ → List ℕ
fresh_state state = cond (eqb (length state) state_length) (words_of fresh) state

-- a register, and the line, read of words; of another length 0
unfoldable pub read_call : List ℕ → ℕ → ℕ
read_call state register = cond (eqb (length state) state_length) (read (device_in state) register) 0

unfoldable pub line_call : List ℕ → ℕ
line_call state = cond (eqb (length state) state_length) (bit (line (device_in state))) 0
