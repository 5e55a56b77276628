use native.Mathlib.Omega.{arith}
use Rattle.outcome.specs.Meaning.{outcome_of}
use Rattle.registers.specs.Meaning.{device_of}
use Rattle.device_words.specs.Words.{device_in}
use Rattle.device_calls.specs.Counts.{Small, write_sound}
use Rattle.device_definition.specs.Device.{write}
use Rattle.device_calls.specs.Calls.{write_call}
use Rattle.device_calls.proofs.Left.{answered, other_length_lem, words_small}
use Rattle.device_calls.proofs.write.Goals as goal

pub returns-then-state-ne-WORDS : goal.returns-then-state-ne-WORDS
unfolding write_call
returns-then-state-ne-WORDS c =
    let a = c.args in let both = other_length_lem (λ d. write a.register a.value d a.buffer.now) a.state.now a.buffer.now c.if-state-ne-WORDS.true in record { number_value = both.0; place_value = both.1.0; state_after = both.1.1.0; buffer_after = both.1.1.1.0; state_after_2 = both.1.1.1.1 }

pub returns : goal.returns
unfolding write_call
returns c =
    let a = c.args in
    let small : Small (device_in a.state.now) = words_small a.state.now (omega (arith, c.slice_known-1.given 6)) (omega (arith, c.slice_known-1.given 7)) in let both = answered (λ d. write a.register a.value d a.buffer.now) a.state.now a.buffer.now
    (device_of c.unpack-d.result) (outcome_of c.write-s.result.outcome) (device_of c.write-s.result.device)
    c.if-state-ne-WORDS.false c.unpack-d.ensures (write_sound a.register a.value (device_in a.state.now) a.buffer.now small)
    c.write-s.ensures.outcome_value c.write-s.ensures.device_value c.write-s.ensures.buffer_after (c.leave.ensures.number_value, (c.leave.ensures.place_value, (c.leave.ensures.state_after, c.leave.ensures.state_after_2))) in record { number_value = both.0; place_value = both.1.0; state_after = both.1.1.0; buffer_after = both.1.1.1.0; state_after_2 = both.1.1.1.1 }
