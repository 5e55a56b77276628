use Rattle.registers.specs.Meaning.{device_of}
use Rattle.device_calls.proofs.Left.{accepted_leaves, refused_leaves}
use Rattle.device_calls.proofs.leave.Goals as goal

pub returns-in-Refused : goal.returns-in-Refused
returns-in-Refused c =
    let a = c.args in
    let n = c.of_outcome-answer.ensures in let left = refused_leaves a.s.outcome (device_of a.s.device) a.state.now c.in-Refused.is in record { number_value = n.number_value; place_value = n.place_value; state_after = left.0; state_after_2 = left.1 }

pub returns : goal.returns
unfolding device_of
returns c =
    let a = c.args in
    let n = c.of_outcome-answer.ensures in let left = accepted_leaves a.s.outcome (device_of a.s.device) a.state.now c.pack.new.state c.in_default.is (c.pack.ensures.state_after, c.pack.ensures.state_after_2) in record { number_value = n.number_value; place_value = n.place_value; state_after = left.0; state_after_2 = left.1 }
