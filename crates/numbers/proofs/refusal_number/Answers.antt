use Rattle.numbers.proofs.Written.{done_numbers, refusal_numbers}
use Rattle.numbers.proofs.refusal_number.Goals as goal

pub returns-in-Done : goal.returns-in-Done
returns-in-Done c =
    (done_numbers c.args.answer c.in-Done.count c.in-Done.is).0

pub returns-in-Refusal : goal.returns-in-Refusal
returns-in-Refusal c =
    (refusal_numbers c.args.answer c.in-Refusal.number c.in-Refusal.place c.in-Refusal.is).0
