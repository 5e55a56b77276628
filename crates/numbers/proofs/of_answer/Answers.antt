use Rattle.numbers.proofs.Written.{done_numbers, refusal_numbers}
use Rattle.numbers.proofs.of_answer.Goals as goal

pub returns-in-Done : goal.returns-in-Done
returns-in-Done c = let both = done_numbers c.args.answer c.in-Done.count c.in-Done.is in record { number_value = both.0; value_value = both.1 }

pub returns-in-Refusal : goal.returns-in-Refusal
returns-in-Refusal c = let both = refusal_numbers c.args.answer c.in-Refusal.number c.in-Refusal.place c.in-Refusal.is in record { number_value = both.0; value_value = both.1 }
