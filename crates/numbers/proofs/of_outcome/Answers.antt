use Rattle.numbers.proofs.Written.{accepted_numbers, refused_numbers}
use Rattle.numbers.proofs.of_outcome.Goals as goal

pub returns-in-Accepted : goal.returns-in-Accepted
returns-in-Accepted c = let both = accepted_numbers c.args.o c.in-Accepted.is in record { number_value = both.0; place_value = both.1 }

pub returns-in-Refused : goal.returns-in-Refused
returns-in-Refused c = let both = refused_numbers c.args.o c.in-Refused.number c.in-Refused.at c.in-Refused.is in record { number_value = both.0; place_value = both.1 }
