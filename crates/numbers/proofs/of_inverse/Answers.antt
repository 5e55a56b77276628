use Rattle.numbers.proofs.Written.{inverse_found, no_inverse}
use Rattle.numbers.proofs.of_inverse.Goals as goal

pub returns-in-Ok : goal.returns-in-Ok
returns-in-Ok c = let both = inverse_found c.in-Ok.is in record { number_value = both.0; word_value = both.1 }

pub returns-in-Err : goal.returns-in-Err
returns-in-Err c = let both = no_inverse c.in-Err.reason c.in-Err.is c.reason_number.ensures in record { number_value = both.0; word_value = both.1 }
