use Rattle.std.proofs.Common.{refl}
use Rattle.numbers.specs.Numbers.{power_number, power_after, turns_after}
use Rattle.numbers.proofs.Written.{power_shown}
use Rattle.numbers.proofs.of_power.Goals as goal

pub returns-in-Some : goal.returns-in-Some
unfolding power_number power_after turns_after
returns-in-Some c =
    let both = power_shown c.in-Some.is (refl, (refl, refl)) in record { number_value = both.0; power_value = both.1.0; turns_value = both.1.1 }

pub returns-in-None : goal.returns-in-None
unfolding power_number power_after turns_after
returns-in-None c =
    let both = power_shown c.in-None.is (refl, (refl, refl)) in record { number_value = both.0; power_value = both.1.0; turns_value = both.1.1 }
