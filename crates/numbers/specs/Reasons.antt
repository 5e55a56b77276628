-- The number of the reason why there is no inverse: 101 where the element is 0, 100 where the number names no field.
use Rattle.std.specs.Prelude.{ℕ}
use Rattle.field.specs.declared.NoInverse.{NoInverse}
use Rattle.field.specs.declared.NoInverse.TheVariants.{Zero, NoField}

abbrev pub reason_number : NoInverse → ℕ
reason_number Zero = 101
reason_number NoField = 100
