-- What an inversion in code says, in the terms of the definition: the inverse found, by what it stands for, or that there is none.
use Rattle.std.specs.Prelude.{Option, Some, None}
use Rattle.std.proofs.Math.Option as math

abbrev pub found_as : {T C : Type 0} → (T → C) → Option T → math.Option C
found_as value (Some x) = math.some (value x)
found_as value None = math.none
