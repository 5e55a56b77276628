use Rattle.std.proofs.Common.{◌≡◌, length}
use Rattle.definition.specs.Field.{quads}
use Rattle.spelling.specs.Field3.{field3}
use Rattle.quartic.specs.Meaning.{quad_of}
use Rattle.element_sums.specs.PowersFrom.{PowersFrom}
use Rattle.element_sums.proofs.powers_four.Given as goal

abbrev pub invariant-loop-i : goal.invariant-loop-i
invariant-loop-i l = (length l.out ≡ length l.initial.out) × ((length (quads l.out) ≡ length (quads l.initial.out)) × PowersFrom field3 (quad_of l.x) (quads l.out) l.i)
