use Rattle.std.proofs.Common.{◌≡◌, drop}
use Rattle.definition.specs.Field.{quads}
use Rattle.spelling.specs.Field3.{field3}
use Rattle.quartic.specs.Meaning.{quad_of}
use Rattle.sums.specs.Sums.{products}
use Rattle.element_sums.proofs.sum_four.Given as goal

abbrev pub invariant-loop-i : goal.invariant-loop-i
invariant-loop-i l = quad_of l.s ≡ products field3 (drop l.i (quads l.a)) (drop l.i (quads l.b))
