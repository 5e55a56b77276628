use lib.ListN.{length}
use Rattle.definition.specs.Field.{field_of}
use Rattle.list_laws.specs.Filled.{Filled}
use Rattle.sums.specs.AtRoots.{every_nth}
use Rattle.sums.specs.Sums.{products}
use Rattle.sums.proofs.residues.Given as goal

abbrev pub invariant-loop-m : goal.invariant-loop-m
invariant-loop-m l = Filled (λ i. products (field_of l.field) (every_nth (field_of l.field) l.f i (length l.initial.out) (length l.powers)) l.powers) l.initial.out l.out l.m
