use Rattle.plane_tables.proofs.Laying.{Laid}
use Rattle.plane_tables.proofs.put_plane.Given as goal

abbrev pub invariant-loop-j : goal.invariant-loop-j
invariant-loop-j l = Laid l.values l.c l.initial.out l.out l.j
