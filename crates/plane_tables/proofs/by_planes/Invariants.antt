use mathlib.Core.Path.{◌≡◌}
use lib.ListN.{length}
use Rattle.plane_tables.specs.FourTable.{PlanesTo}
use Rattle.plane_tables.proofs.by_planes.Given as goal

abbrev pub invariant-loop-c : goal.invariant-loop-c
invariant-loop-c l = record {
  plane_same : length l.plane ≡ length l.initial.plane;
  out_same : length l.out ≡ length l.initial.out;
  planes : PlanesTo l.f l.pw l.at l.step (length l.initial.plane) l.out l.c;
}
