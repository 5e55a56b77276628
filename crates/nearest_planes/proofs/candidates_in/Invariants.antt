use mathlib.Core.Path.{◌≡◌}
use lib.ListN.{length}
use Rattle.nearest_planes.proofs.Turns.{Done}
use Rattle.nearest_planes.proofs.candidates_in.Given as goal

abbrev pub invariant-loop-k : goal.invariant-loop-k
invariant-loop-k l = record {
  one_same : length l.one ≡ length l.initial.one;
  part_same : length l.part ≡ length l.initial.part;
  out_same : length l.out ≡ length l.initial.out;
  done : Done l.field l.pw l.table (length l.initial.part) l.out l.k;
}
