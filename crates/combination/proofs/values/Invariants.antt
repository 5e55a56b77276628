use mathlib.Core.Path.{◌≡◌}
use lib.ListN.{length}
use Rattle.spelling.specs.ByField.{elements_at}
use Rattle.elements.specs.Meaning.{value_at}
use Rattle.combination.proofs.Tables.{from_table}
use Rattle.combination.proofs.values.Given as goal

abbrev pub invariant-loop-m : goal.invariant-loop-m
invariant-loop-m l = record {
  list_same : length l.list ≡ length l.initial.list;
  multipliers_same : length l.multipliers ≡ length l.initial.multipliers;
  out_same : length l.out ≡ length l.initial.out;
  combined : elements_at l.field l.out ≡ from_table l.field l.d (value_at l.field l.r) l.bounds l.pw l.tables (length l.pw) l.m;
}
