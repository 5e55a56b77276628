use Prim.Native.Nat.{◌+◌}
use mathlib.Core.Path.{◌≡◌}
use lib.ListN.{length, drop}
use Rattle.batch_definition.specs.Batch.{sum_of}
use Rattle.spelling.specs.ByField.{elements_at}
use Rattle.elements.specs.Meaning.{value_at}
use Rattle.combination.proofs.Parts.{from_part}
use Rattle.combination.proofs.polynomial.Given as goal

abbrev pub invariant-loop-m : goal.invariant-loop-m
invariant-loop-m l = record {
  place : l.at + sum_of (drop l.m l.bounds) ≡ length (elements_at l.field l.f);
  scratch_same : length l.scratch ≡ length l.initial.scratch;
  out_same : length l.out ≡ length l.initial.out;
  combined : elements_at l.field l.out ≡ from_part l.field l.d (value_at l.field l.r) l.bounds l.f l.at l.m;
}
