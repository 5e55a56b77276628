use Prim.Native.Nat.{◌+◌}
use mathlib.Core.Path.{◌≡◌}
use lib.ListN.{drop}
use Rattle.definition.specs.Field.{field_of}
use Rattle.decoding.specs.Adding.{added}
use Rattle.decoder.proofs.add_multiple.Given as goal

abbrev pub invariant-loop-i : goal.invariant-loop-i
invariant-loop-i l = l.l ≡ added (field_of l.field) (l.at + l.i) l.c (drop l.i l.f) l.initial.l
