use Prim.Native.Nat.{◌-◌}
use mathlib.Core.Path.{◌≡◌}
use mathlib.Core.List.{◌++◌}
use lib.ListN.{length, take, drop}
use Rattle.definition.specs.Field.{field_of}
use Rattle.decoding.specs.Series.{series}
use Rattle.decoder.proofs.divide.Given as goal

abbrev pub invariant-loop-i : goal.invariant-loop-i
invariant-loop-i l =
    (length l.s ≡ length l.initial.s)
    × (take l.i l.out ++ series (field_of l.field) l.c l.w (drop l.i l.s) (length l.initial.out - l.i) ≡ series (field_of l.field) l.c l.w l.initial.s (length l.initial.out))
