use Prim.Native.Nat.{ℕ}
use mathlib.Core.Path.{◌≡◌}
use mathlib.Core.List.{List}
use lib.ListN.{take}
use Rattle.definition.specs.Load.{Drawn}
use Rattle.generator.specs.Draws.{draw_many}
use Rattle.generator.proofs.Generator.fill.Given as goal

abbrev pub invariant-loop-i : goal.invariant-loop-i
invariant-loop-i l = ◌≡◌ {A = Drawn (List ℕ)} (record { value = take l.i l.out; next = l.generator.v }) (draw_many l.limit l.i l.initial.generator.v)
