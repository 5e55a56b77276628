use Prim.Native.Nat.{◌+◌, ◌-◌, ◌*◌, ◌≤◌}
use mathlib.Core.List.{◌++◌}
use mathlib.Core.Path.{◌≡◌}
use lib.ListN.{take}
use Rattle.load.specs.Runs.{lines_from}
use Rattle.load.proofs.run_lines.Given as goal

abbrev pub invariant-loop : goal.invariant-loop
invariant-loop l =
    (l.place + 34 * (l.runs - l.counter) ≤ 34000) × (take l.place l.out ++ lines_from (l.runs - l.counter) l.generator.v ≡ lines_from l.runs l.initial.generator.v)
