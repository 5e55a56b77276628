use mathlib.Core.Path.{◌≡◌}
use lib.ListN.{length}
use Rattle.sheets.proofs.DrawLaws.{Drawing}
use Rattle.sheets.proofs.draw.Given as goal

abbrev pub invariant-loop-j : goal.invariant-loop-j
invariant-loop-j l = (length l.values ≡ 56) × (Drawing l.initial.generator.v l.w l.j l.generator.v)
