use Prim.Native.Nat.{◌-◌, ◌≤◌}
use mathlib.Core.Path.{◌≡◌}
use Rattle.definition.specs.Sheet.{repetitions_rule}
use Rattle.edition.specs.Meaning.{edition_of}
use Rattle.sizes.specs.Degrees.{DegreeAt}
use Rattle.sheet.proofs.FirstBroken.{broken_from}
use Rattle.sheet.proofs.broken_repetitions.Given as goal

abbrev pub invariant-loop-i : goal.invariant-loop-i
invariant-loop-i l = (DegreeAt (edition_of l.e) l.w l.i l.d) × (broken_from 6 (repetitions_rule (edition_of l.e) l.w) l.i ≡ broken_from 6 (repetitions_rule (edition_of l.e) l.w) 0)
