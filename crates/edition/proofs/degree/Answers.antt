use Prim.Native.Nat.{ℕ, ◌/◌}
use native.Mathlib.Omega.{arith}
use mathlib.Core.Path.{◌≡◌, ap, ◌∙◌}
use lib.ListN.{get_or, take}
use Rattle.layouts.specs.SheetRules.{long_enough}
use Rattle.definition.specs.Lists.{product_of}
use Rattle.definition.specs.Sheet.{fold_words}
use Rattle.edition.specs.Meaning.{edition_of}
use Rattle.edition.specs.Places.{degree_next, degree_none}
use Rattle.edition.proofs.degree.Goals as goal

-- src/lib.rt:56:5
pub loop-j-init : goal.loop-j-init
loop-j-init c = let a = c.args in degree_none (edition_of a.e) a.w.now

-- src/lib.rt:56:5
pub loop-j-preserved : goal.loop-j-preserved
loop-j-preserved c =
    degree_next _ _ c.loop-j.j (omega (arith, c.requires.1.0)) c.loop-j.invariant c.fold-k.ensures.0
