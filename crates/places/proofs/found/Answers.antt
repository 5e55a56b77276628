use mathlib.Core.Path.{◌∙◌, ap}
use lib.ListN.{drop, length-drop}
use lib.Seq.{take_all}
use native.Mathlib.Omega.{arith}
use lib.Dec.{eqb}
use Rattle.definition.specs.Lists.{member}
use Rattle.places.proofs.Search.{any_member}
use Rattle.places.proofs.found.Goals as goal

pub returns : goal.returns
returns c = let a = c.args in
    c.contains.ensures.value ∙ any_member a.x _ ∙ ap (member eqb a.x) (take_all _ (drop a.from a.xs.now) (omega (arith, length-drop a.from a.xs.now)))
