use mathlib.Core.Path.{◌∙◌}
use Prim.Native.Nat.{◌*◌, ◌/◌}
use native.Mathlib.Omega.{arith}
use borrow.Author.Tests.{tests}
use lib.Dec.{eqb}
use lib.ListN.{length, get_or}
use Rattle.std.proofs.Common.{rules}
use Rattle.std.proofs.lemmas.Iterator.{YieldsList-from_range}
use Rattle.std.proofs.lemmas.Iterator.Search.{any_from_yields_List}
use Rattle.domain.proofs.Membership.{any_among, inside_is}
use Rattle.domain.proofs.inside.Goals as goal

pub returns : goal.returns
returns c =
    let a = c.args in
    let n = length a.pw.now / a.scale in
    inside_is a.pw.now a.scale a.x (omega arith)
    (any_from_yields_List (λ j. eqb a.x (get_or a.pw.now (a.scale * j) 0)) _ _ _ c.any.ensures.ran (YieldsList-from_range 0 n n (cc) (omega arith)) (λ x b q k. search (rules, tests))
    ∙ any_among a.pw.now a.scale a.x 0 n)
