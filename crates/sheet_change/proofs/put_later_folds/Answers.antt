use Prim.Native.Nat.{◌-◌}
use native.Mathlib.Omega.{arith}
use mathlib.Core.Path.{refl, sym, ap, ◌∙◌}
use mathlib.Core.List.{List}
use lib.ListN.{get_or, length-set}
use lib.Seq.{take_all}
use Rattle.list_laws.specs.Overwriting.{overwrite, overwrite_next, overwrite_none}
use Rattle.sheet_change.specs.Laid.{later_long, later_folds}
use Rattle.sheet_change.proofs.put_later_folds.Goals as goal

pub loop-j-init : goal.loop-j-init
loop-j-init c = sym (overwrite_none c.args.words.now 12)

pub loop-j-preserved : goal.loop-j-preserved
loop-j-preserved c =
    let l = c.loop-j in
    let w = c.args.words.now in
    let x = later_folds (get_or w 4 0) (get_or w 3 0) in
    let t = c.loop-j-test.true in
    let n = later_long (get_or w 4 0) (get_or w 3 0) in
    overwrite_next w 12 x l.j (omega (arith, n, c.requires)) (omega (arith, n, t)) c.later_fold.ensures l.invariant

pub returns : goal.returns
returns c =
    let l = c.loop-j in
    let w = c.args.words.now in
    let x = later_folds (get_or w 4 0) (get_or w 3 0) in
    l.invariant ∙ ap (λ (v : List _). overwrite w 12 v) (take_all l.j x (omega (arith, later_long (get_or w 4 0) (get_or w 3 0), c.loop-j-test.false)))
