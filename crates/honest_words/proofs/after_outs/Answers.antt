use native.Mathlib.Omega.{arith}
use mathlib.Core.Path.{sym}
use lib.ListN.{length}
use lib.Seq.{length-take-le}
use Rattle.list_laws.specs.LentParts.{joined}
use Rattle.honest_words.proofs.after_outs.Goals as goal

pub slice_bounds-values-end-2 : goal.slice_bounds-values-end-2
slice_bounds-values-end-2 c =
    sym (length-take-le (length c.args.outs.now) c.args.out.now (omega (arith, c.requires.0)))

pub values-requires : goal.values-requires
values-requires c =
    (length-take-le (length c.args.outs.now) c.args.out.now (omega (arith, c.requires.0)), c.requires.1)

pub returns : goal.returns
returns c =
    let a = c.args in
    let v = c.values in
    let p = c.copy in
    joined a.out.now v.new.out (length a.outs.now) (omega (arith, c.requires.0)) v.auto.out p.new.out v.ensures p.ensures
