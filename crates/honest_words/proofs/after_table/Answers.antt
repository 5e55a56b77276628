use native.Mathlib.Omega.{arith}
use mathlib.Core.Path.{sym}
use lib.ListN.{length}
use lib.Seq.{length-take-le}
use Rattle.list_laws.specs.LentParts.{joined}
use Rattle.honest_words.proofs.after_table.Goals as goal

pub slice_bounds-copy-end-2 : goal.slice_bounds-copy-end-2
slice_bounds-copy-end-2 c =
    sym (length-take-le (length c.args.outs.now) c.args.out.now (omega (arith, c.requires.0)))

pub copy-requires : goal.copy-requires
copy-requires c =
    length-take-le (length c.args.outs.now) c.args.out.now (omega (arith, c.requires.0))

pub returns : goal.returns
returns c =
    let a = c.args in
    let p = c.copy in
    let v = c.after_outs in
    joined a.out.now p.new.out (length a.outs.now) (omega (arith, c.requires.0)) p.auto.out v.new.out p.ensures v.ensures
