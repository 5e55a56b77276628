use native.Mathlib.Omega.{arith}
use Prim.Native.Nat.{ℕ}
use mathlib.Core.Path.{sym, ap, ◌∙◌}
use lib.ListN.{get_or, take}
use lib.Seq.{length-take-le}
use Rattle.list_laws.specs.LentParts.{joined}
use Rattle.spelling.specs.ByField.{words_at}
use Rattle.honest_rest.proofs.finals.Goals as goal

pub slice_bounds-copy-end : goal.slice_bounds-copy-end
slice_bounds-copy-end c =
    let n = c.words-n in
    sym (length-take-le n.result c.args.g.now (omega (arith, n.ensures.0, c.requires.in_bounds.1.1)))

pub slice_bounds-copy-end-3 : goal.slice_bounds-copy-end-3
slice_bounds-copy-end-3 c =
    let n = c.words-n in
    sym (length-take-le n.result c.args.out.now (omega (arith, n.ensures.0, c.requires.out_len)))

pub copy-requires : goal.copy-requires
copy-requires c =
    let n = c.words-n in
    length-take-le n.result c.args.out.now (omega (arith, n.ensures.0, c.requires.out_len)) ∙ sym (length-take-le n.result c.args.g.now (omega (arith, n.ensures.0, c.requires.in_bounds.1.1)))

pub returns : goal.returns
returns c =
    let a = c.args in
    let n = c.words-n in
    let p = c.copy in
    let q = c.copy-2 in
    joined a.out.now p.new.out n.result (omega (arith, n.ensures.0, c.requires.out_len)) p.auto.out q.new.out {x = take (words_at (get_or a.w.now 0 0) a.d) a.g.now} {y = a.coins.now}
    (p.ensures ∙ ap (λ (m : ℕ). take m a.g.now) n.ensures.0) q.ensures
