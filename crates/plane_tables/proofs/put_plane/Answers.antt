use native.Mathlib.Omega.{arith}
use mathlib.Core.Path.{refl}
use Rattle.plane_tables.proofs.Laying.{laid_first, laid_next}
use Rattle.plane_tables.proofs.put_plane.Goals as goal

pub loop-j-init : goal.loop-j-init
loop-j-init c = laid_first c.args.values.now c.args.c c.args.out.now

pub loop-j-preserved : goal.loop-j-preserved
loop-j-preserved c =
    let l = c.loop-j in
    let a = c.args in
    laid_next a.values.now a.c a.out.now l.out l.j c.requires.0 (omega arith) l.invariant refl

pub returns : goal.returns
returns c =
    let l = c.loop-j in record { by_index = (λ k u. l.invariant.passed k (omega arith)); by_index_2 = l.invariant.left }
