use Prim.Native.Nat.{◌+◌, ◌-◌}
use native.Mathlib.Nat.{div-div-eq-div-mul}
use native.Mathlib.Omega.{arith}
use lib.ListN.{length, take}
use Rattle.listing.specs.Table.{line_at, lines_from}
use Rattle.listing.proofs.Writing.{lines_next, lines_none, scale_next, written_all, written_next}
use Rattle.listing.proofs.domain_lines.Goals as goal

pub loop-i-preserved : goal.loop-i-preserved
loop-i-preserved c =
    let l = c.loop-i in
    let a = c.args in
    let pw = a.pw.now in
    let rest = lines_from pw (l.i + 1) (a.rounds + 1 - (l.i + 1)) in
    let d = c.domain_line-place.ensures in (
      scale_next l.i l.scale l.invariant.0,
      (
        omega (arith, div-div-eq-div-mul (length pw) l.scale 2, d.upper_bound, l.invariant.1.0),
        written_next (take l.place l.out) (line_at pw l.i l.scale) rest d.out_after (lines_next pw l.i l.scale a.rounds (omega arith) l.invariant.0) l.invariant.1.1,
      ),
    )

pub returns : goal.returns
returns c =
    let l = c.loop-i in
    let a = c.args in record { out_after = written_all (lines_none a.pw.now l.i a.rounds (omega arith)) l.invariant.1.1; upper_bound = omega (arith, l.invariant.1.0) }
