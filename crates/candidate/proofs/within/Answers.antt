use Prim.Native.Nat.{◌+◌, ◌-◌, ◌/◌}
use native.Mathlib.Omega.{arith}
use lib.ListN.{length}
use lib.Seq.{length-take-le}
use Rattle.list_laws.specs.Zeros.{zeros, length_zeros}
use Rattle.candidate.proofs.Begin.{front_of}
use Rattle.candidate.proofs.within.Goals as goal

pub decode_in-requires-clause-places : goal.decode_in-requires-clause-places
decode_in-requires-clause-places g c =
    let n = length c.args.pw.now in
    let u = (n - length c.args.out.now) / 2 in
    let p = c.requires.room in record {
      for_s = length-take-le (n + 1) (zeros g.row.WIDE) (omega (arith, p.1.0, length_zeros g.row.WIDE));
      for_w = front_of (u + 1) g.row.NARROW p.1.1;
      for_t = length-take-le n (zeros g.row.POINTS) (omega (arith, p.0, length_zeros g.row.POINTS));
      for_v = front_of (u + 1) g.row.NARROW p.1.1;
    }
