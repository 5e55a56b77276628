use Rattle.std.proofs.Common.{arith, subst}
use Rattle.arithmetic.specs.Parts.{even}
use Rattle.inversions.specs.OneInversion.{InvertedOver}
use Rattle.differences.proofs.Differing.{divisor_nonzero, found_reciprocal}
use Rattle.differences.proofs.divisors.Goals as goal

pub invert-requires : goal.invert-requires
invert-requires g c =
    let A = g.A.Arithmetic in
    let d = c.differences in
    omega (arith, even A.width A.elements g.met.A.Arithmetic.counted d.new.out c.args.out.now d.auto.out, c.requires.out_len)

pub returns-in_default : goal.returns-in_default
returns-in_default g c =
    let A = g.A.Arithmetic in
    let F = A.over c.args.a in
    let L = A.laws c.args.a in
    let xs = A.elements c.args.xs.now in
    let d = c.differences in
    let same = even A.width A.elements g.met.A.Arithmetic.counted d.new.out c.args.out.now d.auto.out in
    absurd (subst (λ t. InvertedOver F L (A.elements d.new.out) t (A.elements c.invert.new.values)) c.in_default.is c.invert.ensures
    (λ m u. divisor_nonzero F L xs m c.requires.apart (omega (arith, u, same, c.requires.out_len)) (d.ensures m (omega (arith, u, same, c.requires.out_len)))))

pub returns : goal.returns
returns g c =
    let A = g.A.Arithmetic in
    let d = c.differences in
    let same = even A.width A.elements g.met.A.Arithmetic.counted d.new.out c.args.out.now d.auto.out in
    λ i u. found_reciprocal (A.over c.args.a) (d.ensures i u) (c.in-Some.ensures i (omega (arith, u, same, c.requires.out_len)))
