use Prim.Native.Nat.{ℕ, ◌*◌}
use native.Mathlib.Omega.{arith}
use mathlib.Core.Path.{sym, ap, ◌∙◌, subst}
use lib.ListN.{length}
use lib.Seq.{length-take-le}
use Rattle.list_laws.specs.Zeros.{zeros, length_zeros}
use Rattle.candidate.specs.Tables.{Sized}
use Rattle.nearest_planes.specs.Planes.{FourCandidates}
use Rattle.nearest_planes.proofs.candidates.Goals as goal

pub slice_bounds-candidates_in-end : goal.slice_bounds-candidates_in-end
slice_bounds-candidates_in-end c = sym (length-take-le (length c.args.pw.now) (zeros 1024) (omega (arith, length_zeros 1024, c.requires.1.1.1.0)))

pub slice_bounds-candidates_in-end-2 : goal.slice_bounds-candidates_in-end-2
slice_bounds-candidates_in-end-2 c = sym (length-take-le c.args.d (zeros 512) (omega (arith, length_zeros 512, c.requires.1.1.1.1)))

pub candidates_in-requires : goal.candidates_in-requires
candidates_in-requires c =
    let p = c.requires in
    let e = length-take-le c.args.d (zeros 512) (omega (arith, length_zeros 512, p.1.1.1.1)) in (
      subst (λ (m : ℕ). Sized (length c.args.pw.now) m) (sym e) p.0,
      (length-take-le (length c.args.pw.now) (zeros 1024) (omega (arith, length_zeros 1024, p.1.1.1.0)), (p.1.0, (p.1.1.0 ∙ ap (λ (m : ℕ). 4 * m) (sym e), omega (arith, p.1.0, p.1.1.1.0)))),
    )

pub returns : goal.returns
returns c =
    let e = length-take-le c.args.d (zeros 512) (omega (arith, length_zeros 512, c.requires.1.1.1.1)) in
    subst (λ (m : ℕ). FourCandidates c.args.field c.args.pw.now c.args.table.now m c.candidates_in.new.out c.candidates_in.result) e c.candidates_in.ensures
