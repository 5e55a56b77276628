use Rattle.std.proofs.Common.{ℕ, arith, refl, sym, subst, ◌∙◌, length}
use Rattle.list_laws.specs.Filled.{FilledOver}
use Rattle.differences.proofs.Differing.{Differed, differed_first, differed_next, differed_reduced}
use Rattle.differences.proofs.differences.Goals as goal

pub loop-j-init : goal.loop-j-init
loop-j-init g c =
    let A = g.A.Arithmetic in
    let F = A.over c.args.a in
    let xs = A.elements c.args.xs.now in
    let f = c.fill_elements in
    let ones = subst (λ v. FilledOver F.𝟘 (λ _. v) (A.elements c.args.out.now) (A.elements f.new.out) (length (A.elements c.args.out.now))) c.one.ensures f.ensures in
    (refl, subst (λ (m : ℕ). Differed F xs (A.elements f.new.out) m) (sym c.count-j.ensures) (differed_first F xs (A.elements c.args.out.now) (A.elements f.new.out) c.requires ones))

pub times_difference-requires : goal.times_difference-requires
times_difference-requires g c =
    let A = g.A.Arithmetic in
    let l = c.loop-j in
    record {
      j_in_bounds = (omega (arith, c.count-j.ensures), l.invariant.1.same);
      by_index = λ i u. differed_reduced (A.over c.args.a) (A.laws c.args.a) (A.elements c.args.xs.now) (A.elements l.out) l.j i l.invariant.1 (omega arith);
    }

pub loop-j-preserved : goal.loop-j-preserved
loop-j-preserved g c =
    let A = g.A.Arithmetic in
    let l = c.loop-j in
    let t = c.times_difference in (
      t.auto.out ∙ l.invariant.0,
      differed_next (A.over c.args.a) (A.elements c.args.xs.now) (A.elements l.out) (A.elements t.new.out) l.j (omega arith) (omega (arith, c.count-j.ensures)) l.invariant.1 t.ensures,
    )

pub returns : goal.returns
returns g c = λ i u. c.loop-j.invariant.1.done i (omega arith) u
