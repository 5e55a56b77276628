use Rattle.std.proofs.Common.{ℕ, ◌≡◌, arith, refl, subst, length}
use Rattle.list_laws.specs.Filled.{Filled, filled_first, filled_next}
use Rattle.differences.proofs.fill.Goals as goal

pub loop-x-init : goal.loop-x-init
loop-x-init c = filled_first (λ _. c.args.c) c.args.out.now

pub loop-x-preserved : goal.loop-x-preserved
loop-x-preserved c =
    let l = c.loop-x in
    filled_next (λ _. c.args.c) c.args.out.now l.out l.x-index l.invariant (omega (arith, l.invariant.same)) refl

pub returns : goal.returns
returns c =
    let l = c.loop-x in
    let all : l.x-index ≡ length c.args.out.now = omega (arith, l.invariant.same) in
    subst (λ (n : ℕ). Filled (λ _. c.args.c) c.args.out.now l.out n) all l.invariant
