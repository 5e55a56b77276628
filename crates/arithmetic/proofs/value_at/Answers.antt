use Rattle.std.proofs.Common.{ℕ, arith, ap, sym, ◌∙◌, drop}
use Rattle.definition.specs.Polynomial.{evaluate}
use Rattle.arithmetic.proofs.Horner.{evaluate_end, evaluate_turn}
use Rattle.arithmetic.proofs.value_at.Goals as goal

pub loop-i-init : goal.loop-i-init
loop-i-init g c =
    let A = g.A.Arithmetic in
    let F = A.over c.args.a in
    let w = A.elements c.args.coefficients.now in
    c.zero-value.ensures ∙ evaluate_end F w (A.value c.args.x) ∙ ap (λ (n : ℕ). evaluate F (drop n w) (A.value c.args.x)) (sym c.count-i.ensures)

pub loop-i-preserved : goal.loop-i-preserved
loop-i-preserved g c =
    let A = g.A.Arithmetic in
    let F = A.over c.args.a in
    let w = A.elements c.args.coefficients.now in
    evaluate_turn F w c.loop-i.i (A.value c.args.x) (omega arith) (omega (arith, c.count-i.ensures)) c.loop-i.invariant
    (c.add_product-value.ensures ∙ ap (λ v. F.◌⊕◌ v (F.◌⊗◌ (A.value c.args.x) (A.value c.loop-i.value))) c.get.ensures)
