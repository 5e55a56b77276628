use Rattle.std.proofs.Common.{ℕ, suc, ◌≡◌, ◌+◌, ◌-◌, arith, refl, sym, subst, ◌∙◌, get_or, drop}
use Rattle.definition.specs.Field.{reciprocal}
use Rattle.polynomial.specs.Vanishing.{vanish_at}
use Rattle.arithmetic.specs.Parts.{even}
use Rattle.newton_step.specs.Steps.{Through}
use Rattle.lists.proofs.Interpolating.{through_first}
use Rattle.lists.proofs.steps.Goals as goal

pub loop-i-init : goal.loop-i-init
loop-i-init g c =
    let A = g.A.Arithmetic in
    let F = A.over c.args.a in
    let xs = A.elements c.args.xs.now in
    let ys = A.elements c.args.ys.now in
    let q = A.elements c.start.new.q in
    let v = A.elements c.start.new.v in
    (refl, (refl, (refl, subst (λ (m : ℕ). Through F (drop m xs) (drop m ys) q v) (sym c.count-i.ensures) (through_first F xs ys q v c.requires.ys_len.0 c.start.ensures))))

pub step-requires : goal.step-requires
step-requires g c =
    let A = g.A.Arithmetic in
    let F = A.over c.args.a in
    let a = c.args in
    let l = c.loop-i in
    let xs = A.elements a.xs.now in
    let ys = A.elements a.ys.now in
    let us = A.elements a.us.now in
    let n = l.invariant in
    let k = c.count-i.ensures in
    let p = c.requires.xs_in_bounds in
    let er = even A.width A.elements g.met.A.Arithmetic.counted l.room a.room.now n.0 in
    let eq = even A.width A.elements g.met.A.Arithmetic.counted l.q a.q.now (n.1.0 ∙ c.start.auto.q) in
    let ev = even A.width A.elements g.met.A.Arithmetic.counted l.v a.v.now (n.1.1.0 ∙ c.start.auto.v) in
    let here : l.i ≡ l.i - 1 + 1 = omega arith in
    let below : l.i - 1 ≡ l.i - 1 + 1 - 1 = omega arith in
    let next : suc (l.i - 1) ≡ l.i - 1 + 1 = omega arith in
    record {
      i_nonzero = (omega arith, (omega (arith, k), c.requires.ys_len));
      xs_in_bounds = (omega (arith, eq, p), (omega (arith, eq, p), (omega (arith, eq, ev, p), omega (arith, er, p))));
      i_value = subst (λ (m : ℕ). get_or us m F.𝟘 ≡ reciprocal F (vanish_at F (drop (l.i - 1 + 1) xs) (get_or xs m F.𝟘))) below
          (subst (λ (m : ℕ). get_or us (l.i - 1) F.𝟘 ≡ reciprocal F (vanish_at F (drop m xs) (get_or xs (l.i - 1) F.𝟘))) next (c.requires.by_index (l.i - 1) (omega (arith, k))));
      through = subst (λ (m : ℕ). Through F (drop m xs) (drop m ys) (A.elements l.q) (A.elements l.v)) here n.1.1.1;
    }

pub loop-i-preserved : goal.loop-i-preserved
loop-i-preserved g c =
    let A = g.A.Arithmetic in
    let l = c.loop-i in
    let n = l.invariant in
    let p = c.step in
    let below : l.i - 1 + 1 - 1 ≡ l.i - 1 = omega arith in (
      p.auto.room ∙ n.0,
      (
        p.auto.q ∙ n.1.0,
        (
          p.auto.v ∙ n.1.1.0,
          subst (λ (m : ℕ). Through (A.over c.args.a) (drop m (A.elements c.args.xs.now)) (drop m (A.elements c.args.ys.now)) (A.elements p.new.q) (A.elements p.new.v)) below p.ensures,
        ),
      ),
    )

pub shape_of-room : goal.shape_of-room
shape_of-room g c = c.loop-i.invariant.0

pub shape_of-q : goal.shape_of-q
shape_of-q g c = c.loop-i.invariant.1.0 ∙ c.start.auto.q

pub shape_of-v : goal.shape_of-v
shape_of-v g c = c.loop-i.invariant.1.1.0 ∙ c.start.auto.v

pub returns : goal.returns
returns g c =
    let A = g.A.Arithmetic in
    let l = c.loop-i in
    let all : l.i ≡ 0 = omega arith in
    subst (λ (m : ℕ). Through (A.over c.args.a) (drop m (A.elements c.args.xs.now)) (drop m (A.elements c.args.ys.now)) (A.elements l.q) (A.elements l.v)) all l.invariant.1.1.1
