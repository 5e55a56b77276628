use Rattle.std.specs.Prelude.{List, Some, ◌-◌}
use Rattle.std.proofs.Common.{arith, ap, ap₂, sym, ◌∙◌}
use Rattle.arithmetic.specs.Found.{found_as}
use Rattle.samples.specs.Samples.{kept}
use Rattle.samples.proofs.Steps.{put_same, put_clash, put_new}
use Rattle.samples.proofs.put_front.Goals as goal

pub returns-then-same : goal.returns-then-same
returns-then-same g c =
    let A = g.A.Arithmetic in
    let F = A.over c.args.a in
    let a = c.args in record { ys_after = put_same F.equal F.𝟘 (A.elements a.xs.now) (A.elements a.ys.now) a.k (A.value a.x) (A.value a.y) c.find.ensures (ap (found_as A.value) c.in-Some.is) (sym c.same.ensures ∙ c.if-same.true); room = (omega arith, omega arith) }

pub returns-in-Some : goal.returns-in-Some
returns-in-Some g c =
    let A = g.A.Arithmetic in
    let F = A.over c.args.a in
    let a = c.args in record { ys_after = put_clash F.equal F.𝟘 (A.elements a.xs.now) (A.elements a.ys.now) a.k (A.value a.x) (A.value a.y) c.find.ensures (ap (found_as A.value) c.in-Some.is) (sym c.same.ensures ∙ c.if-same.false); room = tt }

pub returns : goal.returns
returns g c =
    let A = g.A.Arithmetic in
    let F = A.over c.args.a in
    let a = c.args in record {
      ys_after = ap₂ (λ (u w : List A.Carrier). kept (Some (a.k - 1)) u w) c.put.ensures c.put-2.ensures
          ∙ put_new F.equal F.𝟘 (A.elements a.xs.now) (A.elements a.ys.now) a.k (A.value a.x) (A.value a.y) c.find.ensures (ap (found_as A.value) c.in_default.is) c.requires.0 c.requires.1.0 c.requires.1.1;
      room = (omega (arith, c.requires.0), omega (arith, c.requires.0));
    }
