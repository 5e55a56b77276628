use native.Mathlib.Omega.{arith}
use mathlib.Core.Path.{sym, ◌∙◌}
use lib.ListN.{get_or-eq_default}
use Rattle.correction.proofs.Products.{among_zeros, behind_zeros}
use Rattle.correction.proofs.shifted.Goals as goal

-- `correction::shifted` meets its contract.
pub returns-then-i-n : goal.returns-then-i-n
returns-then-i-n g c =
    let A = g.A.Arithmetic in
    let a = c.args in
    c.zero.ensures ∙ sym (among_zeros (A.over a.a).𝟘 (A.elements a.q.now) a.n a.i (omega arith))

pub returns-then-count-j : goal.returns-then-count-j
returns-then-count-j g c =
    let A = g.A.Arithmetic in
    let a = c.args in
    let z = (A.over a.a).𝟘 in
    let q = A.elements a.q.now in
    c.zero-then-count-j.ensures ∙ sym (behind_zeros z q a.n a.i (omega arith) ∙ get_or-eq_default q z (omega (arith, c.count.ensures)))

pub returns : goal.returns
returns g c =
    let A = g.A.Arithmetic in
    let a = c.args in
    c.get.ensures ∙ sym (behind_zeros (A.over a.a).𝟘 (A.elements a.q.now) a.n a.i (omega arith))
