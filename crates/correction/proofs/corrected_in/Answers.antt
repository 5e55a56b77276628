use Prim.Native.Nat.{ℕ, ◌-◌}
use mathlib.Core.Path.{ap, ◌∙◌}
use lib.ListN.{length, take}
use Rattle.definition.specs.Polynomial.{mul_poly, geometric}
use Rattle.correction.proofs.Products.{corrected_end}
use Rattle.correction.proofs.Parts.{first_part}
use Rattle.correction.proofs.corrected_in.Goals as goal

pub returns : goal.returns
returns g c =
    let A = g.A.Arithmetic in
    let M = g.met.A.Arithmetic in
    let F = A.over c.args.a in
    let a = c.args in
    let n = c.count.ensures in
    let f' = c.quotient.new.f in
    let m = a.count - (length (A.elements a.xs.now) - a.from) in
    let front = first_part A.elements A.width M.counted M.first c.words.ensures (a.count - (c.count.result - a.from)) f' ∙ ap (λ (k : ℕ). take (a.count - (k - a.from)) (A.elements f')) n in
    corrected_end F (A.laws a.a) (A.elements a.xs.now) (take a.count (A.elements a.f.now)) (A.elements f') (A.elements c.correct.new.out) a.from (A.value a.c) m c.quotient.ensures
    (c.correct.ensures ∙ (λ i. mul_poly F (front i) (geometric F (A.value a.c) (n i - a.from))))
