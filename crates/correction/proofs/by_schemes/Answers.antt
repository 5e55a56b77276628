use Prim.Native.Nat.{ℕ, ◌+◌, ◌-◌, ◌*◌, ◌/◌, ◌<◌}
use native.Mathlib.Omega.{arith}
use mathlib.Core.Path.{◌≡◌, ap, ◌∙◌}
use mathlib.Core.List.{[], ◌∷◌, ◌++◌}
use lib.ListN.{length, take, drop, get_or}
use Rattle.definition.specs.Field.{field_of}
use Rattle.definition.specs.Polynomial.{quotient}
use Rattle.division.specs.BackToFront.{drop_four}
use Rattle.correction.proofs.Division.{quotient_turn, quotient_rest}
use Rattle.correction.proofs.by_schemes.Goals as goal

pub loop-t-init : goal.loop-t-init
loop-t-init c =
    let a = c.args in
    let all : a.count - 4 * 0 ≡ a.count = omega arith in
    let begin : a.from + 4 * 0 ≡ a.from = omega arith in
    λ i. quotient (field_of a.field) (take (all i) a.f.now) (drop (begin i) a.xs.now)

pub loop-t-preserved : goal.loop-t-preserved
loop-t-preserved c =
    let l = c.loop-t in
    let a = c.args in
    let p = c.divide_four in
    let xs = a.xs.now in
    let i = a.from + 4 * l.t in
    let ps = get_or xs i 0 ∷ get_or xs (i + 1) 0 ∷ get_or xs (i + 2) 0 ∷ get_or xs (i + 3) 0 ∷ [] in
    let h : i + 3 < length xs = omega arith in
    let further : i + 4 ≡ a.from + 4 * (l.t + 1) = omega arith in
    let less : a.count - 4 * (l.t + 1) ≡ a.count - 4 * l.t - 4 = omega arith in
    quotient_turn (field_of a.field) ps xs l.f p.new.f i (a.from + 4 * (l.t + 1)) (a.count - 4 * l.t) (a.count - 4 * (l.t + 1))
    (drop_four xs 0 i h ∙ ap (λ (k : ℕ). ps ++ drop k xs) further) l.invariant (ap (λ (k : ℕ). take k p.new.f) less ∙ p.ensures)

pub returns : goal.returns
returns c =
    let l = c.loop-t in
    let a = c.args in
    let p = c.divide_each in
    let fours = (length a.xs.now - a.from) / 4 in
    let last : l.t ≡ fours = omega arith in
    quotient_rest (field_of a.field) a.xs.now l.f p.new.f (a.from + 4 * fours) (a.count - 4 * fours) (a.count - (length a.xs.now - a.from)) (omega arith)
    (rw last at l.invariant) p.ensures
