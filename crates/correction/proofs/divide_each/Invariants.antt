use Prim.Native.Nat.{◌-◌}
use mathlib.Core.Path.{◌≡◌}
use lib.ListN.{take, drop}
use Rattle.definition.specs.Polynomial.{quotient}
use Rattle.correction.proofs.divide_each.Given as goal

abbrev pub invariant-loop-i : goal.invariant-loop-i
invariant-loop-i g l =
    let A = g.A.Arithmetic in
    let xs = A.elements l.xs in
    quotient (A.over l.a) (take (l.count - (l.i - l.from)) (A.elements l.f)) (drop l.i xs) ≡ quotient (A.over l.a) (take l.count (A.elements l.initial.f)) (drop l.from xs)
