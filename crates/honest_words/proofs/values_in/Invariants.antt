use mathlib.Core.Path.{◌≡◌}
use mathlib.Core.List.{map}
use lib.ListN.{drop}
use Rattle.definition.specs.Polynomial.{evaluate}
use Rattle.honest_words.proofs.values_in.Given as goal

abbrev pub invariant-loop-i : goal.invariant-loop-i
invariant-loop-i g l =
    let A = g.A.Arithmetic in
    drop l.i (A.elements l.out) ≡ map (evaluate (A.over l.a) (A.elements l.g)) (drop l.i (A.elements l.xs))
