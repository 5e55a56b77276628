use Prim.Native.Nat.{◌-◌, ◌*◌}
use mathlib.Core.Path.{◌≡◌}
use lib.ListN.{length, drop}
use Rattle.correction.proofs.Folding.{chunk_values}
use Rattle.correction.proofs.fold_in.Given as goal

abbrev pub invariant-loop-j : goal.invariant-loop-j
invariant-loop-j g l =
    let A = g.A.Arithmetic in
    drop l.j (A.elements l.out) ≡ chunk_values (A.over l.a) l.k (A.value l.r) (length (A.elements l.initial.out) - l.j) (drop (l.j * l.k) (A.elements l.f))
