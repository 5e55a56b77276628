use mathlib.Core.List.{List}
use Prim.Native.Nat.{ℕ, ◌+◌}
use native.Mathlib.Omega.{arith}
use lib.ListN.{set, length-set}
use Rattle.tables.proofs.turn.Goals as goal

pub bounds-out-h-2 : goal.bounds-out-h-2
bounds-out-h-2 c = simp length-set (omega arith)

pub returns : goal.returns
returns c =
    let a = c.args in
    let l : List ℕ = a.out.now in
    λ i. set (set l a.j (c.add_product.ensures i)) (a.h + a.j) (c.add_product-2.ensures i)
