use native.Mathlib.Omega.{arith}
use Prim.Native.Nat.{ℕ, ◌*◌, ◌^◌, ◌<◌}
use mathlib.Core.Path.{sym, ap}
use lib.Seq.{length-take-le}
use Rattle.tree.specs.NodeLaws.{root_one, lower_length, upper_length, root_halves}
use Rattle.tree.proofs.+root.Goals as goal

-- src/lib.rt:61:9
pub leaf-requires : goal.leaf-requires
leaf-requires t c = omega (arith, c.requires, ap (λ (k : ℕ). c.args.width * 2 ^ k) c.if-height-eq0.true)

-- src/lib.rt:61:9
pub returns-then-height-eq0 : goal.returns-then-height-eq0
returns-then-height-eq0 t c = root_one c.args.table.now c.args.width c.if-height-eq0.true c.requires.0 c.leaf.ensures

-- src/lib.rt:64:21
pub slice_bounds-root-end : goal.slice_bounds-root-end
slice_bounds-root-end t c = sym (length-take-le _ _ (omega arith))

-- src/lib.rt:64:16
pub root-left-requires : goal.root-left-requires
root-left-requires t c =
    let a = c.args in
    let l : 0 < a.height = omega arith in
    (omega arith, (lower_length a.table.now a.width a.height c.requires.0 l, c.requires.1))

-- src/lib.rt:65:17
pub root-right-requires : goal.root-right-requires
root-right-requires t c =
    let a = c.args in
    let l : 0 < a.height = omega arith in
    (omega arith, (upper_length a.table.now a.width a.height c.requires.0 l, c.requires.1))

-- src/lib.rt:56:1
pub returns : goal.returns
returns t c =
    let a = c.args in
    let l : 0 < a.height = omega arith in
    root_halves a.table.now a.width a.height c.requires.0 l c.root-left.ensures c.root-right.ensures c.node.ensures
