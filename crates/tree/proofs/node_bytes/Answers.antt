use Prim.Native.Nat.{◌+◌, ◌-◌}
use native.Mathlib.Omega.{arith}
use mathlib.Core.Path.{◌≡◌, refl}
use lib.ListN.{take, drop, length-drop}
use lib.Seq.{length-take-le}
use Rattle.tree.specs.NodeLaws.{bytes_whole}
use Rattle.tree.proofs.node_bytes.Goals as goal

pub returns : goal.returns
returns c =
    let a = c.args in
    let d = drop a.at a.path.now in
    let k : a.at + 8 - a.at ≡ 8 = omega arith in
    bytes_whole _ (take 8 d) refl (length-take-le 8 d (omega (arith, c.requires, length-drop a.at a.path.now))) (rw k at c.put_words.ensures)
