use native.Mathlib.Omega.{arith}
use mathlib.Core.Path.{◌≡◌, sym}
use mathlib.Core.List.{List}
use Prim.Native.Nat.{ℕ, ◌≤◌}
use lib.ListN.{length, get_or, take, length-take, get_or-eq_default}
use lib.Seq.{get_or-take}
use Rattle.stream.proofs.filled.Goals as goal

-- `stream::filled` meets its contract.
past : (l : List ℕ) (count n : ℕ) → count ≤ n → 0 ≡ get_or (take count l) n 0
past l count n h = let e : length (take count l) ≤ n = rw length-take (omega arith) in sym (get_or-eq_default (take count l) 0 e)

pub returns-then-n-count : goal.returns-then-n-count
returns-then-n-count c =
    let a = c.args in
    sym (get_or-take a.count a.words.now a.n 0 (omega arith))

pub returns-else-n-count : goal.returns-else-n-count
returns-else-n-count c =
    let a = c.args in
    past a.words.now a.count a.n (omega arith)
