-- How many reads a level adds at most.
use Rattle.std.specs.Prelude.{ℕ, ◌*◌, ◌≤◌, List, eqb, length}
use Rattle.std.proofs.Common.{mul-le-mul_left, arith}
use Rattle.list_laws.specs.Members.{different_most}
use Rattle.definition.specs.Lists.{different}

-- a level's reads are at most 48·16
pub reads_most : (js : List ℕ) (k : ℕ) → length js ≤ 48 → k ≤ 16 → length (different eqb js) * k ≤ 768
reads_most js k few small =
    let n = length (different eqb js) in
    let most : n ≤ 48 = omega (arith, different_most eqb js) in
    omega (arith, mul-le-mul_left n small, most)
