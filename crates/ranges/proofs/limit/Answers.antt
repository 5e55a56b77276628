use Prim.Native.Nat.{◌-◌}
use native.Mathlib.Omega.{arith}
use Rattle.edition.specs.Meaning.{edition_of}
use Rattle.ranges.proofs.Counting.{no_limit, some_limit}
use Rattle.ranges.proofs.limit.Goals as goal

-- `ranges::limit`: by the two cases of `index_limit`. Assumes nothing.
-- src/lib.rt:110:9
pub returns-then-round-eq0 : goal.returns-then-round-eq0
returns-then-round-eq0 c = no_limit _ _ _ c.if-round-eq0.true

-- src/lib.rt:113:5
pub nonzero_div-result : goal.nonzero_div-result
nonzero_div-result c =
    omega (arith, c.fold.ensures.0, c.requires.0.folds (c.args.round - 1) (omega (arith, c.if-round-eq0.false)))

-- src/lib.rt:105:1
pub returns : goal.returns
returns c =
    let a = c.args in
    some_limit (edition_of a.e) a.w.now a.round c.if-round-eq0.false c.word.ensures.0 c.divide-n.ensures c.fold.ensures.0
