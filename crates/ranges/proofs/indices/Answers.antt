use Rattle.ranges.proofs.Counting.{no_indices, some_indices}
use Rattle.definition.specs.Sheet.{edition1}
use Rattle.ranges.proofs.indices.Goals as goal

-- `ranges::indices`: by the two cases of `index_count`.
pub returns-then-round-eq0 : goal.returns-then-round-eq0
returns-then-round-eq0 c = no_indices edition1 _ _ c.if-round-eq0.true

pub returns : goal.returns
returns c =
    let a = c.args in
    some_indices edition1 a.w.now a.round c.if-round-eq0.false c.word.ensures.0
