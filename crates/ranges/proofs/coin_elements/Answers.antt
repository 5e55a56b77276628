use Rattle.ranges.proofs.Counting.{first_coin, round_coins_lem, final_coins}
use Rattle.edition.specs.Meaning.{edition_of}
use Rattle.ranges.proofs.coin_elements.Goals as goal

-- `ranges::coin_elements`: by the three cases of `element_count` of the coins alone.
pub returns-then-round-eq0 : goal.returns-then-round-eq0
returns-then-round-eq0 c = first_coin _ _ _ c.if-round-eq0.true

pub returns-then-round-word : goal.returns-then-round-word
returns-then-round-word c =
    let a = c.args in
    round_coins_lem (edition_of a.e) a.w.now a.round c.if-round-eq0.false c.word.ensures.0 c.if-round-word.true c.word-then-round-word.ensures.0

pub returns : goal.returns
returns c =
    let a = c.args in
    final_coins (edition_of a.e) a.w.now a.round c.if-round-eq0.false c.word.ensures.0 c.if-round-word.false
