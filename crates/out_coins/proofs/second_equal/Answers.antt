use Rattle.definition.specs.Field.{prime_of, spelling_of}
use Rattle.outcome.specs.Meaning.{place_of}
use Rattle.out_coins.proofs.Rounds.{equal_found, equal_not, one_coin, two_there}
use Rattle.out_coins.proofs.second_equal.Goals as goal

pub same-requires : goal.same-requires
same-requires c = let a = c.args in two_there (spelling_of a.field) (prime_of a.field) a.words.now a.at a.count c.if-count-ge2.true c.words.ensures.0 c.requires

pub returns-then-same : goal.returns-then-same
unfolding place_of
returns-then-same c = let a = c.args in equal_found (spelling_of a.field) (prime_of a.field) a.words.now a.at a.count c.if-count-ge2.true c.words.ensures.0 c.same.ensures c.if-same.true

pub returns-else-same : goal.returns-else-same
unfolding place_of
returns-else-same c = let a = c.args in equal_not (spelling_of a.field) (prime_of a.field) a.words.now a.at a.count c.words.ensures.0 c.same.ensures c.if-same.false

pub returns-else-count-ge2 : goal.returns-else-count-ge2
unfolding place_of
returns-else-count-ge2 c = let a = c.args in one_coin (spelling_of a.field) (prime_of a.field) a.words.now a.at a.count c.if-count-ge2.false
