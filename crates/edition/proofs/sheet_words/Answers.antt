use Rattle.edition.specs.Places.{one_words, two_words}
use Rattle.edition.proofs.sheet_words.Goals as goal

-- src/lib.rt:15:1
pub returns-in-One : goal.returns-in-One
returns-in-One c = one_words _ c.in-One.is

-- src/lib.rt:15:1
pub returns-in-Two : goal.returns-in-Two
returns-in-Two c = two_words _ c.in-Two.is
