use native.Mathlib.Omega.{arith}
use Rattle.definition.specs.Field.{spelling_of}
use Rattle.layouts.specs.Spellings.{count_one}
use Rattle.out_coins.proofs.EqualWords.{four_there, of_four, of_one}
use Rattle.out_coins.proofs.same.Goals as goal

-- `out_coins::same`: by the field's spelling.
pub same_four-requires : goal.same_four-requires
same_four-requires c = let a = c.args in four_there a.words.now a.i a.j a.field c.if-field-eq3.true c.requires

pub returns-then-field-eq3 : goal.returns-then-field-eq3
returns-then-field-eq3 c = let a = c.args in of_four a.words.now a.i a.j a.field c.if-field-eq3.true c.same_four.ensures

pub bounds-words-i : goal.bounds-words-i
bounds-words-i c = omega (arith, c.requires.0, count_one (spelling_of c.args.field))

pub bounds-words-j : goal.bounds-words-j
bounds-words-j c = omega (arith, c.requires.1, count_one (spelling_of c.args.field))

pub returns : goal.returns
returns c = let a = c.args in of_one a.words.now a.i a.j a.field c.if-field-eq3.false
