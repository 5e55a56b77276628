use Rattle.out_coins.proofs.EqualWords.{by_d, other_a, other_b, other_c}
use Rattle.out_coins.proofs.same_four.Goals as goal

pub returns-then-words-i : goal.returns-then-words-i
returns-then-words-i c = let a = c.args in other_a a.words.now a.i a.j c.requires.0 c.requires.1 c.if-words-i.true

pub returns-then-words-i-2 : goal.returns-then-words-i-2
returns-then-words-i-2 c = let a = c.args in other_b a.words.now a.i a.j c.requires.0 c.requires.1 c.if-words-i.false c.if-words-i-2.true

pub returns-then-words-i-3 : goal.returns-then-words-i-3
returns-then-words-i-3 c = let a = c.args in other_c a.words.now a.i a.j c.requires.0 c.requires.1 c.if-words-i.false c.if-words-i-2.false c.if-words-i-3.true

pub returns : goal.returns
returns c = let a = c.args in by_d a.words.now a.i a.j c.requires.0 c.requires.1 c.if-words-i.false c.if-words-i-2.false c.if-words-i-3.false
