use native.Mathlib.Omega.{arith}
use Rattle.elements.proofs.Cases.{words_three, words_one}
use Rattle.elements.proofs.words.Goals as goal

pub returns-then-field-eq3 : goal.returns-then-field-eq3
returns-then-field-eq3 c =
    let a = c.args in
    (words_three a.field a.n (omega arith), omega arith)

pub returns : goal.returns
returns c =
    let a = c.args in
    (words_one a.field a.n (omega arith), omega arith)
