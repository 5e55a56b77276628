use native.Mathlib.Omega.{arith}
use Rattle.widths.proofs.Cases.{words_one, words_three}
use Rattle.widths.proofs.words.Goals as goal

pub returns-then-field-eq3 : goal.returns-then-field-eq3
returns-then-field-eq3 c =
    let a = c.args in
    (words_three a.field a.n (omega arith), omega arith)

pub returns : goal.returns
returns c =
    let a = c.args in
    (words_one a.field a.n (omega arith), omega arith)
