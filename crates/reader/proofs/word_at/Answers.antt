use native.Mathlib.Omega.{arith}
use Rattle.reader.proofs.ByNumber.{word_there, word_past}
use Rattle.reader.proofs.word_at.Goals as goal

pub returns-then-n-words_held : goal.returns-then-n-words_held
returns-then-n-words_held c =
    let a = c.args in
    word_there a.file.now a.n (omega arith) c.word.ensures

pub returns-else-n-words_held : goal.returns-else-n-words_held
returns-else-n-words_held c =
    let a = c.args in
    word_past a.file.now a.n (omega arith)
