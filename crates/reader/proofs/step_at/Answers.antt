use native.Mathlib.Omega.{arith}
use Rattle.reader.proofs.ByNumber.{there, number_there, number_past}
use Rattle.reader.proofs.step_at.Goals as goal

pub overflow_add-next : goal.overflow_add-next
overflow_add-next c = let a = c.args in omega (arith, there a.file.now a.n _ c.word_at-word.ensures c.if-is_some.ensures)

pub returns-then-is_some : goal.returns-then-is_some
returns-then-is_some c = let a = c.args in
    (c.word_at-word.ensures, number_there a.file.now a.n _ c.word_at-word.ensures c.if-is_some.ensures)

pub returns-else-is_some : goal.returns-else-is_some
returns-else-is_some c = let a = c.args in
    (c.word_at-word.ensures, number_past a.file.now a.n _ c.word_at-word.ensures c.if-is_some.ensures)
