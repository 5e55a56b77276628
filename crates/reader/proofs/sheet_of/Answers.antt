use native.Mathlib.Omega.{arith}
use Rattle.outcome.specs.Meaning.{answer_of}
use Rattle.reader.proofs.SheetAnswer.{no_block, no_room, placed}
use Rattle.reader.proofs.sheet_of.Goals as goal

-- `reader::sheet_of` meets its contract. Assumes nothing.
pub returns-then-file-lt512 : goal.returns-then-file-lt512
unfolding answer_of
returns-then-file-lt512 c =
    let a = c.args in let both = no_block a.file.now a.output.now (omega arith) in record { result_value = both.0; output_after = both.1 }

pub returns-then-output-lt12 : goal.returns-then-output-lt12
unfolding answer_of
returns-then-output-lt12 c =
    let a = c.args in let both = no_room a.file.now a.output.now (omega arith) (omega arith) in record { result_value = both.0; output_after = both.1 }

pub returns : goal.returns
unfolding answer_of
returns c =
    let a = c.args in let both = placed a.file.now a.output.now (omega arith) (omega arith) c.walk_sheet.ensures in record { result_value = both.0; output_after = both.1 }
