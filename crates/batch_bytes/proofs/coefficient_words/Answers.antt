use Prim.Native.Nat.{ℕ}
use mathlib.Core.Path.{sym, ap, ◌∙◌}
use native.Mathlib.Omega.{arith}
use lib.ListN.{length, get_or}
use Rattle.definition.specs.Field.{spelling_of, word_count}
use Rattle.layouts.specs.Spellings.{count_zero}
use Rattle.batch_definition.specs.Batch.{sum_of}
use Rattle.batch_sheet.proofs.SizeLaws.{sum_end}
use Rattle.batch_bytes.specs.BatchInput.{bounds_part, coefficient_words}
use Rattle.batch_bytes.specs.BatchWords.{bounds_short}
use Rattle.batch_bytes.proofs.coefficient_words.Goals as goal

-- `batch_bytes::coefficient_words` meets its contract.
pub returns-then-words-lt1 : goal.returns-then-words-lt1
unfolding coefficient_words
returns-then-words-lt1 c =
    let w = c.args.words.now in
    let σ = spelling_of (get_or w 0 0) in
    sym (ap (word_count σ) (sum_end (bounds_part w) 0 (omega (arith, bounds_short w))) ∙ count_zero σ)

pub sum-sum-requires : goal.sum-sum-requires
sum-sum-requires c =
    let w = c.args.words.now in
    omega (arith, ap length c.bounds.ensures, bounds_short w)

pub words-requires : goal.words-requires
words-requires c =
    let w = c.args.words.now in
    omega (arith, c.sum-sum.ensures.1, ap length c.bounds.ensures, bounds_short w)

pub returns : goal.returns
unfolding coefficient_words
returns c =
    let w = c.args.words.now in
    c.words.ensures.0 ∙ ap (word_count (spelling_of (get_or w 0 0))) (c.sum-sum.ensures.0 ∙ ap {B = ℕ} sum_of c.bounds.ensures)
