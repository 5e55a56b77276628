use Prim.Native.Nat.{ℕ, ◌+◌, ◌*◌, ◌/◌, ◌≤◌, ◌<◌}
use native.Mathlib.Omega.{arith}
use mathlib.Core.Path.{◌≡◌, refl, sym, ◌∙◌}
use mathlib.Core.List.{List, []}
use lib.Dec.{eqb, lit<}
use lib.ListN.{length, get_or, take, length-set}
use lib.Seq.{take_all}
use Rattle.definition.specs.Block.{check_word, file_blocks}
use Rattle.list_laws.specs.Overwriting.{overwrite_none, overwrite_next}
use Rattle.layouts.specs.FileWords.{word_at, block_words, block_words_length, block_words_at, block_word_lem}
use Rattle.stream.specs.Checks.{right_check, summed_start, summed_next, summed_end}
use Rattle.stream.proofs.take_block.Goals as goal

-- `stream::take_block` meets its contract. The loop's invariant: the sum of the words before number w, and these words stored.
-- the word read last is the block's check word
answer : (file : List ℕ) (b : ℕ) {v s : ℕ} → b < length file / 512 → v ≡ word_at file (512 * b + 508) → s ≡ check_word b (block_words file b)
    → eqb v s ≡ right_check b (get_or (file_blocks file) b [])
unfolding right_check block_words
answer file b h e f = rw (e, f, block_word_lem file b 127 h (lit< tt))

pub loop-w-init : goal.loop-w-init
loop-w-init c =
    let a = c.args in
    (summed_start (block_words a.file.now a.b) a.b, sym (overwrite_none a.words.now a.at))

pub loop-w-preserved : goal.loop-w-preserved
loop-w-preserved c =
    let l = c.loop-w in
    let a = c.args in
    let x = block_words a.file.now a.b in
    let t : l.w < 127 = omega (arith, c.loop-w-test.true) in
    let n : length x ≡ 127 = block_words_length a.file.now a.b c.requires.0 in
    let e : c.word-x.result ≡ get_or x l.w 0 = c.word-x.ensures ∙ sym (block_words_at a.file.now a.b l.w c.requires.0 t) in (
      summed_next x n t e c.add_weighted-sum.ensures l.invariant.0,
      overwrite_next a.words.now a.at x l.w (omega (arith, n, c.requires.1)) (omega (arith, n, t)) e l.invariant.1,
    )

pub returns : goal.returns
returns c =
    let l = c.loop-w in
    let a = c.args in
    let x = block_words a.file.now a.b in
    let t : 127 ≤ l.w = omega (arith, c.loop-w-test.false) in
    let n : length x ≡ 127 = block_words_length a.file.now a.b c.requires.0 in
    let whole : take l.w x ≡ x = take_all l.w x (omega (arith, n, t)) in record { value = answer a.file.now a.b c.requires.0 c.word.ensures (summed_end x n t l.invariant.0); words_after = rw whole at l.invariant.1 }
