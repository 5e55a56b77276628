-- The words of a file by block and place: its checks and its stream, of any list of bytes.
use Rattle.std.specs.Prelude.{ℕ, zero, suc, ◌+◌, ◌*◌, ◌/◌, ◌<◌, false, not, List, [], ◌∷◌, map, ◌≡◌, refl, eqb, length, get_or, take}
use Rattle.std.proofs.Common.{zero-add, ◌∙◌}
use native.Mathlib.Omega.{arith}
use Rattle.std.proofs.Math.Path.{ap}
use Rattle.std.proofs.Math.Seq.{get_or-take}
use Rattle.definition.specs.Block.{check_word, file_blocks, stream_of, wrong_checks}
use Rattle.definition.specs.Lists.{range}
use Rattle.list_laws.specs.Lists.{by_number}
use Rattle.layouts.specs.FileWords.{block_word_lem, block_words_length, block_words, blocks_count, stream_at, word_at}
use Rattle.completeness.specs.Faults.{block_word, blocks_in}

-- is the check of block j wrong?
wrong_at : (from : ℕ) (xs : List (List ℕ)) (j : ℕ) → j < length xs →
    get_or (wrong_checks from xs) j false ≡ not (eqb (get_or (get_or xs j []) 127 0) (check_word (from + j) (take 127 (get_or xs j []))))
unfolding wrong_checks
wrong_at from [] j l = absurd (omega arith)
wrong_at from (x ∷ xs) zero l = ap (λ (m : ℕ). not (eqb (get_or x 127 0) (check_word m (take 127 x)))) (let e : from ≡ from + 0 = omega arith in e)
wrong_at from (x ∷ xs) (suc j) l =
    wrong_at (suc from) xs j (omega arith)
    ∙ ap (λ (m : ℕ). not (eqb (get_or (get_or xs j []) 127 0) (check_word m (take 127 (get_or xs j []))))) (let e : suc from + j ≡ from + suc j = omega arith in e)

wrong_length : (from : ℕ) (xs : List (List ℕ)) → length (wrong_checks from xs) ≡ length xs
unfolding wrong_checks
wrong_length from [] = refl
wrong_length from (x ∷ xs) = ap suc (wrong_length (suc from) xs)

module _ (file : List ℕ) where
  block_at : (b x : ℕ) → b < blocks_in file → x < 128 → get_or (get_or (file_blocks file) b []) x 0 ≡ block_word file b x
  unfolding block_word
  block_at = block_word_lem file

  block_words_lem : (b : ℕ) → b < blocks_in file → take 127 (get_or (file_blocks file) b []) ≡ map (block_word file b) (range 0 127)
  unfolding block_words
  block_words_lem b l =
      by_number 0 (take 127 (get_or (file_blocks file) b [])) (block_word file b) 127 (block_words_length file b l)
      (λ j u. get_or-take 127 (get_or (file_blocks file) b []) j 0 u ∙ block_at b j l (omega arith))

  pub check_at : (b : ℕ) → b < blocks_in file →
      get_or (wrong_checks 0 (file_blocks file)) b false ≡ not (eqb (block_word file b 127) (check_word b (map (block_word file b) (range 0 127))))
  check_at b l =
      wrong_at 0 (file_blocks file) b (omega (arith, blocks_count file))
      ∙ (λ i. not (eqb (block_at b 127 l (omega arith) i) (check_word (zero-add b i) (block_words_lem b l i))))

  pub checks_length : length (wrong_checks 0 (file_blocks file)) ≡ blocks_in file
  checks_length = wrong_length 0 (file_blocks file) ∙ blocks_count file

  pub stream_word : (b x : ℕ) → b < blocks_in file → x < 127 → get_or (stream_of file) (127 * b + x) 0 ≡ block_word file b x
  unfolding block_word
  stream_word b x l u =
      stream_at file (127 * b + x) (omega arith) ∙ ap (word_at file) (let e : 4 * (127 * b + x + (127 * b + x) / 127) ≡ 512 * b + 4 * x = omega arith in e)
