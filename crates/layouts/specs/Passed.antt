-- What a file that passes reading has: right checks, a sheet without a fault, as many blocks as it needs, all words due, every word in range, and zeros after them.
use Rattle.std.specs.Prelude.{ℕ, ◌/◌, ◌%◌, ◌≤◌, Bool, false, not, List, [], ◌∷◌, map, ◌≡◌, eqb, length, drop}
use Rattle.std.proofs.Common.{arith, eqb-true}
use Rattle.std.proofs.lemmas.Bool.{not-false}
use Rattle.definition.specs.Block.{block_count, file_blocks, stream_of, wrong_checks}
use Rattle.definition.specs.Layout.{layout, words_due}
use Rattle.definition.specs.Reading.{blocks_test, body_tests, check_test, fill_test, length_test, range_test, reading, sheet_test, stream_tests}
use Rattle.definition.specs.Sheet.{Edition, sheet_length, sheet_of}
use Rattle.definition.specs.Verdict.{accepted}
use Rattle.list_laws.specs.All.{All}
use Rattle.list_laws.specs.Booleans.{or_false}
use Rattle.layouts.specs.FileWords.{stream_length}
use Rattle.layouts.specs.Tests.{all_false, equal_passes, if_passes, then_passes}

pub record Passed (ed : Edition) (file : List ℕ) : Type 0 where
  pub whole : length file % 512 ≡ 0
  pub right : All (λ (e : Bool). e ≡ false) (wrong_checks 0 (file_blocks file))
  pub sheet : sheet_test ed (stream_of file) ≡ accepted
  pub blocks : length file / 512 ≡ block_count (words_due ed (sheet_of ed (stream_of file)))
  pub due : words_due ed (sheet_of ed (stream_of file)) ≤ length (stream_of file)
  pub range : range_test (sheet_of ed (stream_of file)) (sheet_length ed) (layout (sheet_of ed (stream_of file))) (stream_of file) ≡ accepted
  pub zeros : All (λ x. x ≡ 0) (drop (words_due ed (sheet_of ed (stream_of file))) (stream_of file))

all_zero : (xs : List ℕ) → All (λ (e : Bool). e ≡ false) (map (λ (x : ℕ). not (eqb x 0)) xs) → All (λ x. x ≡ 0) xs
all_zero [] h = tt
all_zero (x ∷ xs) h = (eqb-true x 0 (not-false (eqb x 0) h.0), all_zero xs h.1)

pub passed : (ed : Edition) (file : List ℕ) → reading ed file ≡ accepted → Passed ed file
unfolding reading length_test check_test stream_tests body_tests blocks_test fill_test block_count words_due
passed ed file e =
    let w = stream_of file in
    let a = then_passes (length_test file) _ e in
    let b = then_passes (check_test file) _ a.1 in
    let c = then_passes (sheet_test ed w) _ b.1 in
    let d = then_passes (blocks_test (words_due ed (sheet_of ed w)) (length file / 512)) _ c.1 in
    let n : length file / 512 ≡ block_count (words_due ed (sheet_of ed w)) = equal_passes 4 (block_count (words_due ed (sheet_of ed w))) (length file / 512) (block_count (words_due ed (sheet_of ed w))) d.0 in
    let g = then_passes (range_test (sheet_of ed w) (sheet_length ed) (layout (sheet_of ed w)) w) _ d.1 in
    record {
      whole = eqb-true (length file % 512) 0 (not-false (eqb (length file % 512) 0) (or_false (eqb (length file) 0) _ (if_passes 1 0 _ a.0)).1);
      right = all_false 2 0 _ b.0;
      sheet = c.0;
      blocks = n;
      due = omega (arith, n, stream_length file);
      range = g.0;
      zeros = all_zero (drop (words_due ed (sheet_of ed w)) w) (all_false 6 _ _ g.1);
    }
