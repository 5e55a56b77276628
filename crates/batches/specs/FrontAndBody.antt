-- The file of a front, of any words, and a body whose words are of given kinds and in range: the stream that it holds, and the tests 1, 2 and 4 to 6.
use Rattle.std.specs.Prelude.{ℕ, ◌+◌, ◌*◌, ◌/◌, ◌%◌, ◌<◌, true, ◌||◌, ◌≡◌, refl, drop, replicate}
use Rattle.std.proofs.Common.{arith, sym, ap, ◌∙◌, length-append, drop_at}
use Rattle.std.proofs.Math.Bool.{false, not}
use mathlib.Core.List.{List, ◌++◌, map, zip_with, append_assoc}
use Rattle.std.proofs.Math.Dec.{eqb}
use Rattle.std.proofs.Math.ListN.{length}
use borrow.Author.Tests.{eq-eqb, ne_eqb}
use Rattle.definition.specs.Block.{block_count, file_of, stream_of}
use Rattle.definition.specs.Layout.{Kind}
use Rattle.definition.specs.Lists.{first_true}
use Rattle.definition.specs.Reading.{blocks_test, body_tests, check_test, fill_test, length_test, out_of_range, range_test}
use Rattle.definition.specs.Sheet.{Sheet}
use Rattle.definition.specs.Verdict.{◌then◌, accepted}
use Rattle.list_laws.specs.All.{All}
use Rattle.layouts.specs.EachWord.{Each, InRange, each_length, each_none}
use Rattle.layouts.specs.FileTrip.{Word, file_checks, file_length, file_stream, fill_count, filled}
use Rattle.layouts.specs.Tests.{at_none, if_false, none_true}
use Rattle.completeness.specs.FileRead.{no_fill}

module _ (h : Sheet) (front body : List ℕ) (kinds : List Kind) (some : 0 < length front) (words : All Word (front ++ body)) (inside : Each (InRange h) kinds body) where
  abbrev file : List ℕ
  file = file_of (front ++ body)

  abbrev due : ℕ
  due = length front + length kinds

  abbrev fill : List ℕ
  fill = replicate (fill_count (front ++ body)) 0

  pub words_due_lem : length (front ++ body) ≡ length front + length kinds
  words_due_lem = length-append front body ∙ ap (λ (n : ℕ). length front + n) (each_length (InRange h) kinds body inside)

  pub file_size : length (file_of (front ++ body)) ≡ 512 * block_count (length front + length kinds)
  file_size = file_length (front ++ body) ∙ ap (λ (n : ℕ). 512 * block_count n) words_due_lem

  pub stream_is : stream_of (file_of (front ++ body)) ≡ front ++ (body ++ replicate (fill_count (front ++ body)) 0)
  unfolding filled
  stream_is = file_stream (front ++ body) words ∙ append_assoc front body fill

  pub length_passes : length_test (file_of (front ++ body)) ≡ accepted
  unfolding length_test block_count
  length_passes = if_false 1 0 _ (λ i. positive_length i || not (whole i))
    where
      positive_length : eqb (length (file_of (front ++ body))) 0 ≡ false
      positive_length = ne_eqb (length (file_of (front ++ body))) 0 (omega (arith, file_size))

      whole : eqb (length (file_of (front ++ body)) % 512) 0 ≡ true
      whole = eq-eqb (length (file_of (front ++ body)) % 512) 0 (omega (arith, file_size))

  pub checks_pass : check_test (file_of (front ++ body)) ≡ accepted
  unfolding check_test
  checks_pass = at_none 2 _ (none_true 0 _ (file_checks (front ++ body) words))

  pub after_front : drop (length front) (front ++ (body ++ replicate (fill_count (front ++ body)) 0)) ≡ body ++ replicate (fill_count (front ++ body)) 0
  after_front = drop_at front (body ++ fill) (length front) refl

  after_words : drop due (front ++ (body ++ fill)) ≡ fill
  after_words = ap (drop due) (sym (append_assoc front body fill)) ∙ drop_at (front ++ body) fill due words_due_lem

  blocks_pass : blocks_test due (length file / 512) ≡ accepted
  unfolding blocks_test
  blocks_pass = if_false 4 _ _ (ap not (eq-eqb _ _ count))
    where
      count : length file / 512 ≡ block_count due
      count = omega (arith, file_size)

  range_passes : range_test h (length front) kinds (front ++ (body ++ fill)) ≡ accepted
  unfolding range_test
  range_passes = at_none 5 _
      (ap (λ (l : List ℕ). first_true (length front) (zip_with (out_of_range h) kinds l)) after_front ∙ each_none (out_of_range h) (length front) kinds body fill inside)

  fill_passes : fill_test due (front ++ (body ++ fill)) ≡ accepted
  unfolding fill_test
  fill_passes = at_none 6 _ (ap (λ (l : List ℕ). first_true due (map (λ (x : ℕ). not (eqb x 0)) l)) after_words ∙ no_fill due (fill_count (front ++ body)))

  pub body_passes : body_tests h (length front) kinds (length (file_of (front ++ body)) / 512) (front ++ (body ++ replicate (fill_count (front ++ body)) 0)) ≡ accepted
  unfolding body_tests ◌then◌
  body_passes = λ i. blocks_pass i then range_passes i then fill_passes i
