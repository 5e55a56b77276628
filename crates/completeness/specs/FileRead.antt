-- The file of a sheet without a fault and of words in range after it, as many as are due: it holds these words, and passes reading.
use Rattle.std.specs.Prelude.{ℕ, zero, suc, ◌+◌, ◌*◌, ◌/◌, ◌%◌, ◌≤◌, ◌<◌, true, ◌||◌, ◌≡◌, refl, drop, replicate}
use Rattle.std.proofs.Common.{arith, sym, ap, ◌∙◌, drop_at}
use Rattle.std.proofs.Math.Bool.{false, not}
use mathlib.Core.List.{List, [], ◌∷◌, ◌++◌, map, zip_with, append_assoc}
use Rattle.std.proofs.Math.Option.{none}
use Rattle.std.proofs.Math.Dec.{eqb}
use Rattle.std.proofs.Math.ListN.{length, length-append}
use borrow.Author.Tests.{eq-eqb, leb-false, ne_eqb}
use Rattle.definition.specs.Block.{block_count, file_of, stream_of}
use Rattle.definition.specs.Layout.{Kind, layout, limit, words_due}
use Rattle.definition.specs.Lists.{first_true}
use Rattle.definition.specs.Reading.{blocks_test, body_tests, check_test, fill_test, length_test, out_of_range, range_test, reading, sheet_test, stream_tests}
use Rattle.definition.specs.Sheet.{Edition, Sheet, edition1, edition2, sheet_length, sheet_of}
use Rattle.definition.specs.Verdict.{◌then◌, accepted}
use Rattle.list_laws.specs.All.{All, all_append}
use Rattle.layouts.specs.EachWord.{Each, InRange, each_length, each_none}
use Rattle.layouts.specs.FileTrip.{Word, file_checks, file_length, file_stream, fill_count, filled}
use Rattle.completeness.specs.Ready.{layout_fits, ready}
use Rattle.layouts.proofs.SheetLevels.{rules_front, sheet_front}
use Rattle.layouts.specs.SheetRules.{sheet_words_lem}
use Rattle.layouts.specs.Tests.{at_none, if_false, none_true}

pub no_fill : (from n : ℕ) → first_true from (map (λ (x : ℕ). not (eqb x 0)) (replicate n 0)) ≡ none
unfolding first_true
no_fill from zero = refl
no_fill from (suc n) = no_fill (suc from) n

-- words in range are words
pub words_of_kinds : (h : Sheet) (ks : List Kind) (w : List ℕ) → All (λ k. limit h.prime k ≤ 4294967296) ks → Each (InRange h) ks w → All Word w
unfolding out_of_range
words_of_kinds h [] [] l e = tt
words_of_kinds h [] (x ∷ w) l e = absurd e
words_of_kinds h (k ∷ ks) [] l e = absurd e
words_of_kinds h (k ∷ ks) (x ∷ w) l e = (omega (arith, l.0, leb-false (limit h.prime k) x e.0), words_of_kinds h ks w l.1 e.1)

some_words : (ed : Edition) → 0 < sheet_length ed
some_words edition1 = omega arith
some_words edition2 = omega arith

module _ (ed : Edition) (v body : List ℕ) (long : length v ≡ sheet_length ed) (passed : sheet_test ed v ≡ accepted) (inside : Each (InRange (sheet_of ed v)) (layout (sheet_of ed v)) body) where
  abbrev h : Sheet
  h = sheet_of ed v

  abbrev fill : List ℕ
  fill = replicate (fill_count (v ++ body)) 0

  pub all_words : All Word (v ++ body)
  all_words = all_append Word v body (sheet_words_lem ed v long passed) (words_of_kinds h (layout h) body (layout_fits h (ready ed v (omega arith) passed)) inside)

  pub words_due_lem : length (v ++ body) ≡ words_due ed (sheet_of ed v)
  unfolding words_due
  words_due_lem = length-append v body ∙ (λ i. long i + each_length (InRange h) (layout h) body inside i)

  -- the file has the blocks that the sheet needs
  pub file_size : length (file_of (v ++ body)) ≡ 512 * block_count (words_due ed (sheet_of ed v))
  file_size = file_length (v ++ body) ∙ ap (λ (n : ℕ). 512 * block_count n) words_due_lem

  -- the stream in the file
  pub stream_is : stream_of (file_of (v ++ body)) ≡ v ++ (body ++ replicate (fill_count (v ++ body)) 0)
  unfolding filled
  stream_is = file_stream (v ++ body) all_words ∙ append_assoc v body fill

  -- refusals 1 to 6 are not given
  length_passes : length_test (file_of (v ++ body)) ≡ accepted
  unfolding length_test block_count words_due
  length_passes = if_false 1 0 _ (λ i. positive_length i || not (whole i))
    where
      positive_length : eqb (length (file_of (v ++ body))) 0 ≡ false
      positive_length = ne_eqb (length (file_of (v ++ body))) 0 (omega (arith, file_size, some_words ed))

      whole : eqb (length (file_of (v ++ body)) % 512) 0 ≡ true
      whole = eq-eqb (length (file_of (v ++ body)) % 512) 0 (omega (arith, file_size))

  checks_pass : check_test (file_of (v ++ body)) ≡ accepted
  unfolding check_test
  checks_pass = at_none 2 _ (none_true 0 _ (file_checks (v ++ body) all_words))

  after_sheet : drop (sheet_length ed) (v ++ (body ++ fill)) ≡ body ++ fill
  after_sheet = drop_at v (body ++ fill) (sheet_length ed) long

  after_words : drop (words_due ed h) (v ++ (body ++ fill)) ≡ fill
  after_words = ap (drop (words_due ed h)) (sym (append_assoc v body fill)) ∙ drop_at (v ++ body) fill (words_due ed h) words_due_lem

  blocks_pass : blocks_test (words_due ed h) (length (file_of (v ++ body)) / 512) ≡ accepted
  unfolding blocks_test
  blocks_pass = if_false 4 _ _ (ap not (eq-eqb _ _ count))
    where
      count : length (file_of (v ++ body)) / 512 ≡ block_count (words_due ed h)
      count = omega (arith, file_size)

  range_passes : range_test h (sheet_length ed) (layout h) (v ++ (body ++ fill)) ≡ accepted
  unfolding range_test
  range_passes = at_none 5 _
      (ap (λ (l : List ℕ). first_true (sheet_length ed) (zip_with (out_of_range h) (layout h) l)) after_sheet ∙ each_none (out_of_range h) (sheet_length ed) (layout h) body fill inside)

  fill_passes : fill_test (words_due ed h) (v ++ (body ++ fill)) ≡ accepted
  unfolding fill_test
  fill_passes = at_none 6 _
      (ap (λ (l : List ℕ). first_true (words_due ed h) (map (λ (x : ℕ). not (eqb x 0)) l)) after_words ∙ no_fill (words_due ed h) (fill_count (v ++ body)))

  body_passes : body_tests h (sheet_length ed) (layout h) (length (file_of (v ++ body)) / 512) (v ++ (body ++ fill)) ≡ accepted
  unfolding body_tests words_due ◌then◌
  body_passes = λ i. blocks_pass i then range_passes i then fill_passes i

  stream_passes : stream_tests ed (length (file_of (v ++ body)) / 512) (v ++ (body ++ fill)) ≡ accepted
  unfolding stream_tests ◌then◌
  stream_passes = rw (rules_front ed v long passed (body ++ fill), sheet_front ed v long passed (body ++ fill)) body_passes

  -- reading: refusals 1 to 6
  pub file_reads : reading ed (file_of (v ++ body)) ≡ accepted
  unfolding reading ◌then◌
  file_reads = rw (length_passes, checks_pass, stream_is) stream_passes
