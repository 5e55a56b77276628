-- What `nearest` writes is the same whatever the output was, and 3,073 words are long enough for every sheet.
use Rattle.std.specs.Prelude.{ℕ, ◌+◌, ◌-◌, ◌/◌, ◌≤◌, ◌≡◌, refl, length, get_or, drop}
use Rattle.std.proofs.Common.{arith, ◌∙◌, le-ltb}
use mathlib.Core.List.{List, [], flat_map}
use Rattle.std.proofs.Math.Path.{sym, ap}
use Rattle.std.proofs.Math.Seq.{take-append_seam}
use Rattle.definition.specs.Block.{bytes_of}
use Rattle.definition.specs.Field.{Spelling, spelling_of, word_count}
use Rattle.definition.specs.Prove.{Answer, Result, finish, output_test, sheet_length_test}
use Rattle.definition.specs.Reading.{sheet_test}
use Rattle.definition.specs.Sheet.{Sheet, edition1, sheet_length, sheet_of}
use Rattle.definition.specs.Verdict.{Outcome, ◌then◌, accepted, refused}
use Rattle.nearest_definition.specs.Nearest.{entries_test, entry_range_test, found_test, nearest, nearest_size, nearest_tests, nearest_to, nearest_words}
use Rattle.layouts.proofs.Lawful.{lawful}
use Rattle.layouts.proofs.PlainSheet.{sheet_plain}
use Rattle.layouts.specs.Spellings.{count_add, count_least, count_mono}
use Rattle.layouts.specs.Tests.{equal_passes, if_false}
use Rattle.word_input.specs.Input.{after_test, sheet_part, whole_words_test, words_of}
use Rattle.program_output.specs.AnyOutput.{room_long, then_same}
use Rattle.program_output.specs.Output.{room_of}
use Rattle.nearest_bytes.specs.NearestInput.{nearest_input, nearest_of_words, nearest_written, taken, words_written, written_words}

-- d coefficients, the count and (n - d)/2 numbers, where the words of n elements are at most 4,096 and those of d at most half of them
few_words : (σ : Spelling) (n d : ℕ) → d + d ≤ n → word_count σ n ≤ 4096 → word_count σ d + 1 + (n - d) / 2 ≤ 3073
few_words σ n d h l =
    let all : word_count σ (d + (n - d)) ≡ word_count σ n = ap (word_count σ) (omega arith) in
    omega (arith, count_add σ d (n - d), all, count_least σ (n - d), count_add σ d d, count_mono σ (d + d) n h)

pub size_most : (w : List ℕ) → 12 ≤ length w → sheet_test edition1 w ≡ accepted → nearest_size (sheet_of edition1 w) ≤ 3073
unfolding nearest_size sheet_of
size_most w long k =
    let half : get_or w 2 0 + get_or w 2 0 ≤ get_or w 1 0 = omega (arith, (sheet_plain edition1 w k).plain.degree_range.1) in
    few_words (spelling_of (get_or w 0 0)) (get_or w 1 0) (get_or w 2 0) half (lawful edition1 w long k).words

enough : (size have : ℕ) → size ≤ have → output_test size size have ≡ accepted
unfolding output_test
enough size have h = if_false 11 size _ (le-ltb have size h)

finish_same : (a b words : List ℕ) (t : Outcome) → words_written (finish t (length words) words a) ≡ words_written (finish t (length words) words b)
unfolding finish words_written written_words
finish_same a b words accepted =
    ap (λ (l : List ℕ). record { output = flat_map bytes_of l; error = [] }) (take-append_seam words (drop (length words) a) ∙ sym (take-append_seam words (drop (length words) b)))
finish_same a b words (refused n p) = refl

module _ (w table : List ℕ) where
  abbrev h : Sheet
  h = sheet_of edition1 w

  abbrev words : List ℕ
  words = nearest_words (sheet_of edition1 w) table (nearest_to (sheet_of edition1 w) table)

  abbrev tests : List ℕ → Outcome
  tests output = sheet_length_test edition1 w then sheet_test edition1 w then nearest_tests (sheet_of edition1 w) table output then found_test (nearest_to (sheet_of edition1 w) table)

  tests_long : (a b : List ℕ) → 3073 ≤ length a → 3073 ≤ length b → tests a ≡ tests b
  unfolding sheet_length_test nearest_tests
  tests_long a b la lb =
      then_same (sheet_length_test edition1 w) _ _ (λ s. then_same (sheet_test edition1 w) _ _ (λ k.
      let size = nearest_size h in
      let few : nearest_size h ≤ 3073 = size_most w (omega (arith, equal_passes 10 0 (length w) (sheet_length edition1) s)) k in
      let room : output_test size size (length a) ≡ output_test size size (length b) = enough size (length a) (omega arith) ∙ sym (enough size (length b) (omega arith)) in
      ap (λ (t : Outcome). (entries_test h table then entry_range_test h table then t) then found_test (nearest_to h table)) room))

  nearest_same : (a b : List ℕ) → 3073 ≤ length a → 3073 ≤ length b → words_written (nearest w table a) ≡ words_written (nearest w table b)
  unfolding nearest
  nearest_same a b la lb = ap (λ (t : Outcome). words_written (finish t (length words) words a)) (tests_long a b la lb) ∙ finish_same a b words (tests b)

-- and after a test
after_same : (t : Outcome) (result : List ℕ → Result) (a b : List ℕ) → words_written (result a) ≡ words_written (result b) → words_written (after_test t (result a) a) ≡ words_written (after_test t (result b) b)
unfolding after_test words_written written_words
after_same accepted result a b e = e
after_same (refused n p) result a b e = refl

-- So what the program writes is what the nearest polynomial's words are on any output of 3,073 words or more.
pub nearest_any_output : (bytes output : List ℕ) → 3073 ≤ length output → words_written (nearest_input bytes output) ≡ nearest_written bytes
unfolding nearest_input nearest_of_words nearest_written
nearest_any_output bytes output long =
    let w = words_of (taken bytes) in
    let room = room_of 3073 in
    after_same (whole_words_test (taken bytes)) (nearest_of_words w) output room (nearest_same (sheet_part edition1 w) (drop (sheet_length edition1) w) output room long (room_long 3073))

-- and what the code leaves is that, whose answer and words are the definition's
pub left : (bytes : List ℕ) {answer : Answer} {after : List ℕ} → answer ≡ (nearest_input bytes (room_of 3073)).answer → after ≡ (nearest_input bytes (room_of 3073)).output →
    nearest_written bytes ≡ written_words answer after
unfolding nearest_written words_written
left bytes e h = sym (λ t. written_words (e t) (h t))
