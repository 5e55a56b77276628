-- The front of a batch's file, as the code reads it, and where the plain stream stands in the places lent. Assumes nothing.
use Prim.Native.Nat.{ℕ, ◌-◌, ◌*◌, ◌≤◌}
use native.Mathlib.Omega.{arith}
use mathlib.Core.List.{List, ◌++◌, append-nil}
use mathlib.Core.Path.{◌≡◌, sym, ap, ◌∙◌, subst}
use lib.ListN.{length, get_or, take, drop, drop_of_length-le, length-drop}
use lib.Seq.{length-take-le, take_all}
use borrow.Author.Tests.{le-ltb}
use Rattle.batch_definition.specs.Batch.{batch_reading, most_entries, verify_batch}
use Rattle.batches.specs.BatchRules.{entries_few, tables_few}
use Rattle.batches.specs.Batched.{higher_by, plain_words}
use Rattle.batches.proofs.PlainStream.{enough}
use Rattle.batches.proofs.PlainVerdict.{full, some, tests}
use Rattle.definition.specs.Block.{stream_of}
use Rattle.definition.specs.Prove.{finish, output_test}
use Rattle.definition.specs.Sheet.{Sheet, edition1, sheet_of}
use Rattle.definition.specs.Verdict.{Verdict, accepted, refuse_if, ◌then◌}
use Rattle.layouts.specs.FileWords.{stream_at, stream_length, word_at}
use Rattle.reader.specs.Words.{sheet_words}
use Rattle.sheet.specs.Front.{sheet_front}
use Rattle.batch_verify.specs.ByPlain.{Handed, by_plain}
use Rattle.batch_verify.proofs.DecidedSizes.{sheet_there}
use Rattle.batch_verify.proofs.Verdicts.{handed, verdict_by_plain}

module _ (file : List ℕ) (read : batch_reading file ≡ accepted) where
  abbrev h : Sheet
  h = sheet_of edition1 (stream_of file)

  abbrev N : ℕ
  N = get_or (stream_of file) 12 0

  long : 12 ≤ length (stream_of file)
  long = enough (stream_of file) (tests file read).0 (some file read) (full file read)

  pub block_there : 512 ≤ length file
  block_there = omega (arith, long, stream_length file)

  front_long : length (take 12 (stream_of file)) ≡ 12
  front_long = length-take-le 12 (stream_of file) long

  front_written : (out : List ℕ) → length out ≡ 12 → (sheet_words file out).output ≡ take 12 (stream_of file)
  unfolding sheet_words finish refuse_if ◌then◌ output_test
  front_written out l =
      rw (le-ltb (length file) 512 block_there, le-ltb (length out) 12 (omega arith))
      (ap (λ (t : List ℕ). take 12 (stream_of file) ++ t) (drop_of_length-le out {i = length (take 12 (stream_of file))} (omega (arith, front_long))) ∙ append-nil (take 12 (stream_of file)))

  module _ (out : List ℕ) {front : List ℕ} (l : length out ≡ 12) (e : front ≡ (sheet_words file out).output) where
    front_is : front ≡ take 12 (stream_of file)
    front_is = e ∙ front_written out l

    pub sheet_is : sheet_of edition1 front ≡ sheet_of edition1 (stream_of file)
    sheet_is = ap (sheet_of edition1) front_is ∙ sheet_front edition1 (stream_of file) long (tests file read).0

    pub front_twelve : 12 ≤ length front
    front_twelve = omega (arith, ap length front_is, front_long)

    module _ {count : ℕ} (number : count ≡ word_at file 48) where
      pub number_is : count ≡ get_or (stream_of file) 12 0
      number_is = number ∙ sym (stream_at file 12 (omega (arith, block_there)))

      pub shift_asks : (1 ≤ count) × ((count ≤ 8) × (count * (sheet_of edition1 front).size ≤ most_entries (sheet_of edition1 front).spelling))
      shift_asks =
          let few = tables_few h N (drop 13 (stream_of file)) (tests file read).1 in
          subst (λ (n : ℕ). (1 ≤ n) × ((n ≤ 8) × (n * (sheet_of edition1 front).size ≤ most_entries (sheet_of edition1 front).spelling))) (sym number_is)
          (few.0, (few.1, subst (λ (s : Sheet). N * s.size ≤ most_entries s.spelling) (sym sheet_is) (entries_few h N (drop 13 (stream_of file)) (tests file read).1)))

      module _ {shift : ℕ} (more : shift ≡ higher_by (sheet_of edition1 front) count) (words : List ℕ)
          (stream : drop (higher_by (sheet_of edition1 (stream_of file)) (get_or (stream_of file) 12 0)) words ≡ plain_words (stream_of file)) where
        shift_is : shift ≡ higher_by (sheet_of edition1 (stream_of file)) (get_or (stream_of file) 12 0)
        shift_is = more ∙ (λ i. higher_by (sheet_is i) (number_is i))

        dropped_is : drop shift words ≡ plain_words (stream_of file)
        dropped_is = ap (λ (n : ℕ). drop n words) shift_is ∙ stream

        plain_is : take (length words - shift) (drop shift words) ≡ plain_words (stream_of file)
        plain_is = take_all (length words - shift) (drop shift words) (omega (arith, length-drop shift words)) ∙ dropped_is

        pub shift_inside : shift ≤ length words
        shift_inside = omega (arith, length-drop shift words, ap length dropped_is, sheet_there edition1 (plain_words (stream_of file)) (handed file read).sheet (handed file read).there)

        pub plain_handed : Handed (take (length words - shift) (drop shift words))
        plain_handed = subst Handed (sym plain_is) (handed file read)

        pub verdict_is : {r : Verdict} → r ≡ by_plain shift count (take (length words - shift) (drop shift words)) → r ≡ verify_batch file
        verdict_is told = told ∙ (λ i. by_plain (shift_is i) (number_is i) (plain_is i)) ∙ sym (verdict_by_plain file read)
