-- The verdict on a batch that passes reading is the one by its plain stream. Assumes nothing.
use Prim.Native.Nat.{ℕ, zero, suc, ◌+◌, ◌-◌, ◌*◌, ◌≤◌}
use native.Mathlib.Nat.{suc-mul}
use native.Mathlib.Omega.{arith}
use mathlib.Core.Bool.{Bool, true, false, cond, ◌||◌}
use mathlib.Core.List.{List}
use mathlib.Core.Path.{◌≡◌, refl, sym, subst}
use lib.Dec.{eqb}
use lib.ListN.{length, get_or}
use borrow.Author.Tests.{eqb-false, eqb-true}
use Rattle.batch_definition.specs.Batch.{batch_reading, verify_batch}
use Rattle.batches.specs.Batched.{higher_by, plain_words}
use Rattle.batches.proofs.PlainStream.{plain_due}
use Rattle.batches.proofs.PlainVerdict.{Others, decided_as_plain, full, outs_passed, outs_unread, plain_ready, reads_with_rounds, reads_without_rounds, some, tests}
use Rattle.completeness.proofs.Answers.{Refuses}
use Rattle.completeness.specs.Faults.{part_words, shifts}
use Rattle.completeness.specs.Numbered.{level_reads}
use Rattle.definition.specs.Block.{stream_of}
use Rattle.definition.specs.Deciding.{deciding}
use Rattle.definition.specs.Layout.{layout, words_due}
use Rattle.definition.specs.Reading.{range_test}
use Rattle.definition.specs.Sheet.{Sheet, edition1, sheet_of}
use Rattle.definition.specs.Verdict.{Outcome, accepted, refused}
use Rattle.layouts.specs.Levels.{rounds_of}
use Rattle.batch_verify.specs.ByPlain.{Handed, all_reads, by_plain, first_reads, reads_with}

less_one : (a d n r : ℕ) → 1 ≤ n → a + r ≡ d + n * r → a ≡ d + (n - 1) * r
less_one a d zero r l e = absurd (omega arith)
less_one a d (suc m) r l e = let z : suc m - 1 ≡ m = omega arith in rw z (omega (arith, e, suc-mul m r))

module _ (file : List ℕ) (read : batch_reading file ≡ accepted) where
  abbrev h : Sheet
  h = sheet_of edition1 (stream_of file)

  abbrev N : ℕ
  N = get_or (stream_of file) 12 0

  abbrev v : List ℕ
  v = plain_words (stream_of file)

  abbrev plain_reads : ℕ
  plain_reads = (deciding edition1 (plain_words (stream_of file))).reads

  sheet_same : sheet_of edition1 (plain_words (stream_of file)) ≡ sheet_of edition1 (stream_of file)
  sheet_same = (plain_ready file read).1

  pub handed : Handed (plain_words (stream_of file))
  handed = record {
    sheet = (plain_ready file read).0;
    range = subst (λ (s : Sheet). range_test s 12 (layout s) v ≡ accepted) (sym sheet_same) (plain_ready file read).2;
    there = subst (λ (s : Sheet). words_due edition1 s ≤ length v) (sym sheet_same) (plain_due (stream_of file) (tests file read).0 (some file read) (full file read));
  }

  -- the reads, where deciding answers neither 7 nor 14
  reads_all : Refuses Others (deciding edition1 (plain_words (stream_of file))).outcome → (verify_batch file).reads ≡ all_reads (get_or (stream_of file) 12 0) (plain_words (stream_of file)) (deciding edition1 (plain_words (stream_of file))).reads
  unfolding all_reads first_reads
  reads_all others =
      subst (λ (s : Sheet). (verify_batch file).reads ≡ cond (eqb (rounds_of s) 0) (N * plain_reads) (plain_reads + (N - 1) * level_reads s 0 (part_words edition1 s v (shifts 0)))) (sym sheet_same)
      (go (eqb (rounds_of h) 0) refl)
    where
      go : (b : Bool) → eqb (rounds_of h) 0 ≡ b → (verify_batch file).reads ≡ cond b (N * plain_reads) (plain_reads + (N - 1) * level_reads h 0 (part_words edition1 h v (shifts 0)))
      go true e = reads_without_rounds file read (outs_passed file read others) (eqb-true (rounds_of h) 0 e)
      go false e =
          less_one (verify_batch file).reads plain_reads N (level_reads h 0 (part_words edition1 h v (shifts 0))) (some file read)
          (reads_with_rounds file read (outs_passed file read others) (omega (arith, eqb-false (rounds_of h) 0 e)))

  reads_are : (verify_batch file).reads
      ≡ reads_with (deciding edition1 (plain_words (stream_of file))).outcome (all_reads (get_or (stream_of file) 12 0) (plain_words (stream_of file)) (deciding edition1 (plain_words (stream_of file))).reads)
  unfolding reads_with
  reads_are = go (deciding edition1 v).outcome refl
    where
      by_number : (n q : ℕ) → (deciding edition1 v).outcome ≡ refused n q → (b : Bool) → (eqb n 7 || eqb n 14) ≡ b → (verify_batch file).reads ≡ cond b 0 (all_reads N v plain_reads)
      by_number n q e true b = outs_unread file read n q e b
      by_number n q e false b = reads_all (subst (Refuses Others) (sym e) b)

      go : (o : Outcome) → (deciding edition1 v).outcome ≡ o → (verify_batch file).reads ≡ reads_with o (all_reads N v plain_reads)
      go accepted e = reads_all (subst (Refuses Others) (sym e) tt)
      go (refused n q) e = by_number n q e (eqb n 7 || eqb n 14) refl

  -- document 02, CR 9: a batch is decided as its plain stream
  pub verdict_by_plain : verify_batch file ≡ by_plain (higher_by (sheet_of edition1 (stream_of file)) (get_or (stream_of file) 12 0)) (get_or (stream_of file) 12 0) (plain_words (stream_of file))
  unfolding by_plain
  verdict_by_plain = λ i. record { outcome = decided_as_plain file read i; reads = reads_are i }
