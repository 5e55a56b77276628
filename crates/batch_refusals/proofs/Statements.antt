-- THE PAGE ON REFUSED BATCHES (02, CR 9). Document 01: "Every operation makes its tests in the order given here and stops at the first that fails; within
-- one test the first faulty place counts." Here it is of verify and prove of batches. The page holds theorems and nothing else; each proof is one citation.
-- To read it: the definition of batches (crate `batch_definition`) and the vocabulary BatchFaults.antt, with InputFaults.antt of the crate `refusals`,
-- Faults.antt and Numbered.antt of the crate `completeness` and Batched.antt of the crate `batches` beneath it.
-- All theorems are of every list of bytes or words, of any length and content, and of both spellings; none has a premise.
use Rattle.std.specs.Prelude.{ℕ, List, ◌↔◌, ◌≡◌, length}
use Rattle.batch_definition.specs.Batch.{prove_batch, verify_batch}
use Rattle.definition.specs.Prove.{done, refusal}
use Rattle.definition.specs.Sheet.{edition1, sheet_of}
use Rattle.definition.specs.Verdict.{accepted, refused}
use Rattle.refusals.specs.InputFaults.{FirstFailure, NoFailure}
use Rattle.batch_refusals.specs.BatchFaults.{batch_blocks_due, prove_batch_row, verify_batch_row}
use Rattle.batch_refusals.proofs.ProveBatchRefused
use Rattle.batch_refusals.proofs.VerifyBatchRefused

-- 1. VERIFY. A buyer reads: a batch's file is refused with number n at place q exactly if, of the tests 1 2 3 15 4 5 6 7 14 8 9 in this order, the first
-- that has a fault is the one of number n, and its first faulty place is q. No other file gets this answer, and no such file another.
pub verify_batch_refused_exactly : (file : List ℕ) (n q : ℕ) → ((verify_batch file).outcome ≡ refused n q) ↔ FirstFailure edition1 (verify_batch_row file) n q
verify_batch_refused_exactly = VerifyBatchRefused.refused_exactly

-- A buyer reads: it is accepted exactly if none of these tests has a fault at any place.
pub verify_batch_accepted_exactly : (file : List ℕ) → ((verify_batch file).outcome ≡ accepted) ↔ NoFailure (verify_batch_row file)
verify_batch_accepted_exactly = VerifyBatchRefused.accepted_exactly

-- 2. PROVE. A buyer reads: prove refuses its sheet, bounds, coefficients, coins and output with number n at place q exactly if the first fault of its row
-- of tests, 10 at 0, 3, 15, 10 at 1, 10 at 2, 5, 7, 14, 11, is of number n and at place q;
pub prove_batch_refused_exactly : (w bounds f coins output : List ℕ) (n q : ℕ) →
    ((prove_batch w bounds f coins output).answer ≡ refusal n q) ↔ FirstFailure edition1 (prove_batch_row w bounds f coins output) n q
prove_batch_refused_exactly = ProveBatchRefused.refused_exactly

-- and it is done exactly if no test of the row has a fault, and then with the number of blocks that the sheet and the number of tables make due.
pub prove_batch_done_exactly : (w bounds f coins output : List ℕ) (n : ℕ) →
    ((prove_batch w bounds f coins output).answer ≡ done n) ↔ ((n ≡ batch_blocks_due (sheet_of edition1 w) (length bounds)) × NoFailure (prove_batch_row w bounds f coins output))
prove_batch_done_exactly = ProveBatchRefused.done_exactly
