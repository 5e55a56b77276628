-- THE PAGE ON THE REFUSALS OF WHAT WRITES BLOCKS, prove and the converter, beside Statements.antt and read with the same vocabulary. It holds theorems and
-- nothing else; each proof is one citation. All theorems are of every list of words or bytes, of any length and content, and of both spellings; prove's are
-- of both editions.
use Rattle.std.specs.Prelude.{ℕ, List, ◌↔◌, ◌≡◌}
use Rattle.definition.specs.Convert.{to_edition1, to_edition2}
use Rattle.definition.specs.Prove.{done, prove_in, refusal}
use Rattle.definition.specs.Sheet.{Edition, edition1, edition2, sheet_of}
use Rattle.completeness.specs.Faults.{sheet_in}
use Rattle.refusals.proofs.ConverterRefused
use Rattle.refusals.specs.InputFaults.{FirstFailure, NoFailure, blocks_due, prove_row, to_edition1_row, to_edition2_row}
use Rattle.refusals.proofs.ProveRefused

-- 1. REFUSED EXACTLY. An operation refuses with number n and place q exactly when the first fault of its row of tests is of number n and at place q.
-- Prove (document 01: 10 at place 0, 3, 10 at 1 and at 2, 5, 7, 11; document 02, CR 6: 14 after every 7 and before 11).
pub prove_refused_exactly : (ed : Edition) (w f coins output : List ℕ) (n q : ℕ) → ((prove_in ed w f coins output).answer ≡ refusal n q) ↔ FirstFailure ed (prove_row ed w f coins output) n q
prove_refused_exactly = ProveRefused.prove_refused_exactly

-- The converter to edition 2 (document 02, CR 5: a file "that passes refusals 1 to 6", and "Done and 11 are as Prove's"),
pub to_2_refused_exactly : (file output : List ℕ) (n q : ℕ) → ((to_edition2 file output).answer ≡ refusal n q) ↔ FirstFailure edition1 (to_edition2_row file output) n q
to_2_refused_exactly = ConverterRefused.to_2_refused_exactly

-- and back (document 02, CR 5: 13 "after the input has passed refusals 1 to 6 and before 11").
pub to_1_refused_exactly : (file output : List ℕ) (n q : ℕ) → ((to_edition1 file output).answer ≡ refusal n q) ↔ FirstFailure edition2 (to_edition1_row file output) n q
to_1_refused_exactly = ConverterRefused.to_1_refused_exactly

-- 2. DONE EXACTLY (document 01: "Done: number of blocks"). An operation is done exactly when no test of its row has a fault, and then with the size due.
pub prove_done_exactly : (ed : Edition) (w f coins output : List ℕ) (n : ℕ) →
    ((prove_in ed w f coins output).answer ≡ done n) ↔ ((n ≡ blocks_due ed (sheet_of ed w)) × NoFailure (prove_row ed w f coins output))
prove_done_exactly = ProveRefused.prove_done_exactly

pub to_2_done_exactly : (file output : List ℕ) (n : ℕ) →
    ((to_edition2 file output).answer ≡ done n) ↔ ((n ≡ blocks_due edition2 (sheet_in edition1 file)) × NoFailure (to_edition2_row file output))
to_2_done_exactly = ConverterRefused.to_2_done_exactly

pub to_1_done_exactly : (file output : List ℕ) (n : ℕ) →
    ((to_edition1 file output).answer ≡ done n) ↔ ((n ≡ blocks_due edition1 (sheet_in edition2 file)) × NoFailure (to_edition1_row file output))
to_1_done_exactly = ConverterRefused.to_1_done_exactly
