-- THE VOCABULARY OF THE PAGE ON REFUSED BATCHES: the tests of verify and prove of batches (02, CR 9) in the order in which they are made, and what a
-- fault of each is, by number. It holds no lemma and no proof. Tests in a row, their first failure, and the faults of sheets, lists, coefficients and
-- outputs are those of InputFaults (crate `refusals`); the parts of a plain stream with their lengths and limits, and the faults of files, are those of
-- Faults (crate `completeness`). In a batch, word 12 is the number of tables, their bounds follow, then the tables and r; from fold coin 0 on the words
-- are those of a plain run, at numbers that are higher by `higher_by` (crate `batches`, Batched). Lengths and positions count words.
use Rattle.std.specs.Prelude.{ℕ, suc, ◌+◌, ◌*◌, ◌≤◌, ◌<◌, List, [], ◌∷◌, ◌≡◌, length, get_or, drop}
use Rattle.batch_definition.specs.Batch.{batch_start, most_entries, sum_of}
use Rattle.definition.specs.Block.{block_count, stream_of}
use Rattle.definition.specs.Domain.{point}
use Rattle.definition.specs.Sheet.{Sheet, edition1, sheet_of}
use Rattle.layouts.specs.Levels.{element_at, level_of, out_coin_count, rounds_of, sheet_field, sheet_root, words_for}
use Rattle.completeness.specs.Faults.{CheckFault, ClashFault, FinalFault, LengthFault, Part, PartDue, RuleFault, blocks_in, due_of, fold, outs, part_length, part_limit, part_start}
use Rattle.refusals.specs.InputFaults.{CoefficientFault, CoinDomainFault, CoinEqualFault, CoinPart, CountFault, OutputFault, Test, coin_start, coins_due, test}
use Rattle.batches.specs.Batched.{batch_number, batch_sheet, higher_by, plain_words}

-- 15: at place 0 the number of tables is not 1 to 8, or too large for n0; at place m, from 1, bound m is not 1 to d0
pub data BoundFault (h : Sheet) (count : ℕ) (bounds : List ℕ) (q : ℕ) : Type 0 where
  number : q ≡ 0 → (((1 ≤ count) × (count ≤ 8) × (count * h.size ≤ most_entries h.spelling)) → ⊥) → BoundFault h count bounds q
  bound : (m : ℕ) → m < count → q ≡ suc m → (((1 ≤ get_or bounds m 0) × (get_or bounds m 0 ≤ h.degree)) → ⊥) → BoundFault h count bounds q

-- THE PARTS OF A BATCH'S STREAM after the bounds: the words of all tables, those of r, and the parts that a plain stream has from fold coin 0 on.
pub data BatchPart : Type 0 where
  tables : BatchPart
  joint : BatchPart
  run : Part → BatchPart

abbrev pub BatchPartDue : Sheet → BatchPart → Type 0
BatchPartDue h tables = Unit {0}
BatchPartDue h joint = Unit {0}
BatchPartDue h (run x) = PartDue h x × (part_start edition1 h (fold 0) ≤ part_start edition1 h x)

-- the word number of its first word; the number of its words; and the limit below which they are in range
unfoldable pub batch_part_start : Sheet → ℕ → BatchPart → ℕ
batch_part_start h count tables = batch_start count
batch_part_start h count joint = batch_start count + words_for h (count * h.size)
batch_part_start h count (run x) = part_start edition1 h x + higher_by h count

unfoldable pub batch_part_length : Sheet → ℕ → BatchPart → ℕ
batch_part_length h count tables = words_for h (count * h.size)
batch_part_length h count joint = words_for h 1
batch_part_length h count (run x) = part_length h x

unfoldable pub batch_part_limit : Sheet → BatchPart → ℕ
batch_part_limit h tables = h.prime
batch_part_limit h joint = h.prime
batch_part_limit h (run x) = part_limit h x

-- the number of words due, up to the last final index
abbrev pub batch_due : Sheet → ℕ → ℕ
batch_due h count = due_of edition1 h + higher_by h count

-- THE FAULTS OF A BATCH'S FILE, each as what it is to be one at place q. 4: the number of blocks is not the one due;
abbrev pub BatchBlocksFault : List ℕ → ℕ → Type 0
BatchBlocksFault file q = (q ≡ block_count (batch_due (batch_sheet file) (batch_number file))) × (blocks_in file ≡ q → ⊥)

-- 5: word number q is word j of a part, and is not below its limit;
abbrev pub BatchRangeFault : Sheet → ℕ → List ℕ → ℕ → Type 0
BatchRangeFault h count w q =
    (x : BatchPart) × BatchPartDue h x × ((j : ℕ) × (j < batch_part_length h count x) × (q ≡ batch_part_start h count x + j) × (batch_part_limit h x ≤ get_or w q 0))

-- 6: a word past those due is not 0;
abbrev pub BatchFillFault : List ℕ → ℕ → Type 0
BatchFillFault file q = (batch_due (batch_sheet file) (batch_number file) ≤ q) × (q < 127 * blocks_in file) × (get_or (stream_of file) q 0 ≡ 0 → ⊥)

-- 7: word number q is the first of out coin j of round i + 1, which is point m of domain i + 1;
abbrev pub BatchDomainFault : Sheet → ℕ → List ℕ → ℕ → Type 0
BatchDomainFault h count w q =
    (i : ℕ) × (i < rounds_of h) × ((j : ℕ) × (j < out_coin_count h) × (q ≡ part_start edition1 h (outs i) + words_for h j + higher_by h count)
    × ((m : ℕ) × (m < (level_of h (suc i)).size) × (element_at h.spelling w q ≡ point (sheet_field h) (sheet_root h) (level_of h (suc i)) m)))

-- 14: it is the first of out coin j of round i + 1, which is equal to out coin a before it.
abbrev pub BatchEqualFault : Sheet → ℕ → List ℕ → ℕ → Type 0
BatchEqualFault h count w q =
    (i : ℕ) × (i < rounds_of h) × ((j : ℕ) × (j < out_coin_count h) × (q ≡ part_start edition1 h (outs i) + words_for h j + higher_by h count)
    × ((a : ℕ) × (a < j) × (element_at h.spelling w q ≡ element_at h.spelling w (part_start edition1 h (outs i) + words_for h a + higher_by h count))))

-- THE FAULTS OF THE PROVER'S INPUT. The coins are r and then those of a plain run. 5: word q of the coefficients is p or more; or, in the coefficients
-- followed by the coins, word j of r is, or word j of a part of the other coins is not below its limit.
pub data BatchInputFault (h : Sheet) (f coins : List ℕ) (q : ℕ) : Type 0 where
  coefficient : CoefficientFault h f q → BatchInputFault h f coins q
  joint_coin : (j : ℕ) → j < words_for h 1 → q ≡ length f + j → h.prime ≤ get_or coins j 0 → BatchInputFault h f coins q
  coin : (x : Part) → CoinPart h x → (j : ℕ) → j < part_length h x → q ≡ length f + (words_for h 1 + (coin_start h x + j)) →
      part_limit h x ≤ get_or coins (words_for h 1 + (coin_start h x + j)) 0 → BatchInputFault h f coins q

-- 7 and 14: a plain run's coins have the fault, at a position that is higher by the words of r
abbrev pub AfterJoint : Sheet → (ℕ → Type 0) → ℕ → Type 0
AfterJoint h Fault q = (r : ℕ) × (q ≡ words_for h 1 + r) × Fault r

-- THE TESTS OF EACH OPERATION, in their order. Verify: 1 2 3 15 4 5 6, then 7 14 8 9. The tests 8 and 9 are those of the plain stream, whose table 0 is
-- the combination's values and whose other words are the batch's.
abbrev pub verify_batch_row : List ℕ → List Test
verify_batch_row file =
    let w = stream_of file in
    let h = batch_sheet file in
    let count = batch_number file in
    test 1 (LengthFault file) ∷ test 2 (CheckFault file) ∷ test 3 (RuleFault edition1 w) ∷ test 15 (BoundFault h count (drop 13 w)) ∷ test 4 (BatchBlocksFault file)
    ∷ test 5 (BatchRangeFault h count w) ∷ test 6 (BatchFillFault file) ∷ test 7 (BatchDomainFault h count w) ∷ test 14 (BatchEqualFault h count w)
    ∷ test 8 (ClashFault edition1 h (plain_words w)) ∷ test 9 (FinalFault edition1 h (plain_words w)) ∷ []

-- Prove, of sheet, bounds, coefficients, coins and output bytes: 10, 3, 15, 10, 10, 5, 7, 14, 11.
abbrev pub batch_blocks_due : Sheet → ℕ → ℕ
batch_blocks_due h count = block_count (batch_due h count)

abbrev pub prove_batch_row : List ℕ → List ℕ → List ℕ → List ℕ → List ℕ → List Test
prove_batch_row w bounds f coins output =
    let h = sheet_of edition1 w in
    let due = batch_blocks_due h (length bounds) in
    test 10 (CountFault 0 12 w) ∷ test 3 (RuleFault edition1 w) ∷ test 15 (BoundFault h (length bounds) bounds) ∷ test 10 (CountFault 1 (words_for h (sum_of bounds)) f)
    ∷ test 10 (CountFault 2 (words_for h 1 + coins_due h) coins) ∷ test 5 (BatchInputFault h f coins) ∷ test 7 (AfterJoint h (CoinDomainFault h (drop (words_for h 1) coins)))
    ∷ test 14 (AfterJoint h (CoinEqualFault h (drop (words_for h 1) coins))) ∷ test 11 (OutputFault due (512 * due) output) ∷ []
