-- THE PAGE ON BATCHES (02, CR 9). It holds theorems and nothing else; each proof is one citation.
-- To read it: the definition (crate `definition`, Batch.antt last) and the vocabulary Batched.antt.
use Rattle.std.specs.Prelude.{ℕ, suc, ◌+◌, ◌-◌, ◌*◌, ◌≤◌, ◌<◌, List, [], ◌∷◌, ◌++◌, map, ◌↔◌, ◌≡◌, length, get_or, take, drop}
use Rattle.batch_definition.specs.Batch.{batch_layout, batch_reading, batch_start, batch_words, combine_at, combine_poly, cut_by, honest_batch, prove_batch, verify_batch}
use Rattle.definition.specs.Block.{block_count, file_of, stream_of}
use Rattle.definition.specs.Deciding.{deciding, out_tests}
use Rattle.definition.specs.Domain.{point}
use Rattle.definition.specs.Field.{Field, elements_in, power}
use Rattle.definition.specs.Lists.{range}
use Rattle.definition.specs.Polynomial.{evaluate, geometric}
use Rattle.definition.specs.Prove.{done, refusal}
use Rattle.definition.specs.Sheet.{edition1, first_level, sheet_of}
use Rattle.definition.specs.Verdict.{accepted, refused}
use Rattle.algebra.specs.Laws.{FieldLaws}
use Rattle.list_laws.specs.All.{All}
use Rattle.layouts.specs.Levels.{element_at, rounds_of, sheet_field, sheet_root, words_for}
use Rattle.completeness.specs.Faults.{part_words, shifts}
use Rattle.completeness.specs.Numbered.{level_reads}
use Rattle.batches.proofs.BatchAnswers
use Rattle.batches.proofs.BatchCompleteness
use Rattle.batches.proofs.BatchStream
use Rattle.batches.specs.Batched.{AllowedBatch, BatchRoom, ProveRefusal, VerifyRefusal, batch_reads, exponent, higher_by, placed, plain_words, sum_in}
use Rattle.batches.proofs.Combination
use Rattle.batches.proofs.PlainVerdict
use Rattle.batches.specs.Premises

-- 1. THE COMBINATION, in any field with the laws. It is the sum that 001 prints as equation 18: table m + 1 times r to the power m + e_1 + .. + e_m and times the sum of
-- (rx)^l, l from 0 to e_(m+1), where e_i = d - b_i.
module _ {A : Type 0} (F : Field A) (L : FieldLaws F) where
  infixl 70 ◌⊗◌
  open F use {𝟘, ◌⊗◌}

  pub combination : (d : ℕ) (r x : A) (bs : List ℕ) (ys : List A) → length ys ≡ length bs →
      combine_at F d 0 r x bs ys ≡ sum_in F (map (λ m. power F r (exponent d bs m) ⊗ (get_or ys m 𝟘 ⊗ evaluate F (geometric F r (d - get_or bs m 0)) x)) (range 0 (length bs)))
  combination = Combination.combine_is F L

  pub factor : (r x : A) (e : ℕ) → evaluate F (geometric F r e) x ≡ sum_in F (map (λ l. power F (r ⊗ x) l) (range 0 (suc e)))
  factor = Combination.geometric_is F L

  -- The combined polynomial is below d, and has the combined values, for every r and x;
  pub combination_degree : (d n : ℕ) (r : A) (fs : List (List A)) → All (λ f. (0 < length f) × (length f ≤ d)) fs → length (combine_poly F d n r fs) ≡ d
  combination_degree = Combination.combine_length F

  pub combination_values : (d n : ℕ) (r x : A) (fs : List (List A)) → evaluate F (combine_poly F d n r fs) x ≡ combine_at F d n r x (map length fs) (map (λ f. evaluate F f x) fs)
  combination_values = Combination.combine_value F L

  -- and one table with bound d has its own values.
  pub one_table : (d : ℕ) (r x y : A) → combine_at F d 0 r x (d ∷ []) (y ∷ []) ≡ L.reduce y
  one_table = Combination.combine_one F L

-- 2. COMPLETENESS. For every sheet, all polynomials below their bounds and every allowed coin list, r included, the prover's file is accepted.
pub batch_completeness : (w bounds f coins : List ℕ) → AllowedBatch w bounds f coins →
    verify_batch (file_of (honest_batch w bounds f coins)) ≡ record { outcome = accepted; reads = batch_reads (sheet_of edition1 w) (length bounds) coins }
batch_completeness = BatchCompleteness.completeness

-- Entry j of table m is the value of polynomial m at point j of domain 0, whatever follows the stream.
pub tables_are_values : (w bounds f coins z : List ℕ) → AllowedBatch w bounds f coins → (m j : ℕ) → m < length bounds → j < (sheet_of edition1 w).size →
    element_at (sheet_of edition1 w).spelling (honest_batch w bounds f coins ++ z) (batch_start (length bounds) + words_for (sheet_of edition1 w) (m * (sheet_of edition1 w).size + j))
    ≡ evaluate (sheet_field (sheet_of edition1 w)) (get_or (cut_by bounds (elements_in (sheet_of edition1 w).spelling f)) m []) (point (sheet_field (sheet_of edition1 w)) (sheet_root (sheet_of edition1 w)) (first_level (sheet_of edition1 w)) j)
tables_are_values w bounds f coins z ok = BatchStream.table_entry ok z

-- 3. PROVE answers done exactly when its tests pass, with the blocks due and no other number,
pub done_exactly : (w bounds f coins output : List ℕ) →
    ((prove_batch w bounds f coins output).answer ≡ done (block_count (batch_words (sheet_of edition1 w) (length bounds)))) ↔ (AllowedBatch w bounds f coins × BatchRoom (sheet_of edition1 w) (length bounds) output)
done_exactly = BatchCompleteness.done_exactly

pub done_count : (w bounds f coins output : List ℕ) (n : ℕ) → (prove_batch w bounds f coins output).answer ≡ done n → n ≡ block_count (batch_words (sheet_of edition1 w) (length bounds))
done_count w bounds f coins output n e = (BatchCompleteness.done_allowed w bounds f coins output n e).2

-- then the whole output is the file and after it the bytes as before;
pub done_output : (w bounds f coins output : List ℕ) → AllowedBatch w bounds f coins → BatchRoom (sheet_of edition1 w) (length bounds) output →
    (prove_batch w bounds f coins output).output ≡ file_of (honest_batch w bounds f coins) ++ drop (512 * block_count (batch_words (sheet_of edition1 w) (length bounds))) output
done_output = BatchCompleteness.output_done

-- refused: the output as before.
pub refused_output : (w bounds f coins output : List ℕ) (n q : ℕ) → (prove_batch w bounds f coins output).answer ≡ refusal n q → (prove_batch w bounds f coins output).output ≡ output
refused_output = BatchCompleteness.refused_same

-- Where it answers done with n blocks, verify accepts the first n blocks of the output.
pub prove_accepted : (w bounds f coins output : List ℕ) (n : ℕ) → (prove_batch w bounds f coins output).answer ≡ done n →
    verify_batch (take (512 * n) (prove_batch w bounds f coins output).output) ≡ record { outcome = accepted; reads = batch_reads (sheet_of edition1 w) (length bounds) coins }
prove_accepted = BatchCompleteness.prove_accepted

-- 4. THE ANSWERS THAT EXIST: verify refuses with one of 1, 2, 3, 15, 4, 5, 6, 7, 14, 8 and 9 and a place in the number's range, prove with one of 10, 3, 15, 5, 7, 14, 11.
pub verify_refusals : (file : List ℕ) (n q : ℕ) → (verify_batch file).outcome ≡ refused n q → VerifyRefusal file n q
verify_refusals = BatchAnswers.verify_refusals

pub prove_refusals : (w bounds f coins output : List ℕ) (n q : ℕ) → (prove_batch w bounds f coins output).answer ≡ refusal n q → ProveRefusal w bounds f coins n q
prove_refusals = BatchAnswers.prove_refusals

-- A batch that passes reading is decided as its plain stream, whose table 0 is the first function's values: the outcome is the same, but for the word number of a 7 or a
-- 14, which is higher.
pub decided_as_plain : (file : List ℕ) → batch_reading file ≡ accepted →
    (verify_batch file).outcome ≡ placed (higher_by (sheet_of edition1 (stream_of file)) (get_or (stream_of file) 12 0)) (deciding edition1 (plain_words (stream_of file))).outcome
decided_as_plain = PlainVerdict.decided_as_plain

-- So a batch is accepted exactly when it passes reading and deciding accepts its plain stream.
pub accepted_exactly : (file : List ℕ) → ((verify_batch file).outcome ≡ accepted) ↔ ((batch_reading file ≡ accepted) × ((deciding edition1 (plain_words (stream_of file))).outcome ≡ accepted))
accepted_exactly = PlainVerdict.accepted_exactly

-- Past the tests of out coins its reads are the plain stream's, with those of level 0 once for each table: all without a round, else those of round 1's shift indices.
pub reads_without_rounds : (file : List ℕ) → batch_reading file ≡ accepted →
    out_tests (sheet_of edition1 (stream_of file)) (batch_start (get_or (stream_of file) 12 0)) (batch_layout (sheet_of edition1 (stream_of file)) (get_or (stream_of file) 12 0)) (stream_of file) ≡ accepted →
    rounds_of (sheet_of edition1 (stream_of file)) ≡ 0 → (verify_batch file).reads ≡ get_or (stream_of file) 12 0 * (deciding edition1 (plain_words (stream_of file))).reads
reads_without_rounds = PlainVerdict.reads_without_rounds

pub reads_with_rounds : (file : List ℕ) → batch_reading file ≡ accepted →
    out_tests (sheet_of edition1 (stream_of file)) (batch_start (get_or (stream_of file) 12 0)) (batch_layout (sheet_of edition1 (stream_of file)) (get_or (stream_of file) 12 0)) (stream_of file) ≡ accepted →
    0 < rounds_of (sheet_of edition1 (stream_of file)) →
    (verify_batch file).reads + level_reads (sheet_of edition1 (stream_of file)) 0 (part_words edition1 (sheet_of edition1 (stream_of file)) (plain_words (stream_of file)) (shifts 0))
    ≡ (deciding edition1 (plain_words (stream_of file))).reads
    + get_or (stream_of file) 12 0 * level_reads (sheet_of edition1 (stream_of file)) 0 (part_words edition1 (sheet_of edition1 (stream_of file)) (plain_words (stream_of file)) (shifts 0))
reads_with_rounds = PlainVerdict.reads_with_rounds

-- 5. THE PREMISES CAN BE MET.
pub by_hand_allowed : AllowedBatch Premises.sheet (3 ∷ 8 ∷ []) Premises.coefficients Premises.coins
by_hand_allowed = Premises.by_hand
