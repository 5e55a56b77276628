-- THE PAGE OF STATEMENTS (demand 3 over the definition). It holds theorems and nothing else; each proof is one citation, and no proof need be read.
-- To read it: the definition (crate `definition`) and the vocabulary, which says what level i, round i and message m are and what Allowed asks: Numbered.antt, and beneath
-- it Levels.antt of the crate `layouts`.
-- All theorems are of both editions, of the four fields and of every sheet, polynomial and coin list that pass the definition's tests; what they are in edition 1, with
-- its one folding number, is on the page Editions.antt. Two pages go on from here: TheRun.antt has 3 to 8, the run of an allowed list and the domains, and
-- FieldsAndLoad.antt 13, 14, and the rest of 11 and 12. Behind them stand general theorems, for any field with the laws and any fitting root:
-- DecidingAccepts.deciding_accepts (any list of levels), RoundPolynomials, Domains, and Causal (any party that sends and asks).
use Rattle.std.specs.Prelude.{ℕ, suc, ◌+◌, ◌*◌, ◌≤◌, ◌<◌, cond, ◌↔◌, ◌≡◌, eqb, length, get_or, take, drop}
use mathlib.Core.List.{List, [], ◌∷◌, ◌++◌, zip_with}
use Rattle.std.proofs.Math.Option.{some}
use Rattle.definition.specs.Block.{block_count, file_of, stream_of}
use Rattle.definition.specs.Deciding.{out_repeated, out_test, same_as}
use Rattle.definition.specs.Field.{number_in, prime_field}
use Rattle.definition.specs.Layout.{layout, out, words_due}
use Rattle.definition.specs.Load.{draw_input, load_lines, smallest_allowed, verdict_on}
use Rattle.definition.specs.Prove.{coefficients_test, done, input_range_test, prove_in, refusal, sheet_length_test}
use Rattle.definition.specs.Prover.{honest_stream}
use Rattle.definition.specs.Reading.{reading, sheet_test}
use Rattle.definition.specs.Sheet.{Edition, Sheet, edition1, sheet_length, sheet_of}
use Rattle.definition.specs.Verdict.{accepted}
use Rattle.definition.specs.Verify.{verify_in}
use Rattle.definition.specs.WorkedTranscript.{coefficients, coins, sheet_words}
use Rattle.list_laws.specs.All.{at_place}
use Rattle.layouts.proofs.FileSize
use Rattle.layouts.specs.FileTrip
use Rattle.layouts.specs.Levels.{level_of, rounds_of, sheet_field, total, zero_of}
use Rattle.completeness.proofs.Completeness
use Rattle.completeness.proofs.Divisors
use Rattle.completeness.proofs.LoadAllowed
use Rattle.completeness.specs.Numbered.{Allowed, Nonzero, Room, deciding_divisors, divisors, read, reads_due, samples_at, stream_on}
use Rattle.completeness.proofs.Premises
use Rattle.completeness.proofs.Premises.{plain_coin}
use Rattle.completeness.proofs.ProveAccepted
use Rattle.completeness.proofs.ReadsCounted

-- 1. COMPLETENESS. For every sheet without a broken rule, the words of every d0 elements and every allowed coin list, verify accepts the prover's blocks, with
-- k_i reads for each different index of level i. One claim over a list of folding numbers and a whole coin list, through all its rounds.
pub completeness : (ed : Edition) (w f coins : List ℕ) → Allowed ed w f coins → verify_in ed (file_of (honest_stream ed w f coins)) ≡ record { outcome = accepted; reads = reads_due (sheet_of ed w) coins }
completeness = Completeness.completeness

-- These are at most k_0·t_0 + .. + k_M·t_M.
pub reads_at_most : (ed : Edition) (w f coins : List ℕ) → Allowed ed w f coins → reads_due (sheet_of ed w) coins ≤ total (zip_with ◌*◌ (sheet_of ed w).folds (sheet_of ed w).repetitions)
reads_at_most = ReadsCounted.reads_at_most

-- That file is a list of bytes, 512 for each block that the sheet needs.
pub file_length : (ed : Edition) (w f coins : List ℕ) → Allowed ed w f coins → length (file_of (honest_stream ed w f coins)) ≡ 512 * block_count (words_due ed (sheet_of ed w))
file_length ed w f coins ok = Completeness.file_size ok

pub file_of_bytes : (ed : Edition) (w f coins : List ℕ) (j : ℕ) → j < length (file_of (honest_stream ed w f coins)) → get_or (file_of (honest_stream ed w f coins)) j 0 < 256
file_of_bytes ed w f coins = at_place (λ b. b < 256) (file_of (honest_stream ed w f coins)) 0 (FileTrip.file_of_bytes (honest_stream ed w f coins))

-- 2. COMPLETENESS OF PROVE. Where prove answers done with n blocks, the first n blocks of its output are a file that verify accepts.
pub prove_accepted : (ed : Edition) (w f coins output : List ℕ) (n : ℕ) → (prove_in ed w f coins output).answer ≡ done n →
    verify_in ed (take (512 * n) (prove_in ed w f coins output).output) ≡ record { outcome = accepted; reads = reads_due (sheet_of ed w) coins }
prove_accepted = ProveAccepted.prove_accepted

-- It answers done exactly when sheet, coefficients, coins and output pass its tests,
pub prove_done_exactly : (ed : Edition) (w f coins output : List ℕ) →
    ((prove_in ed w f coins output).answer ≡ done (block_count (words_due ed (sheet_of ed w)))) ↔ (Allowed ed w f coins × Room ed (sheet_of ed w) output)
prove_done_exactly = ProveAccepted.done_exactly

-- never with another number of blocks than the sheet needs,
pub prove_count : (ed : Edition) (w f coins output : List ℕ) (n : ℕ) → (prove_in ed w f coins output).answer ≡ done n → n ≡ block_count (words_due ed (sheet_of ed w))
prove_count ed w f coins output n e = (ProveAccepted.done_allowed ed w f coins output n e).2

-- and then the whole output is the blocks, and after them the bytes as before.
pub prove_output : (ed : Edition) (w f coins output : List ℕ) → Allowed ed w f coins → Room ed (sheet_of ed w) output →
    (prove_in ed w f coins output).output ≡ file_of (honest_stream ed w f coins) ++ drop (512 * block_count (words_due ed (sheet_of ed w))) output
prove_output = ProveAccepted.output_done

-- Refused: the output as before.
pub prove_refused : (ed : Edition) (w f coins output : List ℕ) (number place : ℕ) → (prove_in ed w f coins output).answer ≡ refusal number place → (prove_in ed w f coins output).output ≡ output
prove_refused = ProveAccepted.refused_same

-- 9. THE PREMISES CAN BE MET. The transcript by hand is allowed,
pub by_hand_allowed : Allowed edition1 sheet_words coefficients coins
by_hand_allowed = Premises.by_hand

-- and for every sheet without a fault and the words of every d0 elements there is an allowed coin list.
pub some_coins_allowed : (ed : Edition) (w f : List ℕ) → sheet_length_test ed w ≡ accepted → sheet_test ed w ≡ accepted → coefficients_test (sheet_of ed w) f ≡ accepted →
    input_range_test (sheet_of ed w) [] f ≡ accepted → (coins : List ℕ) × Allowed ed w f coins
some_coins_allowed ed w f words sheet coefficients elements = (_, Premises.plain_allowed ed w f words sheet coefficients elements)

-- 10. NO ACCEPTED FILE IS SO LONG as 65,536 bytes (01, A transcript by hand), so what `check` reads is enough.
pub accepted_short : (ed : Edition) (bytes : List ℕ) → (verify_in ed bytes).outcome ≡ accepted → length bytes < 65536
accepted_short = FileSize.accepted_short

-- 11. THE STATED LOAD (02, CR 2 and 6). Whatever the generator holds, a run draws a sheet of edition 1, coefficients and coins that are allowed, and verify accepts its honest file.
pub draws_allowed : (v : ℕ) → Allowed edition1 (draw_input v).value.sheet (draw_input v).value.coefficients (draw_input v).value.coins
draws_allowed = LoadAllowed.draws_allowed

pub draws_accepted : (v : ℕ) → verdict_on (draw_input v).value ≡ record { outcome = accepted; reads = reads_due (sheet_of edition1 (draw_input v).value.sheet) (draw_input v).value.coins }
draws_accepted = LoadAllowed.draws_accepted

-- A second out coin that has no draw left becomes the smallest element allowed after the first, y: 1 where y is 0, else 0.
pub second_coin_smallest : (ed : Edition) (w : List ℕ) → sheet_length ed ≤ length w → sheet_test ed w ≡ accepted → (i y : ℕ) → i < rounds_of (sheet_of ed w) →
    smallest_allowed (sheet_of ed w) (some y) (out (level_of (sheet_of ed w) (suc i))) ≡ cond (eqb 0 y) 1 0
unfolding plain_coin out_repeated same_as prime_field number_in
second_coin_smallest = Premises.smallest_plain

-- So for every seed other than 0 there are a thousand lines, and each begins with `accepted`.
pub load_lines_lem : (seed : ℕ) → (seed ≡ 0 → ⊥) → length (load_lines seed) ≡ 1000
load_lines_lem seed h = (LoadAllowed.load_accepted seed h).0

pub load_accepted : (seed : ℕ) → (seed ≡ 0 → ⊥) → (i : ℕ) → i < length (load_lines seed) → take 8 (get_or (load_lines seed) i []) ≡ 97 ∷ 99 ∷ 99 ∷ 101 ∷ 112 ∷ 116 ∷ 101 ∷ 100 ∷ []
load_accepted seed h = at_place LoadAllowed.BeginsAccepted (load_lines seed) [] (LoadAllowed.load_accepted seed h).1

-- 12. NO INVERSE FOR ZERO (02, CR 3), the second half; the first is on FieldsAndLoad.antt.
-- Nothing is divided by 0. In a file that passes reading and refusal 7, whatever its tables, replies and final coefficients are, each divisor of deciding differs
-- from 0: in every round those of the folds, of the interpolation and of the quotient.
module _ (ed : Edition) (bytes : List ℕ) where
  -- its stream, and the sheet in front of it
  abbrev w : List ℕ
  w = stream_of bytes

  abbrev g : Sheet
  g = sheet_of ed (stream_of bytes)

  pub file_divisors : reading ed bytes ≡ accepted → out_test g (sheet_length ed) (layout g) w ≡ accepted →
      (i : ℕ) → i < length (deciding_divisors ed w) → Nonzero g (get_or (deciding_divisors ed w) i (zero_of g))
  file_divisors passes outside = at_place (Nonzero g) (deciding_divisors ed w) (zero_of g) (Divisors.file_divisors ed bytes passes outside)

-- So it is in every honest run, in the file,
module _ (ed : Edition) (w f coins : List ℕ) (ok : Allowed ed w f coins) where
  pub honest_divisors : (i : ℕ) → i < length (deciding_divisors ed (stream_on read ed w f coins)) →
      Nonzero (sheet_of ed (stream_on read ed w f coins)) (get_or (deciding_divisors ed (stream_on read ed w f coins)) i (zero_of (sheet_of ed (stream_on read ed w f coins))))
  unfolding stream_on
  honest_divisors = at_place (Nonzero (sheet_of ed (stream_on read ed w f coins))) (deciding_divisors ed (stream_on read ed w f coins)) (zero_of (sheet_of ed (stream_on read ed w f coins))) (Divisors.honest_divisors ok)

  -- and in the prover's interpolation in each round. (Its fold and its quotient divide by no element.)
  pub prover_divisors : (i : ℕ) → i < rounds_of (sheet_of ed w) → (j : ℕ) → j < length (divisors (sheet_field (sheet_of ed w)) (samples_at (sheet_of ed w) f coins (suc i))) →
      Nonzero (sheet_of ed w) (get_or (divisors (sheet_field (sheet_of ed w)) (samples_at (sheet_of ed w) f coins (suc i))) j (zero_of (sheet_of ed w)))
  prover_divisors i l = at_place (Nonzero (sheet_of ed w)) (divisors (sheet_field (sheet_of ed w)) (samples_at (sheet_of ed w) f coins (suc i))) (zero_of (sheet_of ed w)) (Divisors.prover_divisors ok i l)
