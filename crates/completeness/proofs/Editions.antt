-- THE PAGE ON THE EDITIONS (02, CR 5): the notions of the other pages by the words of a sheet, in edition 1 with its one folding number, which is word 3; and the
-- converter, but for the verdict on a converted file, which is on the page ConvertedVerdicts.antt. It holds theorems and nothing else; each proof is one citation.
-- To read it: the definition (crate `definition`) and the vocabularies Numbered.antt and Faults.antt, with Levels.antt and PlainRules.antt of the crate `layouts` beneath
-- them.
use Rattle.std.specs.Prelude.{ℕ, suc, ◌+◌, ◌-◌, ◌*◌, ◌/◌, ◌^◌, ◌≤◌, ◌<◌, List, ◌++◌, map, ◌↔◌, ◌≡◌, eqb, length, get_or, take, drop}
use Rattle.definition.specs.Block.{block_count, file_of, stream_of}
use Rattle.definition.specs.Convert.{backward, body_of, folds_test, forward, to_edition1, to_edition2}
use Rattle.definition.specs.Layout.{words_due}
use Rattle.definition.specs.Lists.{different, product_of, range}
use Rattle.definition.specs.Prove.{done, refusal}
use Rattle.definition.specs.Prover.{honest_stream}
use Rattle.definition.specs.Reading.{reading, sheet_test}
use Rattle.definition.specs.Sheet.{Edition, Sheet, edition1, edition2, fold_words, sheet_length, sheet_of}
use Rattle.definition.specs.Verdict.{accepted, refused}
use Rattle.definition.specs.Verify.{verify}
use Rattle.layouts.proofs.Lawful
use Rattle.layouts.specs.Levels.{level_of, rounds_of, total}
use Rattle.layouts.specs.PlainRules.{KeepsRule, PlainSheet1}
use Rattle.layouts.proofs.PlainSheet
use Rattle.layouts.proofs.SheetLevels
use Rattle.completeness.proofs.Conversion
use Rattle.completeness.proofs.Converter
use Rattle.completeness.proofs.EditionOne
use Rattle.completeness.specs.Faults.{part_words, reads_before, sheet_in, shifts, turn_of}
use Rattle.completeness.specs.Numbered.{Allowed, corrected_of, indices_of, quotient_poly, reads_due, round_poly, samples_at}

-- 1. LEVELS BY THE WORDS OF A SHEET without a fault, in either edition. M is word 4; d_i is d0 over the product of k_0 to k_(i-1), and k_i is the edition's word for it.
module _ (ed : Edition) (w : List ℕ) (long : sheet_length ed ≤ length w) (sheet : sheet_test ed w ≡ accepted) where
  pub rounds_are : rounds_of (sheet_of ed w) ≡ get_or w 4 0
  rounds_are = Lawful.rounds_word ed w long sheet

  pub level_is : (i : ℕ) → i ≤ get_or w 4 0 → level_of (sheet_of ed w) i ≡ record {
    number = i;
    size = get_or w 1 0 / 2 ^ i;
    degree = get_or w 2 0 / product_of (take i (fold_words ed w));
    fold = get_or (fold_words ed w) i 0;
    repetitions = get_or w (6 + i) 0;
  }
  level_is = SheetLevels.level_is ed w long sheet

-- 2. EDITION 1 IN ITS OWN TERMS. With k = word 3, d_i is d0/k^i, every level folds by k,
module _ (w : List ℕ) (long : 12 ≤ length w) (sheet : sheet_test edition1 w ≡ accepted) where
  pub level_of_edition_1 : (i : ℕ) → i ≤ get_or w 4 0 → level_of (sheet_of edition1 w) i ≡ record {
    number = i;
    size = get_or w 1 0 / 2 ^ i;
    degree = get_or w 2 0 / get_or w 3 0 ^ i;
    fold = get_or w 3 0;
    repetitions = get_or w (6 + i) 0;
  }
  level_of_edition_1 = EditionOne.level_one w long sheet

  -- the reads of an accepted transcript are k for each different index of each level, and so are those of a stream's first m rounds.
  pub reads_of_edition_1 : (coins : List ℕ) → reads_due (sheet_of edition1 w) coins
      ≡ get_or w 3 0 * total (map (λ i. length (different eqb (indices_of (sheet_of edition1 w) coins i))) (range 0 (suc (get_or w 4 0))))
  reads_of_edition_1 = EditionOne.reads_one w long sheet

  pub reads_before_of_edition_1 : (stream : List ℕ) (m : ℕ) → m ≤ suc (get_or w 4 0) → reads_before edition1 (sheet_of edition1 w) stream m
      ≡ get_or w 3 0 * total (map (λ i. length (different eqb (part_words edition1 (sheet_of edition1 w) stream (shifts i)))) (range 0 m))
  reads_before_of_edition_1 = EditionOne.reads_before_one w long sheet

-- Its rules are those of one folding number, with k^(M+1) at most d0;
pub rules_of_edition_1 : (w : List ℕ) → ((i : ℕ) → i < 12 → KeepsRule edition1 w i) ↔ PlainSheet1 w
rules_of_edition_1 = PlainSheet.rules_exactly_1

-- all tests go up from place to place.
pub turns_of_edition_1 : (n q : ℕ) → turn_of edition1 n q ≡ q
turns_of_edition_1 = EditionOne.turn_one

-- So completeness and the degrees are, for 12 words without a broken rule, d0 elements and an allowed coin list:
module _ (w f coins : List ℕ) (ok : Allowed edition1 w f coins) where
  pub completeness_of_edition_1 : verify (file_of (honest_stream edition1 w f coins)) ≡ record {
    outcome = accepted;
    reads = get_or w 3 0 * total (map (λ i. length (different eqb (indices_of (sheet_of edition1 w) coins i))) (range 0 (suc (get_or w 4 0))));
  }
  completeness_of_edition_1 = EditionOne.accepted_one ok

  pub round_degree_of_edition_1 : (i : ℕ) → i ≤ get_or w 4 0 → length (round_poly (sheet_of edition1 w) f coins i) ≡ get_or w 2 0 / get_or w 3 0 ^ i
  round_degree_of_edition_1 = EditionOne.round_degree_one ok

  pub corrected_degree_of_edition_1 : (i : ℕ) → i ≤ get_or w 4 0 → length (corrected_of (sheet_of edition1 w) f coins i) ≡ get_or w 2 0 / get_or w 3 0 ^ i
  corrected_degree_of_edition_1 = EditionOne.corrected_degree_one ok

  pub quotient_degree_of_edition_1 : (i : ℕ) → i < get_or w 4 0 →
      length (quotient_poly (sheet_of edition1 w) f coins (suc i)) ≡ get_or w 2 0 / get_or w 3 0 ^ suc i - length (samples_at (sheet_of edition1 w) f coins (suc i))
  quotient_degree_of_edition_1 = EditionOne.quotient_degree_one ok

  pub samples_fewer_of_edition_1 : (i : ℕ) → i < get_or w 4 0 → length (samples_at (sheet_of edition1 w) f coins (suc i)) < get_or w 2 0 / get_or w 3 0 ^ suc i
  samples_fewer_of_edition_1 = EditionOne.samples_fewer_one ok

-- 3. THE CONVERTER TO EDITION 2. It answers done exactly when the file passes refusals 1 to 6 of edition 1 and the output holds the blocks that are due then;
module _ (bytes output : List ℕ) (n : ℕ) where
  pub to_2_done_exactly : ((to_edition2 bytes output).answer ≡ done n)
      ↔ ((reading edition1 bytes ≡ accepted) × (n ≡ block_count (words_due edition2 (sheet_in edition1 bytes))) × (512 * n ≤ length output))
  to_2_done_exactly = Converter.to_2_exactly bytes output n

  module _ (e : (to_edition2 bytes output).answer ≡ done n) where
    -- then the blocks that it wrote pass reading in edition 2 (their verdict: ConvertedVerdicts.antt),
    pub to_2_reads : reading edition2 (take (512 * n) (to_edition2 bytes output).output) ≡ accepted
    to_2_reads = Converter.to_2_reads bytes output n e

    -- hold a sheet that says the same and the same words after it,
    pub to_2_sheet : sheet_in edition2 (take (512 * n) (to_edition2 bytes output).output) ≡ sheet_in edition1 bytes
    to_2_sheet = Converter.to_2_sheet bytes output n e

    pub to_2_body : body_of edition2 (stream_of (take (512 * n) (to_edition2 bytes output).output)) ≡ body_of edition1 (stream_of bytes)
    to_2_body = Converter.to_2_body bytes output n e

    -- and converted back they are the original's bytes, where these are bytes; what stands after the blocks is as before.
    pub there_and_back : ((i : ℕ) → i < length bytes → get_or bytes i 0 < 256) → (back : List ℕ) → length bytes ≤ length back →
        to_edition1 (take (512 * n) (to_edition2 bytes output).output) back ≡ record { answer = done (length bytes / 512); output = bytes ++ drop (length bytes) back }
    there_and_back = Converter.there_and_back bytes output n e

    pub to_2_after : drop (512 * n) (to_edition2 bytes output).output ≡ drop (512 * n) output
    to_2_after = Converter.to_2_after bytes output n e

-- Else it refuses, as reading does, and after that with 11 at the number of blocks due;
pub to_2_refuses : (bytes output : List ℕ) (n q : ℕ) → reading edition1 bytes ≡ refused n q → (to_edition2 bytes output).answer ≡ refusal n q
to_2_refuses = Converter.to_2_refuses

pub to_2_short : (bytes output : List ℕ) (n : ℕ) → reading edition1 bytes ≡ accepted → n ≡ block_count (words_due edition2 (sheet_in edition1 bytes)) → length output < 512 * n →
    (to_edition2 bytes output).answer ≡ refusal 11 n
to_2_short = Converter.to_2_short

-- refused: the output as before.
pub to_2_refused : (bytes output : List ℕ) (n q : ℕ) → (to_edition2 bytes output).answer ≡ refusal n q → (to_edition2 bytes output).output ≡ output
to_2_refused = Converter.to_2_refused

-- 4. THE CONVERTER TO EDITION 1. It answers done exactly when the file passes refusals 1 to 6 of edition 2, its folding numbers are equal, and the output holds the blocks;
module _ (bytes output : List ℕ) (n : ℕ) where
  pub to_1_done_exactly : ((to_edition1 bytes output).answer ≡ done n)
      ↔ ((reading edition2 bytes ≡ accepted) × (folds_test (sheet_in edition2 bytes) ≡ accepted)
      × (n ≡ block_count (words_due edition1 (sheet_in edition2 bytes))) × (512 * n ≤ length output))
  to_1_done_exactly = Converter.to_1_exactly bytes output n

  module _ (e : (to_edition1 bytes output).answer ≡ done n) where
    pub to_1_reads : reading edition1 (take (512 * n) (to_edition1 bytes output).output) ≡ accepted
    to_1_reads = Converter.to_1_reads bytes output n e

    pub to_1_sheet : sheet_in edition1 (take (512 * n) (to_edition1 bytes output).output) ≡ sheet_in edition2 bytes
    to_1_sheet = Converter.to_1_sheet bytes output n e

    pub to_1_body : body_of edition1 (stream_of (take (512 * n) (to_edition1 bytes output).output)) ≡ body_of edition2 (stream_of bytes)
    to_1_body = Converter.to_1_body bytes output n e

    pub back_and_there : ((i : ℕ) → i < length bytes → get_or bytes i 0 < 256) → (again : List ℕ) → length bytes ≤ length again →
        to_edition2 (take (512 * n) (to_edition1 bytes output).output) again ≡ record { answer = done (length bytes / 512); output = bytes ++ drop (length bytes) again }
    back_and_there = Converter.back_and_there bytes output n e

    pub to_1_after : drop (512 * n) (to_edition1 bytes output).output ≡ drop (512 * n) output
    to_1_after = Converter.to_1_after bytes output n e

-- Else it refuses: as reading does; then as 13 does; then with 11.
pub to_1_refuses : (bytes output : List ℕ) (n q : ℕ) → reading edition2 bytes ≡ refused n q → (to_edition1 bytes output).answer ≡ refusal n q
to_1_refuses = Converter.to_1_refuses

pub to_1_folds : (bytes output : List ℕ) (n q : ℕ) → reading edition2 bytes ≡ accepted → folds_test (sheet_in edition2 bytes) ≡ refused n q → (to_edition1 bytes output).answer ≡ refusal n q
to_1_folds = Converter.to_1_folds

pub to_1_short : (bytes output : List ℕ) (n : ℕ) → reading edition2 bytes ≡ accepted → folds_test (sheet_in edition2 bytes) ≡ accepted →
    n ≡ block_count (words_due edition1 (sheet_in edition2 bytes)) → length output < 512 * n → (to_edition1 bytes output).answer ≡ refusal 11 n
to_1_short = Converter.to_1_short

pub to_1_refused : (bytes output : List ℕ) (n q : ℕ) → (to_edition1 bytes output).answer ≡ refusal n q → (to_edition1 bytes output).output ≡ output
to_1_refused = Converter.to_1_refused

-- 5. THE SAME OF THE WORDS ALONE, whatever the output: a file of edition 1 that passes refusals 1 to 6,
module _ (bytes : List ℕ) (read : reading edition1 bytes ≡ accepted) where
  pub forward_reads : reading edition2 (file_of (forward (stream_of bytes))) ≡ accepted
  forward_reads = Conversion.forward_reads bytes read

  pub forward_back : ((i : ℕ) → i < length bytes → get_or bytes i 0 < 256) → file_of (backward (stream_of (file_of (forward (stream_of bytes))))) ≡ bytes
  forward_back = Converter.bytes_back bytes read

-- and one of edition 2 with equal folding numbers.
module _ (bytes : List ℕ) (read : reading edition2 bytes ≡ accepted) (equal : folds_test (sheet_in edition2 bytes) ≡ accepted) where
  pub backward_reads : reading edition1 (file_of (backward (stream_of bytes))) ≡ accepted
  backward_reads = Conversion.backward_reads bytes read equal

  pub backward_forward : ((i : ℕ) → i < length bytes → get_or bytes i 0 < 256) → file_of (forward (stream_of (file_of (backward (stream_of bytes))))) ≡ bytes
  backward_forward = Converter.bytes_there bytes read equal

-- 6. REFUSAL 13: the folding numbers are equal exactly when each is k_0, and else its place is the first that is not.
pub folds_exactly : (h : Sheet) → (folds_test h ≡ accepted) ↔ ((i : ℕ) → i < length h.folds → get_or h.folds i 0 ≡ get_or h.folds 0 0)
folds_exactly = Converter.folds_exactly

pub folds_refused : (h : Sheet) (n i : ℕ) → folds_test h ≡ refused n i →
    (n ≡ 13) × (i < length h.folds) × (get_or h.folds i 0 ≡ get_or h.folds 0 0 → ⊥) × ((j : ℕ) → j < i → get_or h.folds j 0 ≡ get_or h.folds 0 0)
folds_refused = Converter.folds_refused
