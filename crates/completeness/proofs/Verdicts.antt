-- THE PAGE ON THE ANSWERS: what verify accepts, what it refuses and where, which answers of verify, prove and encode exist, and what encode does. It holds theorems and nothing else; each proof is one citation.
-- To read it: the definition (crate `definition`) and the vocabularies Numbered.antt and Faults.antt, which say by number what stands in a file and what a fault is, with
-- Levels.antt and PlainRules.antt of the crate `layouts` beneath them: a sheet's levels by number, and its rules in plain numbers.
-- All theorems are of both editions and of every list of bytes or words, of any length and content; encode's are of edition 1, whose sheets it takes.
use Rattle.std.specs.Prelude.{ℕ, suc, ◌+◌, ◌*◌, ◌≤◌, ◌<◌, List, [], ◌∷◌, ◌++◌, map, ◌↔◌, ◌≡◌, length, get_or, drop}
use Rattle.definition.specs.Block.{stream_of}
use Rattle.definition.specs.Deciding.{places_of}
use Rattle.definition.specs.Domain.{fold_at, point, shift_point}
use Rattle.definition.specs.Lists.{range}
use Rattle.definition.specs.Polynomial.{corrected_value, distinct, evaluate}
use Rattle.definition.specs.Prove.{done, encode, prove_in, refusal}
use Rattle.definition.specs.Field.{elements_in, words_of}
use Rattle.definition.specs.Prover.{table_of}
use Rattle.definition.specs.Reading.{reading}
use Rattle.definition.specs.Sheet.{Edition, Sheet, edition1, sheet_length, sheet_of, shift_count, test_order}
use Rattle.definition.specs.Verdict.{accepted, refused, then_verdict}
use Rattle.definition.specs.Verify.{decide_file, verify_in}
use Rattle.layouts.specs.FileWords
use Rattle.layouts.specs.Levels.{element_at, level_of, out_coin_count, rounds_of, sheet_field, sheet_root, words_for}
use Rattle.layouts.specs.PlainRules.{KeepsRule, PlainSheet, word_turn}
use Rattle.layouts.proofs.PlainSheet
use Rattle.layouts.proofs.RulesByWord
use Rattle.completeness.proofs.AcceptedExactly
use Rattle.completeness.proofs.Answers
use Rattle.completeness.proofs.EncodeExactly
use Rattle.completeness.specs.Faults.{Encodable, EncodeRefusal, Fault, ProveRefusal, VerifyRefusal, FirstFault, Kept, Part, PartDue, SameOutside, SameWhereUsed, block_word, blocks_in, combination, due_of, fold, function_in, number_turn, outs, pair_in, pairs_in, part_element, part_length, part_start, part_word, reads_with, sheet_in, shifts, words}
use Rattle.completeness.specs.FileByNumber
use Rattle.completeness.specs.Numbered.{replies, table}
use Rattle.completeness.specs.PairsByNumber
use Rattle.completeness.specs.PartsByNumber
use Rattle.completeness.proofs.Places
use Rattle.completeness.proofs.ReadsByNumber
use Rattle.completeness.proofs.SameVerdict
use Rattle.completeness.proofs.TwoSteps
use Rattle.completeness.proofs.VerifyExactly

-- 1. ACCEPTED EXACTLY. Verify accepts a file exactly when all of Kept holds: of every block, sheet word, stream word, out coin, two out coins of a round, two pairs and final
-- index.
pub accepted_exactly : (ed : Edition) (file : List ℕ) → ((verify_in ed file).outcome ≡ accepted) ↔ Kept ed file
accepted_exactly = AcceptedExactly.accepted_exactly

-- REFUSED EXACTLY. It refuses a file with number n and place q exactly when there is a fault n at q, none of number n at an earlier turn and none of a number at an earlier
-- turn.
pub refused_exactly : (ed : Edition) (file : List ℕ) (n q : ℕ) → ((verify_in ed file).outcome ≡ refused n q) ↔ FirstFault ed file n q
refused_exactly = AcceptedExactly.refused_exactly

-- The numbers in the order of their turns.
pub numbers_in_order : map number_turn (1 ∷ 2 ∷ 3 ∷ 4 ∷ 5 ∷ 6 ∷ 7 ∷ 14 ∷ 8 ∷ 9 ∷ []) ≡ range 1 10
numbers_in_order = VerifyExactly.numbers_in_order

-- 2. WHAT STANDS IN A FILE. The sheet's words are tested in the order of their turns,
pub word_of_turn : (ed : Edition) (i : ℕ) → i < sheet_length ed → get_or (test_order ed) (word_turn ed i) 0 ≡ i
word_of_turn ed i l = (RulesByWord.word_of_turn ed i l).0

-- and keep their rules exactly when these plain facts hold of them.
pub rules_exactly : (ed : Edition) (w : List ℕ) → ((i : ℕ) → i < sheet_length ed → KeepsRule ed w i) ↔ PlainSheet ed w
rules_exactly = PlainSheet.rules_exactly

-- The stream has 127 words of each block, in the blocks' order;
pub stream_count : (file : List ℕ) → length (stream_of file) ≡ 127 * blocks_in file
stream_count = FileWords.stream_length

pub stream_word : (file : List ℕ) (b x : ℕ) → b < blocks_in file → x < 127 → get_or (stream_of file) (127 * b + x) 0 ≡ block_word file b x
stream_word = FileByNumber.stream_word

-- every word of it after the sheet, up to the last final index, is a word of a part, and every word of a part is one of these.
pub every_word_in_part : (ed : Edition) (h : Sheet) (n : ℕ) → sheet_length ed ≤ n → n < due_of ed h → (x : Part) × PartDue h x × ((j : ℕ) × (j < part_length h x) × (n ≡ part_start ed h x + j))
every_word_in_part = PartsByNumber.every_word

pub part_among_words : (ed : Edition) (h : Sheet) (x : Part) → PartDue h x → (j : ℕ) → j < part_length h x → (sheet_length ed ≤ part_start ed h x + j) × (part_start ed h x + j < due_of ed h)
part_among_words = PartsByNumber.part_below

-- In a stream w with all words that a sheet h makes due, f_0 is table 0;
module _ (ed : Edition) (h : Sheet) (w : List ℕ) (full : due_of ed h ≤ length w) where
  pub first_function : (j : ℕ) → j < (level_of h 0).size → (function_in ed h w 0).value j ≡ part_element ed h w (words (table 0)) j
  first_function = PairsByNumber.first_function ed h w full

  -- f_(i+1) at point j is the corrected value of entry j of table i + 1, by the different points of round i + 1's pairs and its combination coin;
  pub next_function_lem : (i j : ℕ) → j < (level_of h (suc i)).size → (function_in ed h w (suc i)).value j
      ≡ corrected_value (sheet_field h) (distinct (sheet_field h) (pairs_in ed h w i)) (part_element ed h w (combination i) 0) (point (sheet_field h) (sheet_root h) (level_of h (suc i)) j)
      (part_element ed h w (words (table (suc i))) j)
  next_function_lem = PairsByNumber.next_function_lem ed h w full

  -- and round i + 1 has s + t_i pairs: out coin j with reply j,
  pub pair_count : (i : ℕ) → i < rounds_of h → length (pairs_in ed h w i) ≡ out_coin_count h + (level_of h i).repetitions
  pair_count = PairsByNumber.pair_count ed h w full

  pub pair_of_out : (i : ℕ) → i < rounds_of h → (j : ℕ) → j < out_coin_count h → pair_in ed h w i j ≡ record { point = part_element ed h w (outs i) j; value = part_element ed h w (words (replies (suc i))) j }
  pair_of_out = PairsByNumber.pair_of_out ed h w full

  -- then the shift point of shift index j with the fold of f_i there by fold coin i.
  pub pair_of_shift : (i : ℕ) → i < rounds_of h → (j : ℕ) → j < (level_of h i).repetitions → pair_in ed h w i (out_coin_count h + j) ≡ record {
    point = shift_point (sheet_field h) (sheet_root h) (level_of h i) (part_word ed h w (shifts i) j);
    value = fold_at (sheet_field h) (sheet_root h) (level_of h i) (function_in ed h w i).value (part_element ed h w (fold i) 0) (part_word ed h w (shifts i) j);
  }
  pair_of_shift = PairsByNumber.pair_of_shift ed h w full

-- 3. THE ANSWERS THAT EXIST. An outcome of verify is accepted or refused, and refused with one of the numbers 1 to 9 and 14 and a place in the number's range;
pub verify_refusals : (ed : Edition) (file : List ℕ) (n q : ℕ) → (verify_in ed file).outcome ≡ refused n q → VerifyRefusal ed file n q
verify_refusals = Answers.verify_refusals

-- an answer of prove is done or a refusal, and a refusal with one of 10, 3, 5, 7, 14 and 11;
pub prove_refusals : (ed : Edition) (w f coins output : List ℕ) (n q : ℕ) → (prove_in ed w f coins output).answer ≡ refusal n q → ProveRefusal ed w f coins n q
prove_refusals = Answers.prove_refusals

-- an answer of encode is done or a refusal, and a refusal with one of 10, 3, 5 and 11.
pub encode_refusals : (w f output : List ℕ) (n q : ℕ) → (encode w f output).answer ≡ refusal n q → EncodeRefusal w f n q
encode_refusals = Answers.encode_refusals

-- 4. ENCODE answers done exactly when the sheet's 12 words keep their rules, there are the words of d0 elements and the output has those of n0,
pub encode_done_exactly : (w f output : List ℕ) → ((encode w f output).answer ≡ done (words_for (sheet_of edition1 w) (get_or w 1 0))) ↔ (Encodable w f × (words_for (sheet_of edition1 w) (get_or w 1 0) ≤ length output))
encode_done_exactly = EncodeExactly.done_exactly

-- never with another count than the words of n0 elements,
pub encode_count : (w f output : List ℕ) (n : ℕ) → (encode w f output).answer ≡ done n → n ≡ words_for (sheet_of edition1 w) (get_or w 1 0)
encode_count w f output n e = (EncodeExactly.done_encodable w f output n e).2

-- and then the whole output is table 0, which has so many words, and after it the words as before;
pub encode_output : (w f output : List ℕ) → Encodable w f → words_for (sheet_of edition1 w) (get_or w 1 0) ≤ length output →
    (encode w f output).output ≡ words_of (sheet_of edition1 w).spelling (table_of (sheet_field (sheet_of edition1 w)) (sheet_root (sheet_of edition1 w)) (level_of (sheet_of edition1 w) 0) (elements_in (sheet_of edition1 w).spelling f))
    ++ drop (words_for (sheet_of edition1 w) (get_or w 1 0)) output
encode_output = EncodeExactly.output_done

pub table_count : (w f output : List ℕ) →
    length (words_of (sheet_of edition1 w).spelling (table_of (sheet_field (sheet_of edition1 w)) (sheet_root (sheet_of edition1 w)) (level_of (sheet_of edition1 w) 0) (elements_in (sheet_of edition1 w).spelling f)))
    ≡ words_for (sheet_of edition1 w) (get_or w 1 0)
table_count = EncodeExactly.written_length

-- element j of it is the value of the polynomial at point j of domain 0.
pub encode_entry : (w f output : List ℕ) → Encodable w f → words_for (sheet_of edition1 w) (get_or w 1 0) ≤ length output → (j : ℕ) → j < get_or w 1 0 →
    element_at (sheet_of edition1 w).spelling (encode w f output).output (words_for (sheet_of edition1 w) j)
    ≡ evaluate (sheet_field (sheet_of edition1 w)) (elements_in (sheet_of edition1 w).spelling f) (point (sheet_field (sheet_of edition1 w)) (sheet_root (sheet_of edition1 w)) (level_of (sheet_of edition1 w) 0) j)
encode_entry = EncodeExactly.entry

-- Refused: the output as before.
pub encode_refused : (w f output : List ℕ) (n q : ℕ) → (encode w f output).answer ≡ refusal n q → (encode w f output).output ≡ output
encode_refused = EncodeExactly.refused_same

-- 5. THE READS ARE THE DIFFERENT PLACES USED. A coin of level i leads to k_i places: root m of coin a, for m below k_i, in the table of its own level.
pub coin_places_count : (ed : Edition) (h : Sheet) (w : List ℕ) (i : ℕ) (js : List ℕ) → length (places_of (level_of h i) (function_in ed h w i).places js) ≡ length js * (level_of h i).fold
coin_places_count = Places.coin_places_count

pub coin_places_lem : (ed : Edition) (h : Sheet) (w : List ℕ) (i : ℕ) (js : List ℕ) (a m : ℕ) → a < length js → m < (level_of h i).fold →
    get_or (places_of (level_of h i) (function_in ed h w i).places js) (a * (level_of h i).fold + m) (record { table = 0; number = 0 })
    ≡ record { table = i; number = get_or js a 0 + m * shift_count (level_of h i) }
coin_places_lem = Places.coin_places_lem

-- The reads go with the outcome: k_i for each different index of level i among the coins treated, and none for 1 to 7 and 14.
pub verify_reads : (ed : Edition) (file : List ℕ) → (verify_in ed file).reads ≡ reads_with ed (sheet_in ed file) (stream_of file) (verify_in ed file).outcome
verify_reads = ReadsByNumber.verify_reads

-- DEPENDENCE. Two files that pass reading, with the same words outside the tables and the same table entries at every place that deciding uses in the first, get the
-- same verdict, outcome and reads.
pub dependence : (ed : Edition) (x y : List ℕ) → reading ed x ≡ accepted → reading ed y ≡ accepted → SameOutside ed (sheet_in ed x) (stream_of x) (stream_of y) →
    SameWhereUsed ed (sheet_in ed x) (stream_of x) (stream_of y) → verify_in ed x ≡ verify_in ed y
dependence = SameVerdict.dependence

-- 6. VERIFY IN TWO STEPS (02, CR 7). Reading, and deciding where reading accepts, have verify's verdict, of every file;
pub two_steps : (ed : Edition) (file : List ℕ) → then_verdict (reading ed file) (decide_file ed file) ≡ verify_in ed file
two_steps = TwoSteps.two_steps

-- a file that fails reading gets reading's refusal from deciding too, with no reads.
pub decide_refused : (ed : Edition) (file : List ℕ) (n q : ℕ) → reading ed file ≡ refused n q → decide_file ed file ≡ record { outcome = refused n q; reads = 0 }
decide_refused = TwoSteps.decide_refused

-- Reading accepts exactly where there is no fault of a number up to 6, and refuses exactly with the first fault, where its number is up to 6;
pub reading_accepted_exactly : (ed : Edition) (file : List ℕ) → (reading ed file ≡ accepted) ↔ ((n q : ℕ) → n ≤ 6 → Fault ed file n q → ⊥)
reading_accepted_exactly = TwoSteps.reading_accepted_exactly

pub reading_refused_exactly : (ed : Edition) (file : List ℕ) (n q : ℕ) → (reading ed file ≡ refused n q) ↔ ((n ≤ 6) × FirstFault ed file n q)
reading_refused_exactly = TwoSteps.reading_refused_exactly

-- after an accepted reading, deciding refuses with the numbers from 7 on alone.
pub decide_refusals : (ed : Edition) (file : List ℕ) (n q : ℕ) → reading ed file ≡ accepted → (decide_file ed file).outcome ≡ refused n q → (7 ≤ n) × VerifyRefusal ed file n q
decide_refusals = TwoSteps.decide_refusals
