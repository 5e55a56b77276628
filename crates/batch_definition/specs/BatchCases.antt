-- Batches (02, CR 9), by computation: the combination, its edges r = 0 and rx = 1, each refusal with its place, the order of the tests, the reads.
use Rattle.std.specs.Prelude.{ℕ, ◌≡◌, refl, List, [], ◌∷◌, ◌++◌, take, drop, set, replicate}
use Rattle.definition.specs.Lists.{range}
use Rattle.definition.specs.Block.{check_word, file_of}
use Rattle.definition.specs.Prove.{done}
use Rattle.batch_definition.specs.Batch.{batch_coefficients_test, batch_coins_test, batch_deciding, batch_function, batch_input_tests, batch_layout, batch_out_tests, batch_range_test, batch_reading, batch_rules, batch_start, batch_test, batch_tests, batch_words, combine_at, combine_poly, cut_by, decide_batch, honest_batch, most_entries, prove_batch, read_batch, sum_of, table_numbers, verify_batch}
use Rattle.definition.specs.Verdict.{refused}
use Rattle.definition.specs.WorkedTranscript.{F₁₇, sheet_words, stream, one_to_eight, accept, refuse, kept, definitions}

-- bounds 3 and 8, r = 5: number and bounds are the words 12 to 14, tables 15 to 46, r 47, fold coin 48, table 1 of the round 49 to 56, out coin 57, reply 58,
-- combination and fold coin 59 60, shift index 61, final coefficients 62 63, final index 64
abbrev pub two : List ℕ
two = honest_batch sheet_words (3 ∷ 8 ∷ []) (1 ∷ 2 ∷ 3 ∷ one_to_eight) (5 ∷ 2 ∷ 0 ∷ 3 ∷ 4 ∷ 0 ∷ 1 ∷ [])

-- one table with bound d0: from fold coin 0 on the worked transcript
abbrev pub one : List ℕ
one = honest_batch sheet_words (8 ∷ []) (1 ∷ 2 ∷ 3 ∷ 4 ∷ 5 ∷ 0 ∷ 0 ∷ 0 ∷ []) (5 ∷ 2 ∷ 0 ∷ 3 ∷ 4 ∷ 0 ∷ 1 ∷ [])

abbrev zero_coin : List ℕ
zero_coin = honest_batch sheet_words (3 ∷ 8 ∷ []) (1 ∷ 2 ∷ 3 ∷ one_to_eight) (0 ∷ 2 ∷ 0 ∷ 3 ∷ 4 ∷ 0 ∷ 1 ∷ [])

-- r = 6 makes rx = 1 at point 0, which is read
abbrev one_at_point : List ℕ
one_at_point = honest_batch sheet_words (8 ∷ 1 ∷ []) (one_to_eight ++ (9 ∷ [])) (6 ∷ 2 ∷ 0 ∷ 3 ∷ 4 ∷ 0 ∷ 1 ∷ [])

-- with final index 0, which leads to point 0 of the round's table
abbrev point_0_lem : List ℕ
point_0_lem = honest_batch sheet_words (3 ∷ 8 ∷ []) (1 ∷ 2 ∷ 3 ∷ one_to_eight) (5 ∷ 2 ∷ 0 ∷ 3 ∷ 4 ∷ 0 ∷ 0 ∷ [])

-- no round: the smallest sheet, with bounds 1 2 1
abbrev no_round_lem : List ℕ
no_round_lem = honest_batch (0 ∷ 4 ∷ 2 ∷ 2 ∷ 0 ∷ 1 ∷ 1 ∷ 0 ∷ 0 ∷ 0 ∷ 0 ∷ 0 ∷ []) (1 ∷ 2 ∷ 1 ∷ []) (7 ∷ 8 ∷ 9 ∷ 10 ∷ []) (3 ∷ 5 ∷ 1 ∷ [])

-- field 3, without a round: bounds 1 2, number and bounds 12 to 14, tables 15 to 46, r 47, fold coin 51, final coefficient 55, final index 59
abbrev four_words : List ℕ
four_words = honest_batch (3 ∷ 4 ∷ 2 ∷ 2 ∷ 0 ∷ 1 ∷ 1 ∷ 0 ∷ 0 ∷ 0 ∷ 0 ∷ 0 ∷ []) (1 ∷ 2 ∷ []) (range 1 12) (9 ∷ 8 ∷ 7 ∷ 6 ∷ 5 ∷ 4 ∷ 3 ∷ 2 ∷ 1 ∷ [])

pub record BatchCases : Type 0 where
  -- the combination: three tables with e = 2, 0, 1 have r^0, r^3 and r^4
  pub powers : combine_at F₁₇ 4 0 2 3 (2 ∷ 4 ∷ 3 ∷ []) (1 ∷ 0 ∷ 0 ∷ []) ≡ 9
  pub second : combine_at F₁₇ 4 0 2 3 (2 ∷ 4 ∷ 3 ∷ []) (0 ∷ 1 ∷ 0 ∷ []) ≡ 8
  pub third : combine_at F₁₇ 4 0 2 3 (2 ∷ 4 ∷ 3 ∷ []) (0 ∷ 0 ∷ 1 ∷ []) ≡ 10
  pub polynomial : combine_poly F₁₇ 4 0 2 ((1 ∷ 1 ∷ []) ∷ (1 ∷ 2 ∷ 3 ∷ 4 ∷ []) ∷ []) ≡ 9 ∷ 2 ∷ 13 ∷ 2 ∷ []
  -- the tables by hand
  pub tail : drop 47 two ≡ 5 ∷ 2 ∷ 6 ∷ 2 ∷ 1 ∷ 9 ∷ 5 ∷ 0 ∷ 3 ∷ 4 ∷ 0 ∷ 8 ∷ 3 ∷ 4 ∷ 0 ∷ 6 ∷ 16 ∷ 1 ∷ []
  pub front : take 15 two ≡ sheet_words ++ (2 ∷ 3 ∷ 8 ∷ [])
  pub check : check_word 0 two ≡ 11604
  pub accepts : verify_batch (file_of two) ≡ accept 6
  pub one_tail : drop 31 one ≡ drop 28 stream
  pub one_check : check_word 0 one ≡ 6950
  pub one_accepts : batch_deciding one ≡ accept 4
  pub r_0 : drop 49 zero_coin ≡ 14 ∷ 1 ∷ 3 ∷ 4 ∷ 13 ∷ 9 ∷ 7 ∷ 6 ∷ 0 ∷ 5 ∷ 3 ∷ 4 ∷ 0 ∷ 0 ∷ 0 ∷ 1 ∷ []
  pub r_0_check : check_word 0 zero_coin ≡ 11238
  pub r_0_accepts : batch_deciding zero_coin ≡ accept 6
  pub rx_1 : drop 49 one_at_point ≡ 16 ∷ 8 ∷ 7 ∷ 1 ∷ 7 ∷ 0 ∷ 10 ∷ 14 ∷ 0 ∷ 10 ∷ 3 ∷ 4 ∷ 0 ∷ 12 ∷ 5 ∷ 1 ∷ []
  pub rx_1_check : check_word 0 one_at_point ≡ 14625
  pub rx_1_accepts : batch_deciding one_at_point ≡ accept 6
  pub no_round : batch_deciding no_round_lem ≡ accept 6
  -- a point of the round's table and of the batch's tables are apart
  pub point_0 : batch_deciding point_0_lem ≡ accept 6
  -- without a round the final coin reads the first function: a wrong entry at point 1 of table 1, 2 or 3 is met, at point 0 it is not
  pub entry_1 : batch_deciding (set no_round_lem 17 0) ≡ refuse 9 0 6
  pub entry_2 : batch_deciding (set no_round_lem 21 0) ≡ refuse 9 0 6
  pub entry_3 : batch_deciding (set no_round_lem 25 0) ≡ refuse 9 0 6
  pub entry_not_read : batch_deciding (set (set no_round_lem 16 0) 24 0) ≡ accept 6
  pub wrong : verify_batch (file_of (set two 62 7)) ≡ refuse 9 0 6
  -- 15: the number, then the bounds in order from 1 on; those past the number are not looked at
  pub number_0 : verify_batch (file_of (set two 12 0)) ≡ refuse 15 0 0
  pub number_9 : batch_tests 1 (set two 12 9) ≡ refused 15 0
  pub bound_0 : batch_tests 1 (set two 13 0) ≡ refused 15 1
  pub bound_9 : batch_tests 1 (set two 14 9) ≡ refused 15 2
  pub both_bounds : batch_tests 1 (set (set two 13 9) 14 0) ≡ refused 15 1
  pub number_3 : batch_tests 1 (set two 12 3) ≡ refused 15 3
  pub bound_past : batch_tests 1 (set (set two 12 1) 14 9) ≡ refused 5 44
  -- too many entries: 2·4096 is enough, 3·4096 is not
  pub entries : batch_tests 0 (2 ∷ 4096 ∷ 2048 ∷ 2 ∷ 5 ∷ 2 ∷ replicate 6 48 ++ (2 ∷ 1 ∷ 2048 ∷ [])) ≡ refused 4 99
  pub too_many : batch_tests 0 (2 ∷ 4096 ∷ 2048 ∷ 2 ∷ 5 ∷ 2 ∷ replicate 6 48 ++ (3 ∷ 1 ∷ 1 ∷ 1 ∷ [])) ≡ refused 15 0
  -- the order: 3 before 15, 15 before 4, 4 before 5, 5 before 6, 7 before 14 before 8
  pub three_first : batch_tests 1 (set (set two 0 5) 12 0) ≡ refused 3 0
  pub fifteen_before_four : batch_tests 2 (set two 12 0) ≡ refused 15 0
  pub four : batch_tests 2 two ≡ refused 4 1
  pub five : batch_tests 1 (set (set two 15 17) 47 17 ++ (1 ∷ [])) ≡ refused 5 15
  pub five_coin : batch_tests 1 (set two 47 17 ++ (1 ∷ [])) ≡ refused 5 47
  pub six : batch_tests 1 (two ++ (0 ∷ 1 ∷ [])) ≡ refused 6 66
  pub seven : batch_deciding (set two 57 3) ≡ refuse 7 57 0
  pub eight : batch_deciding (set (set two 57 9) 58 0) ≡ refuse 8 1 4
  -- prove: 10, 3, 15, 10, 10, 5, 7, 11, in this order; positions of 5 are those of coefficients and coins
  pub proves : prove_batch sheet_words (3 ∷ 8 ∷ []) (1 ∷ 2 ∷ 3 ∷ one_to_eight) (5 ∷ 2 ∷ 0 ∷ 3 ∷ 4 ∷ 0 ∷ 1 ∷ []) (replicate 513 7) ≡ record { answer = done 1; output = file_of two ++ (7 ∷ []) }
  pub sheet_short : prove_batch [] [] [] [] [] ≡ kept 10 0 []
  pub sheet_broken : prove_batch (set sheet_words 0 5) [] [] [] [] ≡ kept 3 0 []
  pub no_bounds : prove_batch sheet_words [] [] [] [] ≡ kept 15 0 []
  pub nine_bounds : prove_batch sheet_words (replicate 9 1) [] [] [] ≡ kept 15 0 []
  pub bad_bound : prove_batch sheet_words (8 ∷ 9 ∷ []) [] [] [] ≡ kept 15 2 []
  pub coefficients_short : prove_batch sheet_words (3 ∷ 8 ∷ []) one_to_eight [] [] ≡ kept 10 1 []
  pub coins_short : prove_batch sheet_words (3 ∷ 8 ∷ []) (1 ∷ 2 ∷ 3 ∷ one_to_eight) (2 ∷ 0 ∷ 3 ∷ 4 ∷ 0 ∷ 1 ∷ []) [] ≡ kept 10 2 []
  pub coefficient_large : prove_batch sheet_words (3 ∷ 8 ∷ []) (1 ∷ 17 ∷ 3 ∷ one_to_eight) (17 ∷ 2 ∷ 3 ∷ 3 ∷ 4 ∷ 0 ∷ 1 ∷ []) [] ≡ kept 5 1 []
  pub r_large : prove_batch sheet_words (3 ∷ 8 ∷ []) (1 ∷ 2 ∷ 3 ∷ one_to_eight) (17 ∷ 2 ∷ 3 ∷ 3 ∷ 4 ∷ 0 ∷ 1 ∷ []) [] ≡ kept 5 11 []
  pub out_inside : prove_batch sheet_words (3 ∷ 8 ∷ []) (1 ∷ 2 ∷ 3 ∷ one_to_eight) (5 ∷ 2 ∷ 3 ∷ 3 ∷ 4 ∷ 0 ∷ 1 ∷ []) [] ≡ kept 7 2 []
  pub outs_equal : prove_batch (set sheet_words 5 2) (8 ∷ []) one_to_eight (5 ∷ 2 ∷ 0 ∷ 0 ∷ 3 ∷ 4 ∷ 0 ∷ 1 ∷ []) [] ≡ kept 14 3 []
  pub output_short : prove_batch sheet_words (3 ∷ 8 ∷ []) (1 ∷ 2 ∷ 3 ∷ one_to_eight) (5 ∷ 2 ∷ 0 ∷ 3 ∷ 4 ∷ 0 ∷ 1 ∷ []) (replicate 511 7) ≡ kept 11 1 (replicate 511 7)
  -- field 3: tables and r are of elements of four words, and the tables may have 2048 entries together
  pub words_of_4 : drop 12 four_words ≡ 2 ∷ 1 ∷ 2 ∷ 1 ∷ 2 ∷ 3 ∷ 4 ∷ 1 ∷ 2 ∷ 3 ∷ 4 ∷ 1 ∷ 2 ∷ 3 ∷ 4 ∷ 1 ∷ 2 ∷ 3 ∷ 4
      ∷ 1462779175 ∷ 1177917768 ∷ 893056361 ∷ 608194954 ∷ 2013265917 ∷ 2013265917 ∷ 2013265917 ∷ 2013265917 ∷ 550486756 ∷ 835348165 ∷ 1120209574 ∷ 1405070983 ∷ 14 ∷ 16 ∷ 18 ∷ 20
      ∷ 9 ∷ 8 ∷ 7 ∷ 6 ∷ 5 ∷ 4 ∷ 3 ∷ 2 ∷ 8154601 ∷ 4460954 ∷ 2513487 ∷ 1375788 ∷ 1 ∷ []
  pub check_of_4 : check_word 0 four_words ≡ 2698918029
  pub accepts_4 : verify_batch (file_of four_words) ≡ accept 4
  pub not_read_4 : batch_deciding (set (set four_words 15 5) 18 5) ≡ accept 4
  pub first_word_4 : batch_deciding (set four_words 19 5) ≡ refuse 9 0 4
  pub last_word_4 : batch_deciding (set four_words 22 5) ≡ refuse 9 0 4
  pub combination_4 : batch_deciding (set four_words 47 5) ≡ refuse 9 0 4
  pub entries_4 : batch_tests 0 (3 ∷ 1024 ∷ 512 ∷ 2 ∷ 0 ∷ 1 ∷ 1 ∷ 0 ∷ 0 ∷ 0 ∷ 0 ∷ 0 ∷ 2 ∷ 1 ∷ 512 ∷ []) ≡ refused 4 73
  pub too_many_4 : batch_tests 0 (3 ∷ 1024 ∷ 512 ∷ 2 ∷ 0 ∷ 1 ∷ 1 ∷ 0 ∷ 0 ∷ 0 ∷ 0 ∷ 0 ∷ 3 ∷ 1 ∷ 1 ∷ 1 ∷ []) ≡ refused 15 0
  pub coefficients_short_4 : prove_batch (take 12 four_words) (1 ∷ 2 ∷ []) (range 1 11) [] [] ≡ kept 10 1 []
  pub coins_short_4 : prove_batch (take 12 four_words) (1 ∷ 2 ∷ []) (range 1 12) (range 1 8) [] ≡ kept 10 2 []
  pub r_large_4 : prove_batch (take 12 four_words) (1 ∷ 2 ∷ []) (range 1 12) (2013265921 ∷ range 1 8) [] ≡ kept 5 12 []

-- what the cases compute through, beside the definitions of plain files
unfoldable pub batch_definitions : Unit {0}
unfolding
    combine_at combine_poly table_numbers batch_function decide_batch most_entries batch_rules batch_test batch_start batch_layout batch_words read_batch batch_tests batch_reading
    batch_deciding verify_batch cut_by sum_of honest_batch batch_coefficients_test batch_coins_test batch_range_test batch_out_tests batch_input_tests prove_batch
batch_definitions = tt

batch_cases : BatchCases
unfolding definitions batch_definitions
batch_cases = record {
  powers = refl;
  second = refl;
  third = refl;
  polynomial = refl;
  tail = refl;
  front = refl;
  check = refl;
  accepts = refl;
  one_tail = refl;
  one_check = refl;
  one_accepts = refl;
  r_0 = refl;
  r_0_check = refl;
  r_0_accepts = refl;
  rx_1 = refl;
  rx_1_check = refl;
  rx_1_accepts = refl;
  no_round = refl;
  point_0 = refl;
  entry_1 = refl;
  entry_2 = refl;
  entry_3 = refl;
  entry_not_read = refl;
  wrong = refl;
  number_0 = refl;
  number_9 = refl;
  bound_0 = refl;
  bound_9 = refl;
  both_bounds = refl;
  number_3 = refl;
  bound_past = refl;
  entries = refl;
  too_many = refl;
  three_first = refl;
  fifteen_before_four = refl;
  four = refl;
  five = refl;
  five_coin = refl;
  six = refl;
  seven = refl;
  eight = refl;
  proves = refl;
  sheet_short = refl;
  sheet_broken = refl;
  no_bounds = refl;
  nine_bounds = refl;
  bad_bound = refl;
  coefficients_short = refl;
  coins_short = refl;
  coefficient_large = refl;
  r_large = refl;
  out_inside = refl;
  outs_equal = refl;
  output_short = refl;
  words_of_4 = refl;
  check_of_4 = refl;
  accepts_4 = refl;
  not_read_4 = refl;
  first_word_4 = refl;
  last_word_4 = refl;
  combination_4 = refl;
  entries_4 = refl;
  too_many_4 = refl;
  coefficients_short_4 = refl;
  coins_short_4 = refl;
  r_large_4 = refl;
}
