-- Edition 2 and the converter (02, CR 5): the rules of its 18 words and their order, whole files, and both ways of the converter, by computation.
use Rattle.std.specs.Prelude.{ℕ, ◌≡◌, refl, List, [], ◌∷◌, ◌++◌, take, drop, set, replicate}
use Rattle.definition.specs.Field.{one}
use Rattle.definition.specs.Block.{file_of}
use Rattle.definition.specs.Sheet.{edition1, edition2, sheet_of}
use Rattle.definition.specs.Transcript.{final}
use Rattle.definition.specs.Layout.{read_transcript, words_due}
use Rattle.definition.specs.Verdict.{accepted, refused}
use Rattle.definition.specs.Reading.{sheet_test}
use Rattle.definition.specs.Verify.{verify_in}
use Rattle.definition.specs.Prover.{honest_stream}
use Rattle.definition.specs.Prove.{prove_in, done}
use Rattle.definition.specs.Convert.{to_edition1, to_edition2}
use Rattle.definition.specs.WorkedTranscript.{sheet_words, coefficients, coins, stream, file, one_to_eight, two_outs, accept, refuse, kept, definitions}

-- the sheet of the transcript by hand in edition 2, and its stream
abbrev sheet2 : List ℕ
sheet2 = 0 ∷ 16 ∷ 8 ∷ 2 ∷ 1 ∷ 1 ∷ 1 ∷ 1 ∷ 0 ∷ 0 ∷ 0 ∷ 0 ∷ 2 ∷ 0 ∷ 0 ∷ 0 ∷ 0 ∷ 2 ∷ []

abbrev pub stream2 : List ℕ
stream2 = sheet2 ++ drop 12 stream

-- k_0 = 2 and k_1 = 4: table 0 18 to 33, fold coin 34, table 1 35 to 42, out coin 43, reply 44, coins 45 46, shift indices 47 48, final
-- coefficient 49, final indices 50 51
abbrev mixed_sheet : List ℕ
mixed_sheet = 0 ∷ 16 ∷ 8 ∷ 2 ∷ 1 ∷ 1 ∷ 2 ∷ 2 ∷ 0 ∷ 0 ∷ 0 ∷ 0 ∷ 4 ∷ 0 ∷ 0 ∷ 0 ∷ 0 ∷ 2 ∷ []

abbrev mixed : List ℕ
mixed =
    mixed_sheet ++ (5 ∷ 1 ∷ 9 ∷ 12 ∷ 13 ∷ 3 ∷ 5 ∷ 13 ∷ 0 ∷ 6 ∷ 11 ∷ 14 ∷ 8 ∷ 8 ∷ 8 ∷ 2 ∷ 2 ∷ 13 ∷ 12 ∷ 11 ∷ 3 ∷ 14 ∷ 15 ∷ 16 ∷ 7
    ∷ 0 ∷ 5 ∷ 2 ∷ 4 ∷ 0 ∷ 5 ∷ 8 ∷ 1 ∷ 0 ∷ [])

-- two out coins, 43 44, with replies 45 46
abbrev two_outs2 : List ℕ
two_outs2 = take 12 two_outs ++ (2 ∷ 0 ∷ 0 ∷ 0 ∷ 0 ∷ 2 ∷ drop 12 two_outs)

abbrev large_first : List ℕ
large_first = 1 ∷ 64 ∷ 32 ∷ 8 ∷ 1 ∷ 1 ∷ 2 ∷ 1 ∷ 0 ∷ 0 ∷ 0 ∷ 0 ∷ 2 ∷ 0 ∷ 0 ∷ 0 ∷ 0 ∷ 2 ∷ []

abbrev three_folds : List ℕ
three_folds = 1 ∷ 64 ∷ 32 ∷ 2 ∷ 2 ∷ 1 ∷ 14 ∷ 2 ∷ 1 ∷ 0 ∷ 0 ∷ 0 ∷ 4 ∷ 2 ∷ 0 ∷ 0 ∷ 0 ∷ 2 ∷ []

-- One stream of both editions, with two meanings. Edition 1 has table 0 at the words 12 to 19, the fold coin at 20, final coefficients 21 22, final index 23, and
-- fill from 24 on; edition 2 has the words 12 to 17 in its sheet, table 0 at 18 to 25, the fold coin at 26, final coefficients 27 28, final index 29.
abbrev both_editions : List ℕ
both_editions =
    0 ∷ 8 ∷ 4 ∷ 2 ∷ 0 ∷ 1 ∷ 1 ∷ 0 ∷ 0 ∷ 0 ∷ 0 ∷ 0
    ∷ 0 ∷ 0 ∷ 0 ∷ 0 ∷ 0 ∷ 2
    ∷ 1 ∷ 5 ∷ 3 ∷ 13 ∷ 16 ∷ 0 ∷ 0 ∷ 0 ∷ 0 ∷ 0 ∷ 0 ∷ 0 ∷ []

-- M = 5 in field 1, in either edition: 545 and 551 words, five blocks. After the sheet all are 0 but the last, a final index.
abbrev five_rounds : List ℕ
five_rounds = 1 ∷ 256 ∷ 128 ∷ 2 ∷ 5 ∷ 1 ∷ 1 ∷ 1 ∷ 1 ∷ 1 ∷ 1 ∷ 1 ∷ (replicate 532 0 ++ (3 ∷ []))

abbrev five_rounds2 : List ℕ
five_rounds2 = take 12 five_rounds ++ (2 ∷ 2 ∷ 2 ∷ 2 ∷ 2 ∷ 2 ∷ drop 12 five_rounds)

-- n0 = 64 in field 1 with t_0 = 44, in either edition: 122 words, one block, and 128 words, two blocks. The fold coin is 3, the final indices are 0 but the last.
abbrev one_block : List ℕ
one_block = 1 ∷ 64 ∷ 2 ∷ 2 ∷ 0 ∷ 1 ∷ 44 ∷ 0 ∷ 0 ∷ 0 ∷ 0 ∷ 0 ∷ (replicate 64 0 ++ (3 ∷ replicate 44 0 ++ (31 ∷ [])))

abbrev two_blocks : List ℕ
two_blocks = take 12 one_block ++ (0 ∷ 0 ∷ 0 ∷ 0 ∷ 0 ∷ 2 ∷ drop 12 one_block)

abbrev one_block_coins : List ℕ
one_block_coins = 3 ∷ replicate 43 0 ++ (31 ∷ [])

pub record EditionCases : Type 0 where
  -- the rules of words 12 to 17, tested after word 5 and before word 6
  pub sheet_fine : sheet_test edition2 sheet2 ≡ accepted
  pub mixed_fine : sheet_test edition2 mixed_sheet ≡ accepted
  pub k1_8 : sheet_test edition2 (set mixed_sheet 12 8) ≡ refused 3 12
  pub k1_0 : sheet_test edition2 (set mixed_sheet 12 0) ≡ refused 3 12
  pub k1_1 : sheet_test edition2 (set mixed_sheet 12 1) ≡ refused 3 12
  pub k1_3 : sheet_test edition2 (set mixed_sheet 12 3) ≡ refused 3 12
  pub k2_past_M : sheet_test edition2 (set mixed_sheet 13 2) ≡ refused 3 13
  pub k5_past_M : sheet_test edition2 (set mixed_sheet 16 2) ≡ refused 3 16
  pub edition_0 : sheet_test edition2 (set mixed_sheet 17 0) ≡ refused 3 17
  pub M_2_needs_k2 : sheet_test edition2 (set mixed_sheet 4 2) ≡ refused 3 13
  pub M_5 : sheet_test edition2 (set (set mixed_sheet 4 5) 2 2) ≡ refused 3 12
  pub M_6 : sheet_test edition2 (set mixed_sheet 4 6) ≡ refused 3 4
  pub t0_after_17 : sheet_test edition2 (set (set mixed_sheet 6 0) 17 1) ≡ refused 3 17
  pub t0_3 : sheet_test edition2 (set mixed_sheet 6 3) ≡ refused 3 6
  pub t1_after_t0 : sheet_test edition2 (set (set mixed_sheet 6 0) 7 0) ≡ refused 3 6
  -- k_0 = 8 and k_1 = 2 with d0 = 32: k_0² is above d0 and their product is not; k_0 = 2, k_1 = 4, k_2 = 2: the product is tested at each k, and t_1
  -- goes by d_2 = 32/8
  pub large_first_case : sheet_test edition2 large_first ≡ accepted
  pub three_folds_case : sheet_test edition2 three_folds ≡ accepted
  pub product_at_k2 : sheet_test edition2 (set three_folds 13 8) ≡ refused 3 13
  pub product_at_k1 : sheet_test edition2 (set (set three_folds 3 16) 13 0) ≡ refused 3 12
  pub t1_with_s_is_d2 : sheet_test edition2 (set three_folds 7 3) ≡ refused 3 7
  pub k3_past_M : sheet_test edition2 (set three_folds 14 2) ≡ refused 3 14
  -- whole files
  pub worked : verify_in edition2 (file_of stream2) ≡ accept 4
  pub mixed_accepted : verify_in edition2 (file_of mixed) ≡ accept 12
  pub mixed_stream : honest_stream edition2 mixed_sheet one_to_eight (2 ∷ 0 ∷ 2 ∷ 4 ∷ 0 ∷ 5 ∷ 1 ∷ 0 ∷ []) ≡ mixed
  pub mixed_wrong : verify_in edition2 (file_of (set mixed 49 9)) ≡ refuse 9 0 8
  pub mixed_out : verify_in edition2 (file_of (set mixed 43 3)) ≡ refuse 7 43 0
  pub two_outs_case : verify_in edition2 (file_of two_outs2) ≡ accept 6
  pub equal_outs : verify_in edition2 (file_of (set two_outs2 44 0)) ≡ refuse 14 44 0
  pub mixed_index : verify_in edition2 (file_of (set mixed 51 2)) ≡ refuse 5 51 0
  pub prove_18 : prove_in edition2 sheet_words coefficients coins (replicate 512 7) ≡ kept 10 0 (replicate 512 7)
  pub prove_equal_outs : prove_in edition2 (take 18 two_outs2) one_to_eight (2 ∷ 0 ∷ 0 ∷ 2 ∷ 4 ∷ 5 ∷ 1 ∷ 2 ∷ []) [] ≡ kept 14 2 []
  -- a file that both editions accept, each as another transcript: other tables, fold coins and final coefficients. So the edition is fixed outside the file
  pub both_as_1 : verify_in edition1 (file_of both_editions) ≡ accept 2
  pub both_as_2 : verify_in edition2 (file_of both_editions) ≡ accept 2
  pub both_read_as_1 : read_transcript one (sheet_of edition1 both_editions) (drop 12 both_editions) ≡ record {
    table = 0 ∷ 0 ∷ 0 ∷ 0 ∷ 0 ∷ 2 ∷ 1 ∷ 5 ∷ [];
    fold = 3;
    rest = final (13 ∷ 16 ∷ []) (0 ∷ []);
  }
  pub both_read_as_2 : read_transcript one (sheet_of edition2 both_editions) (drop 18 both_editions) ≡ record {
    table = 1 ∷ 5 ∷ 3 ∷ 13 ∷ 16 ∷ 0 ∷ 0 ∷ 0 ∷ [];
    fold = 0;
    rest = final (0 ∷ 0 ∷ []) (0 ∷ []);
  }
  -- the converter, which looks at no out coin
  pub forth : to_edition2 file (replicate 513 7) ≡ record { answer = done 1; output = file_of stream2 ++ (7 ∷ []) }
  pub forth_equal_outs : to_edition2 (file_of (set two_outs 38 0)) (replicate 512 7) ≡ record { answer = done 1; output = file_of (set two_outs2 44 0) }
  pub forth_short : to_edition2 file (replicate 511 7) ≡ kept 11 1 (replicate 511 7)
  pub forth_empty : to_edition2 [] (replicate 511 7) ≡ kept 1 0 (replicate 511 7)
  pub back : to_edition1 (file_of stream2) (replicate 513 7) ≡ record { answer = done 1; output = file ++ (7 ∷ []) }
  pub back_differ : to_edition1 (file_of mixed) [] ≡ kept 13 1 []
  pub back_short : to_edition1 (file_of stream2) [] ≡ kept 11 1 []
  pub back_check_wrong : to_edition1 (set (file_of mixed) 0 1) [] ≡ kept 2 0 []
  -- with five rounds all of k_1 to k_5 are k, and back they are all looked at
  pub forth_five_rounds : to_edition2 (file_of five_rounds) (replicate 2560 7) ≡ record { answer = done 5; output = file_of five_rounds2 }
  pub back_five_rounds : to_edition1 (file_of five_rounds2) (replicate 2560 7) ≡ record { answer = done 5; output = file_of five_rounds }
  pub back_last_differs : to_edition1 (file_of (set (take 550 five_rounds2) 16 4)) [] ≡ kept 13 5 []
  -- where the six words more of edition 2 make a block more
  pub due_1 : words_due edition1 (sheet_of edition1 one_block) ≡ 122
  pub due_2 : words_due edition2 (sheet_of edition2 two_blocks) ≡ 128
  pub prove_one_block : prove_in edition1 (take 12 one_block) (0 ∷ 0 ∷ []) one_block_coins (replicate 512 7) ≡ record { answer = done 1; output = file_of one_block }
  pub prove_two_blocks : prove_in edition2 (take 18 two_blocks) (0 ∷ 0 ∷ []) one_block_coins (replicate 1025 7) ≡ record { answer = done 2; output = file_of two_blocks ++ (7 ∷ []) }
  pub prove_two_short : prove_in edition2 (take 18 two_blocks) (0 ∷ 0 ∷ []) one_block_coins (replicate 1023 7) ≡ kept 11 2 (replicate 1023 7)
  pub two_blocks_case : verify_in edition2 (file_of two_blocks) ≡ accept 4
  pub forth_two_blocks : to_edition2 (file_of one_block) (replicate 1024 7) ≡ record { answer = done 2; output = file_of two_blocks }
  pub forth_two_short : to_edition2 (file_of one_block) (replicate 1023 7) ≡ kept 11 2 (replicate 1023 7)
  pub back_one_block : to_edition1 (file_of two_blocks) (replicate 513 7) ≡ record { answer = done 1; output = file_of one_block ++ (7 ∷ []) }

pub edition_cases : EditionCases
unfolding definitions
edition_cases = record {
  sheet_fine = refl;
  mixed_fine = refl;
  k1_8 = refl;
  k1_0 = refl;
  k1_1 = refl;
  k1_3 = refl;
  k2_past_M = refl;
  k5_past_M = refl;
  edition_0 = refl;
  M_2_needs_k2 = refl;
  M_5 = refl;
  M_6 = refl;
  t0_after_17 = refl;
  t0_3 = refl;
  t1_after_t0 = refl;
  large_first_case = refl;
  three_folds_case = refl;
  product_at_k2 = refl;
  product_at_k1 = refl;
  t1_with_s_is_d2 = refl;
  k3_past_M = refl;
  worked = refl;
  mixed_accepted = refl;
  mixed_stream = refl;
  mixed_wrong = refl;
  mixed_out = refl;
  two_outs_case = refl;
  equal_outs = refl;
  mixed_index = refl;
  prove_18 = refl;
  prove_equal_outs = refl;
  both_as_1 = refl;
  both_as_2 = refl;
  both_read_as_1 = refl;
  both_read_as_2 = refl;
  forth = refl;
  forth_equal_outs = refl;
  forth_short = refl;
  forth_empty = refl;
  back = refl;
  back_differ = refl;
  back_short = refl;
  back_check_wrong = refl;
  forth_five_rounds = refl;
  back_five_rounds = refl;
  back_last_differs = refl;
  due_1 = refl;
  due_2 = refl;
  prove_one_block = refl;
  prove_two_blocks = refl;
  prove_two_short = refl;
  two_blocks_case = refl;
  forth_two_blocks = refl;
  forth_two_short = refl;
  back_one_block = refl;
}
