-- For the cases: the transcript of 01, A transcript by hand, as words and as bytes, and one name that unfolds all definitions.
use Rattle.std.specs.Prelude.{ℕ, take, set, replicate}
use mathlib.Core.List.{List, [], ◌∷◌, ◌++◌, zip_with, flat_map}
use Rattle.definition.specs.Lists.{member, range, chunks, first_true, first_of, product_of, different}
use Rattle.definition.specs.Field.{Field, digits_within, binary_digits, squaring, power_mod, prime_field, found_or, where_found, power, reciprocal, embed, quartic_product, norm_first, norm_second, norm, inverse_by, quartic, field_in, number_in, word_count, quads, elements_in, words_of, begun_by, spelling_of, answer_found, known_field, prime_of, generator_of, field_of, in_field, sum, difference, product, power_of, power_turns_of, inverse_of, reduced, sum3, difference3, product3, power3, power_turns3, inverse3}
use Rattle.definition.specs.Polynomial.{points, pair, evaluate, scale, add_poly, sub_poly, mul_poly, vanishing, interpolate, horner, divide, quotient, geometric, fold_poly, sampled_at, distinct, contradicts, clash, corrected_value, corrected_poly}
use Rattle.definition.specs.Sheet.{Level, fold_places, fold_words, sheet_of, between, power_of_two, field_rule, largest_size, size_rule, degree_rule, folding_number, fold_rule, rounds_rule, out_coins_rule, repetitions_rule, later_fold_rule, edition_rule, later_rules, sheet_rules, test_order, levels_from, first_level, later_levels, shift_count, final_count, root_of_unity}
use Rattle.definition.specs.Domain.{root_numbers, point, domain, in_domain, shift_point, fold_at}
use Rattle.definition.specs.Transcript.{round_words, rest_words, transcript_words}
use Rattle.definition.specs.Layout.{out_layout, round_layout, rest_layout, layout, words_due, coin_kinds, limit, round_coins, later_count, read_rest, read_transcript, read_rounds, read_finals, read_coins}
use Rattle.definition.specs.Block.{low_bytes, bytes_of, word_of, weighted_sum, check_word, block_count, blocks_of, blocks_with_checks, file_of, file_blocks, stream_of, wrong_checks}
use Rattle.definition.specs.Verdict.{Verdict, accepted, refused, refuse_at, refuse_if, ◌then◌, then_verdict}
use Rattle.definition.specs.Reading.{length_test, check_test, sheet_test, blocks_test, out_of_range, range_test, fill_test, body_tests, stream_tests, reading}
use Rattle.definition.specs.Deciding.{out_in_domain, out_test, same_as, out_before, out_repeated, repeated_outs, equal_test, out_tests, own_place, coin_places, places_of, same_place, reads_of, counted, treated, answers, table_function, next_function, differences, decide_final, decide_rest, decide, deciding}
use Rattle.definition.specs.Verify.{verify_in, decide_file}
use Rattle.definition.specs.Prover.{table_of, samples_of, honest_round, honest_answers, next_poly, honest_rest, honest, table_words, honest_stream}
use Rattle.definition.specs.Prove.{Result, refusal, finish, sheet_length_test, coefficients_test, coins_test, input_range_test, coin_domain_test, coin_equal_test, output_test, prove_tests, prove_in, encode_tests, encode}
use Rattle.definition.specs.Convert.{spread, body_of, forward, backward, folds_test, convert, to_edition1, to_edition2}

-- the sheet, the coefficients and the coins: fold 2, out 0, combination 3, fold 4, shift 0, final 1
abbrev pub sheet_words : List ℕ
sheet_words = 0 ∷ 16 ∷ 8 ∷ 2 ∷ 1 ∷ 1 ∷ 1 ∷ 1 ∷ 0 ∷ 0 ∷ 0 ∷ 0 ∷ []

abbrev pub coefficients : List ℕ
coefficients = 1 ∷ 2 ∷ 3 ∷ 4 ∷ 5 ∷ 0 ∷ 0 ∷ 0 ∷ []

abbrev pub coins : List ℕ
coins = 2 ∷ 0 ∷ 3 ∷ 4 ∷ 0 ∷ 1 ∷ []

-- The stream, 45 words. In the places' numbers: sheet 0 to 11; table 0 12 to 27; fold coin 28; table 1 29 to 36; out coin 37, reply 38,
-- combination coin 39, fold coin 40, shift index 41; final coefficients 42 and 43; final index 44.
abbrev pub stream : List ℕ
stream =
    0 ∷ 16 ∷ 8 ∷ 2 ∷ 1 ∷ 1 ∷ 1 ∷ 1 ∷ 0 ∷ 0 ∷ 0 ∷ 0
    ∷ 3 ∷ 11 ∷ 6 ∷ 11 ∷ 5 ∷ 6 ∷ 1 ∷ 3 ∷ 13 ∷ 8 ∷ 7 ∷ 12 ∷ 5 ∷ 10 ∷ 2 ∷ 15
    ∷ 2
    ∷ 15 ∷ 3 ∷ 15 ∷ 0 ∷ 0 ∷ 4 ∷ 7 ∷ 13
    ∷ 0
    ∷ 5
    ∷ 3 ∷ 4 ∷ 0
    ∷ 14 ∷ 11
    ∷ 1 ∷ []

-- the same with t_1 = 2 and the final indices 1 1 (02, CR 8): 46 words
abbrev pub final_twice : List ℕ
final_twice = set stream 7 2 ++ (1 ∷ [])

-- the file, 512 bytes, four words in each line
abbrev pub file : List ℕ
file =
    0 ∷ 0 ∷ 0 ∷ 0 ∷ 16 ∷ 0 ∷ 0 ∷ 0 ∷ 8 ∷ 0 ∷ 0 ∷ 0 ∷ 2 ∷ 0 ∷ 0 ∷ 0
    ∷ 1 ∷ 0 ∷ 0 ∷ 0 ∷ 1 ∷ 0 ∷ 0 ∷ 0 ∷ 1 ∷ 0 ∷ 0 ∷ 0 ∷ 1 ∷ 0 ∷ 0 ∷ 0
    ∷ 0 ∷ 0 ∷ 0 ∷ 0 ∷ 0 ∷ 0 ∷ 0 ∷ 0 ∷ 0 ∷ 0 ∷ 0 ∷ 0 ∷ 0 ∷ 0 ∷ 0 ∷ 0
    ∷ 3 ∷ 0 ∷ 0 ∷ 0 ∷ 11 ∷ 0 ∷ 0 ∷ 0 ∷ 6 ∷ 0 ∷ 0 ∷ 0 ∷ 11 ∷ 0 ∷ 0 ∷ 0
    ∷ 5 ∷ 0 ∷ 0 ∷ 0 ∷ 6 ∷ 0 ∷ 0 ∷ 0 ∷ 1 ∷ 0 ∷ 0 ∷ 0 ∷ 3 ∷ 0 ∷ 0 ∷ 0
    ∷ 13 ∷ 0 ∷ 0 ∷ 0 ∷ 8 ∷ 0 ∷ 0 ∷ 0 ∷ 7 ∷ 0 ∷ 0 ∷ 0 ∷ 12 ∷ 0 ∷ 0 ∷ 0
    ∷ 5 ∷ 0 ∷ 0 ∷ 0 ∷ 10 ∷ 0 ∷ 0 ∷ 0 ∷ 2 ∷ 0 ∷ 0 ∷ 0 ∷ 15 ∷ 0 ∷ 0 ∷ 0
    ∷ 2 ∷ 0 ∷ 0 ∷ 0 ∷ 15 ∷ 0 ∷ 0 ∷ 0 ∷ 3 ∷ 0 ∷ 0 ∷ 0 ∷ 15 ∷ 0 ∷ 0 ∷ 0
    ∷ 0 ∷ 0 ∷ 0 ∷ 0 ∷ 0 ∷ 0 ∷ 0 ∷ 0 ∷ 4 ∷ 0 ∷ 0 ∷ 0 ∷ 7 ∷ 0 ∷ 0 ∷ 0
    ∷ 13 ∷ 0 ∷ 0 ∷ 0 ∷ 0 ∷ 0 ∷ 0 ∷ 0 ∷ 5 ∷ 0 ∷ 0 ∷ 0 ∷ 3 ∷ 0 ∷ 0 ∷ 0
    ∷ 4 ∷ 0 ∷ 0 ∷ 0 ∷ 0 ∷ 0 ∷ 0 ∷ 0 ∷ 14 ∷ 0 ∷ 0 ∷ 0 ∷ 11 ∷ 0 ∷ 0 ∷ 0
    ∷ 1 ∷ 0 ∷ 0 ∷ 0 ∷ 0 ∷ 0 ∷ 0 ∷ 0 ∷ 0 ∷ 0 ∷ 0 ∷ 0 ∷ 0 ∷ 0 ∷ 0 ∷ 0
    ∷ 0 ∷ 0 ∷ 0 ∷ 0 ∷ 0 ∷ 0 ∷ 0 ∷ 0 ∷ 0 ∷ 0 ∷ 0 ∷ 0 ∷ 0 ∷ 0 ∷ 0 ∷ 0
    ∷ 0 ∷ 0 ∷ 0 ∷ 0 ∷ 0 ∷ 0 ∷ 0 ∷ 0 ∷ 0 ∷ 0 ∷ 0 ∷ 0 ∷ 0 ∷ 0 ∷ 0 ∷ 0
    ∷ 0 ∷ 0 ∷ 0 ∷ 0 ∷ 0 ∷ 0 ∷ 0 ∷ 0 ∷ 0 ∷ 0 ∷ 0 ∷ 0 ∷ 0 ∷ 0 ∷ 0 ∷ 0
    ∷ 0 ∷ 0 ∷ 0 ∷ 0 ∷ 0 ∷ 0 ∷ 0 ∷ 0 ∷ 0 ∷ 0 ∷ 0 ∷ 0 ∷ 0 ∷ 0 ∷ 0 ∷ 0
    ∷ 0 ∷ 0 ∷ 0 ∷ 0 ∷ 0 ∷ 0 ∷ 0 ∷ 0 ∷ 0 ∷ 0 ∷ 0 ∷ 0 ∷ 0 ∷ 0 ∷ 0 ∷ 0
    ∷ 0 ∷ 0 ∷ 0 ∷ 0 ∷ 0 ∷ 0 ∷ 0 ∷ 0 ∷ 0 ∷ 0 ∷ 0 ∷ 0 ∷ 0 ∷ 0 ∷ 0 ∷ 0
    ∷ 0 ∷ 0 ∷ 0 ∷ 0 ∷ 0 ∷ 0 ∷ 0 ∷ 0 ∷ 0 ∷ 0 ∷ 0 ∷ 0 ∷ 0 ∷ 0 ∷ 0 ∷ 0
    ∷ 0 ∷ 0 ∷ 0 ∷ 0 ∷ 0 ∷ 0 ∷ 0 ∷ 0 ∷ 0 ∷ 0 ∷ 0 ∷ 0 ∷ 0 ∷ 0 ∷ 0 ∷ 0
    ∷ 0 ∷ 0 ∷ 0 ∷ 0 ∷ 0 ∷ 0 ∷ 0 ∷ 0 ∷ 0 ∷ 0 ∷ 0 ∷ 0 ∷ 0 ∷ 0 ∷ 0 ∷ 0
    ∷ 0 ∷ 0 ∷ 0 ∷ 0 ∷ 0 ∷ 0 ∷ 0 ∷ 0 ∷ 0 ∷ 0 ∷ 0 ∷ 0 ∷ 0 ∷ 0 ∷ 0 ∷ 0
    ∷ 0 ∷ 0 ∷ 0 ∷ 0 ∷ 0 ∷ 0 ∷ 0 ∷ 0 ∷ 0 ∷ 0 ∷ 0 ∷ 0 ∷ 0 ∷ 0 ∷ 0 ∷ 0
    ∷ 0 ∷ 0 ∷ 0 ∷ 0 ∷ 0 ∷ 0 ∷ 0 ∷ 0 ∷ 0 ∷ 0 ∷ 0 ∷ 0 ∷ 0 ∷ 0 ∷ 0 ∷ 0
    ∷ 0 ∷ 0 ∷ 0 ∷ 0 ∷ 0 ∷ 0 ∷ 0 ∷ 0 ∷ 0 ∷ 0 ∷ 0 ∷ 0 ∷ 0 ∷ 0 ∷ 0 ∷ 0
    ∷ 0 ∷ 0 ∷ 0 ∷ 0 ∷ 0 ∷ 0 ∷ 0 ∷ 0 ∷ 0 ∷ 0 ∷ 0 ∷ 0 ∷ 0 ∷ 0 ∷ 0 ∷ 0
    ∷ 0 ∷ 0 ∷ 0 ∷ 0 ∷ 0 ∷ 0 ∷ 0 ∷ 0 ∷ 0 ∷ 0 ∷ 0 ∷ 0 ∷ 0 ∷ 0 ∷ 0 ∷ 0
    ∷ 0 ∷ 0 ∷ 0 ∷ 0 ∷ 0 ∷ 0 ∷ 0 ∷ 0 ∷ 0 ∷ 0 ∷ 0 ∷ 0 ∷ 0 ∷ 0 ∷ 0 ∷ 0
    ∷ 0 ∷ 0 ∷ 0 ∷ 0 ∷ 0 ∷ 0 ∷ 0 ∷ 0 ∷ 0 ∷ 0 ∷ 0 ∷ 0 ∷ 0 ∷ 0 ∷ 0 ∷ 0
    ∷ 0 ∷ 0 ∷ 0 ∷ 0 ∷ 0 ∷ 0 ∷ 0 ∷ 0 ∷ 0 ∷ 0 ∷ 0 ∷ 0 ∷ 0 ∷ 0 ∷ 0 ∷ 0
    ∷ 0 ∷ 0 ∷ 0 ∷ 0 ∷ 0 ∷ 0 ∷ 0 ∷ 0 ∷ 0 ∷ 0 ∷ 0 ∷ 0 ∷ 0 ∷ 0 ∷ 0 ∷ 0
    ∷ 0 ∷ 0 ∷ 0 ∷ 0 ∷ 0 ∷ 0 ∷ 0 ∷ 0 ∷ 0 ∷ 0 ∷ 0 ∷ 0 ∷ 255 ∷ 23 ∷ 0 ∷ 0 ∷ []

-- Another first polynomial, for the other transcripts of the cases.
abbrev pub one_to_eight : List ℕ
one_to_eight = 1 ∷ 2 ∷ 3 ∷ 4 ∷ 5 ∷ 6 ∷ 7 ∷ 8 ∷ []

-- Coefficients 1 to 8, fold coin 2: table 0, the fold coin and table 1, which are the words 12 to 36.
abbrev pub tables : List ℕ
tables =
    5 ∷ 1 ∷ 9 ∷ 12 ∷ 13 ∷ 3 ∷ 5 ∷ 13 ∷ 0 ∷ 6 ∷ 11 ∷ 14 ∷ 8 ∷ 8 ∷ 8 ∷ 2
    ∷ 2
    ∷ 13 ∷ 12 ∷ 11 ∷ 3 ∷ 14 ∷ 15 ∷ 16 ∷ 7 ∷ []

-- With t_0 = 2 and t_1 = 2: out coin 37, reply 38, combination and fold coin 39 40, shift indices 41 42, final coefficients 43 44, final
-- indices 45 46. The two shift points are 9 and 4.
abbrev pub doubled : List ℕ
doubled = 0 ∷ 16 ∷ 8 ∷ 2 ∷ 1 ∷ 1 ∷ 2 ∷ 2 ∷ 0 ∷ 0 ∷ 0 ∷ 0 ∷ (tables ++ (0 ∷ 5 ∷ 2 ∷ 4 ∷ 0 ∷ 5 ∷ 3 ∷ 12 ∷ 1 ∷ 2 ∷ []))

-- With s = 2 and t_1 = 2: out coins 37 38, replies 39 40, combination and fold coin 41 42, shift index 43, final coefficients 44 45, final
-- indices 46 47. The shift point is 4.
abbrev pub two_outs : List ℕ
two_outs = 0 ∷ 16 ∷ 8 ∷ 2 ∷ 1 ∷ 2 ∷ 1 ∷ 2 ∷ 0 ∷ 0 ∷ 0 ∷ 0 ∷ (tables ++ (0 ∷ 2 ∷ 5 ∷ 7 ∷ 2 ∷ 4 ∷ 5 ∷ 3 ∷ 12 ∷ 1 ∷ 2 ∷ []))

-- The smallest sheet, M = 0: table 0, fold coin 16, final coefficient 17, final index 18.
abbrev pub smallest : List ℕ
smallest = 0 ∷ 4 ∷ 2 ∷ 2 ∷ 0 ∷ 1 ∷ 1 ∷ 0 ∷ 0 ∷ 0 ∷ 0 ∷ 0 ∷ 12 ∷ 16 ∷ 0 ∷ 13 ∷ 5 ∷ 7 ∷ 1 ∷ []

-- M = 0 and k = 4: table 0, fold coin 28, final coefficients 29 30, final indices 31 32.
abbrev pub folded4 : List ℕ
folded4 = 0 ∷ 16 ∷ 8 ∷ 4 ∷ 0 ∷ 1 ∷ 2 ∷ 0 ∷ 0 ∷ 0 ∷ 0 ∷ 0 ∷ (take 16 tables ++ (5 ∷ 8 ∷ 3 ∷ 1 ∷ 3 ∷ []))

-- M = 0 and four final coins: table 0, fold coin 28, final coefficients 29 to 32, final indices 33 to 36.
abbrev pub four_finals : List ℕ
four_finals = 0 ∷ 16 ∷ 8 ∷ 2 ∷ 0 ∷ 1 ∷ 4 ∷ 0 ∷ 0 ∷ 0 ∷ 0 ∷ 0 ∷ (take 16 tables ++ (5 ∷ 11 ∷ 6 ∷ 1 ∷ 13 ∷ 0 ∷ 1 ∷ 2 ∷ 3 ∷ []))

-- the same with a final polynomial that differs at final index 3 alone
abbrev pub fourth_wrong : List ℕ
fourth_wrong = set (set (set (set four_finals 29 7) 30 11) 31 15) 32 14

-- M = 2 in field 1, with t_0 = 2 and s = 2: 87 words, after the sheet all 0 but the second shift index of round 1 and the out coins 64 0 of
-- round 1 and 0 64 of round 2; 64 is the shift point of index 0 in both.
abbrev pub two_rounds : List ℕ
two_rounds =
    1 ∷ 32 ∷ 16 ∷ 2 ∷ 2 ∷ 2 ∷ 2 ∷ 1 ∷ 1 ∷ 0 ∷ 0 ∷ 0
    ∷ (replicate 49 0 ++ (64 ∷ replicate 6 0 ++ (1 ∷ replicate 9 0 ++ (64 ∷ replicate 8 0))))

-- the field of 17 elements, and the two levels of the sheet; ω is 3
abbrev pub F₁₇ : Field ℕ
F₁₇ = prime_field 17

abbrev pub level0 : Level
level0 = record { number = 0; size = 16; degree = 8; fold = 2; repetitions = 1 }

abbrev pub level1 : Level
level1 = record { number = 1; size = 8; degree = 4; fold = 2; repetitions = 1 }

-- the verdicts as `check` prints them: accepted 0 0 reads, and refused number place reads
abbrev pub accept : ℕ → Verdict
accept reads = record { outcome = accepted; reads = reads }

abbrev pub refuse : ℕ → ℕ → ℕ → Verdict
refuse number place reads = record { outcome = refused number place; reads = reads }

-- refused by prove or encode: the output is kept as before
abbrev pub kept : ℕ → ℕ → List ℕ → Result
kept number place output = record { answer = refusal number place; output = output }

-- all definitions, unfolded by this one name
unfoldable pub definitions : Unit {0}
unfolding
    member range chunks first_true first_of product_of different digits_within binary_digits squaring power_mod prime_field found_or where_found power reciprocal embed quartic_product norm_first norm_second norm inverse_by quartic field_in number_in word_count quads elements_in words_of begun_by spelling_of answer_found known_field prime_of generator_of field_of in_field sum difference product power_of power_turns_of inverse_of reduced sum3 difference3 product3 power3 power_turns3 inverse3
    points pair evaluate scale add_poly sub_poly mul_poly vanishing interpolate horner divide quotient geometric fold_poly sampled_at distinct
    contradicts clash corrected_value corrected_poly fold_places fold_words sheet_of between power_of_two field_rule largest_size size_rule degree_rule folding_number fold_rule rounds_rule
    out_coins_rule repetitions_rule later_fold_rule edition_rule later_rules sheet_rules test_order levels_from first_level later_levels shift_count final_count root_of_unity root_numbers point domain
    in_domain shift_point fold_at round_words rest_words transcript_words out_layout round_layout rest_layout layout words_due coin_kinds limit
    round_coins later_count read_rest read_transcript read_rounds read_finals read_coins low_bytes bytes_of word_of weighted_sum check_word block_count
    blocks_of blocks_with_checks file_of file_blocks stream_of wrong_checks refuse_at refuse_if ◌then◌ then_verdict length_test check_test sheet_test blocks_test
    out_of_range range_test fill_test body_tests stream_tests reading out_in_domain out_test same_as out_before out_repeated repeated_outs equal_test out_tests own_place coin_places places_of same_place reads_of counted treated answers table_function
    next_function differences decide_final decide_rest decide deciding verify_in decide_file table_of samples_of honest_round honest_answers next_poly honest_rest
    honest table_words honest_stream finish sheet_length_test coefficients_test coins_test input_range_test coin_domain_test coin_equal_test output_test prove_tests prove_in
    encode_tests encode spread body_of forward backward folds_test convert to_edition1 to_edition2 zip_with flat_map
definitions = tt
