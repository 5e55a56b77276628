-- The rules of the sheet (01, Fields and the sheet; the edges of A transcript by hand): test 3 by its places, by computation.
use Rattle.std.specs.Prelude.{◌≡◌, refl, [], ◌∷◌}
use Rattle.definition.specs.Sheet.{edition1}
use Rattle.definition.specs.Verdict.{accepted, refused}
use Rattle.definition.specs.Reading.{sheet_test}
use Rattle.definition.specs.WorkedTranscript.{sheet_words, definitions}

-- Each sheet that is refused breaks one rule alone, but for those at the end.
pub record SheetCases : Type 0 where
  -- the edges of 01: the smallest sheet; n0 = 32 in field 0; t_0 + s = d_1; t = 65; t = 49 and t = 48 (02, CR 1), for i = M and for i below M
  pub smallest : sheet_test edition1 (0 ∷ 4 ∷ 2 ∷ 2 ∷ 0 ∷ 1 ∷ 1 ∷ 0 ∷ 0 ∷ 0 ∷ 0 ∷ 0 ∷ []) ≡ accepted
  pub n0_32 : sheet_test edition1 (0 ∷ 32 ∷ 8 ∷ 2 ∷ 1 ∷ 1 ∷ 1 ∷ 1 ∷ 0 ∷ 0 ∷ 0 ∷ 0 ∷ []) ≡ refused 3 1
  pub t0_with_s_is_d1 : sheet_test edition1 (0 ∷ 16 ∷ 8 ∷ 2 ∷ 1 ∷ 1 ∷ 3 ∷ 1 ∷ 0 ∷ 0 ∷ 0 ∷ 0 ∷ []) ≡ refused 3 6
  pub t0_with_s_below_d1 : sheet_test edition1 (0 ∷ 16 ∷ 8 ∷ 2 ∷ 1 ∷ 1 ∷ 2 ∷ 1 ∷ 0 ∷ 0 ∷ 0 ∷ 0 ∷ []) ≡ accepted
  pub t1_65 : sheet_test edition1 (0 ∷ 16 ∷ 8 ∷ 2 ∷ 1 ∷ 1 ∷ 1 ∷ 65 ∷ 0 ∷ 0 ∷ 0 ∷ 0 ∷ []) ≡ refused 3 7
  pub t1_49 : sheet_test edition1 (0 ∷ 16 ∷ 8 ∷ 2 ∷ 1 ∷ 1 ∷ 1 ∷ 49 ∷ 0 ∷ 0 ∷ 0 ∷ 0 ∷ []) ≡ refused 3 7
  pub t1_48 : sheet_test edition1 (0 ∷ 16 ∷ 8 ∷ 2 ∷ 1 ∷ 1 ∷ 1 ∷ 48 ∷ 0 ∷ 0 ∷ 0 ∷ 0 ∷ []) ≡ accepted
  pub t0_49 : sheet_test edition1 (1 ∷ 4096 ∷ 1024 ∷ 2 ∷ 1 ∷ 1 ∷ 49 ∷ 1 ∷ 0 ∷ 0 ∷ 0 ∷ 0 ∷ []) ≡ refused 3 6
  pub t0_48 : sheet_test edition1 (1 ∷ 4096 ∷ 1024 ∷ 2 ∷ 1 ∷ 1 ∷ 48 ∷ 1 ∷ 0 ∷ 0 ∷ 0 ∷ 0 ∷ []) ≡ accepted
  -- the sheet of the transcript by hand, and sheets of the other fields with the largest words
  pub worked : sheet_test edition1 sheet_words ≡ accepted
  pub most_rounds : sheet_test edition1 (1 ∷ 4096 ∷ 2048 ∷ 2 ∷ 5 ∷ 2 ∷ 48 ∷ 48 ∷ 48 ∷ 48 ∷ 48 ∷ 48 ∷ []) ≡ accepted
  pub largest_fold : sheet_test edition1 (2 ∷ 4096 ∷ 2048 ∷ 16 ∷ 0 ∷ 1 ∷ 48 ∷ 0 ∷ 0 ∷ 0 ∷ 0 ∷ 0 ∷ []) ≡ accepted
  -- word 0: there is no field 4
  pub field_4 : sheet_test edition1 (4 ∷ 16 ∷ 8 ∷ 2 ∷ 1 ∷ 1 ∷ 1 ∷ 1 ∷ 0 ∷ 0 ∷ 0 ∷ 0 ∷ []) ≡ refused 3 0
  pub field_largest : sheet_test edition1 (4294967295 ∷ 16 ∷ 8 ∷ 2 ∷ 1 ∷ 1 ∷ 1 ∷ 1 ∷ 0 ∷ 0 ∷ 0 ∷ 0 ∷ []) ≡ refused 3 0
  -- word 1: 0 and 2 are too small, 12 divides p - 1 and is no power of two, 8192 is too large
  pub n0_0 : sheet_test edition1 (0 ∷ 0 ∷ 8 ∷ 2 ∷ 1 ∷ 1 ∷ 1 ∷ 1 ∷ 0 ∷ 0 ∷ 0 ∷ 0 ∷ []) ≡ refused 3 1
  pub n0_2 : sheet_test edition1 (0 ∷ 2 ∷ 2 ∷ 2 ∷ 0 ∷ 1 ∷ 1 ∷ 0 ∷ 0 ∷ 0 ∷ 0 ∷ 0 ∷ []) ≡ refused 3 1
  pub n0_12 : sheet_test edition1 (2 ∷ 12 ∷ 4 ∷ 2 ∷ 0 ∷ 1 ∷ 1 ∷ 0 ∷ 0 ∷ 0 ∷ 0 ∷ 0 ∷ []) ≡ refused 3 1
  pub n0_8192 : sheet_test edition1 (1 ∷ 8192 ∷ 8 ∷ 2 ∷ 1 ∷ 1 ∷ 1 ∷ 1 ∷ 0 ∷ 0 ∷ 0 ∷ 0 ∷ []) ≡ refused 3 1
  -- word 2: d0 is 1, no power of two, or above n0/2
  pub d0_1 : sheet_test edition1 (0 ∷ 16 ∷ 1 ∷ 2 ∷ 0 ∷ 1 ∷ 1 ∷ 0 ∷ 0 ∷ 0 ∷ 0 ∷ 0 ∷ []) ≡ refused 3 2
  pub d0_6 : sheet_test edition1 (0 ∷ 16 ∷ 6 ∷ 2 ∷ 0 ∷ 1 ∷ 1 ∷ 0 ∷ 0 ∷ 0 ∷ 0 ∷ 0 ∷ []) ≡ refused 3 2
  pub d0_n0 : sheet_test edition1 (0 ∷ 16 ∷ 16 ∷ 2 ∷ 1 ∷ 1 ∷ 1 ∷ 1 ∷ 0 ∷ 0 ∷ 0 ∷ 0 ∷ []) ≡ refused 3 2
  -- word 3: k is 1, no power of two, above 16, or above d0
  pub k_1 : sheet_test edition1 (0 ∷ 16 ∷ 8 ∷ 1 ∷ 1 ∷ 1 ∷ 1 ∷ 1 ∷ 0 ∷ 0 ∷ 0 ∷ 0 ∷ []) ≡ refused 3 3
  pub k_3 : sheet_test edition1 (0 ∷ 16 ∷ 8 ∷ 3 ∷ 0 ∷ 1 ∷ 1 ∷ 0 ∷ 0 ∷ 0 ∷ 0 ∷ 0 ∷ []) ≡ refused 3 3
  pub k_32 : sheet_test edition1 (1 ∷ 64 ∷ 32 ∷ 32 ∷ 0 ∷ 1 ∷ 1 ∷ 0 ∷ 0 ∷ 0 ∷ 0 ∷ 0 ∷ []) ≡ refused 3 3
  pub k_16 : sheet_test edition1 (1 ∷ 64 ∷ 32 ∷ 16 ∷ 0 ∷ 1 ∷ 1 ∷ 0 ∷ 0 ∷ 0 ∷ 0 ∷ 0 ∷ []) ≡ accepted
  pub k_above_d0 : sheet_test edition1 (0 ∷ 16 ∷ 8 ∷ 16 ∷ 0 ∷ 1 ∷ 1 ∷ 0 ∷ 0 ∷ 0 ∷ 0 ∷ 0 ∷ []) ≡ refused 3 3
  -- word 4: M is 6, though k^7 = 128 is at most d0; M is the largest word; k^(M+1) = 16 is above d0 = 8, though k^M is not
  pub M_6 : sheet_test edition1 (1 ∷ 4096 ∷ 2048 ∷ 2 ∷ 6 ∷ 1 ∷ 1 ∷ 1 ∷ 1 ∷ 1 ∷ 1 ∷ 1 ∷ []) ≡ refused 3 4
  pub M_largest : sheet_test edition1 (0 ∷ 16 ∷ 8 ∷ 2 ∷ 4294967295 ∷ 1 ∷ 1 ∷ 1 ∷ 0 ∷ 0 ∷ 0 ∷ 0 ∷ []) ≡ refused 3 4
  pub k_to_M_plus_1_above_d0 : sheet_test edition1 (0 ∷ 16 ∷ 8 ∷ 2 ∷ 3 ∷ 1 ∷ 1 ∷ 1 ∷ 1 ∷ 1 ∷ 0 ∷ 0 ∷ []) ≡ refused 3 4
  -- word 5: s is 0 or 3
  pub s_0 : sheet_test edition1 (0 ∷ 16 ∷ 8 ∷ 2 ∷ 1 ∷ 0 ∷ 1 ∷ 1 ∷ 0 ∷ 0 ∷ 0 ∷ 0 ∷ []) ≡ refused 3 5
  pub s_2 : sheet_test edition1 (0 ∷ 16 ∷ 8 ∷ 2 ∷ 1 ∷ 2 ∷ 1 ∷ 1 ∷ 0 ∷ 0 ∷ 0 ∷ 0 ∷ []) ≡ accepted
  pub s_3 : sheet_test edition1 (0 ∷ 4 ∷ 2 ∷ 2 ∷ 0 ∷ 3 ∷ 1 ∷ 0 ∷ 0 ∷ 0 ∷ 0 ∷ 0 ∷ []) ≡ refused 3 5
  -- words 6 to 11: t_i is 0 up to M, t_i + s reaches d_(i+1) below M
  pub t0_0_at_M : sheet_test edition1 (0 ∷ 4 ∷ 2 ∷ 2 ∷ 0 ∷ 1 ∷ 0 ∷ 0 ∷ 0 ∷ 0 ∷ 0 ∷ 0 ∷ []) ≡ refused 3 6
  pub t0_0_below_M : sheet_test edition1 (0 ∷ 16 ∷ 8 ∷ 2 ∷ 1 ∷ 1 ∷ 0 ∷ 1 ∷ 0 ∷ 0 ∷ 0 ∷ 0 ∷ []) ≡ refused 3 6
  pub t1_0 : sheet_test edition1 (0 ∷ 16 ∷ 8 ∷ 2 ∷ 1 ∷ 1 ∷ 1 ∷ 0 ∷ 0 ∷ 0 ∷ 0 ∷ 0 ∷ []) ≡ refused 3 7
  pub t0_with_two_outs : sheet_test edition1 (0 ∷ 16 ∷ 8 ∷ 2 ∷ 1 ∷ 2 ∷ 2 ∷ 1 ∷ 0 ∷ 0 ∷ 0 ∷ 0 ∷ []) ≡ refused 3 6
  pub t1_with_s_is_d2 : sheet_test edition1 (1 ∷ 32 ∷ 16 ∷ 2 ∷ 2 ∷ 1 ∷ 6 ∷ 3 ∷ 1 ∷ 0 ∷ 0 ∷ 0 ∷ []) ≡ refused 3 7
  pub t1_with_s_below_d2 : sheet_test edition1 (1 ∷ 32 ∷ 16 ∷ 2 ∷ 2 ∷ 1 ∷ 6 ∷ 2 ∷ 1 ∷ 0 ∷ 0 ∷ 0 ∷ []) ≡ accepted
  pub t0_at_M_unbounded_by_d : sheet_test edition1 (0 ∷ 4 ∷ 2 ∷ 2 ∷ 0 ∷ 1 ∷ 48 ∷ 0 ∷ 0 ∷ 0 ∷ 0 ∷ 0 ∷ []) ≡ accepted
  -- d_2 = 2 lets no t_1 be: refused at t_1, whatever it holds
  pub no_t1_fits : sheet_test edition1 (0 ∷ 16 ∷ 8 ∷ 2 ∷ 2 ∷ 1 ∷ 1 ∷ 1 ∷ 1 ∷ 0 ∷ 0 ∷ 0 ∷ []) ≡ refused 3 7
  pub no_t1_fits_0 : sheet_test edition1 (0 ∷ 16 ∷ 8 ∷ 2 ∷ 2 ∷ 1 ∷ 1 ∷ 0 ∷ 1 ∷ 0 ∷ 0 ∷ 0 ∷ []) ≡ refused 3 7
  -- past t_M zero, at each of its words
  pub word_7 : sheet_test edition1 (0 ∷ 4 ∷ 2 ∷ 2 ∷ 0 ∷ 1 ∷ 1 ∷ 1 ∷ 0 ∷ 0 ∷ 0 ∷ 0 ∷ []) ≡ refused 3 7
  pub word_8 : sheet_test edition1 (0 ∷ 16 ∷ 8 ∷ 2 ∷ 1 ∷ 1 ∷ 1 ∷ 1 ∷ 1 ∷ 0 ∷ 0 ∷ 0 ∷ []) ≡ refused 3 8
  pub word_9 : sheet_test edition1 (0 ∷ 16 ∷ 8 ∷ 2 ∷ 1 ∷ 1 ∷ 1 ∷ 1 ∷ 0 ∷ 1 ∷ 0 ∷ 0 ∷ []) ≡ refused 3 9
  pub word_10 : sheet_test edition1 (0 ∷ 16 ∷ 8 ∷ 2 ∷ 1 ∷ 1 ∷ 1 ∷ 1 ∷ 0 ∷ 0 ∷ 1 ∷ 0 ∷ []) ≡ refused 3 10
  pub word_11 : sheet_test edition1 (0 ∷ 16 ∷ 8 ∷ 2 ∷ 1 ∷ 1 ∷ 1 ∷ 1 ∷ 0 ∷ 0 ∷ 0 ∷ 1 ∷ []) ≡ refused 3 11
  pub t4_0_of_five : sheet_test edition1 (1 ∷ 4096 ∷ 2048 ∷ 2 ∷ 5 ∷ 1 ∷ 1 ∷ 1 ∷ 1 ∷ 1 ∷ 0 ∷ 1 ∷ []) ≡ refused 3 10
  pub t5_0_of_five : sheet_test edition1 (1 ∷ 4096 ∷ 2048 ∷ 2 ∷ 5 ∷ 1 ∷ 1 ∷ 1 ∷ 1 ∷ 1 ∷ 1 ∷ 0 ∷ []) ≡ refused 3 11
  -- of two faulty words the first counts
  pub words_0_and_11 : sheet_test edition1 (4 ∷ 16 ∷ 8 ∷ 2 ∷ 1 ∷ 1 ∷ 1 ∷ 1 ∷ 0 ∷ 0 ∷ 0 ∷ 1 ∷ []) ≡ refused 3 0
  pub words_1_and_2 : sheet_test edition1 (0 ∷ 32 ∷ 1 ∷ 2 ∷ 1 ∷ 1 ∷ 1 ∷ 1 ∷ 0 ∷ 0 ∷ 0 ∷ 0 ∷ []) ≡ refused 3 1
  pub words_2_and_5 : sheet_test edition1 (0 ∷ 16 ∷ 16 ∷ 2 ∷ 1 ∷ 3 ∷ 1 ∷ 1 ∷ 0 ∷ 0 ∷ 0 ∷ 0 ∷ []) ≡ refused 3 2
  pub words_3_and_4 : sheet_test edition1 (0 ∷ 16 ∷ 8 ∷ 1 ∷ 6 ∷ 1 ∷ 1 ∷ 1 ∷ 0 ∷ 0 ∷ 0 ∷ 0 ∷ []) ≡ refused 3 3
  pub words_4_and_6 : sheet_test edition1 (0 ∷ 16 ∷ 8 ∷ 2 ∷ 3 ∷ 1 ∷ 0 ∷ 1 ∷ 0 ∷ 0 ∷ 0 ∷ 0 ∷ []) ≡ refused 3 4
  pub words_6_and_7 : sheet_test edition1 (0 ∷ 16 ∷ 8 ∷ 2 ∷ 1 ∷ 1 ∷ 3 ∷ 49 ∷ 0 ∷ 0 ∷ 0 ∷ 0 ∷ []) ≡ refused 3 6

pub sheet_cases : SheetCases
unfolding definitions
sheet_cases = record {
  smallest = refl;
  n0_32 = refl;
  t0_with_s_is_d1 = refl;
  t0_with_s_below_d1 = refl;
  t1_65 = refl;
  t1_49 = refl;
  t1_48 = refl;
  t0_49 = refl;
  t0_48 = refl;
  worked = refl;
  most_rounds = refl;
  largest_fold = refl;
  field_4 = refl;
  field_largest = refl;
  n0_0 = refl;
  n0_2 = refl;
  n0_12 = refl;
  n0_8192 = refl;
  d0_1 = refl;
  d0_6 = refl;
  d0_n0 = refl;
  k_1 = refl;
  k_3 = refl;
  k_32 = refl;
  k_16 = refl;
  k_above_d0 = refl;
  M_6 = refl;
  M_largest = refl;
  k_to_M_plus_1_above_d0 = refl;
  s_0 = refl;
  s_2 = refl;
  s_3 = refl;
  t0_0_at_M = refl;
  t0_0_below_M = refl;
  t1_0 = refl;
  t0_with_two_outs = refl;
  t1_with_s_is_d2 = refl;
  t1_with_s_below_d2 = refl;
  t0_at_M_unbounded_by_d = refl;
  no_t1_fits = refl;
  no_t1_fits_0 = refl;
  word_7 = refl;
  word_8 = refl;
  word_9 = refl;
  word_10 = refl;
  word_11 = refl;
  t4_0_of_five = refl;
  t5_0_of_five = refl;
  words_0_and_11 = refl;
  words_1_and_2 = refl;
  words_2_and_5 = refl;
  words_3_and_4 = refl;
  words_4_and_6 = refl;
  words_6_and_7 = refl;
}
