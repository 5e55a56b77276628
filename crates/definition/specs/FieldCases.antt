-- The public field operations, ω, levels and domains (01, Fields and the sheet; Domains), by computation.
use Rattle.std.specs.Prelude.{◌≡◌, refl, [], ◌∷◌}
use Rattle.definition.specs.Field.{Quad, element, no_field, powered, in_no_field, found, no_inverse, unknown_field, digits_within, binary_digits, power, prime_of, generator_of, known_field, field_of, in_field, sum, difference, product, power_of, power_turns_of, inverse_of, field3, reduced, power3, power_turns3}
use Rattle.definition.specs.Sheet.{edition1, sheet_of, first_level, later_levels, root_of_unity}
use Rattle.definition.specs.Domain.{root_numbers, domain, shift_point}
use Rattle.definition.specs.Layout.{words_due}
use Rattle.definition.specs.WorkedTranscript.{F₁₇, level0, level1, sheet_words, definitions}

pub record FieldCases : Type 0 where
  -- the three primes and their generators
  pub prime_0 : prime_of 0 ≡ 17
  pub prime_1 : prime_of 1 ≡ 65537
  pub prime_2 : prime_of 2 ≡ 2013265921
  pub generator_0 : generator_of 0 ≡ 3
  pub generator_1 : generator_of 1 ≡ 3
  pub generator_2 : generator_of 2 ≡ 31
  -- field 0, with words at and above p = 17
  pub sum_0 : sum 0 16 1 ≡ element 0
  pub sum_0_reduced : sum 0 20 37 ≡ element 6
  pub sum_0_largest : sum 0 4294967295 4294967294 ≡ element 16
  pub difference_0 : difference 0 5 3 ≡ element 2
  pub difference_0_wraps : difference 0 3 5 ≡ element 15
  pub difference_0_reduced : difference 0 3 22 ≡ element 15
  pub difference_0_p : difference 0 0 17 ≡ element 0
  pub difference_0_largest : difference 0 0 4294967294 ≡ element 1
  pub product_0 : product 0 5 7 ≡ element 1
  pub product_0_reduced : product 0 20 21 ≡ element 12
  pub product_0_p : product 0 17 5 ≡ element 0
  -- powers: 0^0 and p^0 are 1, and an exponent is taken as it is, modulo neither p nor p - 1
  pub power_0 : power_of 0 3 5 ≡ element 5
  pub power_0_of_0 : power_of 0 0 0 ≡ element 1
  pub power_0_of_p : power_of 0 17 0 ≡ element 1
  pub power_1_of_p : power_of 0 17 1 ≡ element 0
  pub power_16_of_0 : power_of 0 0 16 ≡ element 0
  pub power_17_of_0 : power_of 0 0 17 ≡ element 0
  pub power_17_of_3 : power_of 0 3 17 ≡ element 3
  pub power_reduced : power_of 0 20 2 ≡ element 9
  pub power_50 : power_of 0 3 50 ≡ element 9
  -- binary digits, none of 0; they are the turns of a power (02, CR 4)
  pub digits_0 : binary_digits 0 ≡ 0
  pub digits_1 : binary_digits 1 ≡ 1
  pub digits_2 : binary_digits 2 ≡ 2
  pub digits_3 : binary_digits 3 ≡ 2
  pub digits_4 : binary_digits 4 ≡ 3
  pub digits_5 : binary_digits 5 ≡ 3
  pub digits_2147483647 : binary_digits 2147483647 ≡ 31
  pub digits_2147483648 : binary_digits 2147483648 ≡ 32
  pub digits_4294967295 : binary_digits 4294967295 ≡ 32
  pub digits_2013265919 : binary_digits 2013265919 ≡ 31
  pub turns_0 : power_turns_of 0 20 0 ≡ powered 1 0
  pub turns_1 : power_turns_of 1 65540 4 ≡ powered 81 3
  pub turns_2 : power_turns_of 2 2 31 ≡ powered 134217727 5
  pub turns_3 : power_turns_of 3 1 1 ≡ in_no_field
  pub turns_50 : power_turns_of 0 3 50 ≡ powered 9 6
  pub turns_16_of_0 : power_turns_of 0 0 16 ≡ powered 0 5
  -- inverses: there is none of 0, of p and of 2p
  pub inverse_0_of_0 : inverse_of 0 0 ≡ no_inverse
  pub inverse_0_of_p : inverse_of 0 17 ≡ no_inverse
  pub inverse_0_of_2p : inverse_of 0 34 ≡ no_inverse
  pub inverse_0_of_1 : inverse_of 0 1 ≡ found 1
  pub inverse_0_of_5 : inverse_of 0 5 ≡ found 7
  pub inverse_0_of_16 : inverse_of 0 16 ≡ found 16
  pub inverse_0_reduced : inverse_of 0 22 ≡ found 7
  -- field 1, with words at and above p = 65537
  pub sum_1 : sum 1 65536 2 ≡ element 1
  pub sum_1_reduced : sum 1 65537 131080 ≡ element 6
  pub difference_1_wraps : difference 1 0 1 ≡ element 65536
  pub difference_1_reduced : difference 1 65540 131079 ≡ element 65535
  pub product_1 : product 1 65536 65536 ≡ element 1
  pub product_1_reduced : product 1 65539 131077 ≡ element 6
  pub power_1 : power_of 1 65539 16 ≡ element 65536
  pub inverse_1 : inverse_of 1 105537 ≡ found 10694
  pub inverse_1_of_p : inverse_of 1 65537 ≡ no_inverse
  -- field 2, with words at and above p = 2013265921
  pub sum_2 : sum 2 2013265920 2 ≡ element 1
  pub sum_2_reduced : sum 2 4294967295 2013265922 ≡ element 268435454
  pub difference_2_wraps : difference 2 0 1 ≡ element 2013265920
  pub difference_2_reduced : difference 2 2013265922 4294967295 ≡ element 1744830469
  pub product_2 : product 2 65536 65536 ≡ element 268435454
  pub product_2_reduced : product 2 4294967295 2013265923 ≡ element 536870906
  pub power_2 : power_of 2 2013265923 31 ≡ element 134217727
  pub inverse_2 : inverse_of 2 4294967295 ≡ found 1113721573
  pub inverse_2_of_0 : inverse_of 2 0 ≡ no_inverse
  pub inverse_2_of_2p : inverse_of 2 4026531842 ≡ no_inverse
  -- a number above 2 names no field
  pub sum_3 : sum 3 1 1 ≡ no_field
  pub difference_3 : difference 3 1 1 ≡ no_field
  pub product_3 : product 3 1 1 ≡ no_field
  pub power_3 : power_of 3 1 1 ≡ no_field
  pub inverse_3 : inverse_of 3 1 ≡ unknown_field
  pub inverse_3_of_0 : inverse_of 3 0 ≡ unknown_field
  pub sum_largest : sum 4294967295 1 1 ≡ no_field
  -- ω of n0: in field 0 for 4, 8 and 16; in field 1 for 4096, 64 and 32; in field 2 for 4096 and 4
  pub root_0_4 : root_of_unity (sheet_of edition1 (0 ∷ 4 ∷ [])) ≡ 13
  pub root_0_8 : root_of_unity (sheet_of edition1 (0 ∷ 8 ∷ [])) ≡ 9
  pub root_0_16 : root_of_unity (sheet_of edition1 (0 ∷ 16 ∷ [])) ≡ 3
  pub root_1_4096 : root_of_unity (sheet_of edition1 (1 ∷ 4096 ∷ [])) ≡ 54449
  pub root_1_64 : root_of_unity (sheet_of edition1 (1 ∷ 64 ∷ [])) ≡ 8224
  pub root_1_32 : root_of_unity (sheet_of edition1 (1 ∷ 32 ∷ [])) ≡ 65529
  pub root_2_4096 : root_of_unity (sheet_of edition1 (2 ∷ 4096 ∷ [])) ≡ 1282623253
  pub root_2_4 : root_of_unity (sheet_of edition1 (2 ∷ 4 ∷ [])) ≡ 1728404513
  -- the levels of the sheet of the transcript by hand, and those of a sheet with k = 4 and M = 2
  pub level_0 : first_level (sheet_of edition1 sheet_words) ≡ level0
  pub level_1 : later_levels (sheet_of edition1 sheet_words) ≡ level1 ∷ []
  pub levels_later : later_levels (sheet_of edition1 (1 ∷ 128 ∷ 64 ∷ 4 ∷ 2 ∷ 1 ∷ 3 ∷ 2 ∷ 5 ∷ 0 ∷ 0 ∷ 0 ∷ []))
      ≡ record { number = 1; size = 64; degree = 16; fold = 4; repetitions = 2 }
      ∷ record { number = 2; size = 32; degree = 4; fold = 4; repetitions = 5 } ∷ []
  pub words_due_case : words_due edition1 (sheet_of edition1 (1 ∷ 128 ∷ 64 ∷ 4 ∷ 2 ∷ 1 ∷ 3 ∷ 2 ∷ 5 ∷ 0 ∷ 0 ∷ 0 ∷ [])) ≡ 256
  -- domain 0 is the whole subgroup, ω first and 1 last; domain 2 of n0 = 16 has the exponents 1, 5, 9 and 13
  pub domain_0 : domain F₁₇ 3 level0 ≡ 3 ∷ 9 ∷ 10 ∷ 13 ∷ 5 ∷ 15 ∷ 11 ∷ 16 ∷ 14 ∷ 8 ∷ 7 ∷ 4 ∷ 12 ∷ 2 ∷ 6 ∷ 1 ∷ []
  pub domain_2 : domain F₁₇ 3 (record { number = 2; size = 4; degree = 2; fold = 2; repetitions = 1 }) ≡ 3 ∷ 5 ∷ 14 ∷ 12 ∷ []
  -- shift points, and the numbers of their roots: those of shift point 3 with k = 2, and of shift point 1 with k = 4
  pub shift_point_0 : shift_point F₁₇ 3 level0 0 ≡ 9
  pub shift_point_7 : shift_point F₁₇ 3 level0 7 ≡ 1
  pub shift_point_1_of_level_1 : shift_point F₁₇ 3 level1 1 ≡ 15
  pub shift_point_k_4 : shift_point F₁₇ 3 (record { number = 0; size = 16; degree = 8; fold = 4; repetitions = 1 }) 1 ≡ 16
  pub roots_k_2 : root_numbers level0 3 ≡ 3 ∷ 11 ∷ []
  pub roots_of_level_1 : root_numbers level1 3 ≡ 3 ∷ 7 ∷ []
  pub roots_k_4 : root_numbers (record { number = 0; size = 16; degree = 8; fold = 4; repetitions = 1 }) 1 ≡ 1 ∷ 5 ∷ 9 ∷ 13 ∷ []

pub field_cases : FieldCases
unfolding definitions
field_cases = record {
  prime_0 = refl;
  prime_1 = refl;
  prime_2 = refl;
  generator_0 = refl;
  generator_1 = refl;
  generator_2 = refl;
  sum_0 = refl;
  sum_0_reduced = refl;
  sum_0_largest = refl;
  difference_0 = refl;
  difference_0_wraps = refl;
  difference_0_reduced = refl;
  difference_0_p = refl;
  difference_0_largest = refl;
  product_0 = refl;
  product_0_reduced = refl;
  product_0_p = refl;
  power_0 = refl;
  power_0_of_0 = refl;
  power_0_of_p = refl;
  power_1_of_p = refl;
  power_16_of_0 = refl;
  power_17_of_0 = refl;
  power_17_of_3 = refl;
  power_reduced = refl;
  power_50 = refl;
  digits_0 = refl;
  digits_1 = refl;
  digits_2 = refl;
  digits_3 = refl;
  digits_4 = refl;
  digits_5 = refl;
  digits_2147483647 = refl;
  digits_2147483648 = refl;
  digits_4294967295 = refl;
  digits_2013265919 = refl;
  turns_0 = refl;
  turns_1 = refl;
  turns_2 = refl;
  turns_3 = refl;
  turns_50 = refl;
  turns_16_of_0 = refl;
  inverse_0_of_0 = refl;
  inverse_0_of_p = refl;
  inverse_0_of_2p = refl;
  inverse_0_of_1 = refl;
  inverse_0_of_5 = refl;
  inverse_0_of_16 = refl;
  inverse_0_reduced = refl;
  sum_1 = refl;
  sum_1_reduced = refl;
  difference_1_wraps = refl;
  difference_1_reduced = refl;
  product_1 = refl;
  product_1_reduced = refl;
  power_1 = refl;
  inverse_1 = refl;
  inverse_1_of_p = refl;
  sum_2 = refl;
  sum_2_reduced = refl;
  difference_2_wraps = refl;
  difference_2_reduced = refl;
  product_2 = refl;
  product_2_reduced = refl;
  power_2 = refl;
  inverse_2 = refl;
  inverse_2_of_0 = refl;
  inverse_2_of_2p = refl;
  sum_3 = refl;
  difference_3 = refl;
  product_3 = refl;
  power_3 = refl;
  inverse_3 = refl;
  inverse_3_of_0 = refl;
  sum_largest = refl;
  root_0_4 = refl;
  root_0_8 = refl;
  root_0_16 = refl;
  root_1_4096 = refl;
  root_1_64 = refl;
  root_1_32 = refl;
  root_2_4096 = refl;
  root_2_4 = refl;
  level_0 = refl;
  level_1 = refl;
  levels_later = refl;
  words_due_case = refl;
  domain_0 = refl;
  domain_2 = refl;
  shift_point_0 = refl;
  shift_point_7 = refl;
  shift_point_1_of_level_1 = refl;
  shift_point_k_4 = refl;
  roots_k_2 = refl;
  roots_of_level_1 = refl;
  roots_k_4 = refl;
}

-- The largest exponent, which is a word as it is too. So many products are not computed: the power stands on both sides as it is.
pub record LargestExponentCases : Type 0 where
  pub power_largest : power_of 0 20 4294967295 ≡ element (power F₁₇ 3 4294967295)
  pub turns_largest : power_turns_of 0 20 4294967295 ≡ powered (power F₁₇ 3 4294967295) 32
  pub power_largest_3 : power3 (record { a = 1; b = 2013265923; c = 3; d = 4 }) 4294967295 ≡ power field3 (record { a = 1; b = 2; c = 3; d = 4 }) 4294967295
  pub turns_largest_3 : power_turns3 (record { a = 1; b = 2; c = 3; d = 4 }) 4294967295 ≡ record { power = power field3 (record { a = 1; b = 2; c = 3; d = 4 }) 4294967295; turns = 32 }

pub largest_exponent_cases : LargestExponentCases
unfolding digits_within binary_digits known_field prime_of field_of in_field power_of power_turns_of reduced power3 power_turns3
largest_exponent_cases = record {
  power_largest = refl;
  turns_largest = refl;
  power_largest_3 = refl;
  turns_largest_3 = refl;
}
