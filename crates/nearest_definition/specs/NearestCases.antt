-- The nearest polynomial (02, CR 14): refusals, their order, and the whole output, by computation through all 17² polynomials.
use Rattle.std.specs.Prelude.{ℕ, ◌≡◌, refl, List, [], ◌∷◌, ◌++◌, take, set, replicate}
use Rattle.definition.specs.Prove.{done}
use Rattle.nearest_definition.specs.Nearest.{all_elements, all_true, differing_points, entries_test, entry_range_test, first_that, found_test, near, nearest, nearest_of, nearest_size, nearest_tests, nearest_to, nearest_words, polynomials, wrong_points}
use Rattle.definition.specs.WorkedTranscript.{smallest, kept, definitions}

-- n0 = 4 and d0 = 2: at most one entry is wrong
abbrev pub sheet : List ℕ
sheet = take 12 smallest

-- 6 + 7X over 13 16 4 1
abbrev pub table : List ℕ
table = 12 ∷ 16 ∷ 0 ∷ 13 ∷ []

abbrev pub room : List ℕ
room = replicate 4 9

-- the same with n0 = 8, at most three wrong, and with n0 = 16, at most seven
abbrev pub sheet8 : List ℕ
sheet8 = set sheet 1 8

abbrev pub sheet16 : List ℕ
sheet16 = set sheet 1 16

-- Refused, the output is kept as before.
pub record NearestCases : Type 0 where
  -- 10, place 0, and 3: encode's, of all 12 words
  pub sheet_short : nearest (take 11 sheet) table room ≡ kept 10 0 room
  pub sheet_broken : nearest (set sheet 1 32) table room ≡ kept 3 1 room
  pub sheet_broken_last : nearest (set sheet 11 1) table room ≡ kept 3 11 room
  -- 10, place 1: not n0 entries, which d0 would be
  pub entries_few : nearest sheet (take 3 table) room ≡ kept 10 1 room
  pub entries_many : nearest sheet (table ++ (0 ∷ [])) room ≡ kept 10 1 room
  pub entries_as_coefficients : nearest sheet (6 ∷ 7 ∷ []) room ≡ kept 10 1 room
  -- 5: a position in the table, the first such; also after d0 entries, and before 11
  pub entry : nearest sheet (set (set table 3 17) 1 17) room ≡ kept 5 1 room
  pub entry_last : nearest sheet (set table 3 17) [] ≡ kept 5 3 []
  -- 11: fewer than d0 + 1 + (n0 - d0)/2 words, also where fewer would be written, and before 19
  pub output_short : nearest sheet table (replicate 3 9) ≡ kept 11 4 (replicate 3 9)
  pub eleven_before_nineteen : nearest sheet (12 ∷ 12 ∷ 16 ∷ 16 ∷ []) (replicate 3 9) ≡ kept 11 4 (replicate 3 9)
  -- 19: one wrong entry too many
  pub nothing : nearest sheet (12 ∷ 12 ∷ 16 ∷ 16 ∷ []) room ≡ kept 19 0 room
  pub four_wrong : nearest sheet8 (14 ∷ 4 ∷ 15 ∷ 15 ∷ 9 ∷ 14 ∷ 5 ∷ 8 ∷ []) (replicate 6 9) ≡ kept 19 0 (replicate 6 9)
  -- done: the words written are counted, and those after the last number are left
  pub none_wrong : nearest sheet table room ≡ record { answer = done 3; output = 6 ∷ 7 ∷ 0 ∷ 9 ∷ [] }
  pub first_wrong : nearest sheet (set table 0 11) room ≡ record { answer = done 4; output = 6 ∷ 7 ∷ 1 ∷ 0 ∷ [] }
  pub last_wrong : nearest sheet (set table 3 12) (replicate 6 9) ≡ record { answer = done 4; output = 6 ∷ 7 ∷ 1 ∷ 3 ∷ 9 ∷ 9 ∷ [] }
  pub three_wrong : nearest sheet8 (14 ∷ 4 ∷ 15 ∷ 15 ∷ 9 ∷ 6 ∷ 5 ∷ 8 ∷ []) (replicate 6 9) ≡ record { answer = done 6; output = 3 ∷ 5 ∷ 3 ∷ 1 ∷ 2 ∷ 6 ∷ [] }
  pub seven_wrong : nearest sheet16 (12 ∷ 12 ∷ 4 ∷ 3 ∷ 0 ∷ 15 ∷ 13 ∷ 7 ∷ 0 ∷ 3 ∷ 11 ∷ 15 ∷ 5 ∷ 16 ∷ 2 ∷ 9 ∷ []) (replicate 11 9)
      ≡ record { answer = done 10; output = 16 ∷ 9 ∷ 7 ∷ 0 ∷ 3 ∷ 4 ∷ 8 ∷ 11 ∷ 13 ∷ 15 ∷ 9 ∷ [] }
  -- a constant is of degree below 2 too, and so is 0
  pub constant : nearest sheet (5 ∷ 5 ∷ 5 ∷ 0 ∷ []) room ≡ record { answer = done 4; output = 5 ∷ 0 ∷ 1 ∷ 3 ∷ [] }
  pub zero : nearest sheet (0 ∷ 0 ∷ 0 ∷ 0 ∷ []) room ≡ record { answer = done 3; output = 0 ∷ 0 ∷ 0 ∷ 9 ∷ [] }
  -- fields 1 and 2, where no search is tried: the tests before 19
  pub field_2_short : nearest (set sheet 0 2) (2013265920 ∷ 1 ∷ 2 ∷ 3 ∷ []) [] ≡ kept 11 4 []
  -- field 3: four words an element, in the table, in the size due and in the range; n0 entries are 4·n0 words
  pub field_3_entries : nearest (set sheet 0 3) (replicate 15 0) [] ≡ kept 10 1 []
  pub field_3_entry : nearest (set sheet 0 3) (set (replicate 16 0) 15 2013265921) [] ≡ kept 5 15 []
  pub field_3_short : nearest (set sheet 0 3) (replicate 16 0) (replicate 9 9) ≡ kept 11 10 (replicate 9 9)
  pub field_2_entry : nearest (set sheet 0 2) (1 ∷ 2013265921 ∷ 2 ∷ 3 ∷ []) room ≡ kept 5 1 room

-- all definitions of the nearest polynomial, unfolded by this one name
unfoldable pub nearest_definitions : Unit {0}
unfolding
    all_true first_that all_elements polynomials differing_points near nearest_of nearest_to wrong_points entries_test entry_range_test nearest_size found_test nearest_words
    nearest_tests nearest
nearest_definitions = tt

pub nearest_cases : NearestCases
unfolding definitions nearest_definitions
nearest_cases = record {
  sheet_short = refl;
  sheet_broken = refl;
  sheet_broken_last = refl;
  entries_few = refl;
  entries_many = refl;
  entries_as_coefficients = refl;
  entry = refl;
  entry_last = refl;
  output_short = refl;
  eleven_before_nineteen = refl;
  nothing = refl;
  four_wrong = refl;
  none_wrong = refl;
  first_wrong = refl;
  last_wrong = refl;
  three_wrong = refl;
  seven_wrong = refl;
  constant = refl;
  zero = refl;
  field_2_short = refl;
  field_3_entries = refl;
  field_3_entry = refl;
  field_3_short = refl;
  field_2_entry = refl;
}
