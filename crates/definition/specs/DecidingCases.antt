-- Verify, accepted and refusals 7, 14, 8 and 9 (01, Verify, prove, encode; 02, CR 6 and 8): places, reads and the order of the tests, by computation.
use Rattle.std.specs.Prelude.{ℕ, ◌≡◌, refl, [], ◌∷◌, set}
use Rattle.definition.specs.Block.{file_of}
use Rattle.definition.specs.Sheet.{edition1}
use Rattle.definition.specs.Transcript.{Round}
use Rattle.definition.specs.Deciding.{Place, places_of, reads_of, table_function, next_function, deciding}
use Rattle.definition.specs.Verify.{verify}
use Rattle.definition.specs.WorkedTranscript.{F₁₇, level0, level1, stream, final_twice, doubled, two_outs, smallest, folded4, four_finals, fourth_wrong, two_rounds, accept, refuse, definitions}

abbrev pub place : ℕ → ℕ → Place
place table number = record { table = table; number = number }

-- a round of level 1 with nothing in it
abbrev pub round1 : Round ℕ
round1 = record { coins = record { level = level1; outs = []; combination = 0; fold = 0; shifts = [] }; table = []; replies = [] }

-- Of each refusal one case is a whole file, by `verify`, whose checks `file_of` makes right; the others are streams that pass reading, by `deciding`, which answers
-- what `verify` answers of their files and is computed sooner.
pub record DecidingCases : Type 0 where
  -- accepted: the reads are k for each different shift index and each different final index
  pub accepts : verify (file_of doubled) ≡ accept 8
  -- a repeated index opens no place again: of the shift coins, of the final coins, of the transcript by hand with the final indices 1 1, of four final coins
  pub shift_repeated : deciding edition1 (set (set (set doubled 41 5) 43 2) 44 0) ≡ accept 6
  pub final_repeated : deciding edition1 (set doubled 46 1) ≡ accept 6
  pub final_twice_case : verify (file_of final_twice) ≡ accept 4
  pub finals_two_and_two : deciding edition1 (set (set four_finals 35 0) 36 1) ≡ accept 4
  -- the same index in two rounds is two points: the shift index 0 of table 0 and the final index 0 of table 1
  pub index_of_both_tables : deciding edition1 (set stream 44 0) ≡ accept 4
  -- repeats in a refusal: of the shift coins for 8; before the failing final coin for 9, and after it, where they are not treated
  pub clash_of_repeated_shifts : deciding edition1 (set (set doubled 41 5) 37 4) ≡ refuse 8 1 2
  pub repeated_before_failing : deciding edition1 (set (set (set fourth_wrong 34 0) 35 3) 36 1) ≡ refuse 9 2 4
  pub repeated_after_failing : deciding edition1 (set (set (set fourth_wrong 34 3) 35 1) 36 1) ≡ refuse 9 1 4
  -- places are the same where table and number are
  pub different_places : reads_of (place 0 1 ∷ place 1 1 ∷ place 0 2 ∷ place 0 1 ∷ place 1 1 ∷ []) ≡ 3
  pub two_outs_case : verify (file_of two_outs) ≡ accept 6
  -- the combination coin 12 makes cx = 1 at x = 10, which final coin 1 reads (P7); the combination coin 0
  pub cx_1 : deciding edition1 (set (set (set stream 39 12) 42 7) 43 6) ≡ accept 4
  pub cx_1_wrong : deciding edition1 (set stream 39 12) ≡ refuse 9 0 4
  pub c_0 : deciding edition1 (set (set (set doubled 39 0) 43 6) 44 0) ≡ accept 8
  -- no round, M = 0: the smallest sheet, and k = 4 with two final coins
  pub no_round : deciding edition1 smallest ≡ accept 2
  pub no_round_wrong : deciding edition1 (set smallest 17 8) ≡ refuse 9 0 2
  pub k_4 : deciding edition1 folded4 ≡ accept 8
  pub k_4_first_wrong : deciding edition1 (set folded4 29 9) ≡ refuse 9 0 4
  pub k_4_second_wrong : deciding edition1 (set (set folded4 29 9) 30 4) ≡ refuse 9 1 8
  -- four final coins; a final polynomial that differs at the fourth alone
  pub four_finals_case : deciding edition1 four_finals ≡ accept 8
  pub fourth_final_wrong : deciding edition1 fourth_wrong ≡ refuse 9 3 8
  -- 7: the last point of domain 1; the second of two out coins; a point of domain 0 alone and 0 are outside
  pub last_point : verify (file_of (set stream 37 6)) ≡ refuse 7 37 0
  pub second_out_coin : deciding edition1 (set two_outs 38 3) ≡ refuse 7 38 0
  pub first_out_coin : deciding edition1 (set (set two_outs 37 14) 38 3) ≡ refuse 7 37 0
  pub point_of_domain_0 : deciding edition1 (set doubled 37 13) ≡ refuse 9 0 6
  -- 7 before 14: two equal out coins in domain 1; 7 before 8: the second out coin is a shift point
  pub seven_before_fourteen : deciding edition1 (set (set two_outs 37 3) 38 3) ≡ refuse 7 37 0
  pub seven_before_eight : deciding edition1 (set (set two_outs 37 3) 38 4) ≡ refuse 7 37 0
  -- 14: two equal out coins, with different replies, with equal ones and a right final message, with equal wrong ones
  pub equal_outs : verify (file_of (set two_outs 38 0)) ≡ refuse 14 38 0
  pub equal_outs_right : deciding edition1 (set (set (set (set two_outs 38 0) 40 5) 44 2) 45 0) ≡ refuse 14 38 0
  pub equal_outs_wrong : deciding edition1 (set (set (set two_outs 38 0) 39 6) 40 6) ≡ refuse 14 38 0
  -- 14 before 8: both out coins are the shift point
  pub fourteen_before_eight : deciding edition1 (set (set two_outs 37 4) 38 4) ≡ refuse 14 38 0
  -- 8: an out coin is the first shift point, or the second; the reads are those of all shift coins of the round
  pub clash_with_first_shift : verify (file_of (set doubled 37 9)) ≡ refuse 8 1 4
  pub clash_with_second_shift : deciding edition1 (set doubled 37 4) ≡ refuse 8 1 4
  -- 8: the second out coin is a shift point
  pub clash_of_second_out : deciding edition1 (set two_outs 38 4) ≡ refuse 8 1 2
  -- 8 before 9
  pub eight_before_nine : deciding edition1 (set (set doubled 37 9) 43 0) ≡ refuse 8 1 4
  -- 9: at the first final coin, at the second alone, at both; the reads are up to and with the failing coin
  pub first_final : verify (file_of (set (set doubled 43 12) 44 13)) ≡ refuse 9 0 6
  pub second_final : deciding edition1 (set (set doubled 43 5) 44 13) ≡ refuse 9 1 8
  pub both_finals : deciding edition1 (set doubled 43 0) ≡ refuse 9 0 6
  -- 9: a wrong word of table 0 that a shift coin reads, or of table 1 that a final coin reads; words that no coin reads are not judged
  pub table_0_read : deciding edition1 (set doubled 12 6) ≡ refuse 9 0 6
  pub table_0_not_read : deciding edition1 (set doubled 13 6) ≡ accept 8
  pub table_1_read : deciding edition1 (set doubled 34 6) ≡ refuse 9 0 6
  pub table_1_not_read : deciding edition1 (set doubled 29 6) ≡ accept 8
  -- the places of a coin are its roots in the level's own table: of coins 0 and 3 in table 0, of coin 1 in table 1
  pub places_of_table_0 : places_of level0 (table_function F₁₇ 3 level0 []).places (0 ∷ 3 ∷ []) ≡ place 0 0 ∷ place 0 8 ∷ place 0 3 ∷ place 0 11 ∷ []
  pub places_of_table_1 : places_of level1 (next_function F₁₇ 3 [] round1).places (1 ∷ []) ≡ place 1 1 ∷ place 1 5 ∷ []
  -- two rounds, out coins 61 62 and 77 78, replies 63 64 and 79 80: accepted, with an out coin of round 1 and one of round 2 equal; 8 in
  -- round 1, in round 2, in both; the place is the round, and the reads are those of the rounds up to it
  pub two_rounds_case : verify (file_of two_rounds) ≡ accept 8
  pub clash_in_round_1 : deciding edition1 (set two_rounds 63 1) ≡ refuse 8 1 4
  pub clash_in_round_2 : deciding edition1 (set two_rounds 80 1) ≡ refuse 8 2 6
  pub clash_in_both : deciding edition1 (set (set two_rounds 63 1) 80 1) ≡ refuse 8 1 4
  -- 7 in round 2 comes before 8 in round 1; a coin of round 2 is tested against domain 2 alone: 65529 is in both domains, 65025 in
  -- domain 1 only
  pub out_coin_of_round_2 : deciding edition1 (set (set two_rounds 63 1) 78 65529) ≡ refuse 7 78 0
  pub out_coins_of_both : deciding edition1 (set (set two_rounds 62 65025) 77 65529) ≡ refuse 7 62 0
  pub round_2_and_domain_1 : deciding edition1 (set (set two_rounds 63 1) 77 65025) ≡ refuse 8 1 4
  -- 14 in both rounds; 14 in round 2 comes before 8 in round 1, and 7 in round 2 before 14 in round 1
  pub equal_outs_of_both : deciding edition1 (set (set two_rounds 61 0) 78 0) ≡ refuse 14 62 0
  pub equal_outs_of_round_2 : deciding edition1 (set (set two_rounds 63 1) 78 0) ≡ refuse 14 78 0
  pub seven_before_every_fourteen : verify (file_of (set (set two_rounds 61 0) 78 65529)) ≡ refuse 7 78 0

pub deciding_cases : DecidingCases
unfolding definitions
deciding_cases = record {
  accepts = refl;
  shift_repeated = refl;
  final_repeated = refl;
  final_twice_case = refl;
  finals_two_and_two = refl;
  index_of_both_tables = refl;
  clash_of_repeated_shifts = refl;
  repeated_before_failing = refl;
  repeated_after_failing = refl;
  different_places = refl;
  two_outs_case = refl;
  cx_1 = refl;
  cx_1_wrong = refl;
  c_0 = refl;
  no_round = refl;
  no_round_wrong = refl;
  k_4 = refl;
  k_4_first_wrong = refl;
  k_4_second_wrong = refl;
  four_finals_case = refl;
  fourth_final_wrong = refl;
  last_point = refl;
  second_out_coin = refl;
  first_out_coin = refl;
  point_of_domain_0 = refl;
  seven_before_fourteen = refl;
  seven_before_eight = refl;
  equal_outs = refl;
  equal_outs_right = refl;
  equal_outs_wrong = refl;
  fourteen_before_eight = refl;
  clash_with_first_shift = refl;
  clash_with_second_shift = refl;
  clash_of_second_out = refl;
  eight_before_nine = refl;
  first_final = refl;
  second_final = refl;
  both_finals = refl;
  table_0_read = refl;
  table_0_not_read = refl;
  table_1_read = refl;
  table_1_not_read = refl;
  places_of_table_0 = refl;
  places_of_table_1 = refl;
  two_rounds_case = refl;
  clash_in_round_1 = refl;
  clash_in_round_2 = refl;
  clash_in_both = refl;
  out_coin_of_round_2 = refl;
  out_coins_of_both = refl;
  round_2_and_domain_1 = refl;
  equal_outs_of_both = refl;
  equal_outs_of_round_2 = refl;
  seven_before_every_fourteen = refl;
}
