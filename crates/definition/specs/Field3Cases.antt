-- Field 3, whose elements are of four words (02, CR 11), by computation. Each value is from an independent model.
use Rattle.std.specs.Prelude.{ℕ, ◌≡◌, refl, List, [], ◌∷◌, ◌++◌, take, drop, set, replicate}
use Rattle.std.proofs.Math.Option.{none, some}
use Rattle.definition.specs.Lists.{range}
use Rattle.definition.specs.Field.{Quad, sum3, difference3, product3, power3, power_turns3, inverse3}
use Rattle.definition.specs.Sheet.{edition1, edition2, sheet_of}
use Rattle.definition.specs.Layout.{words_due}
use Rattle.definition.specs.Block.{file_of}
use Rattle.definition.specs.Verdict.{accepted, refused}
use Rattle.definition.specs.Reading.{sheet_test}
use Rattle.definition.specs.Deciding.{deciding}
use Rattle.definition.specs.Verify.{verify, verify_in}
use Rattle.definition.specs.Prover.{honest_stream}
use Rattle.definition.specs.Prove.{done, prove, prove_in, encode}
use Rattle.definition.specs.Convert.{to_edition1, to_edition2}
use Rattle.definition.specs.WorkedTranscript.{accept, refuse, kept, definitions}

abbrev quad : ℕ → ℕ → ℕ → ℕ → Quad ℕ
quad a b c d = record { a = a; b = b; c = c; d = d }

-- The smallest sheet, M = 0: table 0 12 to 27, fold coin 28, final coefficient 32, final index 36.
abbrev small : List ℕ
small =
    3 ∷ 4 ∷ 2 ∷ 2 ∷ 0 ∷ 1 ∷ 1 ∷ 0 ∷ 0 ∷ 0 ∷ 0 ∷ 0 ∷ 588958882 ∷ 304097475 ∷ 19236068 ∷ 1747640582 ∷ 2013265917 ∷ 2013265917 ∷ 2013265917 ∷ 2013265917
    ∷ 1424307041 ∷ 1709168450 ∷ 1994029859 ∷ 265625347 ∷ 6 ∷ 8 ∷ 10 ∷ 12 ∷ 9 ∷ 10 ∷ 11 ∷ 12 ∷ 2565 ∷ 1998 ∷ 1237 ∷ 272 ∷ 1 ∷ []

-- n0 = 16, d0 = 8, k = 2, M = 1, s = 2, and the coefficients and coins of its stream
abbrev one_to32 : List ℕ
one_to32 = range 1 32

abbrev coins_4 : List ℕ
coins_4 = 2 ∷ 1 ∷ 0 ∷ 0 ∷ 3 ∷ 0 ∷ 0 ∷ 1 ∷ 3 ∷ 0 ∷ 0 ∷ 2 ∷ 5 ∷ 6 ∷ 7 ∷ 8 ∷ 4 ∷ 3 ∷ 2 ∷ 1 ∷ 0 ∷ 1 ∷ []

-- 146 words: sheet 0 to 11; table 0 12 to 75; fold coin 76; table 1 80 to 111; out coins 112 and 116, replies 120 and 124, combination coin 128, fold coin 132,
-- shift index 136; final coefficients 137 to 144; final index 145.
abbrev four_words : List ℕ
four_words =
    3 ∷ 16 ∷ 8 ∷ 2 ∷ 1 ∷ 2 ∷ 1 ∷ 1 ∷ 0 ∷ 0 ∷ 0 ∷ 0 ∷ 1561083551 ∷ 162191882 ∷ 776566134 ∷ 1390940386 ∷ 1864808957 ∷ 1864808957 ∷ 1864808957
    ∷ 1864808957 ∷ 281619993 ∷ 194077232 ∷ 106534471 ∷ 18991710 ∷ 531250670 ∷ 531250670 ∷ 531250670 ∷ 531250670 ∷ 152800623 ∷ 1927153993 ∷ 1688241442
    ∷ 1449328891 ∷ 802307585 ∷ 802307585 ∷ 802307585 ∷ 802307585 ∷ 1955046453 ∷ 1544230626 ∷ 1133414799 ∷ 722598972 ∷ 2013265905 ∷ 2013265905
    ∷ 2013265905 ∷ 2013265905 ∷ 1829923158 ∷ 227473066 ∷ 638288895 ∷ 1049104724 ∷ 1210958304 ∷ 1210958304 ∷ 1210958304 ∷ 1210958304 ∷ 222763707
    ∷ 461676260 ∷ 700588813 ∷ 939501366 ∷ 1482015219 ∷ 1482015219 ∷ 1482015219 ∷ 1482015219 ∷ 1244807980 ∷ 1332350743 ∷ 1419893506 ∷ 1507436269
    ∷ 148456932 ∷ 148456932 ∷ 148456932 ∷ 148456932 ∷ 805018227 ∷ 190643977 ∷ 1589535648 ∷ 975161398 ∷ 120 ∷ 128 ∷ 136 ∷ 144 ∷ 2 ∷ 1 ∷ 0 ∷ 0
    ∷ 228406228 ∷ 266427966 ∷ 1697463303 ∷ 1115232719 ∷ 1625048382 ∷ 1026956942 ∷ 1404047882 ∷ 1781138822 ∷ 1688261312 ∷ 450392923 ∷ 1950882967
    ∷ 1438107090 ∷ 281214212 ∷ 1788541805 ∷ 247397639 ∷ 719519394 ∷ 1674548504 ∷ 328527945 ∷ 1570092723 ∷ 798391580 ∷ 259318433 ∷ 1906838564
    ∷ 1210267263 ∷ 513695962 ∷ 435316194 ∷ 967917163 ∷ 821358862 ∷ 674800561 ∷ 1860951211 ∷ 1317460528 ∷ 1164819150 ∷ 1012177772 ∷ 3 ∷ 0 ∷ 0 ∷ 1 ∷ 3
    ∷ 0 ∷ 0 ∷ 2 ∷ 359409 ∷ 243307 ∷ 107903 ∷ 44935 ∷ 1965948 ∷ 1088316 ∷ 388348 ∷ 196516 ∷ 5 ∷ 6 ∷ 7 ∷ 8 ∷ 4 ∷ 3 ∷ 2 ∷ 1 ∷ 0 ∷ 891797 ∷ 471557
    ∷ 251025 ∷ 143873 ∷ 536958031 ∷ 1637615673 ∷ 1997814606 ∷ 1085614438 ∷ 1 ∷ []

-- the same in edition 2 with k_1 = 4: 148 words, the out coins at 118 and 122
abbrev four_words_2 : List ℕ
four_words_2 =
    3 ∷ 16 ∷ 8 ∷ 2 ∷ 1 ∷ 2 ∷ 1 ∷ 1 ∷ 0 ∷ 0 ∷ 0 ∷ 0 ∷ 4 ∷ 0 ∷ 0 ∷ 0 ∷ 0 ∷ 2 ∷ 1561083551 ∷ 162191882 ∷ 776566134 ∷ 1390940386 ∷ 1864808957
    ∷ 1864808957 ∷ 1864808957 ∷ 1864808957 ∷ 281619993 ∷ 194077232 ∷ 106534471 ∷ 18991710 ∷ 531250670 ∷ 531250670 ∷ 531250670 ∷ 531250670 ∷ 152800623
    ∷ 1927153993 ∷ 1688241442 ∷ 1449328891 ∷ 802307585 ∷ 802307585 ∷ 802307585 ∷ 802307585 ∷ 1955046453 ∷ 1544230626 ∷ 1133414799 ∷ 722598972
    ∷ 2013265905 ∷ 2013265905 ∷ 2013265905 ∷ 2013265905 ∷ 1829923158 ∷ 227473066 ∷ 638288895 ∷ 1049104724 ∷ 1210958304 ∷ 1210958304 ∷ 1210958304
    ∷ 1210958304 ∷ 222763707 ∷ 461676260 ∷ 700588813 ∷ 939501366 ∷ 1482015219 ∷ 1482015219 ∷ 1482015219 ∷ 1482015219 ∷ 1244807980 ∷ 1332350743
    ∷ 1419893506 ∷ 1507436269 ∷ 148456932 ∷ 148456932 ∷ 148456932 ∷ 148456932 ∷ 805018227 ∷ 190643977 ∷ 1589535648 ∷ 975161398 ∷ 120 ∷ 128 ∷ 136
    ∷ 144 ∷ 2 ∷ 1 ∷ 0 ∷ 0 ∷ 228406228 ∷ 266427966 ∷ 1697463303 ∷ 1115232719 ∷ 1625048382 ∷ 1026956942 ∷ 1404047882 ∷ 1781138822 ∷ 1688261312
    ∷ 450392923 ∷ 1950882967 ∷ 1438107090 ∷ 281214212 ∷ 1788541805 ∷ 247397639 ∷ 719519394 ∷ 1674548504 ∷ 328527945 ∷ 1570092723 ∷ 798391580
    ∷ 259318433 ∷ 1906838564 ∷ 1210267263 ∷ 513695962 ∷ 435316194 ∷ 967917163 ∷ 821358862 ∷ 674800561 ∷ 1860951211 ∷ 1317460528 ∷ 1164819150
    ∷ 1012177772 ∷ 3 ∷ 0 ∷ 0 ∷ 1 ∷ 3 ∷ 0 ∷ 0 ∷ 2 ∷ 359409 ∷ 243307 ∷ 107903 ∷ 44935 ∷ 1965948 ∷ 1088316 ∷ 388348 ∷ 196516 ∷ 5 ∷ 6 ∷ 7 ∷ 8 ∷ 4 ∷ 3 ∷ 2
    ∷ 1 ∷ 0 ∷ 1735186995 ∷ 952934839 ∷ 1162518953 ∷ 77074547 ∷ 1 ∷ []

pub record Field3Cases : Type 0 where
  -- the operations of field 3, each word first taken modulo p: X·X³ = 11; (1 + X)·(1 - X + X² - X³) = -10
  pub sum : sum3 (quad 2013265920 5 2013265921 4294967295) (quad 2 2013265916 1 4294967294) ≡ quad 1 0 1 536870905
  pub difference : difference3 (quad 0 1 2013265924 7) (quad 1 4294967295 2013265921 9) ≡ quad 2013265920 1744830469 3 2013265919
  pub fourth_power : product3 (quad 0 1 0 0) (quad 0 0 0 1) ≡ quad 11 0 0 0
  pub product : product3 (quad 1 1 0 0) (quad 1 2013265920 1 2013265920) ≡ quad 2013265911 0 0 0
  pub product_large : product3 (quad 4294967295 2000000001 1999999999 2013265923) (quad 2013265920 2013265919 2013265918 2013265917) ≡ quad 753040409 60095516 1247757236 1005853711
  -- 0^0 is 1; the exponent is one word as it is
  pub power_0 : power3 (quad 2013265921 0 0 2013265921) 0 ≡ quad 1 0 0 0
  pub power_5 : power3 (quad 2013265922 2 3 4) 5 ≡ quad 19024556 12904792 7234788 3456464
  pub power_turns : power_turns3 (quad 2013265922 2 3 4) 5 ≡ record { power = quad 19024556 12904792 7234788 3456464; turns = 3 }
  -- there is no inverse exactly where all four words are multiples of p
  pub inverse : inverse3 (quad 1 2 3 4) ≡ some (quad 1587469345 920666518 1160282443 647153706)
  pub inverse_of_X : inverse3 (quad 2013265921 1 2013265921 0) ≡ some (quad 0 0 0 549072524)
  pub inverse_of_0 : inverse3 (quad 0 2013265921 4026531842 0) ≡ none
  -- n0 ends at 1024, at word 1, in both editions
  pub size_1024 : sheet_test edition1 (set (take 12 four_words) 1 1024) ≡ accepted
  pub size_2048 : sheet_test edition1 (set (take 12 four_words) 1 2048) ≡ refused 3 1
  pub size_1024_2 : sheet_test edition2 (set (take 18 four_words_2) 1 1024) ≡ accepted
  pub size_2048_2 : sheet_test edition2 (set (take 18 four_words_2) 1 2048) ≡ refused 3 1
  pub size_2048_field_2 : sheet_test edition1 (set (set (take 12 four_words) 0 2) 1 2048) ≡ accepted
  -- words due
  pub words_due_case : words_due edition1 (sheet_of edition1 four_words) ≡ 146
  pub words_due_2 : words_due edition2 (sheet_of edition2 four_words_2) ≡ 148
  -- encode: coefficients, output, place and Done in words
  pub encode_done : encode (take 12 small) (1 ∷ 2 ∷ 3 ∷ 4 ∷ 5 ∷ 6 ∷ 7 ∷ 8 ∷ []) (replicate 17 7) ≡ record { answer = done 16; output = 588958882 ∷ 304097475 ∷ 19236068 ∷ 1747640582 ∷ 2013265917 ∷ 2013265917 ∷ 2013265917 ∷ 2013265917 ∷ 1424307041 ∷ 1709168450 ∷ 1994029859 ∷ 265625347 ∷ 6 ∷ 8 ∷ 10 ∷ 12 ∷ 7 ∷ [] }
  pub encode_short : encode (take 12 small) (1 ∷ 2 ∷ 3 ∷ 4 ∷ 5 ∷ 6 ∷ 7 ∷ 8 ∷ []) (replicate 15 7) ≡ kept 11 16 (replicate 15 7)
  pub encode_few : encode (take 12 small) (1 ∷ 2 ∷ 3 ∷ 4 ∷ 5 ∷ 6 ∷ 7 ∷ []) (replicate 16 7) ≡ kept 10 1 (replicate 16 7)
  pub encode_range : encode (take 12 small) (1 ∷ 2 ∷ 3 ∷ 4 ∷ 5 ∷ 6 ∷ 2013265921 ∷ 8 ∷ []) (replicate 16 7) ≡ kept 5 6 (replicate 16 7)
  -- prove: the stream; lengths and positions in words
  pub stream_small : honest_stream edition1 (take 12 small) (1 ∷ 2 ∷ 3 ∷ 4 ∷ 5 ∷ 6 ∷ 7 ∷ 8 ∷ []) (9 ∷ 10 ∷ 11 ∷ 12 ∷ 1 ∷ []) ≡ small
  pub stream : honest_stream edition1 (take 12 four_words) one_to32 coins_4 ≡ four_words
  pub stream_2 : honest_stream edition2 (take 18 four_words_2) one_to32 coins_4 ≡ four_words_2
  pub prove_few : prove (take 12 four_words) (take 31 one_to32) coins_4 (replicate 1024 7) ≡ kept 10 1 (replicate 1024 7)
  pub prove_coins : prove (take 12 four_words) one_to32 (take 21 coins_4) (replicate 1024 7) ≡ kept 10 2 (replicate 1024 7)
  pub prove_short : prove (take 12 four_words) one_to32 coins_4 (replicate 1023 7) ≡ kept 11 2 (replicate 1023 7)
  pub prove_in_domain : prove (take 12 four_words) one_to32 (set (set coins_4 8 196396260) 11 0) (replicate 1024 7) ≡ kept 7 8 (replicate 1024 7)
  pub prove_equal : prove (take 12 four_words) one_to32 (set coins_4 11 1) (replicate 1024 7) ≡ kept 14 8 (replicate 1024 7)
  pub prove_equal_2 : prove_in edition2 (take 18 four_words_2) one_to32 (set coins_4 11 1) (replicate 1024 7) ≡ kept 14 8 (replicate 1024 7)
  -- verify: accepted; a read is one place, whatever its words
  pub accepted_1 : verify (file_of four_words) ≡ accept 4
  pub accepted_2 : verify_in edition2 (file_of four_words_2) ≡ accept 6
  -- a later word of an out coin out of range
  pub out_of_range : verify (file_of (set four_words 114 2013265921)) ≡ refuse 5 114 0
  pub fill_wrong : verify (file_of (four_words ++ (0 ∷ 5 ∷ []))) ≡ refuse 6 147 0
  -- an out coin in its domain by b = c = d = 0 and a, at its first word; outside by d = 1; a later word is no coin
  pub in_domain : deciding edition1 (set (set four_words 116 196396260) 119 0) ≡ refuse 7 116 0
  pub outside_by_d : deciding edition1 (set (set four_words 116 196396260) 119 1) ≡ refuse 9 0 4
  pub later_word : deciding edition1 (set (set (set four_words 112 0) 113 196396260) 115 0) ≡ refuse 9 0 4
  pub later_word_begins : deciding edition1 (set (set (set (set (set (set four_words 112 3) 115 196396260) 116 0) 117 0) 118 0) 119 5) ≡ refuse 9 0 4
  -- two equal out coins, at the first word of the second; coins that agree in a first word alone, or in three words, are different
  pub equal : deciding edition1 (set four_words 119 1) ≡ refuse 14 116 0
  pub first_words_alike : deciding edition1 (set (set (set four_words 117 9) 118 9) 119 9) ≡ refuse 9 0 4
  pub equal_2 : deciding edition2 (set four_words_2 125 1) ≡ refuse 14 122 0
  pub in_domain_2 : deciding edition2 (set (set four_words_2 122 196396260) 125 0) ≡ refuse 7 122 0
  -- an out coin that is a shift point: a reply that differs from the fold clashes
  pub clash : deciding edition1 (set (set four_words 112 1592366214) 115 0) ≡ refuse 8 1 2
  -- a wrong word: of a reply, of table 0, of the final coefficients
  pub reply_wrong : deciding edition1 (set four_words 123 44936) ≡ refuse 9 0 4
  pub table_0_wrong : deciding edition1 (set four_words 15 1390940387) ≡ refuse 9 0 4
  pub final_wrong : deciding edition1 (set four_words 144 1085614439) ≡ refuse 9 0 4
  -- the converter, there and back; edition 2 with another folding number has no place in edition 1
  pub forth : to_edition2 (file_of four_words) (replicate 1024 7) ≡ record { answer = done 2; output = file_of (take 12 four_words ++ (2 ∷ 0 ∷ 0 ∷ 0 ∷ 0 ∷ 2 ∷ drop 12 four_words)) }
  pub back : to_edition1 (file_of (take 12 four_words ++ (2 ∷ 0 ∷ 0 ∷ 0 ∷ 0 ∷ 2 ∷ drop 12 four_words))) (replicate 1024 7) ≡ record { answer = done 2; output = file_of four_words }
  pub no_way_back : to_edition1 (file_of four_words_2) (replicate 1024 7) ≡ kept 13 1 (replicate 1024 7)
  pub forth_short : to_edition2 (file_of four_words) (replicate 1023 7) ≡ kept 11 2 (replicate 1023 7)

pub field3_cases : Field3Cases
unfolding definitions range
field3_cases = record {
  sum = refl;
  difference = refl;
  fourth_power = refl;
  product = refl;
  product_large = refl;
  power_0 = refl;
  power_5 = refl;
  power_turns = refl;
  inverse = refl;
  inverse_of_X = refl;
  inverse_of_0 = refl;
  size_1024 = refl;
  size_2048 = refl;
  size_1024_2 = refl;
  size_2048_2 = refl;
  size_2048_field_2 = refl;
  words_due_case = refl;
  words_due_2 = refl;
  encode_done = refl;
  encode_short = refl;
  encode_few = refl;
  encode_range = refl;
  stream_small = refl;
  stream = refl;
  stream_2 = refl;
  prove_few = refl;
  prove_coins = refl;
  prove_short = refl;
  prove_in_domain = refl;
  prove_equal = refl;
  prove_equal_2 = refl;
  accepted_1 = refl;
  accepted_2 = refl;
  out_of_range = refl;
  fill_wrong = refl;
  in_domain = refl;
  outside_by_d = refl;
  later_word = refl;
  later_word_begins = refl;
  equal = refl;
  first_words_alike = refl;
  equal_2 = refl;
  in_domain_2 = refl;
  clash = refl;
  reply_wrong = refl;
  table_0_wrong = refl;
  final_wrong = refl;
  forth = refl;
  back = refl;
  no_way_back = refl;
  forth_short = refl;
}
