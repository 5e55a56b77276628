-- Fields 1 and 2 (01, Fields and the sheet): a round of the prover and of the judge in each, on elements that nearly fill a word, by computation.
use Rattle.std.specs.Prelude.{ℕ, ◌≡◌, refl, List, [], ◌∷◌, set}
use Rattle.definition.specs.Sheet.{edition1}
use Rattle.definition.specs.Block.{file_of}
use Rattle.definition.specs.Verify.{verify}
use Rattle.definition.specs.Prover.{honest_stream}
use Rattle.definition.specs.WorkedTranscript.{accept, refuse, definitions}

-- Field 1 with k = 2. The stream has 47 words: sheet 0 to 11; table 0 12 to 27; fold coin 28; table 1 29 to 36; out coin 37, reply 38, combination and fold
-- coin 39 40, shift indices 41 42; final coefficients 43 44; final indices 45 46.
abbrev pub sheet₁ : List ℕ
sheet₁ = 1 ∷ 16 ∷ 8 ∷ 2 ∷ 1 ∷ 1 ∷ 2 ∷ 2 ∷ 0 ∷ 0 ∷ 0 ∷ 0 ∷ []

abbrev pub coefficients₁ : List ℕ
coefficients₁ = 1 ∷ 20 ∷ 300 ∷ 4000 ∷ 50000 ∷ 65536 ∷ 7 ∷ 8 ∷ []

abbrev pub coins₁ : List ℕ
coins₁ = 65535 ∷ 0 ∷ 40000 ∷ 50001 ∷ 3 ∷ 6 ∷ 1 ∷ 2 ∷ []

abbrev pub stream₁ : List ℕ
stream₁ =
    1 ∷ 16 ∷ 8 ∷ 2 ∷ 1 ∷ 1 ∷ 2 ∷ 2 ∷ 0 ∷ 0 ∷ 0 ∷ 0
    ∷ 38818 ∷ 24881 ∷ 60852 ∷ 22286 ∷ 28875 ∷ 57864 ∷ 8810 ∷ 46281 ∷ 19106 ∷ 52790 ∷ 46664 ∷ 11565 ∷ 28676 ∷ 57691 ∷ 30355 ∷ 54335
    ∷ 65535
    ∷ 36560 ∷ 44925 ∷ 2185 ∷ 47932 ∷ 39033 ∷ 47710 ∷ 53140 ∷ 55888
    ∷ 0 ∷ 65498 ∷ 40000 ∷ 50001 ∷ 3 ∷ 6
    ∷ 32411 ∷ 54615
    ∷ 1 ∷ 2 ∷ []

-- Field 2 with k = 4. The stream has 70 words: sheet 0 to 11; table 0 12 to 43; fold coin 44; table 1 45 to 60; out coin 61, reply 62, combination and fold
-- coin 63 64, shift indices 65 66; final coefficient 67; final indices 68 69.
abbrev pub sheet₂ : List ℕ
sheet₂ = 2 ∷ 32 ∷ 16 ∷ 4 ∷ 1 ∷ 1 ∷ 2 ∷ 2 ∷ 0 ∷ 0 ∷ 0 ∷ 0 ∷ []

abbrev pub coefficients₂ : List ℕ
coefficients₂ = 1 ∷ 2 ∷ 3 ∷ 4 ∷ 5 ∷ 6 ∷ 7 ∷ 8 ∷ 2013265920 ∷ 2000000000 ∷ 1000000000 ∷ 12 ∷ 13 ∷ 14 ∷ 15 ∷ 16 ∷ []

abbrev pub coins₂ : List ℕ
coins₂ = 2013265919 ∷ 1234567890 ∷ 987654321 ∷ 2000000001 ∷ 3 ∷ 5 ∷ 1 ∷ 2 ∷ []

abbrev pub stream₂ : List ℕ
stream₂ =
    2 ∷ 32 ∷ 16 ∷ 4 ∷ 1 ∷ 1 ∷ 2 ∷ 2 ∷ 0 ∷ 0 ∷ 0 ∷ 0
    ∷ 389795458 ∷ 68447790 ∷ 1458334843 ∷ 1827330067 ∷ 1488366047 ∷ 1651870645 ∷ 1707404597 ∷ 583351159
    ∷ 1611074225 ∷ 767208572 ∷ 1946244598 ∷ 36805909 ∷ 397584134 ∷ 722621767 ∷ 732464314 ∷ 1013265902
    ∷ 658905420 ∷ 231936385 ∷ 42722487 ∷ 1426717381 ∷ 165563976 ∷ 1700697723 ∷ 562280827 ∷ 1443180669
    ∷ 1071282481 ∷ 2008174554 ∷ 1920122612 ∷ 735678413 ∷ 522851373 ∷ 902106264 ∷ 1431129992 ∷ 986734184
    ∷ 2013265919
    ∷ 316112451 ∷ 69971009 ∷ 474456061 ∷ 1524418204 ∷ 1680988329 ∷ 250906900 ∷ 724648474 ∷ 288576930
    ∷ 1848331483 ∷ 720671113 ∷ 1675502057 ∷ 1811093301 ∷ 181099487 ∷ 971716807 ∷ 1151925158 ∷ 402443315
    ∷ 1234567890 ∷ 1677117779 ∷ 987654321 ∷ 2000000001 ∷ 3 ∷ 5
    ∷ 1507071305
    ∷ 1 ∷ 2 ∷ []

pub record LargeFieldCases : Type 0 where
  -- the prover's stream is accepted with all reads; a wrong final coefficient, and a wrong word of table 0 that a shift coin reads, are refused
  pub stream_1 : honest_stream edition1 sheet₁ coefficients₁ coins₁ ≡ stream₁
  pub accepts_1 : verify (file_of stream₁) ≡ accept 8
  pub final_wrong_1 : verify (file_of (set stream₁ 43 32412)) ≡ refuse 9 0 6
  pub table_0_wrong_1 : verify (file_of (set stream₁ 15 22287)) ≡ refuse 9 0 6
  pub stream_2 : honest_stream edition1 sheet₂ coefficients₂ coins₂ ≡ stream₂
  pub accepts_2 : verify (file_of stream₂) ≡ accept 16
  pub final_wrong_2 : verify (file_of (set stream₂ 67 1507071306)) ≡ refuse 9 0 12
  pub table_0_wrong_2 : verify (file_of (set stream₂ 15 1827330068)) ≡ refuse 9 0 12

pub large_field_cases : LargeFieldCases
unfolding definitions
large_field_cases = record {
  stream_1 = refl;
  accepts_1 = refl;
  final_wrong_1 = refl;
  table_0_wrong_1 = refl;
  stream_2 = refl;
  accepts_2 = refl;
  final_wrong_2 = refl;
  table_0_wrong_2 = refl;
}
