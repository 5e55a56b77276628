-- The load (02, CR 2 and 6), by computation.
use Rattle.std.specs.Prelude.{◌≡◌, refl, [], ◌∷◌, map, get_or}
use Rattle.std.proofs.Math.Option.{none, some}
use Rattle.definition.specs.Field.{one}
use Rattle.definition.specs.Line.{decimal_within, decimal, outcome_text, line_of, refusal_line}
use Rattle.definition.specs.Load.{step, draw_below, keep, permits, candidates, permitted, worked_sheet, draw_words, draw_sheet, not_allowed, smallest_allowed, undrawn, draw_out, draw_kind, draw_kinds, draw_input, drawn_inputs, verdict_on, load_lines, seed_of, load_output}
use Rattle.definition.specs.Layout.{out}
use Rattle.definition.specs.Sheet.{edition1, Level, sheet_of}
use Rattle.definition.specs.WorkedTranscript.{definitions, accept, refuse, sheet_words}

unfoldable pub load_definitions : Unit {0}
unfolding definitions step draw_below keep permits candidates permitted draw_words draw_sheet not_allowed smallest_allowed undrawn draw_out draw_kind draw_kinds draw_input drawn_inputs verdict_on decimal_within decimal outcome_text line_of refusal_line load_lines seed_of load_output
load_definitions = tt

-- round 1 of the worked sheet
abbrev round : Level
round = record { number = 1; size = 8; degree = 4; fold = 2; repetitions = 1 }

pub record LoadCases : Type 0 where
  -- the generator: 0 stays, and seed 1 gives 270369 first
  pub step_0 : step 0 ≡ 0
  pub step_1 : step 1 ≡ 270369
  pub step_270369 : step 270369 ≡ 67634689
  pub step_largest : step 4294967295 ≡ 253983
  -- seed bytes: missing ones are 0, later ones are not looked at
  pub seed_none : seed_of [] ≡ 0
  pub seed_two : seed_of (1 ∷ 2 ∷ []) ≡ 513
  pub seed_five : seed_of (1 ∷ 0 ∷ 0 ∷ 1 ∷ 9 ∷ []) ≡ 16777217
  -- seed 0: one line
  pub seed_0 : load_output [] ≡ 114 ∷ 101 ∷ 102 ∷ 117 ∷ 115 ∷ 101 ∷ 100 ∷ 32 ∷ 49 ∷ 50 ∷ 32 ∷ 48 ∷ 32 ∷ 48 ∷ 10 ∷ []
  -- numbers in base ten, and lines
  pub decimal_0 : decimal 0 ≡ 48 ∷ []
  pub decimal_9 : decimal 9 ≡ 57 ∷ []
  pub decimal_10 : decimal 10 ≡ 49 ∷ 48 ∷ []
  pub decimal_largest : decimal_within 10 4294967295 ≡ 52 ∷ 50 ∷ 57 ∷ 52 ∷ 57 ∷ 54 ∷ 55 ∷ 50 ∷ 57 ∷ 53 ∷ []
  pub line_accepted : line_of (accept 4) ≡ 97 ∷ 99 ∷ 99 ∷ 101 ∷ 112 ∷ 116 ∷ 101 ∷ 100 ∷ 32 ∷ 48 ∷ 32 ∷ 48 ∷ 32 ∷ 52 ∷ 10 ∷ []
  pub line_refused : line_of (refuse 9 10 1536) ≡ 114 ∷ 101 ∷ 102 ∷ 117 ∷ 115 ∷ 101 ∷ 100 ∷ 32 ∷ 57 ∷ 32 ∷ 49 ∷ 48 ∷ 32 ∷ 49 ∷ 53 ∷ 51 ∷ 54 ∷ 10 ∷ []
  pub line_of_refusal : refusal_line 10 0 ≡ 114 ∷ 101 ∷ 102 ∷ 117 ∷ 115 ∷ 101 ∷ 100 ∷ 32 ∷ 49 ∷ 48 ∷ 32 ∷ 48 ∷ 10 ∷ []
  -- permitted values: of the field, of n0 in fields 0 and 2, of t_0 where none is left, of t_1 past M
  pub permitted_field : permitted [] ≡ 0 ∷ 1 ∷ 2 ∷ []
  pub permitted_n0 : permitted (0 ∷ []) ≡ 4 ∷ 8 ∷ 16 ∷ []
  pub permitted_n0_field_2 : permitted (2 ∷ []) ≡ 4 ∷ 8 ∷ 16 ∷ 32 ∷ 64 ∷ 128 ∷ 256 ∷ 512 ∷ 1024 ∷ 2048 ∷ 4096 ∷ []
  pub permitted_t0_none : permitted (0 ∷ 16 ∷ 4 ∷ 2 ∷ 1 ∷ 1 ∷ []) ≡ []
  pub permitted_past : permitted (0 ∷ 4 ∷ 2 ∷ 2 ∷ 0 ∷ 1 ∷ 1 ∷ []) ≡ 0 ∷ []
  -- the worked sheet, that of the transcript by hand
  pub sheet_worked : worked_sheet ≡ sheet_words
  -- an out coin of the worked sheet's round 1: the first draw, 3, lies in domain 1, and the second, 8, does not; after an out coin 8 it is
  -- drawn again twice more, since 5 lies in domain 1 too
  pub again : draw_kind (sheet_of edition1 sheet_words) none (out round) 3 ≡ record { value = 8; next = 201886211 }
  pub again_second : draw_kind (sheet_of edition1 sheet_words) (some 8) (out round) 3 ≡ record { value = 15; next = 1909268553 }
  -- with no draw left a first one is 0, and a second one the smallest element allowed, 1 after 0
  pub none_left : draw_out (sheet_of edition1 sheet_words) none (out round) 0 3 ≡ record { value = 0; next = 811107 }
  pub none_left_second : draw_out (sheet_of edition1 sheet_words) (some 8) (out round) 0 811107 ≡ record { value = 0; next = 201886211 }
  pub none_left_after_0 : draw_out (sheet_of edition1 sheet_words) (some 0) (out round) 0 3 ≡ record { value = 1; next = 811107 }
  -- where 1 is in the domain, as on no sheet, the smallest after 0 is 2
  pub smallest_2 : smallest_allowed (record { spelling = one; prime = 17; generator = 1; size = 16; degree = 8; folds = []; out_coins = 2; repetitions = [] }) (some 0) (out round) ≡ 2
  -- modulo 2, with the domain of 1 alone, a draw after 0 lies in the domain or is 0 again, and both count: one draw and 64 more, which is 65
  -- steps
  pub again_64_both : draw_kind (record { spelling = one; prime = 2; generator = 1; size = 2; degree = 2; folds = []; out_coins = 2; repetitions = [] }) (some 0) (out round) 1
      ≡ record { value = 0; next = 244103520 }
  -- a run drawn from 849, and one from 6, which falls back to the worked sheet; one from 56080, whose second out coin was equal to the first
  -- when first drawn, then in the domain; two runs on one generator
  pub input_849 : draw_input 849 ≡ record {
    value = record {
      sheet = 0 ∷ 16 ∷ 8 ∷ 2 ∷ 1 ∷ 1 ∷ 1 ∷ 10 ∷ 0 ∷ 0 ∷ 0 ∷ 0 ∷ [];
      coefficients = 2 ∷ 14 ∷ 2 ∷ 11 ∷ 15 ∷ 7 ∷ 15 ∷ 4 ∷ [];
      coins = 0 ∷ 2 ∷ 1 ∷ 16 ∷ 0 ∷ 1 ∷ 0 ∷ 3 ∷ 1 ∷ 1 ∷ 0 ∷ 0 ∷ 1 ∷ 0 ∷ 3 ∷ [];
    };
    next = 2168865843;
  }
  pub input_6 : draw_input 6 ≡ record {
    value = record {
      sheet = 0 ∷ 16 ∷ 8 ∷ 2 ∷ 1 ∷ 1 ∷ 1 ∷ 1 ∷ 0 ∷ 0 ∷ 0 ∷ 0 ∷ [];
      coefficients = 0 ∷ 9 ∷ 0 ∷ 0 ∷ 0 ∷ 3 ∷ 9 ∷ 3 ∷ [];
      coins = 11 ∷ 9 ∷ 8 ∷ 12 ∷ 0 ∷ 3 ∷ [];
    };
    next = 509620375;
  }
  pub input_56080 : draw_input 56080 ≡ record {
    value = record {
      sheet = 0 ∷ 16 ∷ 8 ∷ 2 ∷ 1 ∷ 2 ∷ 1 ∷ 2 ∷ 0 ∷ 0 ∷ 0 ∷ 0 ∷ [];
      coefficients = 8 ∷ 10 ∷ 2 ∷ 11 ∷ 10 ∷ 6 ∷ 1 ∷ 9 ∷ [];
      coins = 9 ∷ 16 ∷ 8 ∷ 15 ∷ 10 ∷ 6 ∷ 1 ∷ 0 ∷ [];
    };
    next = 1591568000;
  }
  pub sheets_6 : map (λ o. o.sheet) (drawn_inputs 2 6)
      ≡ (0 ∷ 16 ∷ 8 ∷ 2 ∷ 1 ∷ 1 ∷ 1 ∷ 1 ∷ 0 ∷ 0 ∷ 0 ∷ 0 ∷ []) ∷ (0 ∷ 8 ∷ 4 ∷ 4 ∷ 0 ∷ 2 ∷ 3 ∷ 0 ∷ 0 ∷ 0 ∷ 0 ∷ 0 ∷ []) ∷ []
  -- the lines of the first two runs of a load, each with the reads of its own file; both runs have the smallest sheet, with t_0 = 1 and with t_0 = 2
  pub line_0 : get_or (load_lines 172308939) 0 [] ≡ line_of (accept 2)
  pub line_1 : get_or (load_lines 172308939) 1 [] ≡ line_of (accept 4)

pub load_cases : LoadCases
unfolding load_definitions
load_cases = record {
  step_0 = refl;
  step_1 = refl;
  step_270369 = refl;
  step_largest = refl;
  seed_none = refl;
  seed_two = refl;
  seed_five = refl;
  seed_0 = refl;
  decimal_0 = refl;
  decimal_9 = refl;
  decimal_10 = refl;
  decimal_largest = refl;
  line_accepted = refl;
  line_refused = refl;
  line_of_refusal = refl;
  permitted_field = refl;
  permitted_n0 = refl;
  permitted_n0_field_2 = refl;
  permitted_t0_none = refl;
  permitted_past = refl;
  sheet_worked = refl;
  again = refl;
  again_second = refl;
  none_left = refl;
  none_left_second = refl;
  none_left_after_0 = refl;
  smallest_2 = refl;
  again_64_both = refl;
  input_849 = refl;
  input_6 = refl;
  input_56080 = refl;
  sheets_6 = refl;
  line_0 = refl;
  line_1 = refl;
}
