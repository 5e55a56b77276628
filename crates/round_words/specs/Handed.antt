-- What the code needs to work out the level's function, and what G of the next round, what the next table is corrected by and the final difference are, in the words:
-- lists of words spell elements of the sheet's field.
use Rattle.std.specs.Prelude.{ℕ, ◌+◌, ◌/◌, ◌≤◌, ◌≡◌, List, map, length}
use Rattle.std.proofs.Math.Option.{Option}
use Rattle.definition.specs.Field.{Element, elements_in, number_in}
use Rattle.definition.specs.Polynomial.{Sample}
use Rattle.definition.specs.Sheet.{Sheet}
use Rattle.layouts.specs.Levels.{sheet_field, words_for}
use Rattle.lists.specs.Correcting.{CorrectingOver}
use Rattle.fractions.specs.declared.Oracle.{Oracle}
use Rattle.fractions.specs.Values.{Fits}
use Rattle.rounds.specs.RoundLaws.{AnsweredOver, ComparedOver}
use Rattle.level_words.specs.declared.State.{State}
use Rattle.level_words.specs.State.{coefficients_of, finals_of, current_fold, current_table, next_combination, next_outs, next_replies, next_shifts}

-- What the code needs to work out the level's function: its table is in the words, and the roots of shift points and their points are in the tables. The numbers
-- are those of points, and of the words for A, and for V and the geometric sum.
pub record TableInside (h : Sheet) (w : List ℕ) (points answers factors : ℕ) (st : State) (oracle : Oracle) : Type 0 where
  pub few : h.out_coins ≤ 2
  pub table : st.table + words_for h st.size ≤ length w
  pub fits : Fits points st.size oracle (current_fold h st)
  pub in_answers : answers ≡ words_for h 66
  pub in_factors : factors ≡ words_for h 132
  pub step : oracle.step ≡ st.size / current_fold h st

-- the points of domain 0, as elements
abbrev pub sheet_points : (h : Sheet) → List ℕ → List (Element h.spelling)
sheet_points h pw = map (number_in h.spelling) pw

-- g is G of the next round, for every ω and function that the words in hand are those of
abbrev pub NextSamples : (h : Sheet) → List ℕ → List ℕ → List ℕ → List ℕ → State → Element h.spelling → Oracle → Option (List (Sample (Element h.spelling))) → Type 0
NextSamples h w pw ac vg st r oracle g =
    AnsweredOver (sheet_field h) (sheet_points h pw) (elements_in h.spelling (current_table h w st)) (elements_in h.spelling ac) (elements_in h.spelling vg)
    oracle (current_fold h st) r (next_shifts h w st) (elements_in h.spelling (next_outs h w st)) (elements_in h.spelling (next_replies h w st)) g

-- the next table is corrected by the first n elements of ac and of both parts of vg, where g has the round's samples
abbrev pub NextCorrecting : (h : Sheet) → List ℕ → State → List (Sample (Element h.spelling)) → ℕ → List ℕ → List ℕ → Type 0
NextCorrecting h w st g n ac vg = CorrectingOver (sheet_field h) g (next_combination h w st) n (elements_in h.spelling ac) (elements_in h.spelling vg)

-- v is the place of the first final index at which the final polynomial differs, for every ω and function that the words in hand are those of
abbrev pub Differing : (h : Sheet) → List ℕ → List ℕ → List ℕ → List ℕ → State → Element h.spelling → Oracle → Option ℕ → Type 0
Differing h w pw ac vg st r oracle v =
    ComparedOver (sheet_field h) (sheet_points h pw) (elements_in h.spelling (current_table h w st)) (elements_in h.spelling ac) (elements_in h.spelling vg)
    oracle (current_fold h st) r (elements_in h.spelling (coefficients_of h w st)) (finals_of h w st) v
