-- What the programs print: a verdict as a line of text (01, A transcript by hand), in ASCII.
use Rattle.std.specs.Prelude.{ℕ, zero, suc, ◌+◌, ◌/◌, ◌%◌, cond, List, [], ◌∷◌, ◌++◌, ltb}
use Rattle.definition.specs.Verdict.{Outcome, accepted, refused, Verdict}

-- n in base ten, the most significant digit first and no zero in front of another digit; `most` is no less than the number of digits
unfoldable pub decimal_within : ℕ → ℕ → List ℕ
decimal_within zero n = []
decimal_within (suc most) n = cond (ltb n 10) ((48 + n) ∷ []) (decimal_within most (n / 10) ++ ((48 + n % 10) ∷ []))

unfoldable pub decimal : ℕ → List ℕ
decimal n = decimal_within (suc n) n

-- `accepted 0 0`, or `refused`, number and place
unfoldable pub outcome_text : Outcome → List ℕ
outcome_text accepted = 97 ∷ 99 ∷ 99 ∷ 101 ∷ 112 ∷ 116 ∷ 101 ∷ 100 ∷ 32 ∷ 48 ∷ 32 ∷ 48 ∷ []
outcome_text (refused number place) = (114 ∷ 101 ∷ 102 ∷ 117 ∷ 115 ∷ 101 ∷ 100 ∷ 32 ∷ []) ++ (decimal number ++ (32 ∷ decimal place))

-- A verdict's line: outcome, number, place, reads and a line end.
unfoldable pub line_of : Verdict → List ℕ
line_of v = outcome_text v.outcome ++ (32 ∷ (decimal v.reads ++ (10 ∷ [])))

-- A refusal's line, of the programs that print no verdict: number, place and a line end.
unfoldable pub refusal_line : ℕ → ℕ → List ℕ
refusal_line number place = outcome_text (refused number place) ++ (10 ∷ [])
