-- What an operation answers, as numbers.
use Rattle.std.specs.Prelude.{ℕ, ◌≡◌}
use Rattle.std.proofs.Math.Option.{Option, none, some}
use Rattle.definition.specs.Verdict.{Outcome, Verdict, accepted, refused}
use Rattle.definition.specs.Prove.{Answer, done, refusal}
use Rattle.definition.specs.Field.{FieldAnswer, element, no_field, PowerAnswer, powered, in_no_field, InverseAnswer, found, no_inverse, unknown_field}

-- an outcome: 0 and 0 for accepted, else the fault's number and place
unfoldable pub number_of : Outcome → ℕ
number_of accepted = 0
number_of (refused number place) = number

unfoldable pub place_in : Outcome → ℕ
place_in accepted = 0
place_in (refused number place) = place

-- an answer to an order: 0 and the count where done, else the refusal's number and place
unfoldable pub refusal_of : Answer → ℕ
refusal_of (done count) = 0
refusal_of (refusal number place) = number

unfoldable pub value_of : Answer → ℕ
value_of (done count) = count
value_of (refusal number place) = place

-- A function below answers 0 and writes, or answers a reason and writes nothing: what is said of each number written is what stands in its place after the call,
-- by the answer and by what stood there before. The reasons are no refusals of the documents, and have numbers apart from theirs: 100 where a number names no
-- field, 101 where there is no inverse, 102 where the stream has no such word.

-- a word of the stream
unfoldable pub word_number : Option ℕ → ℕ
word_number none = 102
word_number (some word) = 0

unfoldable pub word_after : Option ℕ → ℕ → ℕ
word_after none before = before
word_after (some word) before = word

-- an element of a field
unfoldable pub element_number : FieldAnswer → ℕ
element_number no_field = 100
element_number (element x) = 0

unfoldable pub element_after : FieldAnswer → ℕ → ℕ
element_after no_field before = before
element_after (element x) before = x

-- a power and its turns, each with a place of its own
unfoldable pub power_number : PowerAnswer → ℕ
power_number in_no_field = 100
power_number (powered x turns) = 0

unfoldable pub power_after : PowerAnswer → ℕ → ℕ
power_after in_no_field before = before
power_after (powered x turns) before = x

unfoldable pub turns_after : PowerAnswer → ℕ → ℕ
turns_after in_no_field before = before
turns_after (powered x turns) before = turns

-- an inverse
unfoldable pub inverse_number : InverseAnswer → ℕ
inverse_number unknown_field = 100
inverse_number no_inverse = 101
inverse_number (found x) = 0

unfoldable pub inverse_after : InverseAnswer → ℕ → ℕ
inverse_after unknown_field before = before
inverse_after no_inverse before = before
inverse_after (found x) before = x

-- the numbers that are answered and written of each, together
abbrev pub OutcomeNumbers : Outcome → ℕ → ℕ → Type 0
OutcomeNumbers o number place = (number ≡ number_of o) × (place ≡ place_in o)

abbrev pub VerdictNumbers : Verdict → ℕ → ℕ → ℕ → Type 0
VerdictNumbers v number place reads = (number ≡ number_of v.outcome) × ((place ≡ place_in v.outcome) × (reads ≡ v.reads))

abbrev pub AnswerNumbers : Answer → ℕ → ℕ → Type 0
AnswerNumbers a number value = (number ≡ refusal_of a) × (value ≡ value_of a)

-- and of a function that may write nothing, where 0 stood before
abbrev pub WordNumbers : Option ℕ → ℕ → ℕ → Type 0
WordNumbers a number word = (number ≡ word_number a) × (word ≡ word_after a 0)

abbrev pub ElementNumbers : FieldAnswer → ℕ → ℕ → Type 0
ElementNumbers a number value = (number ≡ element_number a) × (value ≡ element_after a 0)

abbrev pub PowerNumbers : PowerAnswer → ℕ → ℕ → ℕ → Type 0
PowerNumbers a number value turns = (number ≡ power_number a) × ((value ≡ power_after a 0) × (turns ≡ turns_after a 0))

abbrev pub InverseNumbers : InverseAnswer → ℕ → ℕ → Type 0
InverseNumbers a number value = (number ≡ inverse_number a) × (value ≡ inverse_after a 0)
