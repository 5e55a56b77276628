-- Where the elements of two lists of words differ, and what is answered of a polynomial that may be near to a table.
use Rattle.std.specs.Prelude.{ℕ, ◌^◌, ◌≡◌, cond, List, ◌∷◌, ◌++◌, length}
use Rattle.definition.specs.Field.{Element, Field, Spelling, number_in, spelling_of, words_of}
use Rattle.definition.specs.Sheet.{Level}
use Rattle.definition.specs.Verdict.{accepted, refused}
use Rattle.definition.specs.Prover.{table_of}
use Rattle.definition.specs.Prove.{Answer, Result, finish}
use Rattle.nearest_definition.specs.Nearest.{differing_points, near}
use Rattle.spelling.specs.ByField.{elements_at, field_at}
use Rattle.domain.specs.Powers.{Powers}

-- the numbers of the places where the elements of two lists of words differ, in rising order
abbrev pub unlike_at : ℕ → List ℕ → List ℕ → List ℕ
unlike_at field xs ys = differing_points (field_at field) (elements_at field xs) (elements_at field ys)

module _ (σ : Spelling) (F : Field (Element σ)) (ω : Element σ) (l : Level) (table f : List (Element σ)) where
  -- the words written if f is near: the coefficients, the count, the numbers
  unfoldable pub reported : List ℕ
  reported = words_of σ f ++ length (differing_points F (table_of F ω l f) table) ∷ differing_points F (table_of F ω l f) table

  -- the answer and the output, of f alone
  unfoldable pub conclusion : List ℕ → Result
  conclusion output = finish (cond (near F ω l (length f) table f) accepted (refused 19 0)) (length reported) reported output

-- a and after are these, for each domain 0 that pw is the table of
abbrev pub Concluded : ℕ → List ℕ → List ℕ → List ℕ → List ℕ → Answer → List ℕ → Type 0
Concluded field pw table f output a after =
    (ω : ℕ) (l : Level) → Powers field ω pw → 2 ^ l.number ≡ 1 → l.size ≡ length pw →
    let r = conclusion (spelling_of field) (field_at field) (number_in (spelling_of field) ω) l (elements_at field table) (elements_at field f) output in
    (a ≡ r.answer) × (after ≡ r.output)
