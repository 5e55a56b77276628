-- The answer and the output after a search through all polynomials, over a domain and for a sheet.
use Rattle.std.specs.Prelude.{ℕ, ◌^◌, ◌≡◌, List, [], length}
use Rattle.std.proofs.Math.Option.{Option, none, some}
use Rattle.definition.specs.Field.{Element, Field, Spelling, number_in, prime_of, spelling_of}
use Rattle.definition.specs.Sheet.{Level, Sheet}
use Rattle.definition.specs.Prove.{Answer, Result, finish}
use Rattle.nearest_definition.specs.Nearest.{all_elements, found_test, nearest_of, nearest_to, nearest_words}
use Rattle.spelling.specs.ByField.{elements_at, field_at}
use Rattle.domain.specs.Powers.{Powers}
use Rattle.closest.specs.Report.{reported}

module _ (σ : Spelling) (F : Field (Element σ)) (ω : Element σ) (l : Level) (table : List (Element σ)) where
  -- the words written of what was found
  unfoldable pub found_words : Option (List (Element σ)) → List ℕ
  found_words none = []
  found_words (some f) = reported σ F ω l table f

  unfoldable pub searched : Option (List (Element σ)) → List ℕ → Result
  searched o output = finish (found_test o) (length (found_words o)) (found_words o) output

-- the same of the definition's search through all polynomials, in the field of a number
abbrev pub searched_at : (field ω : ℕ) → Level → List ℕ → ℕ → List ℕ → Result
searched_at field ω l table d output =
    let σ = spelling_of field in
    let F = field_at field in
    searched σ F (number_in σ ω) l (elements_at field table) (nearest_of F (number_in σ ω) l (all_elements σ (prime_of field)) d (elements_at field table)) output

-- a and after are these, for each domain 0 that pw is the table of
abbrev pub Searched : ℕ → List ℕ → List ℕ → ℕ → List ℕ → Answer → List ℕ → Type 0
Searched field pw table d output a after =
    (ω : ℕ) (l : Level) → Powers field ω pw → 2 ^ l.number ≡ 1 → l.size ≡ length pw →
    (a ≡ (searched_at field ω l table d output).answer) × (after ≡ (searched_at field ω l table d output).output)

-- the same for a sheet
abbrev pub SearchedFor : Sheet → List ℕ → List ℕ → Answer → List ℕ → Type 0
SearchedFor h table output a after =
    let words = nearest_words h table (nearest_to h table) in
    let r = finish (found_test (nearest_to h table)) (length words) words output in
    (a ≡ r.answer) × (after ≡ r.output)
