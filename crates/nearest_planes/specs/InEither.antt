-- The decoder's candidate for a table, in either spelling.
use Rattle.std.specs.Prelude.{ℕ, Bool, true, false, ◌-◌, ◌/◌, ◌≤◌, ◌≡◌, List, map, length}
use Rattle.std.proofs.Math.Option.{Option, none, some}
use Rattle.definition.specs.Field.{Element, Spelling, elements_in, field_in, number_in, prime_of}
use Rattle.algebra.specs.FieldIn.{Below}
use Rattle.list_laws.specs.All.{All}
use Rattle.decoding.specs.Errors.{wrong_at}
use Rattle.domain.specs.Powers.{Powers}

-- the polynomial in the places lent, by its elements, or that there is none
unfoldable pub polynomial_in : (σ : Spelling) → Bool → List ℕ → Option (List (Element σ))
polynomial_in σ true out = some (elements_in σ out)
polynomial_in σ false out = none

-- what was found has d coefficients, each an element in range
abbrev pub InRange : (σ : Spelling) → ℕ → ℕ → Option (List (Element σ)) → Type 0
InRange σ p d o = (f : List (Element σ)) → o ≡ some f → (length f ≡ d) × All (Below σ p) f

-- THE CANDIDATE: a polynomial with d coefficients that differs from the table in at most (n - d)/2 points is what was found
abbrev pub CandidateIn : (σ : Spelling) → ℕ → List ℕ → List ℕ → ℕ → Option (List (Element σ)) → Type 0
CandidateIn σ field pw table d o =
    (ω : ℕ) → Powers field ω pw → (f : List (Element σ)) → length f ≡ d → All (Below σ (prime_of field)) f →
    length (wrong_at (field_in σ (prime_of field)) (map (number_in σ) pw) (elements_in σ table) f) ≤ (length pw - d) / 2 → o ≡ some f

-- both of what stands in the places lent
pub record FoundIn (σ : Spelling) (field : ℕ) (pw table : List ℕ) (d : ℕ) (r : Bool) (out : List ℕ) : Type 0 where
  pub candidate : CandidateIn σ field pw table d (polynomial_in σ r out)
  pub in_range : InRange σ (prime_of field) d (polynomial_in σ r out)
