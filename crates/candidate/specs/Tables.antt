-- The candidate for a table over the points pw, and the polynomials that the decoder starts with.
use Rattle.std.specs.Prelude.{ℕ, ◌+◌, ◌-◌, ◌/◌, ◌≤◌, ◌<◌, ◌≡◌, List, map, length, get_or, replicate}
use Rattle.std.proofs.Math.Option.{Option, some}
use Rattle.definition.specs.Field.{field_of, power}
use Rattle.definition.specs.Lists.{range}
use Rattle.definition.specs.Polynomial.{evaluate}
use Rattle.algebra.specs.PrimeField.{laws}
use Rattle.algebra.specs.Coefficients.{Elements}
use Rattle.decoding.specs.Errors.{wrong_at}
use Rattle.domain.specs.Powers.{Powers}
use Rattle.tables.specs.Halving.{Halves}

-- entry i of the products of points and values, taken from the last to the first
abbrev pub backwards : ℕ → List ℕ → List ℕ → ℕ → ℕ
backwards field pw values i = (field_of field).◌⊗◌ (get_or pw (length pw - 1 - i) 0) (get_or values (length pw - 1 - i) 0)

-- n times the polynomial through the table's entries, by its coefficients
abbrev pub Through : ℕ → List ℕ → List ℕ → List ℕ → Type 0
Through field pw table out = (ω : ℕ) → Powers field ω pw →
    out ≡ map (λ i. (field_of field).◌⊗◌ (power (field_of field) ω (length pw - i)) (evaluate (field_of field) table (power (field_of field) ω (length pw - i)))) (range 0 (length pw))

-- n points and d coefficients, both even, n a power of two
pub record Sized (n d : ℕ) : Type 0 where
  pub halves : Halves n n
  pub two : 1 < n
  pub small : n ≤ 4096
  pub some : 0 < d
  pub fewer : d < n
  pub even : d + ((n - d) / 2 + (n - d) / 2) ≡ n

-- the places that the decoder is lent
pub record Places (n d : ℕ) (s w t v : List ℕ) : Type 0 where
  pub for_s : length s ≡ n + 1
  pub for_w : w ≡ replicate ((n - d) / 2 + 1) 0
  pub for_t : length t ≡ n
  pub for_v : v ≡ replicate ((n - d) / 2 + 1) 0

-- THE CANDIDATE: a polynomial with d coefficients that differs from the table in at most (n - d)/2 points is what was found
abbrev pub Candidate : ℕ → List ℕ → List ℕ → ℕ → Option (List ℕ) → Type 0
Candidate field pw table d o = (ω : ℕ) → Powers field ω pw → (f : List ℕ) → length f ≡ d → Elements (field_of field) (laws field) f →
    length (wrong_at (field_of field) pw table f) ≤ (length pw - d) / 2 → o ≡ some f
