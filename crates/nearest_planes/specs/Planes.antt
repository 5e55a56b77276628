-- Planes of words that spell elements of four words, and the candidates of a table's four planes.
use Rattle.std.specs.Prelude.{ℕ, Bool, true, false, ◌+◌, ◌*◌, ◌<◌, List, map, length, get_or}
use Rattle.std.proofs.Math.Option.{none, some}
use Rattle.definition.specs.Field.{field_of}
use Rattle.definition.specs.Lists.{range}
use Rattle.algebra.specs.PrimeField.{laws}
use Rattle.algebra.specs.Coefficients.{Elements}
use Rattle.candidate.specs.Tables.{Candidate}

-- word k of each of n elements
unfoldable pub plane : ℕ → ℕ → List ℕ → List ℕ
plane k n w = map (λ i. get_or w (4 * i + k) 0) (range 0 n)

-- found: each plane of out is the candidate of that plane of the table, and has elements; nothing: one plane of the table has none
abbrev pub FourCandidates : ℕ → List ℕ → List ℕ → ℕ → List ℕ → Bool → Type 0
FourCandidates field pw table d out true =
    (k : ℕ) → k < 4 → Candidate field pw (plane k (length pw) table) d (some (plane k d out)) × Elements (field_of field) (laws field) (plane k d out)
FourCandidates field pw table d out false = (k : ℕ) × ((k < 4) × Candidate field pw (plane k (length pw) table) d none)
