-- What the functions ask: both are of at most 8 parts, each with a bound from 1 to d (document 02, CR 9).
use Rattle.std.specs.Prelude.{ℕ, ◌*◌, ◌≤◌, List, ◌≡◌, length}
use Rattle.batch_definition.specs.Batch.{sum_of}
use Rattle.domain.specs.Powers.{Powers}
use Rattle.list_laws.specs.All.{All}
use Rattle.spelling.specs.ByField.{elements_at, words_at}
use Rattle.tables.specs.Halving.{Halves}

pub record Bounded (d : ℕ) (bounds : List ℕ) : Type 0 where
  pub each : All (λ b. (1 ≤ b) × (b ≤ d)) bounds
  pub few : length bounds ≤ 8

-- what one table takes: pw holds the points of domain 0, which are the powers of a root; a list of d coefficients has a table over them, and there are places
-- for the list, for its table and for the values
pub record Tabled (field d : ℕ) (pw list multipliers out : List ℕ) : Type 0 where
  pub root : ℕ
  pub powers : Powers field root pw
  pub halves : Halves d (length pw)
  pub degree : length (elements_at field list) ≡ d
  pub room : length multipliers ≡ words_at field (length pw)
  pub whole : length out ≡ words_at field (length pw)
  pub small : length out ≤ 4096

-- the tables are there
abbrev pub TablesFit : ℕ → List ℕ → List ℕ → List ℕ → Type 0
TablesFit field bounds pw tables = length bounds * length pw ≤ length (elements_at field tables)

-- the coefficients of all parts are there, and places for d coefficients, twice
pub record Parted (field d : ℕ) (bounds f scratch out : List ℕ) : Type 0 where
  pub bounded : Bounded d bounds
  pub coefficients : length (elements_at field f) ≡ sum_of bounds
  pub room : length (elements_at field scratch) ≡ d
  pub whole : length (elements_at field out) ≡ d
  pub small : d ≤ 4096
