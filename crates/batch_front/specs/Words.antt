-- The words of a batch's tables, and what the functions that write them ask.
use Rattle.std.specs.Prelude.{ℕ, ◌≤◌, ◌≡◌, length}
use mathlib.Core.List.{List, flat_map}
use Rattle.batch_definition.specs.Batch.{batch_test, cut_by, sum_of}
use Rattle.definition.specs.Field.{Element, words_of}
use Rattle.definition.specs.Prover.{table_of}
use Rattle.definition.specs.Reading.{sheet_test}
use Rattle.definition.specs.Sheet.{Sheet, edition1, first_level, sheet_of}
use Rattle.definition.specs.Verdict.{accepted}
use Rattle.layouts.specs.Levels.{sheet_field, sheet_root, words_for}

-- the words of the tables of polynomials whose coefficients stand one after the other
abbrev pub tables_of : (h : Sheet) → List ℕ → List (Element h.spelling) → List ℕ
tables_of h bounds f = flat_map (λ p. words_of h.spelling (table_of (sheet_field h) (sheet_root h) (first_level h) p)) (cut_by bounds f)

-- a sheet without a broken rule, bounds without one, and as many coefficients as they say
pub record Ordered (w bounds f : List ℕ) : Type 0 where
  pub long : 12 ≤ length w
  pub passed : sheet_test edition1 w ≡ accepted
  pub ruled : batch_test (sheet_of edition1 w) (length bounds) bounds ≡ accepted
  pub count : length f ≡ words_for (sheet_of edition1 w) (sum_of bounds)
