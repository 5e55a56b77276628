-- The lines from a table of the points of domain 0: line i has every 2^i-th of them. They go by a sheet's words 0, 1 and 4, which have one meaning in both editions.
use Rattle.std.specs.Prelude.{ℕ, ◌*◌, ◌/◌, ◌^◌, ◌≤◌, ◌≡◌, length, get_or}
use mathlib.Core.List.{List, flat_map, map}
use Rattle.definition.specs.Lists.{range}
use Rattle.definition.specs.Reading.{sheet_test}
use Rattle.definition.specs.Sheet.{Edition, sheet_length, sheet_of}
use Rattle.definition.specs.Verdict.{accepted}
use Rattle.listing.specs.Listing.{domains_text, points_line}

-- `count` points of those at every scale-th place, from number j on
unfoldable pub points_from : List ℕ → ℕ → ℕ → ℕ → List ℕ
points_from pw scale j count = map (λ m. get_or pw (scale * m) 0) (range j count)

-- the line of all of them
unfoldable pub line_at : List ℕ → ℕ → ℕ → List ℕ
line_at pw i scale = points_line i (points_from pw scale 0 (length pw / scale))

-- `count` lines from number i on
unfoldable pub lines_from : List ℕ → ℕ → ℕ → List ℕ
lines_from pw i count = flat_map (λ m. line_at pw m (2 ^ m)) (range i count)

-- A text is the listing of words w in every edition whose rules they keep.
pub record ListingOf (w text : List ℕ) : Type 0 where
  pub kept : (e : Edition) → sheet_length e ≤ length w → sheet_test e w ≡ accepted → text ≡ domains_text (sheet_of e w)
