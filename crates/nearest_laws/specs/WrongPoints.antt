-- THE VOCABULARY OF THE PAGE: what a polynomial below the bound is, where it differs from a table, and what is asked of an order. It holds no lemma and no proof.
-- `In j ns` says that j is one of ns; `Rising 0 ns` that each number is larger than the one before.
use Rattle.std.specs.Prelude.{ℕ, ◌+◌, ◌-◌, ◌/◌, ◌≤◌, ◌<◌, List, ◌↔◌, ◌≡◌, length, get_or}
use Rattle.definition.specs.Domain.{point}
use Rattle.definition.specs.Field.{Element}
use Rattle.definition.specs.Polynomial.{evaluate}
use Rattle.definition.specs.Sheet.{Sheet, edition1, sheet_of}
use Rattle.decoding.specs.AllTrue.{Rising}
use Rattle.decoding.specs.Searches.{In}
use Rattle.layouts.specs.Levels.{element_at, level_of, sheet_field, sheet_root, words_for, zero_of}
use Rattle.layouts.specs.PlainRules.{KeepsRule}
use Rattle.completeness.specs.Numbered.{ElementOf}

-- a polynomial of degree below d0: d0 coefficients, each an element
pub record BelowBound (h : Sheet) (f : List (Element h.spelling)) : Type 0 where
  pub count : length f ≡ h.degree
  pub range : (j : ℕ) → j < length f → ElementOf h (get_or f j (zero_of h))

-- it differs from the table, given by its words, at point j of domain 0
abbrev pub DiffersAt : (h : Sheet) → List ℕ → List (Element h.spelling) → ℕ → Type 0
DiffersAt h table f j = evaluate (sheet_field h) f (point (sheet_field h) (sheet_root h) (level_of h 0) j) ≡ element_at h.spelling table (words_for h j) → ⊥

-- ns are the numbers of the points where it does, all of them and no other, in rising order
pub record WrongAt (h : Sheet) (table : List ℕ) (f : List (Element h.spelling)) (ns : List ℕ) : Type 0 where
  pub rising : Rising 0 ns
  pub exactly : (j : ℕ) → In j ns ↔ ((j < h.size) × DiffersAt h table f j)

-- f is near: it is below the bound, and differs in at most (n0 - d0)/2 points
pub record Near (h : Sheet) (table : List ℕ) (f : List (Element h.spelling)) (ns : List ℕ) : Type 0 where
  pub below : BelowBound h f
  pub wrong : WrongAt h table f ns
  pub few : length ns ≤ (h.size - h.degree) / 2

-- the most words that may be written for a sheet: d0 coefficients, the count, and (n0 - d0)/2 numbers
abbrev pub most_written : List ℕ → ℕ
most_written w = words_for (sheet_of edition1 w) (get_or w 2 0) + 1 + (get_or w 1 0 - get_or w 2 0) / 2

-- what is asked of an order: 12 words that keep their rules, the words of n0 elements, and room for all that may be written
pub record Searchable (w table output : List ℕ) : Type 0 where
  pub words : length w ≡ 12
  pub rules : (i : ℕ) → i < 12 → KeepsRule edition1 w i
  pub count : length table ≡ words_for (sheet_of edition1 w) (get_or w 1 0)
  pub range : (j : ℕ) → j < length table → get_or table j 0 < (sheet_of edition1 w).prime
  pub room : most_written w ≤ length output

-- the refusals that exist, with the range of each place
pub data NearestRefusal (w table : List ℕ) : ℕ → ℕ → Type 0 where
  sheet_length_case : NearestRefusal w table 10 0
  rule_broken : (i : ℕ) → i < 12 → NearestRefusal w table 3 i
  entry_count : NearestRefusal w table 10 1
  word_over : (q : ℕ) → q < length table → NearestRefusal w table 5 q
  output_short : NearestRefusal w table 11 (most_written w)
  nothing_near : NearestRefusal w table 19 0
