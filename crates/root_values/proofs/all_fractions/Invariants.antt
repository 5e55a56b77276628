use Prim.Native.Nat.{ℕ}
use mathlib.Core.List.{List}
use Rattle.spelling.specs.ByField.{ElementOf, elements_at, field_at, points_at}
use Rattle.fractions.specs.declared.Oracle.{Oracle}
use Rattle.fractions.specs.Fraction.{Fraction}
use Rattle.fractions.specs.Values.{root_in}
use Rattle.root_values.specs.Places.{PlacedOver}
use Rattle.root_values.proofs.all_fractions.Given as goal

-- the fractions of the first coins are there
-- the value at root m of index j as a fraction
abbrev pub fractionAt : (field : ℕ) → List ℕ → List ℕ → List ℕ → List ℕ → Oracle → ℕ → ℕ → ElementOf field → ElementOf field → Type 0
fractionAt field pw table ac vg oracle j m v w = Fraction field (root_in (field_at field) (points_at field pw) (elements_at field table) (elements_at field ac) (elements_at field vg) oracle j m) v w

abbrev pub invariant-loop-coin : goal.invariant-loop-coin
invariant-loop-coin l = PlacedOver (field_at l.field).𝟘 (fractionAt l.field l.pw l.table l.ac l.vg l.oracle) l.k l.js (elements_at l.field l.tops) (elements_at l.field l.bottoms) l.coin
