-- THE POINTS OF A DOMAIN AND THE ROOTS OF 1, of a sheet h, by level number. It holds no lemma and no proof.
use Rattle.std.specs.Prelude.{ℕ, ◌<◌, ◌≡◌}
use Rattle.definition.specs.Domain.{point}
use Rattle.definition.specs.Field.{Element, Field, power}
use Rattle.definition.specs.Sheet.{Level, Sheet}
use Rattle.layouts.specs.Levels.{level_of, sheet_field, sheet_root}
use Rattle.completeness.specs.Numbered.{ElementOf}

-- x is a point of the domain of a level: its point j, for some j below its size
module _ {A : Type 0} (F : Field A) (ω : A) where
  abbrev pub IsPoint : Level → A → Type 0
  IsPoint l x = (j : ℕ) × (j < l.size) × (x ≡ point F ω l j)

-- and of domain i of a sheet
abbrev pub PointOf : (h : Sheet) → ℕ → Element h.spelling → Type 0
PointOf h i x = IsPoint (sheet_field h) (sheet_root h) (level_of h i) x

-- x is an element of the sheet's field, of one word or of four, whose n0-th power is 1
abbrev pub RootOfOne : (h : Sheet) → Element h.spelling → Type 0
RootOfOne h x = ElementOf h x × (power (sheet_field h) x h.size ≡ (sheet_field h).𝟙)
