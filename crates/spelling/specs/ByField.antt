-- The field, its elements and their words, by the field's number: 3 is spelt by four words, any other number by one.
use Rattle.std.specs.Prelude.{ℕ, ◌≡◌, refl, List, map}
use Rattle.std.proofs.Common.{sym, subst, eq-eqb, ne_eqb}
use Rattle.definition.specs.Field.{Field, prime_of, field_of, Spelling, one, four, spelling_of, Element, field_in, number_in, elements_in, word_count}
use Rattle.algebra.specs.Laws.{FieldLaws}
use Rattle.algebra.specs.FieldIn.{laws_in}

abbrev pub ElementOf : ℕ → Type 0
ElementOf field = Element (spelling_of field)

abbrev pub field_at : (field : ℕ) → Field (ElementOf field)
field_at field = field_in (spelling_of field) (prime_of field)

abbrev pub elements_at : (field : ℕ) → List ℕ → List (ElementOf field)
elements_at field w = elements_in (spelling_of field) w

abbrev pub words_at : ℕ → ℕ → ℕ
words_at field n = word_count (spelling_of field) n

-- the points of domains are numbers: a table of them, as elements
abbrev pub points_at : (field : ℕ) → List ℕ → List (ElementOf field)
points_at field pw = map (number_in (spelling_of field)) pw

-- what holds at field 3, and what holds of one word, holds by the field's number
pub spelt_one : (field : ℕ) → (field ≡ 3 → ⊥) → spelling_of field ≡ one
unfolding spelling_of
spelt_one field h = simp (ne_eqb field 3 h)

pub at_three : (P : ℕ → Type 0) (field : ℕ) → field ≡ 3 → P 3 → P field
at_three P field h p = subst P (sym h) p

pub at_one : (P : Spelling → Type 0) (field : ℕ) → (field ≡ 3 → ⊥) → P one → P (spelling_of field)
at_one P field h p = subst P (sym (spelt_one field h)) p

-- The field of each number obeys the laws of a field.
pub laws_at : (field : ℕ) → FieldLaws (field_at field)
laws_at field = laws_in field

-- and the other way: what holds by the field's number holds at field 3, or of one word
pub from_three : (P : ℕ → Type 0) (field : ℕ) → field ≡ 3 → P field → P 3
from_three P field h p = subst P h p

pub from_one : (P : Spelling → Type 0) (field : ℕ) → (field ≡ 3 → ⊥) → P (spelling_of field) → P one
from_one P field h p = subst P (spelt_one field h) p
