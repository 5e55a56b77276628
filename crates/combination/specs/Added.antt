-- What one part adds to what is there: in any field, and of lists of words by the field's number.
use Rattle.std.specs.Prelude.{ℕ, List, length, get_or}
use Rattle.definition.specs.Field.{Field, number_in, spelling_of}
use Rattle.definition.specs.Polynomial.{evaluate, geometric, mul_poly}
use Rattle.list_laws.specs.Filled.{FilledOver}
use Rattle.spelling.specs.ByField.{ElementOf, field_at, elements_at}

module _ {A : Type 0} (F : Field A) where
  infixl 65 ◌⊕◌
  infixl 70 ◌⊗◌
  open F use {𝟘, ◌⊕◌, ◌⊗◌}

  -- the first n entries of old become s times themselves, and to each a term is added
  abbrev pub Added : (ℕ → A) → A → List A → List A → ℕ → Type 0
  Added term s old new n = FilledOver 𝟘 (λ j. term j ⊕ s ⊗ get_or old j 𝟘) old new n

-- all entries of words
abbrev pub AddedAt : (field : ℕ) → (ℕ → ElementOf field) → ElementOf field → List ℕ → List ℕ → Type 0
AddedAt field term s old new = Added (field_at field) term s (elements_at field old) (elements_at field new) (length (elements_at field old))

-- the terms: entry j of words; of two, multiplied; of a table, times the value of 1 + rX + .. + (rX)^e at point j; and coefficient j of f times that sum
abbrev pub entry_at : (field : ℕ) → List ℕ → ℕ → ElementOf field
entry_at field w j = get_or (elements_at field w) j (field_at field).𝟘

abbrev pub product_at : (field : ℕ) → List ℕ → List ℕ → ℕ → ElementOf field
product_at field a b j = (field_at field).◌⊗◌ (entry_at field a j) (entry_at field b j)

abbrev pub factored_at : (field : ℕ) → ElementOf field → ℕ → List ℕ → List ℕ → ℕ → ElementOf field
factored_at field r e pw table j = (field_at field).◌⊗◌ (entry_at field table j) (evaluate (field_at field) (geometric (field_at field) r e) (number_in (spelling_of field) (get_or pw j 0)))

abbrev pub multiplied_at : (field : ℕ) → ElementOf field → ℕ → List ℕ → ℕ → ElementOf field
multiplied_at field r e f j = get_or (mul_poly (field_at field) (elements_at field f) (geometric (field_at field) r e)) j (field_at field).𝟘
