-- The spelling of elements by the field's number.
use Rattle.std.specs.Prelude.{ℕ, ◌≡◌}
use Rattle.std.proofs.Common.{eq-eqb, ne_eqb}
use Rattle.definition.specs.Field.{four, one, spelling_of}

pub spelling_three : (field : ℕ) → field ≡ 3 → spelling_of field ≡ four
unfolding spelling_of
spelling_three field e = rw (eq-eqb field 3 e)

pub spelling_other : (field : ℕ) → (field ≡ 3 → ⊥) → spelling_of field ≡ one
unfolding spelling_of
spelling_other field e = rw (ne_eqb field 3 e)
