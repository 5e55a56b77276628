-- The number of words by the field's number. Assumes nothing.
use Prim.Native.Nat.{ℕ, ◌*◌}
use mathlib.Core.Path.{◌≡◌, sym, ap}
use Rattle.definition.specs.Field.{Spelling, spelling_of, word_count}
use Rattle.widths.specs.ByField.{spelling_other, spelling_three}

pub words_three : (field n : ℕ) → field ≡ 3 → 4 * n ≡ word_count (spelling_of field) n
unfolding word_count
words_three field n e = sym (ap (λ (σ : Spelling). word_count σ n) (spelling_three field e))

pub words_one : (field n : ℕ) → (field ≡ 3 → ⊥) → n ≡ word_count (spelling_of field) n
unfolding word_count
words_one field n e = sym (ap (λ (σ : Spelling). word_count σ n) (spelling_other field e))
