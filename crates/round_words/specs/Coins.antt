-- A coin of a stream, as it is read by the field's number: the sheet's element that begins at a word.
use Rattle.std.specs.Prelude.{ℕ, ◌+◌, ◌≡◌, List, get_or, drop}
use Rattle.std.proofs.Common.{arith, ap, ◌∙◌}
use Rattle.definition.specs.Field.{Field, prime_of, spelling_of, word_count}
use Rattle.definition.specs.Sheet.{Edition, sheet_of}
use Rattle.algebra.specs.FieldIn.{zero_in}
use Rattle.layouts.specs.Levels.{element_at}
use Rattle.layouts.specs.Spellings.{count_zero, read_drop}
use Rattle.spelling.specs.ByField.{elements_at, field_at}
use Rattle.elements.specs.Meaning.{value_at, value_in}
use Rattle.quartic.specs.declared.Four.{Four}

pub coin_at : (ed : Edition) (w : List ℕ) (r : Four) {at place : ℕ} → at ≡ place →
    value_at (get_or w 0 0) r ≡ get_or (elements_at (get_or w 0 0) (drop at w)) 0 (field_at (get_or w 0 0)).𝟘 → value_in (sheet_of ed w).spelling r ≡ element_at (sheet_of ed w).spelling w place
unfolding sheet_of
coin_at ed w r {at} {place} ea er =
    let field = get_or w 0 0 in
    let σ = spelling_of field in
    let z : at + word_count σ 0 ≡ place = omega (arith, ea, count_zero σ) in
    er ∙ ap (get_or (elements_at field (drop at w)) 0) (zero_in σ (prime_of field)) ∙ read_drop σ w at 0 ∙ ap (element_at σ w) z
