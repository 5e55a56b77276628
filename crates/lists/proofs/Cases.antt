-- What the next table is corrected by, at each spelling, by the field's number. Assumes nothing.
use Prim.Native.Nat.{ℕ, ◌≤◌, ◌<◌}
use mathlib.Core.Path.{◌≡◌}
use mathlib.Core.List.{List}
use lib.ListN.{length, drop}
use Rattle.definition.specs.Field.{prime_of, field_of, Spelling, spelling_of, field_in, word_count, quads, elements_in}
use Rattle.definition.specs.Polynomial.{pair}
use Rattle.algebra.specs.Different.{Apart}
use Rattle.spelling.specs.Field3.{field3}
use Rattle.quartic.specs.Meaning.{quad_of}
use Rattle.quartic.specs.declared.Four.{Four}
use Rattle.spelling.specs.ByField.{field_at, elements_at, at_three, at_one, from_three, from_one}
use Rattle.elements.specs.Meaning.{value_in, value_at}
use Rattle.lists.specs.Correcting.{Correcting, CorrectingOver}

module _ (k from : ℕ) (xs ys ac vg : List ℕ) where
  -- what is asked for, at a spelling
  abbrev pub Asked : Spelling → ℕ → Type 0
  Asked σ p =
      ((from ≤ length (elements_in σ xs)) × ((length (elements_in σ xs) ≤ 50) × (length (elements_in σ ys) ≡ length (elements_in σ xs))))
      × (((0 < k) × (k ≤ 16)) × (((length ac ≡ word_count σ 66) × (length vg ≡ word_count σ 132)) × Apart (field_in σ p) (drop from (elements_in σ xs))))

  pub asked_three : (field : ℕ) → field ≡ 3 → Asked (spelling_of field) (prime_of field) →
      ((from ≤ length (quads xs)) × ((length (quads xs) ≤ 50) × (length (quads ys) ≡ length (quads xs)))) × (((0 < k) × (k ≤ 16)) × (((length ac ≡ 264) × (length vg ≡ 528)) × Apart field3 (drop from (quads xs))))
  unfolding spelling_of prime_of field_in elements_in word_count
  asked_three field h p = from_three (λ n. Asked (spelling_of n) (prime_of n)) field h p

  pub asked_one : (field : ℕ) → (field ≡ 3 → ⊥) → Asked (spelling_of field) (prime_of field) →
      ((from ≤ length xs) × ((length xs ≤ 50) × (length ys ≡ length xs))) × (((0 < k) × (k ≤ 16)) × (((length ac ≡ 66) × (length vg ≡ 132)) × Apart (field_of field) (drop from xs)))
  unfolding field_in elements_in word_count field_of
  asked_one field h p = from_one (λ σ. Asked σ (prime_of field)) field h p

module _ (field from : ℕ) (c : Four) (n : ℕ) (xs ys ac vg : List ℕ) where
  pub correcting_three : field ≡ 3 → CorrectingOver field3 (pair (drop from (quads xs)) (drop from (quads ys))) (quad_of c) n (quads ac) (quads vg) →
      CorrectingOver (field_at field) (pair (drop from (elements_at field xs)) (drop from (elements_at field ys))) (value_at field c) n (elements_at field ac) (elements_at field vg)
  unfolding spelling_of prime_of field_in value_in elements_in
  correcting_three h p =
      at_three (λ m. CorrectingOver (field_at m) (pair (drop from (elements_at m xs)) (drop from (elements_at m ys))) (value_at m c) n (elements_at m ac) (elements_at m vg)) field h p

  pub correcting_one : (field ≡ 3 → ⊥) → Correcting field (pair (drop from xs) (drop from ys)) c.a n ac vg →
      CorrectingOver (field_at field) (pair (drop from (elements_at field xs)) (drop from (elements_at field ys))) (value_at field c) n (elements_at field ac) (elements_at field vg)
  unfolding field_in value_in elements_in field_of
  correcting_one h p =
      at_one (λ σ. CorrectingOver (field_in σ (prime_of field)) (pair (drop from (elements_in σ xs)) (drop from (elements_in σ ys))) (value_in σ c) n (elements_in σ ac) (elements_in σ vg)) field h p
