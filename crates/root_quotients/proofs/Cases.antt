-- The numerators and denominators at the roots, at each spelling, by the field's number. Assumes nothing.
use Prim.Native.Nat.{ℕ, ◌+◌, ◌*◌, ◌≤◌, ◌<◌}
use mathlib.Core.Path.{◌≡◌}
use mathlib.Core.List.{List}
use lib.ListN.{length, get_or}
use Rattle.definition.specs.Field.{prime_field, prime_of, field_of, embed, Spelling, spelling_of, field_in, number_in, word_count, quads, elements_in}
use Rattle.definition.specs.Polynomial.{evaluate}
use Rattle.spelling.specs.Field3.{field3, base}
use Rattle.spelling.specs.ByField.{at_three, at_one, from_three, from_one}
use Rattle.root_quotients.specs.Rooted.{Rooted, numerator_in, vanishing_in}

module _ (pw ac vg : List ℕ) (at step : ℕ) (powers tops bottoms : List ℕ) where
  -- what is asked for, at a spelling
  abbrev pub Asked : Spelling → ℕ → Type 0
  Asked σ field =
      ((length ac ≡ word_count σ 66) × ((length vg ≡ word_count σ 132) × (length (elements_in σ bottoms) ≡ length (elements_in σ tops))))
      × (Rooted (field_of field) pw at step (length (elements_in σ tops)) powers × (length (elements_in σ tops) * length powers ≤ 66))

  pub asked_three : (field : ℕ) → field ≡ 3 → Asked (spelling_of field) field →
      ((length ac ≡ 264) × ((length vg ≡ 528) × (length (quads bottoms) ≡ length (quads tops)))) × (Rooted (field_of 2) pw at step (length (quads tops)) powers × (length (quads tops) * length powers ≤ 66))
  unfolding spelling_of elements_in word_count field_of prime_of
  asked_three field h p = from_three (λ n. Asked (spelling_of n) n) field h p

  pub asked_one : (field : ℕ) → (field ≡ 3 → ⊥) → Asked (spelling_of field) field →
      ((length ac ≡ 66) × ((length vg ≡ 132) × (length bottoms ≡ length tops))) × (Rooted (field_of field) pw at step (length tops) powers × (length tops * length powers ≤ 66))
  unfolding elements_in word_count
  asked_one field h p = from_one (λ σ. Asked σ field) field h p

  module _ (tops' bottoms' : List ℕ) where
    -- what is answered, at a spelling over a prime
    abbrev pub Answer : Spelling → ℕ → Type 0
    Answer σ p =
        ((m : ℕ) → m < length (elements_in σ tops) → get_or (elements_in σ tops') m (field_in σ p).𝟘 ≡ numerator_in (field_in σ p) (length (elements_in σ tops) * length powers) (elements_in σ ac) (elements_in σ vg) (number_in σ (get_or pw (at + step * m) 0)) (get_or (elements_in σ tops) m (field_in σ p).𝟘))
        × ((m : ℕ) → m < length (elements_in σ tops) → get_or (elements_in σ bottoms') m (field_in σ p).𝟘 ≡ evaluate (field_in σ p) (vanishing_in (length (elements_in σ tops) * length powers) (elements_in σ vg)) (number_in σ (get_or pw (at + step * m) 0)))

    pub answer_three : (field : ℕ) → field ≡ 3 →
        ((m : ℕ) → m < length (quads tops) → get_or (quads tops') m field3.𝟘 ≡ numerator_in field3 (length (quads tops) * length powers) (quads ac) (quads vg) (embed base (get_or pw (at + step * m) 0)) (get_or (quads tops) m field3.𝟘))
        × ((m : ℕ) → m < length (quads tops) → get_or (quads bottoms') m field3.𝟘 ≡ evaluate field3 (vanishing_in (length (quads tops) * length powers) (quads vg)) (embed base (get_or pw (at + step * m) 0))) →
        Answer (spelling_of field) (prime_of field)
    unfolding spelling_of prime_of field_in elements_in number_in embed prime_field
    answer_three field h p = at_three (λ n. Answer (spelling_of n) (prime_of n)) field h p

    pub answer_one : (field : ℕ) → (field ≡ 3 → ⊥) →
        ((m : ℕ) → m < length tops → get_or tops' m 0 ≡ numerator_in (field_of field) (length tops * length powers) ac vg (get_or pw (at + step * m) 0) (get_or tops m 0))
        × ((m : ℕ) → m < length tops → get_or bottoms' m 0 ≡ evaluate (field_of field) (vanishing_in (length tops * length powers) vg) (get_or pw (at + step * m) 0)) →
        Answer (spelling_of field) (prime_of field)
    unfolding field_in elements_in number_in field_of prime_field
    answer_one field h p = at_one (λ σ. Answer σ (prime_of field)) field h p
