-- Words put into places one after the other: a list with these words in place of those from a number on. Assumes nothing.
use Prim.Native.Nat.{ℕ, zero, suc, ◌+◌, ◌*◌, ◌≤◌, ◌<◌}
use native.Mathlib.Omega.{arith}
use mathlib.Core.List.{List, [], ◌∷◌, ◌++◌, flat_map}
use mathlib.Core.Path.{◌≡◌, refl, ap, ◌∙◌}
use lib.ListN.{length, set, take, drop}
use Rattle.definition.specs.Field.{Spelling, spelling_of, word_count, words_of}
use Rattle.device_definition.specs.Device.{overwritten}
use Rattle.spelling.specs.ByField.{at_one, at_three, words_at}
use Rattle.quartic.specs.declared.Four.{Four}
use Rattle.elements.specs.Meaning.{value_at, value_in}

none_below : (n : ℕ) → n < 0 → ⊥
none_below n h = omega arith

set_one : (l : List ℕ) (n x : ℕ) → n < length l → set l n x ≡ take n l ++ (x ∷ drop (suc n) l)
set_one [] n x h = absurd (none_below n h)
set_one (y ∷ l) zero x h = refl
set_one (y ∷ l) (suc n) x h = ap (λ (m : List ℕ). y ∷ m) (set_one l n x (omega arith))

set_four : (l : List ℕ) (n a b c d : ℕ) → suc (suc (suc n)) < length l →
    set (set (set (set l n a) (suc n) b) (suc (suc n)) c) (suc (suc (suc n))) d ≡ take n l ++ (a ∷ b ∷ c ∷ d ∷ drop (suc (suc (suc (suc n)))) l)
set_four [] n a b c d h = absurd (none_below _ h)
set_four (y ∷ []) zero a b c d h = absurd (omega arith)
set_four (y ∷ z ∷ []) zero a b c d h = absurd (omega arith)
set_four (y ∷ z ∷ u ∷ []) zero a b c d h = absurd (omega arith)
set_four (y ∷ z ∷ u ∷ v ∷ l) zero a b c d h = refl
set_four (y ∷ l) (suc n) a b c d h = ap (λ (m : List ℕ). y ∷ m) (set_four l n a b c d (omega arith))

pub put_one : (l : List ℕ) (n x : ℕ) → n < length l → set l n x ≡ overwritten l n (x ∷ [])
unfolding overwritten
put_one l n x h =
    let e : suc n ≡ n + 1 = omega arith in
    set_one l n x h ∙ ap (λ (m : ℕ). take n l ++ (x ∷ drop m l)) e

pub put_four : (l : List ℕ) (n a b c d : ℕ) → n + 4 ≤ length l → set (set (set (set l n a) (n + 1) b) (n + 2) c) (n + 3) d ≡ overwritten l n (a ∷ b ∷ c ∷ d ∷ [])
unfolding overwritten
put_four l n a b c d h =
    let e : n + 1 ≡ suc n = omega arith in
    let f : n + 2 ≡ suc (suc n) = omega arith in
    let g : n + 3 ≡ suc (suc (suc n)) = omega arith in
    let k : suc (suc (suc (suc n))) ≡ n + 4 = omega arith in
    (λ i. set (set (set (set l n a) (e i) b) (f i) c) (g i) d) ∙ set_four l n a b c d (omega arith) ∙ ap (λ (m : ℕ). take n l ++ (a ∷ b ∷ c ∷ d ∷ drop m l)) k

-- by the field's number: a fold in place of number n
pub fold_of_four : (field : ℕ) (l : List ℕ) (n : ℕ) (x : Four) → field ≡ 3 → n < 288 → length l ≡ 1152 →
    set (set (set (set l (4 * n) x.a) (4 * n + 1) x.b) (4 * n + 2) x.c) (4 * n + 3) x.d ≡ overwritten l (words_at field n) (words_of (spelling_of field) (value_at field x ∷ []))
unfolding spelling_of word_count words_of value_in flat_map
fold_of_four field l n x h below room =
    at_three (λ (g : ℕ). set (set (set (set l (4 * n) x.a) (4 * n + 1) x.b) (4 * n + 2) x.c) (4 * n + 3) x.d ≡ overwritten l (words_at g n) (words_of (spelling_of g) (value_at g x ∷ [])))
    field h (put_four l (4 * n) x.a x.b x.c x.d (omega (arith, below, room)))

pub fold_of_one : (field : ℕ) (l : List ℕ) (n : ℕ) (x : Four) → (field ≡ 3 → ⊥) → n < 288 → length l ≡ 1152 →
    set l n x.a ≡ overwritten l (words_at field n) (words_of (spelling_of field) (value_at field x ∷ []))
unfolding word_count words_of value_in
fold_of_one field l n x h below room =
    at_one (λ (σ : Spelling). set l n x.a ≡ overwritten l (word_count σ n) (words_of σ (value_in σ x ∷ []))) field h (put_one l n x.a (omega (arith, below, room)))
