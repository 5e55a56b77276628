-- Lists of words as lists of elements, in either spelling. Assumes nothing.
use Rattle.std.specs.Prelude.{ℕ, zero, suc, ◌+◌, ◌-◌, ◌*◌, ◌/◌, ◌<◌, ◌≤◌, ◌≡◌, refl, List, [], ◌∷◌, ◌++◌, length, get_or, set, take, drop}
use Rattle.std.proofs.Math.Nat
use Rattle.std.proofs.Common.{arith, sym, ap, ◌∙◌, subst}
use Rattle.definition.specs.Field.{Quad, Spelling, one, four, Element, word_count, quads, elements_in}
use Rattle.algebra.specs.Quartic.{quad_path}

pub quads_length : (w : List ℕ) → length w / 4 ≡ length (quads w)
unfolding quads
quads_length [] = refl
quads_length (a ∷ []) = refl
quads_length (a ∷ b ∷ []) = refl
quads_length (a ∷ b ∷ c ∷ []) = refl
quads_length (a ∷ b ∷ c ∷ d ∷ w) =
    let n : length (a ∷ b ∷ c ∷ d ∷ w) / 4 ≡ suc (length w / 4) = omega arith in n ∙ ap suc (quads_length w)

none_below : (i : ℕ) → i < 0 → ⊥
none_below i h = omega arith

-- element i has the words from number 4i on
pub quads_at : (w : List ℕ) (i : ℕ) (z : Quad ℕ) → i < length (quads w) →
    record { a = get_or w (4 * i) 0; b = get_or w (4 * i + 1) 0; c = get_or w (4 * i + 2) 0; d = get_or w (4 * i + 3) 0 } ≡ get_or (quads w) i z
unfolding quads
quads_at [] i z h = absurd (none_below i h)
quads_at (a ∷ []) i z h = absurd (none_below i h)
quads_at (a ∷ b ∷ []) i z h = absurd (none_below i h)
quads_at (a ∷ b ∷ c ∷ []) i z h = absurd (none_below i h)
quads_at (a ∷ b ∷ c ∷ d ∷ w) zero z h = refl
quads_at (a ∷ b ∷ c ∷ d ∷ w) (suc i) z h =
    let l : i < length (quads w) = omega arith in
    quad_path first (four_on 1) (four_on 2) (four_on 3) ∙ quads_at w i z l
  where
    first : get_or (a ∷ b ∷ c ∷ d ∷ w) (4 * suc i) 0 ≡ get_or w (4 * i) 0
    first = let n : 4 * suc i ≡ suc (suc (suc (suc (4 * i)))) = omega arith in ap (λ (k : ℕ). get_or (a ∷ b ∷ c ∷ d ∷ w) k 0) n

    four_on : (m : ℕ) → get_or (a ∷ b ∷ c ∷ d ∷ w) (4 * suc i + m) 0 ≡ get_or w (4 * i + m) 0
    four_on m = let n : 4 * suc i + m ≡ suc (suc (suc (suc (4 * i + m)))) = omega arith in ap (λ (k : ℕ). get_or (a ∷ b ∷ c ∷ d ∷ w) k 0) n

pub quads_inside : (w : List ℕ) (i : ℕ) → i < length (quads w) → 4 * i + 3 < length w
quads_inside w i h = let e : length w / 4 ≡ length (quads w) = quads_length w in omega arith

-- an element stored by its four words
abbrev pub stored : List ℕ → ℕ → Quad ℕ → List ℕ
stored w i x = set (set (set (set w (4 * i) x.a) (4 * i + 1) x.b) (4 * i + 2) x.c) (4 * i + 3) x.d

pub quads_set : (w : List ℕ) (i : ℕ) (x : Quad ℕ) → i < length (quads w) → quads (stored w i x) ≡ set (quads w) i x
unfolding quads
quads_set [] i x h = absurd (none_below i h)
quads_set (a ∷ []) i x h = absurd (none_below i h)
quads_set (a ∷ b ∷ []) i x h = absurd (none_below i h)
quads_set (a ∷ b ∷ c ∷ []) i x h = absurd (none_below i h)
quads_set (a ∷ b ∷ c ∷ d ∷ w) zero x h = refl
quads_set (a ∷ b ∷ c ∷ d ∷ w) (suc i) x h =
    let l : i < length (quads w) = omega arith in
    let first : 4 * suc i ≡ suc (suc (suc (suc (4 * i)))) = omega arith in
    let on : (m : ℕ) → 4 * suc i + m ≡ suc (suc (suc (suc (4 * i + m)))) = λ m. omega arith in
    ap quads (λ t. set (set (set (set (a ∷ b ∷ c ∷ d ∷ w) (first t) x.a) (on 1 t) x.b) (on 2 t) x.c) (on 3 t) x.d)
    ∙ ap (λ v. record { a = a; b = b; c = c; d = d } ∷ v) (quads_set w i x l)

four_more : (n : ℕ) → 4 * suc n ≡ suc (suc (suc (suc (4 * n))))
four_more n = omega arith

pub quads_take : (n : ℕ) (w : List ℕ) → quads (take (4 * n) w) ≡ take n (quads w)
unfolding quads
quads_take zero w = ap (λ (m : ℕ). quads (take m w)) (Nat.mul-zero 4)
quads_take (suc n) [] = ap (λ (m : ℕ). quads (take m [])) (four_more n)
quads_take (suc n) (a ∷ []) = ap (λ (m : ℕ). quads (take m (a ∷ []))) (four_more n)
quads_take (suc n) (a ∷ b ∷ []) = ap (λ (m : ℕ). quads (take m (a ∷ b ∷ []))) (four_more n)
quads_take (suc n) (a ∷ b ∷ c ∷ []) = ap (λ (m : ℕ). quads (take m (a ∷ b ∷ c ∷ []))) (four_more n)
quads_take (suc n) (a ∷ b ∷ c ∷ d ∷ w) =
    ap (λ (m : ℕ). quads (take m (a ∷ b ∷ c ∷ d ∷ w))) (four_more n) ∙ ap (λ v. record { a = a; b = b; c = c; d = d } ∷ v) (quads_take n w)

pub quads_drop : (n : ℕ) (w : List ℕ) → quads (drop (4 * n) w) ≡ drop n (quads w)
unfolding quads
quads_drop zero w = ap (λ (m : ℕ). quads (drop m w)) (Nat.mul-zero 4)
quads_drop (suc n) [] = ap (λ (m : ℕ). quads (drop m [])) (four_more n)
quads_drop (suc n) (a ∷ []) = ap (λ (m : ℕ). quads (drop m (a ∷ []))) (four_more n)
quads_drop (suc n) (a ∷ b ∷ []) = ap (λ (m : ℕ). quads (drop m (a ∷ b ∷ []))) (four_more n)
quads_drop (suc n) (a ∷ b ∷ c ∷ []) = ap (λ (m : ℕ). quads (drop m (a ∷ b ∷ c ∷ []))) (four_more n)
quads_drop (suc n) (a ∷ b ∷ c ∷ d ∷ w) = ap (λ (m : ℕ). quads (drop m (a ∷ b ∷ c ∷ d ∷ w))) (four_more n) ∙ quads_drop n w

no_one : (m : ℕ) → 1 ≡ 4 * m → ⊥
no_one m h = omega arith

no_two : (m : ℕ) → 2 ≡ 4 * m → ⊥
no_two m h = omega arith

no_three : (m : ℕ) → 3 ≡ 4 * m → ⊥
no_three m h = omega arith

four_less : (m n : ℕ) → suc (suc (suc (suc n))) ≡ 4 * m → n ≡ 4 * (m - 1)
four_less m n h = omega arith

-- whole elements in front: the elements of both parts
pub quads_append : (m : ℕ) (f r : List ℕ) → length f ≡ 4 * m → quads (f ++ r) ≡ quads f ++ quads r
unfolding quads
quads_append m [] r e = refl
quads_append m (a ∷ []) r e = absurd (no_one m e)
quads_append m (a ∷ b ∷ []) r e = absurd (no_two m e)
quads_append m (a ∷ b ∷ c ∷ []) r e = absurd (no_three m e)
quads_append m (a ∷ b ∷ c ∷ d ∷ f) r e = ap (λ v. record { a = a; b = b; c = c; d = d } ∷ v) (quads_append (m - 1) f r (four_less m (length f) e))

-- the words of the first n elements are there; and words of one length, or of n elements, hold as many elements
pub quads_fit : (n : ℕ) (w : List ℕ) → n ≤ length (quads w) → 4 * n ≤ length w
quads_fit n w h = let e = quads_length w in omega (arith, e, h)

pub quads_even : (v w : List ℕ) → length v ≡ length w → length (quads v) ≡ length (quads w)
quads_even v w e = sym (quads_length v) ∙ ap (λ (n : ℕ). n / 4) e ∙ quads_length w

pub quads_many : (n : ℕ) (w : List ℕ) → length w ≡ 4 * n → length (quads w) ≡ n
quads_many n w e = let f = quads_length w in omega (arith, f, e)

-- ---- in either spelling: parts, and what is inside

pub elements_take : (σ : Spelling) (n : ℕ) (w : List ℕ) → elements_in σ (take (word_count σ n) w) ≡ take n (elements_in σ w)
unfolding elements_in word_count
elements_take one n w = refl
elements_take four n w = quads_take n w

pub elements_drop : (σ : Spelling) (n : ℕ) (w : List ℕ) → elements_in σ (drop (word_count σ n) w) ≡ drop n (elements_in σ w)
unfolding elements_in word_count
elements_drop one n w = refl
elements_drop four n w = quads_drop n w

-- the words of the first n elements are there
pub elements_inside : (σ : Spelling) (n : ℕ) (w : List ℕ) → n ≤ length (elements_in σ w) → word_count σ n ≤ length w
unfolding elements_in word_count
elements_inside one n w h = h
elements_inside four n w h = quads_fit n w h

-- lists of one length hold as many elements
pub elements_even : (σ : Spelling) (v w : List ℕ) → length v ≡ length w → length (elements_in σ v) ≡ length (elements_in σ w)
unfolding elements_in
elements_even one v w e = e
elements_even four v w e = quads_even v w e

pub elements_many : (σ : Spelling) (n : ℕ) (w : List ℕ) → length w ≡ word_count σ n → length (elements_in σ w) ≡ n
unfolding elements_in word_count
elements_many one n w e = e
elements_many four n w e = quads_many n w e

-- no more than there are words
pub elements_few : (σ : Spelling) (w : List ℕ) → length (elements_in σ w) ≤ length w
unfolding elements_in
elements_few one w = Nat.le_refl (length w)
elements_few four w = let e : length w / 4 ≡ length (quads w) = quads_length w in omega arith

-- whole elements in front: the elements of both parts
pub elements_append : (σ : Spelling) (m : ℕ) (f r : List ℕ) → length f ≡ word_count σ m → elements_in σ (f ++ r) ≡ elements_in σ f ++ elements_in σ r
unfolding elements_in word_count
elements_append one m f r e = refl
elements_append four m f r e = quads_append m f r e
