-- The laws of spelling elements by words, whichever the spelling: all that the theorems on streams need to know of it.
use Rattle.std.specs.Prelude.{ℕ, zero, suc, ◌+◌, ◌*◌, ◌≤◌, ◌<◌, ◌≡◌, refl, length, get_or, take, drop}
use Rattle.std.proofs.Math.Nat
use Rattle.std.proofs.Common.{arith, ap, ◌∙◌, drop_of_length-le, ne_eqb, drop-drop, get_or-drop, get_or-take}
use mathlib.Core.List.{List, [], ◌∷◌, ◌++◌, flat_map}
use Rattle.std.proofs.Math.ListN.{get_or-eq_default}
use Rattle.definition.specs.Field.{Spelling, one, four, Element, Quad, number_in, word_count, quads, elements_in, words_of, begun_by, spelling_of}
use Rattle.definition.specs.Sheet.{largest_size}
use Rattle.layouts.specs.Levels.{element_at}

-- ---- how many words

pub count_add : (σ : Spelling) (m n : ℕ) → word_count σ (m + n) ≡ word_count σ m + word_count σ n
unfolding word_count
count_add one m n = refl
count_add four m n = Nat.mul-add 4 m n

pub count_zero : (σ : Spelling) → word_count σ 0 ≡ 0
unfolding word_count
count_zero one = refl
count_zero four = refl

-- a number of elements is their number times that of one, which is 1 or 4
pub count_times : (σ : Spelling) (n : ℕ) → word_count σ n ≡ word_count σ 1 * n
unfolding word_count
count_times one n = omega arith
count_times four n = omega arith

pub count_one : (σ : Spelling) → (1 ≤ word_count σ 1) × (word_count σ 1 ≤ 4)
unfolding word_count
count_one one = omega arith
count_one four = omega arith

pub count_least : (σ : Spelling) (n : ℕ) → n ≤ word_count σ n
unfolding word_count
count_least one n = omega arith
count_least four n = omega arith

pub count_most : (σ : Spelling) (n : ℕ) → word_count σ n ≤ 4 * n
unfolding word_count
count_most one n = omega arith
count_most four n = omega arith

pub count_mono : (σ : Spelling) (m n : ℕ) → m ≤ n → word_count σ m ≤ word_count σ n
unfolding word_count
count_mono one m n l = l
count_mono four m n l = omega arith

pub count_below : (σ : Spelling) (m n : ℕ) → m < n → word_count σ m + word_count σ 1 ≤ word_count σ n
unfolding word_count
count_below one m n l = omega arith
count_below four m n l = omega arith

pub count_same : (σ : Spelling) (m n : ℕ) → word_count σ m ≡ word_count σ n → m ≡ n
unfolding word_count
count_same one m n e = e
count_same four m n e = omega arith

-- n0 ends where its table has 4,096 words
pub largest_words : (σ : Spelling) (n : ℕ) → n ≤ largest_size σ → word_count σ n ≤ 4096
unfolding word_count largest_size
largest_words one n l = l
largest_words four n l = omega arith

pub largest_most : (σ : Spelling) → largest_size σ ≤ 4096
unfolding largest_size
largest_most one = omega arith
largest_most four = omega arith

-- the fields below 3 are of one word
pub spelling_one : (field : ℕ) → field < 3 → spelling_of field ≡ one
unfolding spelling_of
spelling_one field l = rw (ne_eqb field 3 (omega arith))

-- ---- reading and writing

-- elements written and read are the same elements, with other words after them
pub read_words : (σ : Spelling) (xs : List (Element σ)) (w : List ℕ) → elements_in σ (words_of σ xs ++ w) ≡ xs ++ elements_in σ w
unfolding words_of elements_in quads flat_map
read_words one xs w = refl
read_words four xs w = go xs
  where
    go : (ys : List (Quad ℕ)) → quads (flat_map (λ x. x.a ∷ x.b ∷ x.c ∷ x.d ∷ []) ys ++ w) ≡ ys ++ quads w
    go [] = refl
    go (y ∷ ys) = ap (λ zs. y ∷ zs) (go ys)

pub read_written : (σ : Spelling) (xs : List (Element σ)) → elements_in σ (words_of σ xs) ≡ xs
unfolding words_of elements_in quads flat_map
read_written one xs = refl
read_written four [] = refl
read_written four (x ∷ xs) = ap (λ ys. x ∷ ys) (read_written four xs)

pub words_append : (σ : Spelling) (xs ys : List (Element σ)) → words_of σ (xs ++ ys) ≡ words_of σ xs ++ words_of σ ys
unfolding words_of flat_map
words_append one xs ys = refl
words_append four [] ys = refl
words_append four (x ∷ xs) ys = ap {B = List ℕ} (λ w. x.a ∷ x.b ∷ x.c ∷ x.d ∷ w) (words_append four xs ys)

pub words_length : (σ : Spelling) (xs : List (Element σ)) → length (words_of σ xs) ≡ word_count σ (length xs)
unfolding words_of word_count flat_map
words_length one xs = refl
words_length four [] = refl
words_length four (x ∷ xs) = ap (λ (n : ℕ). suc (suc (suc (suc n)))) (words_length four xs) ∙ next (length xs)
  where
    next : (n : ℕ) → suc (suc (suc (suc (4 * n)))) ≡ 4 * suc n
    next n = omega arith

-- whole elements read and written are the same words
pub words_read : (σ : Spelling) (n : ℕ) (w : List ℕ) → length w ≡ word_count σ n → words_of σ (elements_in σ w) ≡ w
unfolding words_of elements_in quads flat_map word_count
words_read one n w e = refl
words_read four n w e = go n w e
  where
    go : (m : ℕ) (v : List ℕ) → length v ≡ word_count four m → flat_map (λ x. x.a ∷ x.b ∷ x.c ∷ x.d ∷ []) (quads v) ≡ v
    go m [] h = refl
    go m (a ∷ []) h = absurd (let z : 1 ≡ 4 * m = h in omega arith)
    go m (a ∷ b ∷ []) h = absurd (let z : 2 ≡ 4 * m = h in omega arith)
    go m (a ∷ b ∷ c ∷ []) h = absurd (let z : 3 ≡ 4 * m = h in omega arith)
    go zero (a ∷ b ∷ c ∷ d ∷ v) h = absurd (let z : suc (suc (suc (suc (length v)))) ≡ 4 * 0 = h in omega arith)
    go (suc m) (a ∷ b ∷ c ∷ d ∷ v) h =
        let l : length v ≡ 4 * m = (let z : suc (suc (suc (suc (length v)))) ≡ 4 * suc m = h in omega arith) in
        ap (λ u. a ∷ b ∷ c ∷ d ∷ u) (go m v l)

pub read_length : (σ : Spelling) (n : ℕ) (w : List ℕ) → length w ≡ word_count σ n → length (elements_in σ w) ≡ n
unfolding elements_in word_count quads
read_length one n w e = e
read_length four n w e = go n w e
  where
    go : (m : ℕ) (v : List ℕ) → length v ≡ 4 * m → length (quads v) ≡ m
    go m [] h = let z : 0 ≡ 4 * m = h in omega arith
    go m (a ∷ []) h = absurd (let z : 1 ≡ 4 * m = h in omega arith)
    go m (a ∷ b ∷ []) h = absurd (let z : 2 ≡ 4 * m = h in omega arith)
    go m (a ∷ b ∷ c ∷ []) h = absurd (let z : 3 ≡ 4 * m = h in omega arith)
    go zero (a ∷ b ∷ c ∷ d ∷ v) h = absurd (let z : suc (suc (suc (suc (length v)))) ≡ 4 * 0 = h in omega arith)
    go (suc m) (a ∷ b ∷ c ∷ d ∷ v) h = ap suc (go m v (let z : suc (suc (suc (suc (length v)))) ≡ 4 * suc m = h in omega arith))

-- the first element, and the first two, read and written in front of the words after them
pub one_back : (σ : Spelling) (v : List ℕ) → word_count σ 1 ≤ length v → words_of σ (get_or (elements_in σ v) 0 (number_in σ 0) ∷ []) ++ drop (word_count σ 1) v ≡ v
unfolding words_of elements_in word_count quads flat_map
one_back one [] l = absurd (omega arith)
one_back one (a ∷ v) l = refl
one_back four [] l = absurd (omega arith)
one_back four (a ∷ []) l = absurd (omega arith)
one_back four (a ∷ b ∷ []) l = absurd (omega arith)
one_back four (a ∷ b ∷ c ∷ []) l = absurd (omega arith)
one_back four (a ∷ b ∷ c ∷ d ∷ v) l = refl

pub two_back : (σ : Spelling) (v : List ℕ) → word_count σ 2 ≤ length v →
    words_of σ (get_or (elements_in σ v) 0 (number_in σ 0) ∷ get_or (elements_in σ v) 1 (number_in σ 0) ∷ []) ++ drop (word_count σ 2) v ≡ v
unfolding words_of elements_in word_count quads flat_map
two_back one [] l = absurd (omega arith)
two_back one (a ∷ []) l = absurd (omega arith)
two_back one (a ∷ b ∷ v) l = refl
two_back four [] l = absurd (omega arith)
two_back four (a ∷ []) l = absurd (omega arith)
two_back four (a ∷ b ∷ []) l = absurd (omega arith)
two_back four (a ∷ b ∷ c ∷ []) l = absurd (omega arith)
two_back four (a ∷ b ∷ c ∷ d ∷ []) l = absurd (omega arith)
two_back four (a ∷ b ∷ c ∷ d ∷ e ∷ []) l = absurd (omega arith)
two_back four (a ∷ b ∷ c ∷ d ∷ e ∷ f ∷ []) l = absurd (omega arith)
two_back four (a ∷ b ∷ c ∷ d ∷ e ∷ f ∷ g ∷ []) l = absurd (omega arith)
two_back four (a ∷ b ∷ c ∷ d ∷ e ∷ f ∷ g ∷ h ∷ v) l = refl

-- ---- the element at a word

pub begun_length : (σ : Spelling) (w : List ℕ) → length (begun_by σ w) ≡ length w
unfolding begun_by
begun_length one w = refl
begun_length four [] = refl
begun_length four (x ∷ w) = ap suc (begun_length four w)

pub begun_drop : (σ : Spelling) (n : ℕ) (w : List ℕ) → drop n (begun_by σ w) ≡ begun_by σ (drop n w)
unfolding begun_by
begun_drop one n w = refl
begun_drop four zero w = refl
begun_drop four (suc n) [] = refl
begun_drop four (suc n) (x ∷ w) = begun_drop four n w

-- a whole element that begins at word i
pub begun_at : (σ : Spelling) (w : List ℕ) (i : ℕ) → i + word_count σ 1 ≤ length w → get_or (begun_by σ w) i (number_in σ 0) ≡ element_at σ w i
unfolding begun_by element_at number_in word_count quads
begun_at one w i l = refl
begun_at four [] i l = absurd (omega arith)
begun_at four (a ∷ []) zero l = absurd (omega arith)
begun_at four (a ∷ b ∷ []) zero l = absurd (omega arith)
begun_at four (a ∷ b ∷ c ∷ []) zero l = absurd (omega arith)
begun_at four (a ∷ b ∷ c ∷ d ∷ w) zero l = refl
begun_at four (x ∷ w) (suc i) l = begun_at four w i (omega arith)

-- element j of those that words spell begins at word word_count σ j
pub read_at_lem : (σ : Spelling) (w : List ℕ) (j : ℕ) → get_or (elements_in σ w) j (number_in σ 0) ≡ element_at σ w (word_count σ j)
unfolding elements_in element_at word_count number_in quads
read_at_lem one w j = refl
read_at_lem four w j = go w j (4 * j) refl
  where
    go : (v : List ℕ) (m n : ℕ) → n ≡ 4 * m → get_or (quads v) m (record { a = 0; b = 0; c = 0; d = 0 }) ≡ get_or (quads (drop n v)) 0 (record { a = 0; b = 0; c = 0; d = 0 })
    go v zero zero q = refl
    go v zero (suc n) q = absurd (omega arith)
    go v (suc m) zero q = absurd (omega arith)
    go v (suc m) (suc zero) q = absurd (omega arith)
    go v (suc m) (suc (suc zero)) q = absurd (omega arith)
    go v (suc m) (suc (suc (suc zero))) q = absurd (omega arith)
    go [] (suc m) (suc (suc (suc (suc n)))) q = refl
    go (a ∷ []) (suc m) (suc (suc (suc (suc n)))) q = refl
    go (a ∷ b ∷ []) (suc m) (suc (suc (suc (suc n)))) q = refl
    go (a ∷ b ∷ c ∷ []) (suc m) (suc (suc (suc (suc n)))) q = refl
    go (a ∷ b ∷ c ∷ d ∷ v) (suc m) (suc (suc (suc (suc n)))) q = go v m n (omega arith)

pub at_drop : (σ : Spelling) (w : List ℕ) (n i : ℕ) → element_at σ (drop n w) i ≡ element_at σ w (n + i)
unfolding element_at
at_drop one w n i = get_or-drop n w i 0
at_drop four w n i = ap (λ (v : List ℕ). get_or (quads v) 0 (number_in four 0)) (drop-drop i n w)

pub at_take : (σ : Spelling) (w : List ℕ) (n i : ℕ) → i + word_count σ 1 ≤ n → element_at σ (take n w) i ≡ element_at σ w i
unfolding element_at word_count quads
at_take one w n i l = get_or-take n w i 0 (omega arith)
at_take four w (suc (suc (suc (suc n)))) zero l = go w
  where
    go : (v : List ℕ) → get_or (quads (take (suc (suc (suc (suc n)))) v)) 0 (number_in four 0) ≡ get_or (quads v) 0 (number_in four 0)
    go [] = refl
    go (a ∷ []) = refl
    go (a ∷ b ∷ []) = refl
    go (a ∷ b ∷ c ∷ []) = refl
    go (a ∷ b ∷ c ∷ d ∷ v) = refl
at_take four w zero zero l = absurd (omega arith)
at_take four w (suc zero) zero l = absurd (omega arith)
at_take four w (suc (suc zero)) zero l = absurd (omega arith)
at_take four w (suc (suc (suc zero))) zero l = absurd (omega arith)
at_take four w zero (suc i) l = absurd (omega arith)
at_take four [] (suc n) (suc i) l = refl
at_take four (x ∷ w) (suc n) (suc i) l = at_take four w n i (omega arith)

-- past the last word there is 0
pub at_beyond : (σ : Spelling) (w : List ℕ) (i : ℕ) → length w ≤ i → element_at σ w i ≡ number_in σ 0
unfolding element_at number_in quads
at_beyond one w i l = get_or-eq_default w 0 {n = i} l
at_beyond four w i l = ap (λ (v : List ℕ). get_or (quads v) 0 (record { a = 0; b = 0; c = 0; d = 0 })) (drop_of_length-le w {i = i} l)

-- element j of the words from word m on, and of n of them
pub read_drop : (σ : Spelling) (w : List ℕ) (m j : ℕ) → get_or (elements_in σ (drop m w)) j (number_in σ 0) ≡ element_at σ w (m + word_count σ j)
read_drop σ w m j = read_at_lem σ (drop m w) j ∙ at_drop σ w m (word_count σ j)

pub read_from : (σ : Spelling) (w : List ℕ) (m n j : ℕ) → word_count σ j + word_count σ 1 ≤ n → get_or (elements_in σ (take n (drop m w))) j (number_in σ 0) ≡ element_at σ w (m + word_count σ j)
read_from σ w m n j l = read_at_lem σ (take n (drop m w)) j ∙ at_take σ (drop m w) n (word_count σ j) l ∙ at_drop σ w m (word_count σ j)

-- the element that begins at the first word of an element is that element
pub at_first : (σ : Spelling) (x : Element σ) (w : List ℕ) → element_at σ (words_of σ (x ∷ []) ++ w) 0 ≡ x
unfolding words_of element_at flat_map quads
at_first one x w = refl
at_first four x w = refl
