-- Laws of `map`, `zip_with`, `flat_map`, `range`, `take` and `drop` that the library lacks.
use Rattle.std.specs.Prelude.{ℕ, zero, suc, ◌+◌, ◌-◌, ◌*◌, ◌≤◌, ◌<◌, ◌≡◌, refl, length, get_or, take, drop, replicate}
use Rattle.std.proofs.Common.{add-suc, add-zero, le_of_eq, le_of_suc-le-suc, not-suc-le-zero, suc-add, suc-mul, zero-add, zero-mul, arith, sym, ap, ap₂, ◌∙◌, length-append, length-drop, get_or-append-add, get_or-take, length-take-le, take_all, take-take}
use mathlib.Core.List.{List, [], ◌∷◌, ◌++◌, append_assoc, flat_map, map, tail, zip_with}
use Rattle.std.proofs.lemmas.List.{get_or-replicate, length-replicate}
use Rattle.std.proofs.Math.ListN.{get_or-append}
use Rattle.std.proofs.Math.Seq.{take-nil}
use Rattle.definition.specs.Lists.{range}
use Rattle.list_laws.specs.All.{All}

-- ---- map and zip_with

pub get_d_map : {A B : Type 0} (f : A → B) (xs : List A) (d : A) (e : B) (j : ℕ) → j < length xs → get_or (map f xs) j e ≡ f (get_or xs j d)
get_d_map f [] d e j h = absurd (omega arith)
get_d_map f (x ∷ xs) d e zero h = refl
get_d_map f (x ∷ xs) d e (suc j) h = get_d_map f xs d e j (omega arith)

pub take_map : {A B : Type 0} (f : A → B) (n : ℕ) (xs : List A) → take n (map f xs) ≡ map f (take n xs)
take_map f zero xs = refl
take_map f (suc n) [] = refl
take_map f (suc n) (x ∷ xs) = ap {B = List _} (λ r. f x ∷ r) (take_map f n xs)

pub zip_map : {A B C : Type 0} (s : A → B → C) (f : A → B) (xs : List A) → zip_with s xs (map f xs) ≡ map (λ x. s x (f x)) xs
unfolding zip_with
zip_map s f [] = refl
zip_map s f (x ∷ xs) = ap {B = List _} (λ r. s x (f x) ∷ r) (zip_map s f xs)

-- no longer than the second list
pub zip_short : {A B C : Type 0} (t : A → B → C) (xs : List A) (ys : List B) → length (zip_with t xs ys) ≤ length ys
unfolding zip_with
zip_short t [] ys = omega arith
zip_short t (x ∷ xs) [] = omega arith
zip_short t (x ∷ xs) (y ∷ ys) = omega (arith, zip_short t xs ys)

-- ---- flat_map

pub flat_map_append : {A B : Type 0} (f : A → List B) (xs ys : List A) → flat_map f (xs ++ ys) ≡ flat_map f xs ++ flat_map f ys
unfolding flat_map
flat_map_append f [] ys = refl
flat_map_append f (x ∷ xs) ys = ap (λ (t : List _). f x ++ t) (flat_map_append f xs ys) ∙ sym (append_assoc (f x) (flat_map f xs) (flat_map f ys))

pub flat_map_map : {A B C : Type 0} (g : B → List C) (f : A → B) (xs : List A) → flat_map g (map f xs) ≡ flat_map (λ x. g (f x)) xs
unfolding flat_map
flat_map_map g f [] = refl
flat_map_map g f (x ∷ xs) = ap (λ (t : List _). g (f x) ++ t) (flat_map_map g f xs)

-- lists of one length, joined
pub flat_map_length : {A B : Type 0} (f : A → List B) (n : ℕ) (xs : List A) → All (λ x. length (f x) ≡ n) xs → length (flat_map f xs) ≡ length xs * n
unfolding flat_map
flat_map_length f n [] h = sym (zero-mul n)
flat_map_length f n (x ∷ xs) h = length-append (f x) (flat_map f xs) ∙ omega (arith, h.0, flat_map_length f n xs h.1, suc-mul (length xs) n)

-- ---- range

pub range_length : (from n : ℕ) → length (range from n) ≡ n
unfolding range
range_length from zero = refl
range_length from (suc n) = ap suc (range_length (suc from) n)

pub get_d_map_range : {A : Type 0} (f : ℕ → A) (d : A) (from n j : ℕ) → j < n → get_or (map f (range from n)) j d ≡ f (from + j)
unfolding range
get_d_map_range f d from zero j h = absurd (not-suc-le-zero h)
get_d_map_range f d from (suc n) zero h = ap f (sym (add-zero from))
get_d_map_range f d from (suc n) (suc j) h = get_d_map_range f d (suc from) n j (le_of_suc-le-suc h) ∙ ap f (suc-add from j ∙ sym (add-suc from j))

pub get_d_range : (from n j : ℕ) → j < n → get_or (range from n) j 0 ≡ from + j
unfolding range
get_d_range from zero j h = absurd (omega arith)
get_d_range from (suc n) zero h = omega arith
get_d_range from (suc n) (suc j) h = get_d_range (suc from) n j (omega arith) ∙ (suc-add from j ∙ sym (add-suc from j))

pub map_range_suc : {A : Type 0} (f : ℕ → A) (from n : ℕ) → map f (range (suc from) n) ≡ map (λ m. f (suc m)) (range from n)
unfolding range
map_range_suc f from zero = refl
map_range_suc f from (suc n) = ap {B = List _} (λ r. f (suc from) ∷ r) (map_range_suc f (suc from) n)

-- a list is its elements by number
pub by_number : {A : Type 0} (d : A) (l : List A) (g : ℕ → A) (k : ℕ) → length l ≡ k → ((m : ℕ) → m < k → get_or l m d ≡ g m) → l ≡ map g (range 0 k)
unfolding range
by_number d [] g zero e h = refl
by_number d [] g (suc k) e h = absurd (omega arith)
by_number d (x ∷ l) g zero e h = absurd (omega arith)
by_number d (x ∷ l) g (suc k) e h =
    ap₂ {C = List _} (λ a r. a ∷ r) (h 0 (omega arith)) (by_number d l (λ m. g (suc m)) k (omega arith) (λ m n. h (suc m) (omega arith)) ∙ sym (map_range_suc g 0 k))

-- ---- take and drop

pub drop_take : {A : Type 0} (n m : ℕ) (l : List A) → drop n (take (n + m) l) ≡ take m (drop n l)
drop_take zero m l = ap (λ (k : ℕ). take k l) (zero-add m)
drop_take (suc n) m [] = ap (drop (suc n)) (take-nil (suc n + m)) ∙ sym (take-nil m)
drop_take (suc n) m (x ∷ l) = ap (λ (k : ℕ). drop (suc n) (take k (x ∷ l))) (suc-add n m) ∙ drop_take n m l

pub tail_drop : {A : Type 0} (n : ℕ) (l : List A) → tail (drop n l) ≡ drop (suc n) l
tail_drop zero [] = refl
tail_drop zero (x ∷ l) = refl
tail_drop (suc n) [] = refl
tail_drop (suc n) (x ∷ l) = tail_drop n l

-- all that is left, and the length of a part
pub rest_all : {A : Type 0} (n : ℕ) (l : List A) → take (length l - n) (drop n l) ≡ drop n l
rest_all n l = take_all (length l - n) (drop n l) (le_of_eq (length-drop n l))

pub part_length_lem : {A : Type 0} (from n : ℕ) (l : List A) → from + n ≤ length l → length (take n (drop from l)) ≡ n
part_length_lem from n l h = length-take-le n (drop from l) (omega (arith, length-drop from l))

pub two_first : (l : List ℕ) → 2 ≤ length l → l ≡ get_or l 0 0 ∷ get_or l 1 0 ∷ drop 2 l
two_first [] h = absurd (omega arith)
two_first (x ∷ []) h = absurd (omega arith)
two_first (x ∷ y ∷ l) h = refl

-- lists that agree on their first n elements agree on fewer, on each of them, and on each part of them
pub same_fewer : {A : Type 0} (m n : ℕ) (c d : List A) → m ≤ n → take n c ≡ take n d → take m c ≡ take m d
same_fewer m n c d l e = sym (take-take m n c l) ∙ ap (take m) e ∙ take-take m n d l

pub same_word : (j n : ℕ) (c d : List ℕ) → j < n → take n c ≡ take n d → get_or c j 0 ≡ get_or d j 0
same_word j n c d l e = sym (get_or-take n c j 0 l) ∙ ap (λ (x : List ℕ). get_or x j 0) e ∙ get_or-take n d j 0 l

pub same_part : {A : Type 0} (from m n : ℕ) (c d : List A) → from + m ≤ n → take n c ≡ take n d → take m (drop from c) ≡ take m (drop from d)
same_part from m n c d l e = sym (drop_take from m c) ∙ ap (drop from) (same_fewer (from + m) n c d l e) ∙ drop_take from m d

-- ---- runs of one element, and what follows them

pub take_replicate : {A : Type 0} (n m : ℕ) (x : A) → n ≤ m → take n (replicate m x) ≡ replicate n x
take_replicate zero m x h = refl
take_replicate (suc n) zero x h = absurd (omega arith)
take_replicate (suc n) (suc m) x h = ap {B = List _} (λ t. x ∷ t) (take_replicate n m x (omega arith))

module _ {A : Type 0} (d : A) (n : ℕ) (x : A) (l : List A) where
  pub get_d_run : (j : ℕ) → j < n → get_or (replicate n x ++ l) j d ≡ x
  get_d_run j h = get_or-append (replicate n x) l d j (omega (arith, length-replicate n x)) ∙ get_or-replicate n j x d h

  pub get_d_after_run : (j : ℕ) → get_or (replicate n x ++ l) (n + j) d ≡ get_or l j d
  get_d_after_run j = ap (λ (m : ℕ). get_or (replicate n x ++ l) (m + j) d) (sym (length-replicate n x)) ∙ get_or-append-add (replicate n x) l j d

-- ---- five lists joined: table, out coins, replies and later coins of a round, and what follows

pub regroup : {A : Type 0} (a b c d e : List A) → (a ++ (b ++ (c ++ d))) ++ e ≡ a ++ (b ++ (c ++ (d ++ e)))
regroup a b c d e = simp append_assoc

pub opened : {A : Type 0} (t o p q x : List A) → (t ++ (o ++ (p ++ q))) ++ x ≡ (t ++ o) ++ (p ++ (q ++ x))
opened t o p q x = simp append_assoc
