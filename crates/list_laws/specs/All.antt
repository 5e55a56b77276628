-- A property of each element of a list.
use Rattle.std.specs.Prelude.{ℕ, zero, suc, ◌+◌, ◌≤◌, ◌<◌, ◌≡◌, refl, length, get_or, take, drop, replicate}
use Rattle.std.proofs.Common.{add-zero, arith, sym, subst}
use mathlib.Core.List.{List, [], ◌∷◌, ◌++◌, map, flat_map}
use Rattle.definition.specs.Lists.{range}

abbrev pub All : {A : Type 0} → (A → Type 0) → List A → Type 0
All P [] = Unit {0}
All P (x ∷ xs) = P x × All P xs

pub all_map : {A : Type 0} {P Q : A → Type 0} (xs : List A) → All P xs → ((x : A) → P x → Q x) → All Q xs
all_map [] h e = tt
all_map (x ∷ xs) h e = (e x h.0, all_map xs h.1 e)

pub all_map₂ : {A : Type 0} {P Q R : A → Type 0} (xs : List A) → All P xs → All Q xs → ((x : A) → P x → Q x → R x) → All R xs
all_map₂ [] h k e = tt
all_map₂ (x ∷ xs) h k e = (e x h.0 k.0, all_map₂ xs h.1 k.1 e)

-- a property of each image, of each element, of every one, of both parts, of each number in a range
pub all_of_map : {A B : Type 0} (P : B → Type 0) (f : A → B) (xs : List A) → All (λ x. P (f x)) xs → All P (map f xs)
all_of_map P f [] h = tt
all_of_map P f (x ∷ xs) h = (h.0, all_of_map P f xs h.1)

pub all_in_map : {A B : Type 0} (P : B → Type 0) (f : A → B) (xs : List A) → All P (map f xs) → All (λ x. P (f x)) xs
all_in_map P f [] h = tt
all_in_map P f (x ∷ xs) h = (h.0, all_in_map P f xs h.1)

pub everywhere : {A : Type 0} {P : A → Type 0} (xs : List A) → ((x : A) → P x) → All P xs
everywhere [] h = tt
everywhere (x ∷ xs) h = (h x, everywhere xs h)

pub all_append : {A : Type 0} (P : A → Type 0) (xs ys : List A) → All P xs → All P ys → All P (xs ++ ys)
all_append P [] ys h k = k
all_append P (x ∷ xs) ys h k = (h.0, all_append P xs ys h.1 k)

pub all_range : (P : ℕ → Type 0) (from n : ℕ) → ((m : ℕ) → from ≤ m → m < from + n → P m) → All P (range from n)
unfolding range
all_range P from zero h = tt
all_range P from (suc n) h = (h from (omega arith) (omega arith), all_range P (suc from) n (λ m l u. h m (omega arith) (omega arith)))

-- of the parts of a list, and of lists joined
pub all_take : {A : Type 0} (P : A → Type 0) (n : ℕ) (xs : List A) → All P xs → All P (take n xs)
all_take P zero xs h = tt
all_take P (suc n) [] h = tt
all_take P (suc n) (x ∷ xs) h = (h.0, all_take P n xs h.1)

pub all_drop : {A : Type 0} (P : A → Type 0) (n : ℕ) (xs : List A) → All P xs → All P (drop n xs)
all_drop P zero xs h = h
all_drop P (suc n) [] h = tt
all_drop P (suc n) (x ∷ xs) h = all_drop P n xs h.1

pub all_left : {A : Type 0} (P : A → Type 0) (xs ys : List A) → All P (xs ++ ys) → All P xs
all_left P [] ys h = tt
all_left P (x ∷ xs) ys h = (h.0, all_left P xs ys h.1)

pub all_right : {A : Type 0} (P : A → Type 0) (xs ys : List A) → All P (xs ++ ys) → All P ys
all_right P [] ys h = h
all_right P (x ∷ xs) ys h = all_right P xs ys h.1

pub all_replicate : {A : Type 0} (P : A → Type 0) (n : ℕ) (x : A) → P x → All P (replicate n x)
all_replicate P zero x h = tt
all_replicate P (suc n) x h = (h, all_replicate P n x h)

pub all_flat : {A B : Type 0} (P : B → Type 0) (f : A → List B) (xs : List A) → All (λ x. All P (f x)) xs → All P (flat_map f xs)
unfolding flat_map
all_flat P f [] h = tt
all_flat P f (x ∷ xs) h = all_append P (f x) (flat_map f xs) h.0 (all_flat P f xs h.1)

-- by place, in a range and in any list
pub all_at : (P : ℕ → Type 0) (from n : ℕ) → All P (range from n) → (i : ℕ) → i < n → P (from + i)
unfolding range
all_at P from zero h i l = absurd (omega arith)
all_at P from (suc n) h zero l = subst P (sym (add-zero from)) h.0
all_at P from (suc n) h (suc i) l = subst P (step from i) (all_at P (suc from) n h.1 i (omega arith))
  where
    step : (a b : ℕ) → suc a + b ≡ a + suc b
    step a b = omega arith

pub at_place : {A : Type 0} (P : A → Type 0) (xs : List A) (d : A) → All P xs → (j : ℕ) → j < length xs → P (get_or xs j d)
at_place P [] d h j l = absurd (omega arith)
at_place P (x ∷ xs) d h zero l = h.0
at_place P (x ∷ xs) d h (suc j) l = at_place P xs d h.1 j (omega arith)

pub all_places : {A : Type 0} (P : A → Type 0) (xs : List A) (d : A) → ((j : ℕ) → j < length xs → P (get_or xs j d)) → All P xs
all_places P [] d h = tt
all_places P (x ∷ xs) d h = (h 0 (omega arith), all_places P xs d (λ j l. h (suc j) (omega arith)))

-- two functions that agree on each element
pub map_all : {A B : Type 0} (P : A → Type 0) (f g : A → B) (xs : List A) → All P xs → ((x : A) → P x → f x ≡ g x) → map f xs ≡ map g xs
map_all P f g [] h e = refl
map_all P f g (x ∷ xs) h e = λ i. e x h.0 i ∷ map_all P f g xs h.1 e i
