-- The places of all tests that are true: how many there are, which they are, and the elements whose test is false.
use Rattle.std.specs.Prelude.{ℕ, zero, suc, ◌+◌, ◌≤◌, ◌≡◌, refl, Bool, true, false, ◌||◌, length, get_or}
use Rattle.std.proofs.Common.{add-zero, le_antisymm, arith, inl, inr, ⊎_elim, sym, ap, ap₂, ◌∙◌, subst}
use mathlib.Core.List.{List, [], ◌∷◌, map, zip_with}
use Rattle.nearest_definition.specs.Nearest.{all_true}
use Rattle.list_laws.specs.All.{All}
use Rattle.decoding.specs.Searches.{In}

-- two lists, element by element: no shorter than both, and the first as the image of another
pub zip_length : {A B C : Type 0} (s : A → B → C) (xs : List A) (ys : List B) → length xs ≡ length ys → length (zip_with s xs ys) ≡ length xs
unfolding zip_with
zip_length s [] ys l = refl
zip_length s (x ∷ xs) [] l = absurd (omega arith)
zip_length s (x ∷ xs) (y ∷ ys) l = ap suc (zip_length s xs ys (omega arith))

pub zip_map_left : {A B C D : Type 0} (s : B → C → D) (f : A → B) (xs : List A) (ys : List C) → zip_with s (map f xs) ys ≡ zip_with (λ x y. s (f x) y) xs ys
unfolding zip_with
zip_map_left s f [] ys = refl
zip_map_left s f (x ∷ xs) [] = refl
zip_map_left s f (x ∷ xs) (y ∷ ys) = ap {B = List _} (λ r. s (f x) y ∷ r) (zip_map_left s f xs ys)

-- the elements whose test is false
abbrev pub kept : {B : Type 0} → List Bool → List B → List B
kept [] xs = []
kept (b ∷ bs) [] = []
kept (true ∷ bs) (x ∷ xs) = kept bs xs
kept (false ∷ bs) (x ∷ xs) = x ∷ kept bs xs

pub kept_count : {B : Type 0} (from : ℕ) (bs : List Bool) (xs : List B) → length bs ≡ length xs → length (kept bs xs) + length (all_true from bs) ≡ length xs
unfolding all_true
kept_count from [] [] l = refl
kept_count from [] (x ∷ xs) l = absurd (omega arith)
kept_count from (b ∷ bs) [] l = absurd (omega arith)
kept_count from (true ∷ bs) (x ∷ xs) l = omega (arith, kept_count (suc from) bs xs (omega arith))
kept_count from (false ∷ bs) (x ∷ xs) l = omega (arith, kept_count (suc from) bs xs (omega arith))

pub all_kept : {B : Type 0} (P : B → Type 0) (bs : List Bool) (xs : List B) → All P xs → All P (kept bs xs)
all_kept P [] xs h = tt
all_kept P (b ∷ bs) [] h = tt
all_kept P (true ∷ bs) (x ∷ xs) h = all_kept P bs xs h.1
all_kept P (false ∷ bs) (x ∷ xs) h = (h.0, all_kept P bs xs h.1)

-- their number does not depend on where the count begins, and is no more than that of the tests
pub count_from : (a b : ℕ) (bs : List Bool) → length (all_true a bs) ≡ length (all_true b bs)
unfolding all_true
count_from a b [] = refl
count_from a b (true ∷ bs) = ap suc (count_from (suc a) (suc b) bs)
count_from a b (false ∷ bs) = count_from (suc a) (suc b) bs

pub count_most : (from : ℕ) (bs : List Bool) → length (all_true from bs) ≤ length bs
unfolding all_true
count_most from [] = omega arith
count_most from (true ∷ bs) = omega (arith, count_most (suc from) bs)
count_most from (false ∷ bs) = omega (arith, count_most (suc from) bs)

-- two tests at once are true at no more places than both together
pub count_either : {B C : Type 0} (from : ℕ) (s t : B → C → Bool) (xs : List B) (ys : List C) →
    length (all_true from (zip_with (λ x y. s x y || t x y) xs ys)) ≤ length (all_true from (zip_with s xs ys)) + length (all_true from (zip_with t xs ys))
unfolding zip_with all_true
count_either from s t [] ys = omega arith
count_either from s t (x ∷ xs) [] = omega arith
count_either from s t (x ∷ xs) (y ∷ ys) = go (s x y) (t x y) (count_either (suc from) s t xs ys)
  where
    go : (a b : Bool) → length (all_true (suc from) (zip_with (λ x y. s x y || t x y) xs ys)) ≤ length (all_true (suc from) (zip_with s xs ys)) + length (all_true (suc from) (zip_with t xs ys)) →
        length (all_true from ((a || b) ∷ zip_with (λ x y. s x y || t x y) xs ys)) ≤ length (all_true from (a ∷ zip_with s xs ys)) + length (all_true from (b ∷ zip_with t xs ys))
    go true true h = omega arith
    go true false h = omega arith
    go false true h = omega arith
    go false false h = omega arith

-- where one test is true wherever another is, it is true at no fewer places
pub count_weaker : {B C : Type 0} (from : ℕ) (s t : B → C → Bool) (xs : List B) (ys : List C) → ((x : B) (y : C) → s x y ≡ true → t x y ≡ true) →
    length (all_true from (zip_with s xs ys)) ≤ length (all_true from (zip_with t xs ys))
unfolding zip_with all_true
count_weaker from s t [] ys w = omega arith
count_weaker from s t (x ∷ xs) [] w = omega arith
count_weaker from s t (x ∷ xs) (y ∷ ys) w = go (s x y) (t x y) (w x y) (count_weaker (suc from) s t xs ys w)
  where
    go : (a b : Bool) → (a ≡ true → b ≡ true) → length (all_true (suc from) (zip_with s xs ys)) ≤ length (all_true (suc from) (zip_with t xs ys)) →
        length (all_true from (a ∷ zip_with s xs ys)) ≤ length (all_true from (b ∷ zip_with t xs ys))
    go true true k h = omega arith
    go true false k h = let e = k refl in let z : ◌≡◌ {A = ℕ} 0 1 = cc in absurd (omega arith)
    go false true k h = omega arith
    go false false k h = omega arith

-- ---- which they are: place from + j is among them exactly if test j is true, and each is larger than the one before

shift : (a b : ℕ) → suc a + b ≡ a + suc b
shift a b = omega arith

pub true_in : (from j : ℕ) (bs : List Bool) → get_or bs j false ≡ true → In (from + j) (all_true from bs)
unfolding all_true
true_in from j [] e = let z : ◌≡◌ {A = ℕ} 0 1 = cc in absurd (omega arith)
true_in from zero (true ∷ bs) e = inl (add-zero from)
true_in from zero (false ∷ bs) e = let z : ◌≡◌ {A = ℕ} 0 1 = cc in absurd (omega arith)
true_in from (suc j) (true ∷ bs) e = inr (subst (λ (n : ℕ). In n (all_true (suc from) bs)) (shift from j) (true_in (suc from) j bs e))
true_in from (suc j) (false ∷ bs) e = subst (λ (n : ℕ). In n (all_true (suc from) bs)) (shift from j) (true_in (suc from) j bs e)

pub in_true : (from n : ℕ) (bs : List Bool) → In n (all_true from bs) → (j : ℕ) × ((n ≡ from + j) × (get_or bs j false ≡ true))
unfolding all_true
in_true from n [] m = absurd m
in_true from n (true ∷ bs) (inl e) = (0, (e ∙ sym (add-zero from), refl))
in_true from n (true ∷ bs) (inr m) = let r = in_true (suc from) n bs m in (suc r.0, (r.1.0 ∙ shift from r.0, r.1.1))
in_true from n (false ∷ bs) m = let r = in_true (suc from) n bs m in (suc r.0, (r.1.0 ∙ shift from r.0, r.1.1))

-- each number is at least this, and larger than the one before it
abbrev pub Rising : ℕ → List ℕ → Type 0
Rising least [] = Unit {0}
Rising least (n ∷ ns) = (least ≤ n) × Rising (suc n) ns

rising_later : (a b : ℕ) (ns : List ℕ) → a ≤ b → Rising b ns → Rising a ns
rising_later a b [] l h = tt
rising_later a b (n ∷ ns) l h = (omega (arith, h.0), h.1)

pub rising : (from : ℕ) (bs : List Bool) → Rising from (all_true from bs)
unfolding all_true
rising from [] = tt
rising from (true ∷ bs) = (omega arith, rising (suc from) bs)
rising from (false ∷ bs) = rising_later from (suc from) (all_true (suc from) bs) (omega arith) (rising (suc from) bs)

-- rising lists with the same numbers are equal
rising_least : (least : ℕ) (ns : List ℕ) (j : ℕ) → Rising least ns → In j ns → least ≤ j
rising_least least [] j h m = absurd m
rising_least least (n ∷ ns) j h (inl e) = omega (arith, h.0, e)
rising_least least (n ∷ ns) j h (inr m) = omega (arith, h.0, rising_least (suc n) ns j h.1 m)

pub rising_same : (a b : ℕ) (ns ms : List ℕ) → Rising a ns → Rising b ms → ((j : ℕ) → In j ns → In j ms) → ((j : ℕ) → In j ms → In j ns) → ns ≡ ms
rising_same a b [] [] r s f g = refl
rising_same a b [] (m ∷ ms) r s f g = absurd (g m (inl refl))
rising_same a b (n ∷ ns) [] r s f g = absurd (f n (inl refl))
rising_same a b (n ∷ ns) (m ∷ ms) r s f g =
    ap₂ (λ (x : ℕ) (xs : List ℕ). x ∷ xs) first (rising_same (suc n) (suc m) ns ms r.1 s.1 (λ j k. later n m ns ms r.1 f (sym first) j k) (λ j k. later m n ms ns s.1 g first j k))
  where
    first : n ≡ m
    first = le_antisymm (rising_least n (n ∷ ns) m (omega arith, r.1) (g m (inl refl))) (rising_least m (m ∷ ms) n (omega arith, s.1) (f n (inl refl)))

    later : (n m : ℕ) (ns ms : List ℕ) → Rising (suc n) ns → ((j : ℕ) → In j (n ∷ ns) → In j (m ∷ ms)) → m ≡ n → (j : ℕ) → In j ns → In j ms
    later n m ns ms r f e j k = ⊎_elim (λ (z : j ≡ m). absurd (omega (arith, z, e, rising_least (suc n) ns j r k))) (λ (z : In j ms). z) (f j (inr k))
