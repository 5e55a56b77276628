-- Lists and tests: the few functions that the library lacks.
use Rattle.std.specs.Prelude.{ℕ, zero, suc, ◌*◌, Bool, true, false, cond, ◌||◌, List, [], ◌∷◌, take, drop}
use Rattle.std.proofs.Math.Option.{Option, none, some}

-- is x in a list, by a test of equality?
unfoldable pub member : {A : Type 0} → (A → A → Bool) → A → List A → Bool
member same x [] = false
member same x (y ∷ ys) = same x y || member same x ys

-- from, from + 1, .., count numbers
unfoldable pub range : ℕ → ℕ → List ℕ
range from zero = []
range from (suc count) = from ∷ range (suc from) count

-- the first count chunks of a list, size elements each
unfoldable pub chunks : {A : Type 0} → ℕ → ℕ → List A → List (List A)
chunks zero size xs = []
chunks (suc count) size xs = take size xs ∷ chunks count size (drop size xs)

-- the place of the first test that is true, where the list's head has place from
unfoldable pub first_true : ℕ → List Bool → Option ℕ
first_true from [] = none
first_true from (true ∷ bs) = some from
first_true from (false ∷ bs) = first_true (suc from) bs

-- the first of some numbers whose test is true
unfoldable pub first_of : List ℕ → List Bool → Option ℕ
first_of [] bs = none
first_of (n ∷ ns) [] = none
first_of (n ∷ ns) (true ∷ bs) = some n
first_of (n ∷ ns) (false ∷ bs) = first_of ns bs

-- the product of a list
unfoldable pub product_of : List ℕ → ℕ
product_of [] = 1
product_of (x ∷ xs) = x * product_of xs

-- a list without its repeats: of equal elements the last stays
unfoldable pub different : {A : Type 0} → (A → A → Bool) → List A → List A
different same [] = []
different same (x ∷ xs) = cond (member same x xs) (different same xs) (x ∷ different same xs)
