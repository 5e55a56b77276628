-- A list walked from its back to its front, with or without a store at each place.
use Rattle.std.specs.Prelude.{ℕ, suc, ◌+◌, ◌-◌, ◌≤◌, ◌<◌, ◌≡◌, List, ◌∷◌, length, take, drop, get_or, set}
use Rattle.std.proofs.Common.{◌∙◌, add-one, arith, drop-cons, get_or-set_other}
use Rattle.list_laws.specs.Backwards.{drop_back, drop_store}

pub one_more : (n i : ℕ) → 0 < i → i ≤ n → n - (i - 1) ≡ suc (n - i)
one_more n i h k = omega arith

-- the first n elements, from number i - 1 on
pub part_back : {A : Type 0} (l : List A) (z : A) (n i : ℕ) → 0 < i → i ≤ n → n ≤ length l →
    take (n - (i - 1)) (drop (i - 1) l) ≡ get_or l (i - 1) z ∷ take (n - i) (drop i l)
part_back l z n i h k e =
    let b : i ≤ length l = omega arith in
    rw (one_more n i h k, drop_back l z i h b)

pub part_store : {A : Type 0} (l : List A) (n i : ℕ) (v : A) → 0 < i → i ≤ n → n ≤ length l →
    take (n - (i - 1)) (drop (i - 1) (set l (i - 1) v)) ≡ v ∷ take (n - i) (drop i l)
part_store l n i v h k e =
    let b : i ≤ length l = omega arith in
    rw (one_more n i h k, drop_store l i v h b)

-- a store leaves the places below it
pub unchanged : {A : Type 0} (z : A) (l m : List A) (i : ℕ) (v : A) → ((j : ℕ) → j < i → get_or l j z ≡ get_or m j z) → 0 < i →
    (j : ℕ) → j < i - 1 → get_or (set l (i - 1) v) j z ≡ get_or m j z
unchanged z l m i v e h j k = get_or-set_other l (i - 1) j v z (λ z. less j (i - 1) k z) ∙ e j (omega arith)
  where
    less : (a b : ℕ) → a < b → a ≡ b → ⊥
    less a b x y = omega arith

-- one element more at the front, and four
pub drop_one : {A : Type 0} (l : List A) (z : A) (i : ℕ) → i < length l → drop i l ≡ get_or l i z ∷ drop (i + 1) l
drop_one l z i h = rw add-one (drop-cons l i z h)

pub drop_four : {A : Type 0} (l : List A) (z : A) (i : ℕ) → i + 3 < length l →
    drop i l ≡ get_or l i z ∷ get_or l (i + 1) z ∷ get_or l (i + 2) z ∷ get_or l (i + 3) z ∷ drop (i + 4) l
drop_four l z i h =
    let a : i + 1 + 1 ≡ i + 2 = omega arith in
    let b : i + 2 + 1 ≡ i + 3 = omega arith in
    let c : i + 3 + 1 ≡ i + 4 = omega arith in
    cc (a, b, c, drop_one l z i (omega arith), drop_one l z (i + 1) (omega arith), drop_one l z (i + 2) (omega arith), drop_one l z (i + 3) h)
