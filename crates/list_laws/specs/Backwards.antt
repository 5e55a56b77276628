-- Lists walked from the end: what one place more brings to the elements behind it, and a store there. Assumes nothing.
use Rattle.std.specs.Prelude.{ℕ, zero, suc, ◌-◌, ◌≤◌, ◌<◌, ◌≡◌, List, ◌∷◌, length, drop, get_or, set}
use Rattle.std.proofs.Common.{◌∙◌, not-suc-le-zero, arith, length-set, drop-cons, drop-set-lt, get_or-set_same}

-- z stands for what is read outside the list
pub drop_back : {A : Type 0} (l : List A) (z : A) (i : ℕ) → 0 < i → i ≤ length l → drop (i - 1) l ≡ get_or l (i - 1) z ∷ drop i l
drop_back l z zero h e = absurd (not-suc-le-zero h)
drop_back l z (suc i) h e = let same : suc i - 1 ≡ i = omega arith in rw same (drop-cons l i z e)

pub drop_store : {A : Type 0} (l : List A) (i : ℕ) (v : A) → 0 < i → i ≤ length l → drop (i - 1) (set l (i - 1) v) ≡ v ∷ drop i l
drop_store l i v h e =
    let b : i ≤ length (set l (i - 1) v) = rw length-set e in
    let s : i - 1 < length l = omega arith in
    let t : i - 1 < i = omega arith in
    drop_back (set l (i - 1) v) v i h b ∙ rw (get_or-set_same l (i - 1) v v s, drop-set-lt i l (i - 1) v t)
