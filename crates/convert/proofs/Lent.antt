-- A list of which the part from number 6 on is lent. Assumes nothing.
use Prim.Native.Nat.{ℕ, ◌-◌, ◌≤◌}
use native.Mathlib.Nat.{le_of_eq}
use mathlib.Core.List.{List, ◌++◌, append-nil}
use mathlib.Core.Path.{◌≡◌, ap, ◌∙◌}
use lib.ListN.{length, take, drop, drop_of_length-le, length-drop}
use lib.Seq.{drop_at, length-take-le}
use borrow.Rule.Slice.PartMut.{put_mid}

-- the part when it is back
pub from_six : (l back : List ℕ) → 6 ≤ length l → drop 6 (put_mid 6 (length l - 6) l back) ≡ back
from_six l back long =
    drop_at (take 6 l) _ 6 (length-take-le 6 l long)
    ∙ ap (λ (x : List ℕ). back ++ x) (drop_of_length-le (drop 6 l) {i = length l - 6} (le_of_eq (length-drop 6 l))) ∙ append-nil back
