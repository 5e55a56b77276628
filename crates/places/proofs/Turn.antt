-- One turn of the count by marks: of the list backwards the element after the first n. Assumes nothing.
use Prim.Native.Nat.{ℕ, ◌+◌, ◌-◌, ◌<◌}
use native.Mathlib.Omega.{arith}
use mathlib.Core.Bool.{Bool, true, false, not}
use mathlib.Core.List.{List, reverse}
use mathlib.Core.Path.{◌≡◌, ap, ◌∙◌}
use lib.ListN.{length, get_or, drop, set}
use Rattle.std.proofs.lemmas.List.{length-reverse, get_or-reverse, get_or_default}
use Rattle.list_laws.specs.All.{All}
use Rattle.places.specs.Marks.{Counted, Marked, is_mark, index_below, mark_new, mark_old, marked_turn}

module _ (js marks : List ℕ) (count n k x : ℕ) (all : All (λ j. j < 2048) js) (t : (n < length (reverse js)) × (x ≡ get_or (reverse js) n x)) (s : k ≡ n + 1) (v : Counted js count (length js - n) × Marked 2048 (drop (length js - n) js) marks) where
  i : ℕ
  i = length js - n

  pub inside : n < length js
  inside = omega (arith, t.0, length-reverse js)

  at : x ≡ get_or js (length js - n - 1) 0
  at =
      let e : length js - 1 - n ≡ length js - n - 1 = omega arith in
      let h : n < length js = inside in
      t.1 ∙ get_or-reverse js n x h ∙ ap (λ (m : ℕ). get_or js m x) e ∙ get_or_default js _ x 0 (omega arith)

  down : length js - k ≡ length js - n - 1
  down = omega (arith, s)

  pub below : x < 2048
  below = rw at (index_below js marks count _ all (omega (arith, inside)) v.0 v.1)

  pub next_marks : {new : List ℕ} → new ≡ set marks x 1 → Marked 2048 (drop (length js - k) js) new
  next_marks e = rw (e, down) (rw at (marked_turn js marks count _ all (omega (arith, inside)) v.0 v.1))

  pub next_new : {b : Bool} → b ≡ is_mark (get_or marks x 0) → not b ≡ true → Counted js (count + 1) (length js - k)
  next_new e z = rw down (mark_new js marks count _ all (omega (arith, inside)) v.0 v.1 (rw at at e) z)

  pub next_old : {b : Bool} → b ≡ is_mark (get_or marks x 0) → not b ≡ false → Counted js count (length js - k)
  next_old e z = rw down (mark_old js marks count _ all (omega (arith, inside)) v.0 v.1 (rw at at e) z)
