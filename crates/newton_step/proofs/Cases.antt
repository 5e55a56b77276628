-- A part of words, stored back. Assumes nothing.
use Prim.Native.Nat.{ℕ, ◌≤◌}
use native.Mathlib.Omega.{arith}
use mathlib.Core.Path.{◌≡◌, ◌∙◌}
use mathlib.Core.List.{List, ◌++◌}
use lib.ListN.{length, take, drop, length-drop, length-append}
use lib.Seq.{length-take-le}

pub part_kept : (n : ℕ) (new w : List ℕ) → n ≤ length w → length new ≡ length (take n w) → length (new ++ drop n w) ≡ length w
part_kept n new w l e = length-append new (drop n w) ∙ (let d = length-drop n w in let t = length-take-le n w l in omega (arith, d, t, e))
