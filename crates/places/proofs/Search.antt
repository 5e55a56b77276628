-- The library's search of a slice for an element answers what `member` does. Assumes nothing.
use Prim.Native.Nat.{ℕ}
use mathlib.Core.Bool.{Bool, true, false}
use mathlib.Core.List.{List, [], ◌∷◌}
use mathlib.Core.Path.{◌≡◌, refl, sym}
use lib.Dec.{eqb}
use Rattle.std.specs.List.{list_any}
use Rattle.std.proofs.lemmas.Bool.{eqb-true, eqb-false, eq-eqb, ne_eqb}
use Rattle.definition.specs.Lists.{member}

either_way : (x y : ℕ) → eqb y x ≡ eqb x y
either_way x y = go (eqb x y) refl
  where
    go : (b : Bool) → eqb x y ≡ b → eqb y x ≡ b
    go true e = eq-eqb y x (sym (eqb-true x y e))
    go false e = ne_eqb y x (λ d. eqb-false x y e (sym d))

pub any_member : (x : ℕ) (ys : List ℕ) → list_any (λ y. eqb y x) ys ≡ member eqb x ys
unfolding member
any_member x [] = refl
any_member x (y ∷ ys) = rw (either_way x y, any_member x ys)
