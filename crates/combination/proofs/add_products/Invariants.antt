use Prim.Native.Nat.{ℕ}
use mathlib.Core.Path.{◌≡◌}
use mathlib.Core.List.{List}
use lib.ListN.{length}
use Rattle.list_laws.specs.Filled.{FilledOver}
use Rattle.spelling.specs.ByField.{ElementOf, field_at, elements_at}
use Rattle.quartic.specs.declared.Four.{Four}
use Rattle.elements.specs.Meaning.{value_at}
use Rattle.combination.specs.Added.{entry_at, product_at}
use Rattle.combination.proofs.add_products.Given as goal

-- `combination::add_products` meets its contract: the entries below j are as they are to be, and the others as they were. Assumes nothing.
-- entry j afterwards
abbrev pub entry : (field : ℕ) → Four → List ℕ → List ℕ → List ℕ → ℕ → ElementOf field
entry field s a b old j =
    (field_at field).◌⊕◌ (product_at field a b j) ((field_at field).◌⊗◌ (value_at field s) (entry_at field old j))

abbrev pub invariant-loop-j : goal.invariant-loop-j
invariant-loop-j l = (length l.out ≡ length l.initial.out) × FilledOver (field_at l.field).𝟘 (entry l.field l.s l.a l.b l.initial.out) (elements_at l.field l.initial.out) (elements_at l.field l.out) l.j
