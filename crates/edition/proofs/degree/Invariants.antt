use Prim.Native.Nat.{◌/◌}
use mathlib.Core.Path.{◌≡◌}
use lib.ListN.{get_or, take}
use Rattle.definition.specs.Lists.{product_of}
use Rattle.definition.specs.Sheet.{fold_words}
use Rattle.edition.specs.Meaning.{edition_of}
use Rattle.edition.proofs.degree.Given as goal

abbrev pub invariant-loop-j : goal.invariant-loop-j
invariant-loop-j l = l.d ≡ get_or l.w 2 0 / product_of (take l.j (fold_words (edition_of l.e) l.w))
