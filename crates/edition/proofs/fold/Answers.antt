use native.Mathlib.Omega.{arith}
use Rattle.edition.specs.Places.{fold_word}
use Rattle.edition.proofs.fold.Goals as goal

-- src/lib.rt:39:1
pub returns : goal.returns
returns c = (fold_word _ _ _ _ c.requires.1 c.place-at.ensures.1, omega (arith, c.shared_slice_known-2-1.given c.place-at.result))
