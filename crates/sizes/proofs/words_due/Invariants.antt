use Rattle.edition.specs.Meaning.{edition_of}
use Rattle.sizes.proofs.SizeLaws.{Counted}
use Rattle.sizes.proofs.words_due.Given as goal

abbrev pub invariant-loop-i : goal.invariant-loop-i
invariant-loop-i l = Counted (edition_of l.e) l.w l.due l.d l.i
