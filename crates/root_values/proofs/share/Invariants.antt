use Rattle.root_values.proofs.Dividing.{Sharing}
use Rattle.root_values.proofs.share.Given as goal

abbrev pub invariant-loop-m : goal.invariant-loop-m
invariant-loop-m g l = let A = g.A.Arithmetic in Sharing (A.over l.a) (A.laws l.a) (A.elements l.bottoms) (A.elements l.initial.tops) (A.elements l.tops) l.m (A.value l.left)
