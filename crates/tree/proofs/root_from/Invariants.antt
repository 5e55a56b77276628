use mathlib.Core.Path.{◌≡◌}
use lib.ListN.{drop}
use Rattle.hashing.specs.Tree.{climb}
use Rattle.tree.specs.Nodes.{nodes_of}
use Rattle.tree.proofs.root_from.Given as goal

abbrev pub invariant-loop-h : goal.invariant-loop-h
invariant-loop-h l = climb l.x l.j (drop l.h (nodes_of l.path)) ≡ climb l.initial.x l.number (nodes_of l.path)
