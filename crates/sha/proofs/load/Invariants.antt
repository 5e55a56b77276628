use mathlib.Core.Path.{◌≡◌}
use lib.ListN.{length, get_or, take}
use mathlib.Core.List.{[]}
use Rattle.hashing.specs.Sha256.{padded, blocks_of}
use Rattle.sha.proofs.load.Given as goal

abbrev pub invariant-loop-t : goal.invariant-loop-t
invariant-loop-t l = (length l.w ≡ 16) × (take l.t l.w ≡ take l.t (get_or (blocks_of (padded l.m)) l.b []))
