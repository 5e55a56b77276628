use mathlib.Core.Path.{◌≡◌}
use lib.ListN.{drop}
use Rattle.hashing.specs.Sha256.{padded, blocks_of, hash_blocks, initial}
use Rattle.compression.specs.Meaning.{state_of}
use Rattle.sha.proofs.hash.Given as goal

abbrev pub invariant-loop-b : goal.invariant-loop-b
invariant-loop-b l = hash_blocks (state_of l.s) (drop l.b (blocks_of (padded l.m))) ≡ hash_blocks initial (blocks_of (padded l.m))
