use mathlib.Core.Path.{◌≡◌}
use Prim.Native.Nat.{◌*◌}
use lib.ListN.{drop}
use Rattle.hashing.specs.Sha256.{schedule, turns}
use Rattle.hash_laws.specs.Ring.{Going}
use Rattle.compression.specs.Meaning.{state_of}
use Rattle.compression.proofs.rounds.Given as goal

abbrev pub invariant-loop-t : goal.invariant-loop-t
invariant-loop-t l = turns (state_of l.v) (drop l.t l.k) (drop l.t (schedule 48 l.w)) ≡ turns (state_of l.initial.v) l.k (schedule 48 l.w)

abbrev pub invariant-loop-q : goal.invariant-loop-q
invariant-loop-q l = Going l.k l.initial.w (turns (state_of l.initial.v) (drop 16 l.k) (drop 16 (schedule 48 l.initial.w))) (4 * l.q) (state_of l.v) l.w
