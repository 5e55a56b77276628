use native.Mathlib.Omega.{arith}
use mathlib.Core.Path.{sym, ap, ◌∙◌}
use Prim.Native.Nat.{◌+◌}
use lib.ListN.{drop}
use Rattle.hashing.specs.Sha256.{padded, blocks_of, hash_blocks, compress}
use Rattle.hash_laws.specs.Padding.{block_count, message_blocks}
use Rattle.hash_laws.specs.Steps.{blocks_next, blocks_end}
use Rattle.compression.specs.Meaning.{state_of}
use Rattle.sha.proofs.hash.Goals as goal

pub load-requires : goal.load-requires
unfolding block_count
load-requires c = omega arith

pub loop-b-preserved : goal.loop-b-preserved
unfolding block_count
loop-b-preserved c =
    let l = c.loop-b in
    let x = blocks_of (padded c.args.m.now) in
    ap (λ s. hash_blocks s (drop (l.b + 1) x)) (c.compress-s.ensures ∙ ap (compress (state_of l.s)) c.load.ensures)
    ∙ sym (blocks_next (state_of l.s) x l.b (omega (arith, message_blocks c.args.m.now))) ∙ l.invariant

pub returns : goal.returns
unfolding block_count
returns c =
    let l = c.loop-b in
    sym (blocks_end (state_of l.s) (blocks_of (padded c.args.m.now)) l.b (omega (arith, message_blocks c.args.m.now))) ∙ l.invariant
