use native.Mathlib.Omega.{arith}
use mathlib.Core.Path.{◌≡◌, sym, ◌∙◌}
use lib.ListN.{length, get_or}
use lib.Seq.{take_all}
use mathlib.Core.List.{[]}
use Rattle.hashing.specs.Sha256.{padded, blocks_of}
use Rattle.hash_laws.specs.Padding.{block_count, message_block_length, message_word}
use Rattle.hash_laws.specs.Steps.{filled_next, filled_all}
use borrow.Author.Rules.{rules}
use Rattle.sha.proofs.load.Goals as goal

pub overflow_mul-b : goal.overflow_mul-b
unfolding block_count
overflow_mul-b c = omega arith

pub overflow_add-b : goal.overflow_add-b
unfolding block_count
overflow_add-b c = omega arith

pub loop-t-preserved : goal.loop-t-preserved
loop-t-preserved c =
    let l = c.loop-t in
    let a = c.args in
    let x = get_or (blocks_of (padded a.m.now)) a.b [] in
    let n : length x ≡ 16 = message_block_length a.m.now a.b c.requires in
    (search rules, filled_next l.w x l.t (omega arith) (omega arith) (message_word a.m.now a.b l.t c.requires (omega arith) c.word_at.ensures) l.invariant.1)

pub returns : goal.returns
returns c =
    let l = c.loop-t in
    let a = c.args in
    let x = get_or (blocks_of (padded a.m.now)) a.b [] in
    let n : length x ≡ 16 = message_block_length a.m.now a.b c.requires in
    sym (take_all 16 l.w (omega arith)) ∙ filled_all l.w x l.t n (omega arith) l.invariant.1
