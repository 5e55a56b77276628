use Prim.Native.Nat.{◌<◌}
use native.Mathlib.Omega.{arith}
use mathlib.Core.Path.{◌≡◌, refl, sym, ◌∙◌}
use lib.ListN.{length, take}
use lib.Seq.{length-take-le}
use Rattle.definition.specs.Block.{block_count, file_of}
use Rattle.list_laws.specs.Overwriting.{overwrite_none}
use Rattle.stream.specs.WrittenBlocks.{checked_front, file_next, file_whole, front_all, front_none}
use Rattle.stream.proofs.write_file.Goals as goal

pub loop-k-init : goal.loop-k-init
loop-k-init c =
    let a = c.args in
    rw (front_none (take a.count a.words.now)) (sym (overwrite_none a.out.now 0))

pub loop-k-preserved : goal.loop-k-preserved
unfolding block_count
loop-k-preserved c =
    let l = c.loop-k in
    let a = c.args in
    let w = take a.count a.words.now in
    let p = c.write_block in
    let t = c.loop-k-test.true in
    let m : length w ≡ a.count = length-take-le a.count a.words.now c.requires.0 in
    let h : l.k < block_count (length w) = rw m (omega (arith, t)) in
    file_next w a.out.now l.k h l.invariant p.ensures

pub returns : goal.returns
unfolding block_count
returns c =
    let l = c.loop-k in
    let a = c.args in
    let w = take a.count a.words.now in
    let m : length w ≡ a.count = length-take-le a.count a.words.now c.requires.0 in
    let e : l.k ≡ block_count (length w) = rw m (omega (arith, c.loop-k-test.false)) in
    let f : checked_front w l.k ≡ file_of w = rw e (front_all w) in
    l.invariant ∙ rw f (file_whole w a.out.now)

pub write_block-requires : goal.write_block-requires
unfolding block_count
write_block-requires c = omega arith
