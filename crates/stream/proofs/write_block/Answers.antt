use Prim.Native.Nat.{◌*◌, ◌≤◌, ◌<◌}
use native.Mathlib.Omega.{arith}
use mathlib.Core.Path.{◌≡◌, refl, sym, ◌∙◌}
use mathlib.Core.List.{flat_map}
use lib.ListN.{length, get_or, take}
use lib.Seq.{length-take-le, take_all}
use Rattle.definition.specs.Block.{block_count}
use Rattle.list_laws.specs.Overwriting.{overwrite_none}
use Rattle.stream.specs.Checks.{summed_start, summed_next, summed_end}
use Rattle.stream.specs.WrittenBlocks.{block_of, block_of_at, block_of_length, bytes_last, bytes_next}
use Rattle.stream.proofs.write_block.Goals as goal

pub loop-i-init : goal.loop-i-init
unfolding flat_map
loop-i-init c =
    let a = c.args in
    (summed_start (block_of (take a.count a.words.now) a.b) a.b, sym (overwrite_none a.out.now (512 * a.b)))

pub loop-i-preserved : goal.loop-i-preserved
loop-i-preserved c =
    let l = c.loop-i in
    let a = c.args in
    let w = take a.count a.words.now in
    let x = block_of w a.b in
    let m : length w ≡ a.count = length-take-le a.count a.words.now c.requires.0 in
    let h : a.b < block_count (length w) = rw m c.requires.1.0 in
    let n : length x ≡ 127 = block_of_length w a.b h in
    let p = c.put_word in
    let t : l.i < 127 = omega (arith, c.loop-i-test.true) in
    let e : c.filled-x.result ≡ get_or x l.i 0 = c.filled-x.ensures ∙ sym (block_of_at w a.b h l.i t) in (
      summed_next x n t e c.add_weighted-total.ensures l.invariant.0,
      bytes_next a.out.now (512 * a.b) x l.i (omega (arith, c.requires.1.1)) (omega (arith, n, t)) e l.invariant.1 p.ensures,
    )

pub returns : goal.returns
returns c =
    let l = c.loop-i in
    let a = c.args in
    let w = take a.count a.words.now in
    let x = block_of w a.b in
    let m : length w ≡ a.count = length-take-le a.count a.words.now c.requires.0 in
    let h : a.b < block_count (length w) = rw m c.requires.1.0 in
    let n : length x ≡ 127 = block_of_length w a.b h in
    let t : 127 ≤ l.i = omega (arith, c.loop-i-test.false) in
    let whole : take l.i x ≡ x = take_all l.i x (omega (arith, n, t)) in
    bytes_last a.out.now (512 * a.b) a.b x (omega (arith, c.requires.1.1)) n (summed_end x n t l.invariant.0) (rw whole at l.invariant.1) c.put_word-2.ensures
