use Prim.Native.Nat.{◌≤◌}
use native.Mathlib.Omega.{arith}
use mathlib.Core.Path.{refl, sym}
use lib.ListN.{length, get_or}
use lib.Seq.{length-take-le}
use Rattle.algebra.specs.PrimeField.{suited}
use Rattle.definition.specs.Sheet.{edition1, sheet_of}
use Rattle.list_laws.specs.LentParts.{begun_long, joined, others_long}
use Rattle.draws.proofs.Joins.{all_counted, coins_all, one_element}
use Rattle.draws.proofs.from_first.Goals as goal

pub slice_bounds-fill-end : goal.slice_bounds-fill-end
slice_bounds-fill-end c = omega (arith, all_counted c.requires.at_level c.requires.out_len)

pub slice_bounds-fill-end-2 : goal.slice_bounds-fill-end-2
slice_bounds-fill-end-2 c = sym (length-take-le 1 c.args.out.now (omega (arith, all_counted c.requires.at_level c.requires.out_len)))

pub fill-next-requires : goal.fill-next-requires
fill-next-requires c = omega (arith, c.modulus.ensures, (suited (get_or c.args.w.now 0 0)).large)

pub slice_bounds-rest-count : goal.slice_bounds-rest-count
slice_bounds-rest-count c =
    let f = c.fill-next in
    let n : 1 ≤ length c.args.out.now = omega (arith, all_counted c.requires.at_level c.requires.out_len) in
    omega (arith, begun_long c.args.out.now f.new.out 1 n f.auto.out)

pub slice_bounds-rest-start : goal.slice_bounds-rest-start
slice_bounds-rest-start c =
    let f = c.fill-next in
    let n : 1 ≤ length c.args.out.now = omega (arith, all_counted c.requires.at_level c.requires.out_len) in
    omega (arith, begun_long c.args.out.now f.new.out 1 n f.auto.out)

pub rest-requires : goal.rest-requires
rest-requires c =
    let f = c.fill-next in
    let n : 1 ≤ length c.args.out.now = omega (arith, all_counted c.requires.at_level c.requires.out_len) in record { at_level = c.requires.at_level; out_len = omega (arith, others_long c.args.out.now f.new.out 1 n f.auto.out, all_counted c.requires.at_level c.requires.out_len) }

pub returns : goal.returns
unfolding sheet_of
returns c =
    let a = c.args in
    let f = c.fill-next in
    let v = c.rest in
    let n : 1 ≤ length a.out.now = omega (arith, all_counted c.requires.at_level c.requires.out_len) in
    coins_all a.w.now a.pw.now a.generator.v c.requires.at_level
    (joined a.out.now f.new.out 1 n f.auto.out v.new.out refl refl)
    (one_element (get_or a.w.now 0 0) a.generator.v c.modulus.ensures (sheet_of edition1 a.w.now) refl (length-take-le 1 a.out.now n) f.ensures)
    v.ensures
