use Prim.Native.Nat.{◌≤◌}
use native.Mathlib.Omega.{arith}
use mathlib.Core.Path.{◌≡◌, sym, ◌∙◌}
use lib.ListN.{length, drop, get_or}
use lib.Seq.{length_front, length-take-le, take_at}
use Rattle.list_laws.specs.Zeros.{zeros, length_zeros}
use Rattle.definition.specs.Sheet.{sheet_of}
use Rattle.edition.specs.Meaning.{edition_of}
use Rattle.run_input.proofs.Inputs.{at_front, drawn_coins, drawn_degree, drawn_sheet}
use Rattle.run_input.proofs.draw.Goals as goal

pub overflow_cast-degree : goal.overflow_cast-degree
overflow_cast-degree c = omega (arith, drawn_degree c.args.generator.v c.draw-next.ensures)

pub coins_due-due-requires : goal.coins_due-due-requires
unfolding edition_of
coins_due-due-requires c =
    let d = drawn_sheet c.args.generator.v c.draw-next.ensures in
    (omega (arith, d.0), d.1)

pub slice_bounds-coefficients-end : goal.slice_bounds-coefficients-end
slice_bounds-coefficients-end c = omega (arith, drawn_degree c.args.generator.v c.draw-next.ensures, length_zeros 2048)

pub slice_bounds-after_sheet-end-2 : goal.slice_bounds-after_sheet-end-2
slice_bounds-after_sheet-end-2 c =
    let d = c.draw-next in
    sym (length-take-le (get_or d.new.w 2 0) (zeros 2048) (omega (arith, drawn_degree c.args.generator.v d.ensures, length_zeros 2048)))

pub slice_bounds-coins-end : goal.slice_bounds-coins-end
unfolding edition_of
slice_bounds-coins-end c = omega (arith, drawn_coins c.args.generator.v c.draw-next.ensures, c.coins_due-due.ensures, length_zeros 318)

pub slice_bounds-after_sheet-end-3 : goal.slice_bounds-after_sheet-end-3
unfolding edition_of
slice_bounds-after_sheet-end-3 c =
    let n = c.coins_due-due in
    sym (length-take-le n.result (zeros 318) (omega (arith, drawn_coins c.args.generator.v c.draw-next.ensures, n.ensures, length_zeros 318)))

pub after_sheet-after-requires : goal.after_sheet-after-requires
unfolding sheet_of edition_of
after_sheet-after-requires c =
    let v = c.args.generator.v in
    let d = c.draw-next in
    let n = c.coins_due-due in
    let size = length-take-le (get_or d.new.w 2 0) (zeros 2048) (omega (arith, drawn_degree v d.ensures, length_zeros 2048)) in
    let due = length-take-le n.result (zeros 318) (omega (arith, drawn_coins v d.ensures, n.ensures, length_zeros 318)) in record { w_len = drawn_sheet v d.ensures; coefficients_len = (size, due ∙ n.ensures) }

pub returns : goal.returns
unfolding edition_of
returns c =
    let v = c.args.generator.v in
    let d = c.draw-next in
    let n = c.coins_due-due in
    let r = c.after_sheet-after in
    let degree = get_or d.new.w 2 0 in
    let few : degree ≤ length (zeros 2048) = omega (arith, drawn_degree v d.ensures, length_zeros 2048) in
    let due : n.result ≤ length (zeros 318) = omega (arith, drawn_coins v d.ensures, n.ensures, length_zeros 318) in
    let long : length r.new.coefficients ≡ degree = r.auto.coefficients ∙ length-take-le degree (zeros 2048) few in
    let many : length r.new.coins ≡ n.result = r.auto.coins ∙ length-take-le n.result (zeros 318) due in record { degree_in_bounds = (omega (arith, few, length_front (zeros 2048) r.new.coefficients degree r.auto.coefficients), omega (arith, due, length_front (zeros 318) r.new.coins n.result r.auto.coins)); v_value = at_front v (take_at r.new.coefficients (drop degree (zeros 2048)) degree long) (take_at r.new.coins (drop n.result (zeros 318)) n.result many) (r.ensures v d.ensures) }
