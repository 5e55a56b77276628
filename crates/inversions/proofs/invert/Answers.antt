use Rattle.std.proofs.Common.{arith, sym, ap, ◌∙◌}
use Rattle.arithmetic.specs.Found.{found_as}
use Rattle.arithmetic.specs.Parts.{even}
use Rattle.inversions.proofs.Inverting.{one_is_zero}
use Rattle.inversions.proofs.invert.Goals as goal

pub returns-in_default : goal.returns-in_default
returns-in_default g c =
    let A = g.A.Arithmetic in
    one_is_zero (A.over c.args.a) (A.elements c.args.values.now) (A.laws c.args.a) c.products_behind-all.ensures.result_value
    (ap (found_as A.value) (sym c.in_default.is) ∙ c.inv.ensures)

pub share-requires : goal.share-requires
share-requires g c =
    let A = g.A.Arithmetic in
    let p = c.products_behind-all in
    let same = even A.width A.elements g.met.A.Arithmetic.counted p.new.behind c.args.behind.now p.auto.behind in
    record {
      values_in_bounds = (omega (arith, c.requires, same), ap (A.over c.args.a).inverse (sym p.ensures.result_value) ∙ sym c.in-Some.ensures);
      by_index = p.ensures.by_index;
    }
