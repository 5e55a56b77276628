use native.Mathlib.Omega.{arith}
use mathlib.Core.Path.{◌∙◌, ap, subst, sym}
use Prim.Native.Nat.{◌<◌}
use lib.ListN.{length}
use Rattle.list_laws.specs.All.{All}
use Rattle.list_laws.specs.Lists.{part_length_lem}
use Rattle.level_words.proofs.Ready.{product_most, after_is}
use Rattle.level_words.proofs.reads_after_coins.Goals as goal

pub count-requires : goal.count-requires
count-requires c = subst (All (λ j. j < 2048)) (sym c.part.ensures) c.requires.count_in_bounds.1.1

pub overflow_mul-result : goal.overflow_mul-result
overflow_mul-result c =
    let p = c.part in
    let i = c.requires.numbers.0 in
    let long = ap length p.ensures ∙ part_length_lem c.args.at c.args.count c.args.w.now c.requires.count_in_bounds.0 in
    omega (arith, product_most p.result.now c.count.ensures (c.fold.ensures.0 ∙ i.fold) (omega (arith, long, c.requires.count_in_bounds.1.0)) i.small)

pub overflow_add-result : goal.overflow_add-result
overflow_add-result c =
    let p = c.part in
    let i = c.requires.numbers.0 in
    let long = ap length p.ensures ∙ part_length_lem c.args.at c.args.count c.args.w.now c.requires.count_in_bounds.0 in
    omega (arith, c.requires.numbers.1, product_most p.result.now c.count.ensures (c.fold.ensures.0 ∙ i.fold) (omega (arith, long, c.requires.count_in_bounds.1.0)) i.small)

pub returns : goal.returns
returns c =
    let p = c.part in
    after_is _ c.args.state c.args.reads p.result.now c.count.ensures p.ensures (c.fold.ensures.0 ∙ c.requires.numbers.0.fold)
