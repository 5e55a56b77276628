use native.Mathlib.Omega.{arith}
use mathlib.Core.Path.{◌∙◌}
use Rattle.list_laws.specs.Zeros.{length_zeros}
use Rattle.sheets.proofs.DrawLaws.{all_drawn, draw_below_lem, none_drawn, none_left, one_drawn}
use Rattle.sheets.proofs.draw.Goals as goal

pub loop-j-init : goal.loop-j-init
loop-j-init c = (length_zeros 56, none_drawn c.args.generator.v c.args.w.now c.requires)

pub returns-then-count-eq0 : goal.returns-then-count-eq0
returns-then-count-eq0 c =
    none_left c.permitted-count.new.values c.permitted-count.result c.loop-j.invariant.1 c.loop-j-test.true c.permitted-count.ensures.values_after c.permitted-count.ensures.upper_bound.0 (c.permitted-count.auto.values ∙ c.loop-j.invariant.0) c.if-count-eq0.true c.worked.ensures

pub bounds-values-d : goal.bounds-values-d
bounds-values-d c =
    omega (arith, draw_below_lem c.permitted-count.result c.loop-j.generator.v (omega arith) c.below-d.ensures)

pub loop-j-preserved : goal.loop-j-preserved
loop-j-preserved c =
    let room = c.permitted-count.auto.values ∙ c.loop-j.invariant.0 in (
      room,
      one_drawn c.permitted-count.new.values c.permitted-count.result c.loop-j.invariant.1 c.loop-j-test.true c.permitted-count.ensures.values_after c.permitted-count.ensures.upper_bound.0 room
          c.permitted-count.new.w c.if-count-eq0.false (c.permitted-count.auto.w ∙ c.loop-j.invariant.1.words) c.permitted-count.ensures.upper_bound.1 c.below-d.ensures,
    )

pub returns : goal.returns
returns c = all_drawn c.loop-j.invariant.1 (omega arith)
