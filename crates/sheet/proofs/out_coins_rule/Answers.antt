use Rattle.definition.specs.Sheet.{out_coins_rule}
use Rattle.sheet.proofs.out_coins_rule.Goals as goal

pub returns : goal.returns
unfolding out_coins_rule
returns c = c.between.ensures
