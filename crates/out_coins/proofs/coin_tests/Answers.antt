use native.Mathlib.Omega.{arith}
use mathlib.Core.Path.{◌∙◌}
use Rattle.edition.specs.Meaning.{edition_of}
use Rattle.layouts.specs.SheetRules.{long_enough}
use Rattle.out_coins.proofs.Rounds.{coins_rest, coins_start}
use Rattle.out_coins.proofs.coin_tests.Goals as goal

-- `out_coins::coin_tests`: fold coin 0 is no out coin.
pub bounds-w-0 : goal.bounds-w-0
bounds-w-0 c = omega (arith, long_enough (edition_of c.args.e) c.args.w.now c.requires.e_in_bounds.0)

pub after_fold-requires : goal.after_fold-requires
after_fold-requires c = record { e_in_bounds = c.requires.e_in_bounds; w_in_bounds = coins_start (edition_of c.args.e) c.args.w.now c.args.coins.now c.requires.coins_len c.words.ensures.0; powers = c.requires.powers }

pub returns : goal.returns
returns c =
    c.after_fold.ensures ∙ coins_rest (edition_of c.args.e) c.args.w.now c.args.coins.now c.requires.coins_len c.words.ensures.0
