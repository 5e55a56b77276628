use native.Mathlib.Omega.{arith}
use Prim.Native.Nat.{◌+◌}
use lib.ListN.{get_or}
use Rattle.definition.specs.Field.{spelling_of}
use Rattle.layouts.specs.Spellings.{count_most}
use Rattle.honest_rest.proofs.round_words.Goals as goal

pub overflow_add-result : goal.overflow_add-result
overflow_add-result c =
    let w = c.args.w.now in
    omega (arith, c.words.ensures.1, c.round_coins-coins.ensures, count_most (spelling_of (get_or w 0 0)) (get_or w 5 0 + 2), c.requires.in_bounds)
