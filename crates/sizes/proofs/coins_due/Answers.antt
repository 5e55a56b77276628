use native.Mathlib.Omega.{arith}
use lib.ListN.{get_or}
use Rattle.edition.specs.Meaning.{edition_of}
use Rattle.sizes.proofs.SizeLaws.{coins_done, coins_start, coins_turn, time_there}
use Rattle.sizes.proofs.coins_due.Goals as goal

pub loop-i-init : goal.loop-i-init
loop-i-init c = coins_start c.args.w.now c.words-due.ensures.0

pub bounds-w-i : goal.bounds-w-i
bounds-w-i c = time_there (edition_of c.args.e) c.args.w.now c.requires.0 c.requires.1 c.loop-i.i (omega arith)

pub loop-i-preserved : goal.loop-i-preserved
loop-i-preserved c =
    coins_turn (edition_of c.args.e) c.args.w.now c.requires.0 c.requires.1 c.loop-i.invariant c.loop-i-test.true c.words.ensures.0

pub bounds-w-rounds : goal.bounds-w-rounds
bounds-w-rounds c = time_there (edition_of c.args.e) c.args.w.now c.requires.0 c.requires.1 (get_or c.args.w.now 4 0) (omega arith)

pub returns : goal.returns
returns c = coins_done (edition_of c.args.e) c.args.w.now c.requires.0 c.requires.1 c.loop-i.invariant (omega arith)
