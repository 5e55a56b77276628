use native.Mathlib.Omega.{arith}
use mathlib.Core.Path.{◌∙◌}
use Rattle.edition.specs.Meaning.{edition_of}
use Rattle.out_coins.proofs.Rounds.{stream_rest, stream_start, stream_twelve}
use Rattle.out_coins.proofs.tests.Goals as goal

pub bounds-w-0 : goal.bounds-w-0
bounds-w-0 c = omega (arith, (stream_twelve (edition_of c.args.e) c.args.w.now c.requires.w_in_bounds).1)

pub bounds-w-1 : goal.bounds-w-1
bounds-w-1 c = omega (arith, (stream_twelve (edition_of c.args.e) c.args.w.now c.requires.w_in_bounds).1)

pub overflow_add-start : goal.overflow_add-start
overflow_add-start c =
    omega (arith, stream_start (edition_of c.args.e) c.args.w.now c.requires.w_in_bounds c.sheet_words.ensures c.words.ensures.0)

pub after_fold-requires : goal.after_fold-requires
after_fold-requires c = record { e_in_bounds = ((stream_twelve (edition_of c.args.e) c.args.w.now c.requires.w_in_bounds).0, c.requires.w_value); w_in_bounds = stream_start (edition_of c.args.e) c.args.w.now c.requires.w_in_bounds c.sheet_words.ensures c.words.ensures.0; powers = c.requires.powers }

pub returns : goal.returns
returns c =
    c.after_fold.ensures ∙ stream_rest (edition_of c.args.e) c.args.w.now c.requires.w_in_bounds c.sheet_words.ensures c.words.ensures.0
