use Prim.Native.Nat.{◌-◌}
use native.Mathlib.Omega.{arith}
use mathlib.Core.Path.{refl, ap, ◌∙◌}
use Rattle.definition.specs.Verdict.{refuse_at}
use Rattle.edition.specs.Meaning.{edition_of}
use Rattle.outcome.specs.Meaning.{place_of}
use Rattle.sheet_change.proofs.Folds.{differs_here, equal_here, from_one, none_after}
use Rattle.sheet_change.proofs.other_fold.Goals as goal

pub fold-first-requires : goal.fold-first-requires
unfolding edition_of
fold-first-requires c = (c.requires.0, omega arith)

pub loop-i-init : goal.loop-i-init
loop-i-init c = refl

pub fold-requires : goal.fold-requires
unfolding edition_of
fold-requires c = (c.requires.0, omega (arith, c.requires.1, c.loop-i-test.true))

pub returns-then-fold-first : goal.returns-then-fold-first
unfolding place_of edition_of
returns-then-fold-first c =
    let l = c.loop-i in
    let e = differs_here c.args.w.now c.requires.1 l.i (omega (arith, c.loop-i-test.true)) c.fold.ensures.0 c.fold-first.ensures.0 c.if-fold-first.true in
    ap (refuse_at 13) (e ∙ l.invariant) ∙ from_one c.args.w.now c.requires.1

pub loop-i-preserved : goal.loop-i-preserved
unfolding edition_of
loop-i-preserved c =
    let l = c.loop-i in
    let t = c.loop-i-test.true in
    equal_here c.args.w.now c.requires.1 l.i (omega (arith, t)) c.fold.ensures.0 c.fold-first.ensures.0 c.if-fold-first.false ∙ l.invariant

pub returns : goal.returns
unfolding place_of
returns c =
    let l = c.loop-i in
    ap (refuse_at 13) (none_after c.args.w.now c.requires.1 l.i (omega (arith, c.loop-i-test.false)) ∙ l.invariant) ∙ from_one c.args.w.now c.requires.1
