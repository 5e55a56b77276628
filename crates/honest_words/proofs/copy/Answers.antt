use native.Mathlib.Omega.{arith}
use mathlib.Core.Path.{◌∙◌, refl}
use mathlib.Core.List.{map-id}
use Rattle.honest_words.proofs.Filling.{fill_start, fill_turn, fill_end}
use Rattle.honest_words.proofs.copy.Goals as goal

pub loop-i-init : goal.loop-i-init
loop-i-init c = let a = c.args in fill_start (λ x. x) a.src.now a.out.now (omega arith)

pub loop-i-preserved : goal.loop-i-preserved
loop-i-preserved c =
    let l = c.loop-i in
    let a = c.args in
    fill_turn (λ x. x) a.src.now 0 l.out l.i (omega arith) (omega arith) (omega arith) l.invariant refl

pub returns : goal.returns
returns c =
    let l = c.loop-i in
    let src = c.args.src.now in
    fill_end (λ x. x) src l.out l.i (omega arith) l.invariant ∙ map-id src
