use mathlib.Core.Path.{refl}
use borrow.Author.Tests.{ne_eqb}
use Rattle.outcome.specs.Meaning.{outcome_of}
use Rattle.registers.specs.Meaning.{phase_of}
use Rattle.device_words.specs.Words.{phase_in}
use Rattle.device_words.proofs.phase_of.Goals as goal

pub returns-then-kind-eq0 : goal.returns-then-kind-eq0
unfolding phase_of phase_in outcome_of
returns-then-kind-eq0 c = rw c.if-kind-eq0.true refl

pub returns-then-kind-eq1 : goal.returns-then-kind-eq1
unfolding phase_of phase_in outcome_of
returns-then-kind-eq1 c = rw c.if-kind-eq1.true refl

pub returns-then-kind-eq2 : goal.returns-then-kind-eq2
unfolding phase_of phase_in outcome_of
returns-then-kind-eq2 c = rw c.if-kind-eq2.true refl

pub returns : goal.returns
unfolding phase_of phase_in outcome_of
returns c =
    let a = c.args in
    rw (ne_eqb a.kind 0 c.if-kind-eq0.false, ne_eqb a.kind 1 c.if-kind-eq1.false, ne_eqb a.kind 2 c.if-kind-eq2.false) refl
