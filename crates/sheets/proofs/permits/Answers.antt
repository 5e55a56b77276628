use native.Mathlib.Omega.{arith}
use mathlib.Core.Path.{refl}
use lib.ListN.{length-set}
use Rattle.definition.specs.Field.{known_field}
use Rattle.definition.specs.Load.{permits}
use Rattle.edition.specs.Meaning.{edition_of}
use Rattle.outcome.specs.Answers.{at_place, nowhere}
use Rattle.sheets.proofs.RuleLaws.{permitted_at, permitted_field, permitted_nowhere}
use Rattle.sheets.proofs.permits.Goals as goal

pub returns-then-j-eq0 : goal.returns-then-j-eq0
unfolding permits known_field
returns-then-j-eq0 c =
    let a = c.args in record { value = permitted_field a.w.now a.j a.x c.if-j-eq0.true refl; w_after = refl }

pub broken-broken-requires : goal.broken-broken-requires
unfolding edition_of
broken-broken-requires c = simp length-set (omega arith)

pub returns-in-Some : goal.returns-in-Some
unfolding edition_of
returns-in-Some c =
    let a = c.args in record { value = permitted_at a.w.now a.j a.x c.requires.0 c.requires.1.0 c.requires.1.1 c.if-j-eq0.false _ (at_place c.broken-broken.ensures c.in-Some.is); w_after = refl }

pub returns : goal.returns
unfolding edition_of
returns c =
    let a = c.args in record { value = permitted_nowhere a.w.now a.j a.x c.requires.0 c.requires.1.0 c.requires.1.1 c.if-j-eq0.false (nowhere c.broken-broken.ensures c.in_default.is); w_after = refl }
