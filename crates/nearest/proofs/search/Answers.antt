use Prim.Native.Nat.{ℕ, ◌+◌, ◌-◌, ◌/◌, ◌≤◌}
use mathlib.Core.Path.{sym, ap, ◌∙◌, subst}
use native.Mathlib.Omega.{arith}
use lib.ListN.{length}
use Rattle.definition.specs.Field.{spelling_of}
use Rattle.outcome.specs.Meaning.{answer_of}
use Rattle.spelling.specs.ByField.{words_at}
use Rattle.spelling.specs.Words.{elements_many}
use Rattle.tables.specs.Halving.{Halves}
use Rattle.nearest.proofs.Candidates.{concluded, nothing}
use Rattle.nearest.proofs.search.Goals as goal

pub returns-then-not-found : goal.returns-then-not-found
unfolding answer_of
returns-then-not-found c =
    let a = c.args in
    let t = c.candidate-found in
    nothing a.field a.pw.now a.table.now a.d t.result t.new.out t.ensures a.output.now c.if-not-found.true

pub conclude-requires : goal.conclude-requires
conclude-requires c =
    let a = c.args in
    let p = c.requires in
    let f = c.candidate-found.new.out in
    let same = c.candidate-found.auto.out in
    let d = elements_many (spelling_of a.field) a.d f (same ∙ p.table_len.1.1.0) in
    let n = length a.pw.now in record { halves = (subst (λ (m : ℕ). Halves m n) (sym d) p.sized.1, same ∙ p.table_len.1.1.0 ∙ ap (words_at a.field) (sym d)); table_len = (p.table_len.0, omega (arith, p.table_len.0, p.table_len.1.0)); f_in_bounds = subst (λ (m : ℕ). length f + 1 + (n - m) / 2 ≤ length a.output.now) (sym d) (subst (λ (m : ℕ). m + 1 + (n - a.d) / 2 ≤ length a.output.now) (sym same) p.d_in_bounds) }

pub returns : goal.returns
returns c =
    let a = c.args in
    let t = c.candidate-found in
    let f = t.new.out in
    concluded a.field a.pw.now a.table.now a.d t.result f t.ensures c.if-not-found.false
    (elements_many (spelling_of a.field) a.d f (t.auto.out ∙ c.requires.table_len.1.1.0)) a.output.now c.conclude.ensures
