use Prim.Native.Nat.{ℕ}
use Rattle.std.specs.Prelude.{Some}
use mathlib.Core.Path.{◌≡◌, sym, ap, ◌∙◌}
use native.Mathlib.Omega.{arith}
use lib.ListN.{take}
use lib.Seq.{take_all}
use Rattle.definition.specs.Block.{stream_of}
use Rattle.list_laws.specs.Overwriting.{overwrite, overwrite_none}
use Rattle.reader.specs.Words.{word_in, value_of}
use Rattle.reader.proofs.ByNumber.{no_end_before, moved_on, sheet_length, sheet_next}
use Rattle.reader.proofs.walk_sheet.Goals as goal

pub loop-at-init : goal.loop-at-init
loop-at-init c = sym (overwrite_none c.args.output.now 0)

pub returns-in_default : goal.returns-in_default
returns-in_default c =
    absurd (no_end_before c.args.file.now c.args.output.now (omega arith) c.loop-at.at (omega arith) (ap value_of (sym c.in_default.is) ∙ c.step_in-step.ensures.0))

pub loop-at-smaller : goal.loop-at-smaller
loop-at-smaller c =
    let s = c.step_in-step in
    omega (arith, moved_on c.args.file.now c.args.output.now (omega arith) c.loop-at.at c.in-Some.x (ap value_of (sym c.in-Some.is) ∙ s.ensures.0) s.ensures.1)

pub loop-at-preserved : goal.loop-at-preserved
loop-at-preserved c =
    let a = c.args in
    let s = c.step_in-step in
    let value : value_of (Some c.in-Some.x) ≡ word_in (stream_of a.file.now) c.loop-at.at = ap value_of (sym c.in-Some.is) ∙ s.ensures.0 in
    sheet_next a.file.now a.output.now (omega arith) c.in-Some.x (omega arith) (omega arith) c.loop-at.invariant value
    ∙ ap (λ (n : ℕ). overwrite a.output.now 0 (take n (take 12 (stream_of a.file.now)))) (sym (moved_on a.file.now a.output.now (omega arith) c.loop-at.at c.in-Some.x value s.ensures.1))

pub returns : goal.returns
returns c =
    let a = c.args in
    c.loop-at.invariant ∙ ap (overwrite a.output.now 0) (take_all c.loop-at.at (take 12 (stream_of a.file.now)) (omega (arith, sheet_length a.file.now a.output.now (omega arith))))
