-- The lines of several runs, one after the other; a run's line is short.
use Prim.Native.Nat.{ℕ, zero, suc, ◌+◌, ◌*◌, ◌^◌, ◌≤◌, ◌<◌}
use native.Mathlib.Omega.{arith}
use mathlib.Core.List.{List, [], ◌∷◌, ◌++◌, append_assoc, append-nil, flat_map}
use mathlib.Core.Path.{◌≡◌, refl, sym, ap, subst, ◌∙◌}
use lib.ListN.{length, length-append}
use borrow.Author.Tests.{eq-eqb, ne_eqb}
use Rattle.definition.specs.Line.{decimal, line_of, outcome_text}
use Rattle.definition.specs.Load.{draw_input, load_lines, load_runs, drawn_inputs, verdict_on}
use Rattle.definition.specs.Sheet.{edition1, sheet_of}
use Rattle.definition.specs.Verdict.{Verdict, accepted, refused}
use Rattle.layouts.proofs.DueSizes.{reads_most}
use Rattle.completeness.proofs.LoadAllowed.{draws_accepted, draws_allowed}
use Rattle.completeness.specs.Numbered.{reads_due}
use Rattle.completeness.proofs.ReadsCounted.{reads_at_most}
use Rattle.line.specs.Decimal.{long_64}
use Rattle.load.specs.Runs.{lines_from}
use Rattle.load.proofs.Inputs.{drawn_faultless}

pub lines_none : (v : ℕ) → lines_from zero v ≡ []
unfolding lines_from drawn_inputs flat_map
lines_none v = refl

pub lines_next : (runs v : ℕ) → lines_from (suc runs) v ≡ line_of (verdict_on (draw_input v).value) ++ lines_from runs (draw_input v).next
unfolding lines_from drawn_inputs flat_map
lines_next runs v = refl

-- ---- the reads of a run are few

reads_few : (v : ℕ) → reads_due (sheet_of edition1 (draw_input v).value.sheet) (draw_input v).value.coins ≤ 4608
reads_few v =
    let o = (draw_input v).value in
    let s = drawn_faultless v in
    omega (arith, reads_at_most edition1 o.sheet o.coefficients o.coins (draws_allowed v), reads_most edition1 o.sheet (omega (arith, s.0)) s.1)

line_accepted : (v : Verdict) (reads : ℕ) → reads < 2 ^ 64 → v ≡ record { outcome = accepted; reads = reads } → length (line_of v) ≤ 34
unfolding line_of outcome_text
line_accepted v reads h e = rw e (omega (arith, length-append (decimal reads) (10 ∷ []), long_64 reads h))

line_short : (v : ℕ) → length (line_of (verdict_on (draw_input v).value)) ≤ 34
line_short v = line_accepted _ _ (omega (arith, reads_few v)) (draws_accepted v)

pub verdict_short : (v : ℕ) {verdict : Verdict} {long : ℕ} → verdict ≡ verdict_on (draw_input v).value → long ≡ length (line_of verdict) → long ≤ 34
verdict_short v e h = subst (λ (n : ℕ). n ≤ 34) (sym (h ∙ ap (λ (u : Verdict). length (line_of u)) e)) (line_short v)

-- ---- one run more

pub lines_step : (left rest v : ℕ) (before : List ℕ) {next : ℕ} {verdict : Verdict} {line after whole : List ℕ} → suc rest ≡ left →
    verdict ≡ verdict_on (draw_input v).value → next ≡ (draw_input v).next → line ≡ line_of verdict → after ≡ before ++ line →
    before ++ lines_from left v ≡ whole → after ++ lines_from rest next ≡ whole
lines_step left rest v before {next} {verdict} {line} one e n l a w =
    ap (λ (xs : List ℕ). xs ++ lines_from rest next) a
    ∙ append_assoc before line (lines_from rest next)
    ∙ (λ t. before ++ ((l ∙ ap line_of e) t ++ lines_from rest (n t)))
    ∙ ap (λ (xs : List ℕ). before ++ xs) (sym (lines_next rest v))
    ∙ ap (λ (m : ℕ). before ++ lines_from m v) one
    ∙ w

-- ---- a load's lines

pub lines_refused : (seed : ℕ) → seed ≡ 0 → line_of (record { outcome = refused 12 0; reads = 0 }) ≡ flat_map (λ line. line) (load_lines seed)
unfolding load_lines flat_map
lines_refused seed h = rw (eq-eqb seed 0 h) (sym (append-nil _))

pub lines_run : (seed : ℕ) → (seed ≡ 0 → ⊥) → lines_from load_runs seed ≡ flat_map (λ line. line) (load_lines seed)
unfolding load_lines lines_from
lines_run seed h = rw (ne_eqb seed 0 h)
