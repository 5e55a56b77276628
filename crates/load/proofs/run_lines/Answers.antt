use Prim.Native.Nat.{ℕ, ◌+◌, ◌-◌}
use mathlib.Core.List.{List, ◌++◌, append-nil}
use mathlib.Core.Path.{◌≡◌, refl, sym, ap, ◌∙◌}
use native.Mathlib.Omega.{arith}
use lib.ListN.{take}
use Rattle.load.specs.Runs.{lines_from}
use Rattle.load.proofs.LineLaws.{lines_none, lines_step, verdict_short}
use Rattle.load.proofs.run_lines.Goals as goal

pub loop-init : goal.loop-init
loop-init c =
    let a = c.args in
    let all : a.runs ≡ a.runs - 0 = omega arith in
    (omega (arith, c.requires), sym (ap (λ (n : ℕ). lines_from n a.generator.v) all))

pub write-place-requires : goal.write-place-requires
write-place-requires c =
    let l = c.loop in
    let o = c.of_verdict in
    let short = verdict_short l.generator.v c.run-done.ensures.verdict_value o.ensures.length_value in
    (o.ensures.length_bound, omega (arith, short, l.invariant.0, c.write-arg-1.given.0.1, c.loop-test.true))

pub loop-preserved : goal.loop-preserved
loop-preserved c =
    let l = c.loop in
    let r = c.run-done in
    let o = c.of_verdict in
    let w = c.write-place in
    let short = verdict_short l.generator.v r.ensures.verdict_value o.ensures.length_value in (
      omega (arith, short, w.ensures.value, l.invariant.0, c.loop-test.true),
      lines_step (c.args.runs - l.counter) (c.args.runs - (l.counter + 1)) l.generator.v (take l.place l.out) (omega arith) r.ensures.verdict_value r.ensures.v_value o.ensures.bytes_value w.ensures.out_after l.invariant.1,
    )

pub returns : goal.returns
returns c =
    let l = c.loop in
    let out = take l.place l.out in
    let none : c.args.runs - l.counter ≡ 0 = omega arith in record { out_after = sym (append-nil out) ∙ ap (λ (xs : List ℕ). out ++ xs) (sym (ap (λ (n : ℕ). lines_from n l.generator.v) none ∙ lines_none l.generator.v)) ∙ l.invariant.1; upper_bound = omega arith }
