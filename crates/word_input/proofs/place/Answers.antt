use Prim.Native.Nat.{ℕ, ◌+◌}
use mathlib.Core.Path.{◌≡◌, sym, ap, ◌∙◌}
use native.Mathlib.Omega.{arith}
use lib.ListN.{get_or, set}
use lib.Seq.{take_all}
use Rattle.list_laws.specs.Overwriting.{overwrite, overwrite_next, overwrite_none}
use Rattle.word_input.specs.Input.{words_of}
use Rattle.word_input.specs.WordLaws.{words_at, words_length}
use Rattle.word_input.proofs.place.Goals as goal

pub loop-i-init : goal.loop-i-init
loop-i-init c = sym (overwrite_none c.args.output.now 0)

pub loop-i-preserved : goal.loop-i-preserved
loop-i-preserved c =
    let a = c.args in
    let l = c.loop-i in
    let w = words_of a.bytes.now in
    let v = c.word.result in
    let here : l.i ≡ 0 + l.i = omega arith in
    let value : v ≡ get_or w l.i 0 = c.word.ensures ∙ sym (words_at a.bytes.now l.i (omega arith)) in
    ap (λ (n : ℕ). set l.output n v) here
    ∙ overwrite_next a.output.now 0 w l.i (omega (arith, words_length a.bytes.now)) (omega (arith, words_length a.bytes.now)) value l.invariant

pub returns : goal.returns
returns c =
    let a = c.args in
    let l = c.loop-i in
    l.invariant ∙ ap (overwrite a.output.now 0) (take_all l.i (words_of a.bytes.now) (omega (arith, words_length a.bytes.now)))
