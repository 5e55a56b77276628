use Prim.Native.Nat.{ℕ, ◌+◌}
use native.Mathlib.Omega.{arith}
use mathlib.Core.Path.{◌≡◌, ap, ◌∙◌}
use lib.ListN.{length, take, drop, length-take}
use borrow.Author.Rules.{rules}
use Rattle.batch_definition.specs.Batch.{prove_batch}
use Rattle.definition.specs.Sheet.{edition1}
use Rattle.edition.specs.Meaning.{edition_of}
use Rattle.word_input.specs.Input.{sheet_part}
use Rattle.batch_bytes.specs.BatchInput.{body_part, bounds_part, coefficient_words, prove_batch_words}
use Rattle.batch_bytes.proofs.prove_words.Goals as goal

pub coefficient_words-due-requires : goal.coefficient_words-due-requires
coefficient_words-due-requires c =
    let a = c.args in
    let long : length a.words.now ≡ 8192 = search rules in
    omega (arith, ap length c.front-order.ensures, length-take a.count a.words.now, long)

pub returns : goal.returns
unfolding edition_of body_part prove_batch_words
returns c =
    let p = c.prove_batch.ensures in
    let words = c.front-order.ensures in
    let sheet = c.sheet-sheet.ensures ∙ ap (sheet_part edition1) words in
    let bounds = c.bounds-limits.ensures ∙ ap bounds_part words in
    let body = c.after-body.ensures ∙ (λ t. drop (13 + c.number.ensures.0 t) c.front-order.result.now) ∙ ap body_part words in
    let due = c.coefficient_words-due.ensures ∙ ap {B = ℕ} coefficient_words words in
    let f = c.front-f.ensures ∙ (λ t. take (due t) (body t)) in
    let coins = c.after-coins.ensures ∙ (λ t. drop (due t) (body t)) in
    let out = c.args.output.now in record { result_value = p.result_value ∙ (λ t. (prove_batch (sheet t) (bounds t) (f t) (coins t) out).answer); output_after = p.output_after ∙ (λ t. (prove_batch (sheet t) (bounds t) (f t) (coins t) out).output) }
