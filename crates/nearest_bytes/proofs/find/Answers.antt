-- What the program writes is what the words of the answer leave of a room of 3,073 words.
use Prim.Native.Nat.{ℕ}
use lib.ListN.{take}
use mathlib.Core.List.{flat_map}
use mathlib.Core.Path.{sym, ap, ◌∙◌}
use Rattle.definition.specs.Block.{bytes_of}
use Rattle.outcome.specs.Meaning.{answer_of}
use Rattle.program_output.specs.Output.{Written, room_of}
use Rattle.nearest_bytes.specs.NearestInput.{written_words}
use Rattle.nearest_bytes.specs.NearestOutput.{left}
use Rattle.nearest_bytes.proofs.find.Goals as goal

pub returns-in-Done-clause-output_after : goal.returns-in-Done-clause-output_after
unfolding answer_of written_words room_of
returns-in-Done-clause-output_after c =
    let found = c.find_input-answer.ensures in
    let is = left c.args.bytes.now (sym (ap answer_of c.in-Done.is) ∙ found.result_value) found.output_after in
    c.put_words.ensures.output_after ∙ ap (flat_map bytes_of) c.front.ensures ∙ sym (ap (λ (w : Written). w.output) is)

pub returns-in-Done-clause-error_value : goal.returns-in-Done-clause-error_value
unfolding answer_of written_words room_of
returns-in-Done-clause-error_value c =
    let found = c.find_input-answer.ensures in
    let is = left c.args.bytes.now (sym (ap answer_of c.in-Done.is) ∙ found.result_value) found.output_after in
    ap (λ (n : ℕ). take n c.empty.result.bytes) c.empty.ensures ∙ sym (ap (λ (w : Written). w.error) is)

pub returns-in-Refusal-clause-output_after : goal.returns-in-Refusal-clause-output_after
unfolding answer_of written_words room_of
returns-in-Refusal-clause-output_after c =
    let found = c.find_input-answer.ensures in
    let is = left c.args.bytes.now (sym (ap answer_of c.in-Refusal.is) ∙ found.result_value) found.output_after in
    sym (ap (λ (w : Written). w.output) is)

pub returns-in-Refusal-clause-error_value : goal.returns-in-Refusal-clause-error_value
unfolding answer_of written_words room_of
returns-in-Refusal-clause-error_value c =
    let found = c.find_input-answer.ensures in
    let is = left c.args.bytes.now (sym (ap answer_of c.in-Refusal.is) ∙ found.result_value) found.output_after in
    c.of_refusal.ensures.bytes_value ∙ sym (ap (λ (w : Written). w.error) is)
