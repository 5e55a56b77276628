use mathlib.Core.Path.{◌≡◌, refl}
use native.Mathlib.Omega.{arith}
use lib.ListN.{length}
use Rattle.outcome.specs.Gives.{gives}
use Rattle.program_output.specs.BatchOutput.{batch_input_alike}
use Rattle.program_output.specs.Leaves.{left_is, left_small}
use Rattle.program_output.specs.Output.{batch_written}
use borrow.Author.Rules.{rules}
use Rattle.program_output.proofs.prove_batch.Goals as goal

pub after-requires : goal.after-requires
after-requires c =
    let a = c.args in
    let long : length a.output.now ≡ 50688 = search rules in
    left_small (batch_input_alike a.bytes.now) long (gives (c.prove_input.ensures.result_value, c.prove_input.ensures.output_after)) (omega arith)

pub returns : goal.returns
unfolding batch_written
returns c =
    let a = c.args in
    let long : length a.output.now ≡ 50688 = search rules in let both = left_is (batch_input_alike a.bytes.now) long (gives (c.prove_input.ensures.result_value, c.prove_input.ensures.output_after)) refl c.after.ensures in record { output_after = both.0; error_value = both.1.0; length_bound = both.1.1 }
