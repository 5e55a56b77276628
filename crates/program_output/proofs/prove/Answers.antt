use mathlib.Core.Path.{◌≡◌, ap}
use native.Mathlib.Omega.{arith}
use lib.ListN.{length}
use Rattle.definition.specs.Sheet.{edition1, edition2}
use Rattle.edition.specs.Meaning.{edition_of}
use Rattle.outcome.specs.Gives.{gives}
use Rattle.program_output.specs.AnyOutput.{prove_input_alike}
use Rattle.program_output.specs.Leaves.{left_is, left_small}
use Rattle.program_output.specs.Output.{prove_written}
use borrow.Author.Rules.{rules}
use Rattle.program_output.proofs.prove.Goals as goal

pub after-requires : goal.after-requires
after-requires c =
    let a = c.args in
    let long : length a.output.now ≡ 34304 = search rules in
    left_small (prove_input_alike edition1 a.bytes.now) long (gives (c.prove_input.ensures.result_value, c.prove_input.ensures.output_after)) (omega arith)

pub after-requires-in-Two : goal.after-requires-in-Two
after-requires-in-Two c =
    let a = c.args in
    let long : length a.output.now ≡ 34304 = search rules in
    left_small (prove_input_alike edition2 a.bytes.now) long (gives (c.prove_input_2.ensures.result_value, c.prove_input_2.ensures.output_after)) (omega arith)

pub returns-in-One : goal.returns-in-One
unfolding edition_of prove_written
returns-in-One c =
    let a = c.args in
    let long : length a.output.now ≡ 34304 = search rules in let both = left_is (prove_input_alike edition1 a.bytes.now) long (gives (c.prove_input.ensures.result_value, c.prove_input.ensures.output_after))
    (ap (λ e. prove_written (edition_of e) a.bytes.now) c.in-One.is) c.after.ensures in record { output_after = both.0; error_value = both.1.0; length_bound = both.1.1 }

pub returns-in-Two : goal.returns-in-Two
unfolding edition_of prove_written
returns-in-Two c =
    let a = c.args in
    let long : length a.output.now ≡ 34304 = search rules in let both = left_is (prove_input_alike edition2 a.bytes.now) long (gives (c.prove_input_2.ensures.result_value, c.prove_input_2.ensures.output_after))
    (ap (λ e. prove_written (edition_of e) a.bytes.now) c.in-Two.is) c.after-in-Two.ensures in record { output_after = both.0; error_value = both.1.0; length_bound = both.1.1 }
