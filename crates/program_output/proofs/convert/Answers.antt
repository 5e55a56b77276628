use Prim.Native.Nat.{ℕ}
use mathlib.Core.List.{List}
use mathlib.Core.Path.{◌≡◌, sym, ap, ◌∙◌}
use native.Mathlib.Omega.{arith}
use lib.ListN.{length}
use Rattle.definition.specs.Convert.{to_edition1, to_edition2}
use Rattle.edition.specs.Meaning.{edition_of}
use Rattle.outcome.specs.Gives.{gives}
use Rattle.program_output.specs.AnyOutput.{to_1_alike, to_2_alike}
use Rattle.program_output.specs.Leaves.{left_is, left_small}
use Rattle.program_output.specs.Output.{convert_written, room, written}
use borrow.Author.Rules.{rules}
use Rattle.program_output.proofs.convert.Goals as goal

pub after-requires : goal.after-requires
after-requires c =
    let a = c.args in
    let long : length a.output.now ≡ 34304 = search rules in
    left_small (to_1_alike c.taken.result.now) long (gives (c.to_edition_1.ensures.result_value, c.to_edition_1.ensures.output_after)) (omega arith)

pub after-requires-in-Two : goal.after-requires-in-Two
after-requires-in-Two c =
    let a = c.args in
    let long : length a.output.now ≡ 34304 = search rules in
    left_small (to_2_alike c.taken-in-Two.result.now) long (gives (c.to_edition_2.ensures.result_value, c.to_edition_2.ensures.output_after)) (omega arith)

pub returns-in-One : goal.returns-in-One
unfolding edition_of convert_written
returns-in-One c =
    let a = c.args in
    let taken = c.taken in
    let long : length a.output.now ≡ 34304 = search rules in let both = left_is (to_1_alike taken.result.now) long (gives (c.to_edition_1.ensures.result_value, c.to_edition_1.ensures.output_after))
    (
    ap (λ e. convert_written (edition_of e) a.bytes.now) c.in-One.is
    ∙ ap (λ (file : List ℕ). written (to_edition1 file room)) (sym taken.ensures)
    )
    c.after.ensures in record { output_after = both.0; error_value = both.1.0; length_bound = both.1.1 }

pub returns-in-Two : goal.returns-in-Two
unfolding edition_of convert_written
returns-in-Two c =
    let a = c.args in
    let taken = c.taken-in-Two in
    let long : length a.output.now ≡ 34304 = search rules in let both = left_is (to_2_alike taken.result.now) long (gives (c.to_edition_2.ensures.result_value, c.to_edition_2.ensures.output_after))
    (
    ap (λ e. convert_written (edition_of e) a.bytes.now) c.in-Two.is
    ∙ ap (λ (file : List ℕ). written (to_edition2 file room)) (sym taken.ensures)
    )
    c.after-in-Two.ensures in record { output_after = both.0; error_value = both.1.0; length_bound = both.1.1 }
