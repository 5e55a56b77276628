use mathlib.Core.Path.{sym, ap, ◌∙◌}
use native.Mathlib.Omega.{arith}
use Rattle.edition.specs.Meaning.{edition_of}
use Rattle.outcome.specs.Meaning.{answer_of}
use Rattle.listing.proofs.Tested.{listing_partial, listing_taken}
use Rattle.listing.proofs.output_in.Goals as goal

pub returns-in-Done : goal.returns-in-Done
unfolding answer_of
returns-in-Done c =
    let words = c.words-read.ensures in
    let a = c.args in
    let o = c.of_words.ensures in record { out_after = listing_taken (edition_of a.e) a.bytes.now _ (record { answered = sym (ap answer_of c.in-Done.is) ∙ words.result_value; written = words.output_after }) o.out_after; upper_bound = o.upper_bound }

pub returns-in-Refusal : goal.returns-in-Refusal
unfolding answer_of
returns-in-Refusal c =
    let a = c.args in
    let o = c.of_refusal.ensures in
    let w = c.write.ensures in record { out_after = w.out_after ∙ o.bytes_value ∙ listing_partial (edition_of a.e) a.bytes.now _ (sym (ap answer_of c.in-Refusal.is) ∙ c.words-read.ensures.result_value); upper_bound = omega (arith, w.value, o.length_bound) }
