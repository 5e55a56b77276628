use mathlib.Core.Path.{ap, ◌∙◌}
use native.Mathlib.Omega.{arith}
use Rattle.edition.specs.Meaning.{edition_of}
use Rattle.listing.specs.Listing.{sheet_listing}
use Rattle.listing.proofs.Tested.{sheet_passes, text_passed, text_refused}
use Rattle.listing.proofs.of_words.Goals as goal

pub kept-requires : goal.kept-requires
kept-requires c =
    sheet_passes (edition_of c.args.e) c.front-w.result.now c.sheet_tests-tests.ensures c.in-Accepted.is

pub returns-in-Accepted : goal.returns-in-Accepted
returns-in-Accepted c =
    let f = c.front-w in
    let ed = edition_of c.args.e in
    let k = c.kept.ensures in record { out_after = text_passed ed f.result.now c.sheet_tests-tests.ensures c.in-Accepted.is k.listing_of ∙ ap (sheet_listing ed) f.ensures; upper_bound = k.upper_bound }

pub returns-in-Refused : goal.returns-in-Refused
returns-in-Refused c =
    let f = c.front-w in
    let ed = edition_of c.args.e in
    let o = c.of_refusal.ensures in
    let w = c.write.ensures in record { out_after = w.out_after ∙ o.bytes_value ∙ text_refused ed f.result.now c.sheet_tests-tests.ensures c.in-Refused.is ∙ ap (sheet_listing ed) f.ensures; upper_bound = omega (arith, w.value, o.length_bound) }
