use mathlib.Core.Path.{◌∙◌}
use Rattle.domain.specs.OfSheet.{points_of_sheet}
use Rattle.line.specs.Text.{begun}
use Rattle.listing.specs.Listing.{kept_text}
use Rattle.listing.proofs.TableLaws.{text_of_sheet}
use Rattle.listing.proofs.kept.Goals as goal

pub returns : goal.returns
returns c =
    let lines = c.domain_lines.ensures in
    let w = c.write-begun in
    let t = c.text in
    let e = c.empty in
    let size = c.of_sheet-size.ensures in
    let sheet = c.args.w.now in
    let first = w.ensures.out_after ∙ (begun e.result t.result kept_text e.ensures t.ensures).text in record { listing_of = record { kept = λ ed long passed. text_of_sheet ed sheet _ (points_of_sheet ed sheet _ size.powers.0) size.powers.1 long passed first lines.out_after }; upper_bound = lines.upper_bound }
