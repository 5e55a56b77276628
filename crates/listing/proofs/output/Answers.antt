use Rattle.edition.specs.Meaning.{edition_of}
use Rattle.listing.proofs.output.Goals as goal

pub returns : goal.returns
unfolding edition_of
returns c = record { out_after = c.output_in.ensures.out_after; upper_bound = c.output_in.ensures.upper_bound }
