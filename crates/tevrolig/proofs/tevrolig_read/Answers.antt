use Rattle.edition.specs.Meaning.{edition_of}
use Rattle.tevrolig.proofs.Numbered.{read_numbers}
use Rattle.tevrolig.proofs.tevrolig_read.Goals as goal

pub returns : goal.returns
unfolding edition_of
returns c = let both = read_numbers (c.of_outcome-n.ensures.number_value, c.of_outcome-n.ensures.place_value) c.read_in.ensures in record { value = both.0; place_after = both.1 }
