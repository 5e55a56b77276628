use Rattle.outcome.specs.Meaning.{place_of}
use Rattle.sheet.proofs.FirstBroken.{in_two, later_two, none_later}
use Rattle.sheet.proofs.broken_later.Goals as goal

pub broken_past_11-requires : goal.broken_past_11-requires
broken_past_11-requires c = in_two _ _ c.in-Two.is c.requires

pub returns-in-One : goal.returns-in-One
unfolding place_of
returns-in-One c = none_later _ _ c.in-One.is

pub returns-in-Two : goal.returns-in-Two
returns-in-Two c = later_two _ _ c.in-Two.is c.broken_past_11.ensures
