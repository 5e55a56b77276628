use Rattle.edition.specs.Places.{first_place, one_place, two_place}
use Rattle.edition.proofs.place.Goals as goal

-- src/lib.rt:30:9
pub returns-then-i-eq0 : goal.returns-then-i-eq0
returns-then-i-eq0 c = first_place _ _ c.if-i-eq0.true

-- src/lib.rt:25:1
pub returns-in-One : goal.returns-in-One
returns-in-One c = one_place _ _ c.in-One.is c.requires

-- src/lib.rt:25:1
pub returns-in-Two : goal.returns-in-Two
returns-in-Two c = two_place _ _ c.in-Two.is c.if-i-eq0.false c.requires
