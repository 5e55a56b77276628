use Rattle.sizes.specs.OneBit.{one_bit}
use Rattle.sizes.proofs.log2.Goals as goal

-- `sizes::log2` meets its contract. The one bit stands above the trailing zeros. Assumes nothing.
pub returns : goal.returns
returns c = one_bit 32 c.args.x c.ranges.x.fits c.requires
