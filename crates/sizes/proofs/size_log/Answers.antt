use Rattle.sizes.proofs.SizeLaws.{size_one_bit}
use Rattle.edition.specs.Meaning.{edition_of}
use native.Mathlib.Omega.{arith}
use Rattle.layouts.specs.SheetRules.{long_enough}
use Rattle.sizes.proofs.size_log.Goals as goal

pub log2-requires : goal.log2-requires
log2-requires c = size_one_bit (edition_of c.args.e) c.args.w.now c.requires.0 c.requires.1
