use native.Mathlib.Omega.{arith}
use mathlib.Core.Path.{ap}
use Rattle.layouts.proofs.DueSizes.{blocks_most}
use Rattle.definition.specs.Block.{block_count}
use Rattle.edition.specs.Meaning.{edition_of}
use Rattle.sizes.proofs.SizeLaws.{blocks_least}
use Rattle.sizes.proofs.blocks_due.Goals as goal

pub returns : goal.returns
unfolding block_count
returns c =
    let r = c.words_due.ensures in
    let w = c.args.w.now in
    let ed = edition_of c.args.e in
    (ap block_count r.0, (omega (arith, r.0, blocks_least ed w c.requires.0 c.requires.1), omega (arith, r.0, blocks_most ed w c.requires.0 c.requires.1)))
