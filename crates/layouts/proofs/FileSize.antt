-- No accepted file is so long as 65,536 bytes (01, A transcript by hand): what `check` reads is enough.
use Rattle.std.specs.Prelude.{ℕ, ◌<◌, List, ◌≡◌, length}
use Rattle.std.proofs.Common.{arith}
use Rattle.definition.specs.Block.{stream_of}
use Rattle.definition.specs.Layout.{words_due}
use Rattle.definition.specs.Reading.{reading}
use Rattle.definition.specs.Sheet.{Edition}
use Rattle.definition.specs.Verdict.{accepted}
use Rattle.definition.specs.Verify.{verify_in}
use Rattle.layouts.proofs.DueSizes.{blocks_most}
use Rattle.layouts.specs.Passed.{passed}
use Rattle.layouts.specs.Tests.{verdict_passes}

pub accepted_short : (ed : Edition) (bytes : List ℕ) → (verify_in ed bytes).outcome ≡ accepted → length bytes < 65536
unfolding verify_in words_due
accepted_short ed bytes e =
    let p = passed ed bytes (verdict_passes (reading ed bytes) _ e).0 in
    omega (arith, p.blocks, p.whole, blocks_most ed (stream_of bytes) (omega (arith, p.due)) p.sheet)
