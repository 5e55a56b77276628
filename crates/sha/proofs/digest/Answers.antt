use Prim.Native.Nat.{◌*◌}
use mathlib.Core.List.{flat_map}
use lib.ListN.{length}
use lib.Seq.{take_all}
use mathlib.Core.Path.{◌≡◌, refl, sym, ap, ◌∙◌}
use native.Mathlib.Omega.{arith}
use Rattle.hashing.specs.Sha256.{digest_of}
use Rattle.sha.proofs.WordBytes.{kept, next_word}
use Rattle.sha.proofs.digest.Goals as goal

pub loop-i-init : goal.loop-i-init
unfolding flat_map
loop-i-init c = (refl, refl)

pub loop-i-preserved : goal.loop-i-preserved
loop-i-preserved c =
    let l = c.loop-i in
    let word = c.copy_from_slice.ensures.after ∙ c.to_be_bytes.ensures in (
      kept (4 * l.i) _ l.bytes _ (omega arith) (ap length word ∙ omega arith) ∙ l.invariant.0,
      next_word l.bytes _ l.i _ (omega arith) (omega arith) word l.invariant.1,
    )

pub returns : goal.returns
unfolding digest_of
returns c =
    let l = c.loop-i in
    let e : l.i ≡ 8 = omega arith in
    sym (take_all 32 l.bytes (omega arith)) ∙ (rw e at l.invariant.1)
