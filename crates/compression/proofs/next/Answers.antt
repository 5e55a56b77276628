use mathlib.Core.Path.{ap, ◌∙◌}
use lib.ListN.{set}
use Rattle.hashing.specs.Sha256 as def
use Rattle.compression.specs.Meaning.{state_of}
use Rattle.compression.proofs.next.Goals as goal

-- src/lib.rt:109:1
pub returns : goal.returns
returns c = let a = c.args in
    let x = c.extend-x.ensures in record { result_value = c.turn.ensures ∙ ap (def.turn (state_of a.s) a.k) x.value; w_after = x.w_after ∙ ap (set a.w.now a.i) x.value }
