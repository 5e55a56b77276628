use native.Mathlib.Omega.{arith}
use mathlib.Core.Path.{sym}
use Rattle.hash_laws.specs.Padding.{padded_in, padded_end, padded_zero}
use Rattle.sha.proofs.byte_at.Goals as goal

-- src/lib.rt:31:9
pub returns-then-i-n : goal.returns-then-i-n
returns-then-i-n c = let a = c.args in sym (padded_in a.m.now a.i (omega arith))

-- src/lib.rt:25:1
pub returns-then-i-n-2 : goal.returns-then-i-n-2
returns-then-i-n-2 c = let a = c.args in sym (padded_end a.m.now a.i (omega arith))

-- src/lib.rt:25:1
pub returns-else-i-n-2 : goal.returns-else-i-n-2
returns-else-i-n-2 c = let a = c.args in sym (padded_zero a.m.now a.i (omega arith) (omega arith))
