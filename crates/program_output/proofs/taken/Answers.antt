use mathlib.Core.Path.{refl, sym}
use native.Mathlib.Omega.{arith}
use lib.Seq.{length-take-le, take_all}
use Rattle.program_output.proofs.taken.Goals as goal

-- `program_output::taken` meets its contract.
pub returns-then-bytes-le65536 : goal.returns-then-bytes-le65536
returns-then-bytes-le65536 c = sym (take_all 65536 c.args.bytes.now (omega arith))

pub slice_bounds-result-end : goal.slice_bounds-result-end
slice_bounds-result-end c = sym (length-take-le 65536 c.args.bytes.now (omega arith))

pub returns : goal.returns
returns c = refl
