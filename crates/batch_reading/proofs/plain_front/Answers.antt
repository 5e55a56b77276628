use native.Mathlib.Omega.{arith}
use mathlib.Core.Path.{sym, ◌∙◌}
use lib.Seq.{length-take-le}
use Rattle.list_laws.specs.LentParts.{joined}
use Rattle.batch_reading.proofs.Values.{sheet_there}
use Rattle.batch_reading.proofs.plain_front.Goals as goal

-- `batch_reading::plain_front` meets its contract. Assumes nothing.
pub slice_bounds-copy-end : goal.slice_bounds-copy-end
slice_bounds-copy-end c = sym (length-take-le 12 c.args.w.now (sheet_there c.args.w.now c.requires.ruled))

pub slice_bounds-copy-end-3 : goal.slice_bounds-copy-end-3
slice_bounds-copy-end-3 c = sym (length-take-le 12 c.args.out.now (omega (arith, c.requires.out_len)))

pub copy-requires : goal.copy-requires
copy-requires c = length-take-le 12 c.args.out.now (omega (arith, c.requires.out_len)) ∙ sym (length-take-le 12 c.args.w.now (sheet_there c.args.w.now c.requires.ruled))

pub returns : goal.returns
returns c = joined c.args.out.now c.copy.new.out 12 (omega (arith, c.requires.out_len)) c.copy.auto.out c.first_values.new.out c.copy.ensures c.first_values.ensures
