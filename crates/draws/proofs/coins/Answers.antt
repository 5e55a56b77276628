use Prim.Native.Nat.{◌≤◌}
use native.Mathlib.Omega.{arith}
use lib.ListN.{length}
use Rattle.list_laws.specs.Zeros.{length_zeros}
use Rattle.definition.specs.Sheet.{edition1}
use Rattle.domain.specs.OfSheet.{fitting, points_of_sheet}
use Rattle.draws.specs.AtLevel.{first_level_lem}
use Rattle.draws.proofs.coins.Goals as goal

pub of_sheet-size-requires : goal.of_sheet-size-requires
of_sheet-size-requires c =
    let long : 12 ≤ length c.args.w.now = omega (arith, c.requires.w_len.0) in record { in_bounds = (long, fitting edition1 c.args.w.now long c.requires.w_len.1); pw_len = length_zeros 4096 }

pub from_first-requires : goal.from_first-requires
from_first-requires c =
    let o = c.of_sheet-size.ensures.powers in record { at_level = first_level_lem c.args.w.now _ c.requires.w_len.0 c.requires.w_len.1 c.requires.w_len.2 (points_of_sheet edition1 c.args.w.now _ o.0) o.1; out_len = c.requires.out_len }
