use native.Mathlib.Omega.{arith}
use Rattle.domain.proofs.of_sheet.Goals as goal

-- `domain::of_sheet` meets its contract: no sheet that passes has more points than there are places. Assumes nothing.
pub of_sheet_within-requires : goal.of_sheet_within-requires
of_sheet_within-requires c = record { in_bounds = c.requires.in_bounds; w_in_bounds = omega (arith, c.requires.in_bounds.1.most, c.requires.pw_len) }
