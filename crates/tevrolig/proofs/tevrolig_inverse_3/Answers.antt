use Rattle.tevrolig.proofs.Inverses.{found_3, nothing_3}
use Rattle.tevrolig.proofs.tevrolig_inverse_3.Goals as goal

pub returns-in_default : goal.returns-in_default
returns-in_default c = let both = nothing_3 c.inverse-inverse.ensures _ c.in_default.is in record { value = both.0; out_after = both.1 }

pub returns : goal.returns
returns c = let both = found_3 c.inverse-inverse.ensures _ c.in-Some.is in record { value = both.0; out_after = both.1 }
