-- What an answer of a test says of the place where the test fails.
use Rattle.std.specs.Prelude.{ℕ, ◌≡◌, Some, None}
use Rattle.std.proofs.Math.Option.{Option, none, some}
use Rattle.std.proofs.Common.{sym, ap, ◌∙◌}
use Rattle.outcome.specs.Meaning.{Found, place_of}

pub at_place : {r : Found} {place : ℕ} {t : Option ℕ} → place_of r ≡ t → r ≡ Some place → some place ≡ t
unfolding place_of
at_place {r} {place} e h = sym (ap place_of h) ∙ e

pub nowhere : {r : Found} {t : Option ℕ} → place_of r ≡ t → r ≡ None → none ≡ t
unfolding place_of
nowhere {r} e h = sym (ap place_of h) ∙ e
