-- Shift points and the inverses of points, which are numbers of the table of powers, as elements. Assumes nothing.
use Rattle.std.specs.Prelude.{ℕ, ◌+◌, ◌-◌, ◌*◌, ◌%◌, List, ◌≡◌, get_or}
use Rattle.std.proofs.Common.{sym, ap, ◌∙◌}
use Rattle.definition.specs.Field.{number_in, spelling_of}
use Rattle.spelling.specs.ByField.{field_at, points_at}
use Rattle.spelling.specs.Points.{length_points, points_get}
use Rattle.folds.specs.PointsIn.{inverse_power_in, shift_in}
use Rattle.element_folds.specs.Points.{inverse_at}

module _ (field : ℕ) (pw : List ℕ) where
  at_same : {e e' : ℕ} → e ≡ e' → number_in (spelling_of field) (get_or pw e 0) ≡ get_or (points_at field pw) e' (field_at field).𝟘
  at_same {e} h = sym (points_get field pw e) ∙ ap (λ (n : ℕ). get_or (points_at field pw) n (field_at field).𝟘) h

  pub shift_number : (scale k j : ℕ) → number_in (spelling_of field) (shift_in 0 pw scale k j) ≡ shift_in (field_at field).𝟘 (points_at field pw) scale k j
  unfolding shift_in
  shift_number scale k j = at_same (ap (λ (n : ℕ). (k - 1 + k * (scale * j)) % n) (sym (length_points field pw)))

  pub inverse_number : (e : ℕ) → inverse_at field pw e ≡ inverse_power_in (field_at field).𝟘 (points_at field pw) e
  unfolding inverse_power_in
  inverse_number e = at_same (ap (λ (n : ℕ). n - 1 - e % n) (sym (length_points field pw)))
