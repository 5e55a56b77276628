-- The sizes of a sheet by level.
use Rattle.std.specs.Prelude.{ℕ, ◌+◌, ◌*◌, ◌/◌, ◌^◌, ◌≤◌, ◌≡◌, get_or}
use Rattle.std.proofs.Common.{mul_comm, pow-suc, add-one, arith, sym, ap, ◌∙◌}
use Rattle.layouts.proofs.LevelsByNumber.{halved}
use Rattle.layouts.specs.Levels.{rounds_of}
use Rattle.layouts.proofs.SheetLevels.{sized}
use Rattle.definition.specs.Sheet.{Sheet}
use Rattle.decide_rounds.specs.Invariant.{Shaped}

-- n_i is n0 over 2^i, of which at every level k_i is a part
module _ (h : Sheet) (x : Shaped h) (i n : ℕ) (size : n ≡ h.size / 2 ^ i) where
  pub divided : i ≤ rounds_of h → get_or h.folds i 0 * (n / get_or h.folds i 0) ≡ n
  divided l =
      let k = get_or h.folds i 0 in
      rw size (mul_comm k (h.size / 2 ^ i / k) ∙ (sized h x.law i l).folds)

  pub halved_size : n / 2 ≡ h.size / 2 ^ (i + 1)
  halved_size = ap (λ (m : ℕ). m / 2) size ∙ halved h.size i ∙ ap (λ (m : ℕ). h.size / 2 ^ m) (sym (add-one i))

  pub even_size : i ≤ rounds_of h → 2 * (n / 2) ≡ n
  even_size l =
      let k = x.folds i l in
      let c = n / get_or h.folds i 0 in
      go (2 ^ k.log) c (ap (λ (y : ℕ). y * c) (sym (k.two ∙ pow-suc 2 k.log)) ∙ divided l)
    where
      go : (q c : ℕ) → q * 2 * c ≡ n → 2 * (n / 2) ≡ n
      go q c e = omega (arith, e)
