-- Domains by level number, of every sheet without a fault.
use Rattle.std.specs.Prelude.{ℕ, suc, ◌≤◌, ◌<◌, List, ◌≡◌, length}
use Rattle.std.proofs.Common.{ap, ◌∙◌}
use Rattle.definition.specs.Domain.{point, shift_point}
use Rattle.definition.specs.Field.{Element, Field}
use Rattle.definition.specs.Prove.{sheet_length_test}
use Rattle.definition.specs.Reading.{sheet_test}
use Rattle.definition.specs.Sheet.{Edition, sheet_length, sheet_of, shift_count}
use Rattle.definition.specs.Verdict.{accepted}
use Rattle.algebra.specs.RingLaws.{sub_self}
use Rattle.algebra.specs.RootsOfUnity.{minus_one}
use Rattle.layouts.proofs.Lawful.{lawful}
use Rattle.layouts.specs.Levels.{level_of, out_coin_count, rounds_of, sheet_field, sheet_root}
use Rattle.layouts.specs.LawfulSheets.{Paired}
use Rattle.layouts.proofs.SheetLevels.{step}
use Rattle.completeness.proofs.Allowed.{sheet_enough, sheet_long}
use Rattle.completeness.proofs.Domains
use Rattle.completeness.proofs.Domains.{Roots}
use Rattle.completeness.specs.Ready.{Ready, ready, ready_sized}

module _ (ed : Edition) (w : List ℕ) (words : sheet_length_test ed w ≡ accepted) (passed : sheet_test ed w ≡ accepted) where
  long : sheet_length ed ≤ length w
  long = sheet_enough ed w (sheet_long ed w words)

  pub paired : Paired (sheet_of ed w)
  paired = (lawful ed w long passed).paired

  abbrev q : Ready (sheet_of ed w)
  q = ready ed w long passed

  abbrev F : Field (Element (sheet_of ed w).spelling)
  F = sheet_field (sheet_of ed w)

  abbrev signs : minus_one (sheet_field (sheet_of ed w)) ≡ (sheet_field (sheet_of ed w)).𝟙 → ⊥
  signs = q.signs

  pub points_different : (i a b : ℕ) → i ≤ rounds_of (sheet_of ed w) → a < (level_of (sheet_of ed w) i).size → b < (level_of (sheet_of ed w) i).size →
      point F (sheet_root (sheet_of ed w)) (level_of (sheet_of ed w) i) a ≡ point F (sheet_root (sheet_of ed w)) (level_of (sheet_of ed w) i) b → a ≡ b
  points_different i a b l = Domains.same_point F q.laws (sheet_root (sheet_of ed w)) signs q.e q.root (level_of (sheet_of ed w) i) (ready_sized ed w long passed i l) a b

  pub roots_of_shift : (i j : ℕ) → i ≤ rounds_of (sheet_of ed w) → j < shift_count (level_of (sheet_of ed w) i) → Roots F (sheet_root (sheet_of ed w)) (level_of (sheet_of ed w) i) j
  roots_of_shift i j l = Domains.roots F q.laws (sheet_root (sheet_of ed w)) signs q.e q.root (level_of (sheet_of ed w) i) j (ready_sized ed w long passed i l)

  pub shifts_different : (i a b : ℕ) → i ≤ rounds_of (sheet_of ed w) → a < shift_count (level_of (sheet_of ed w) i) → b < shift_count (level_of (sheet_of ed w) i) →
      shift_point F (sheet_root (sheet_of ed w)) (level_of (sheet_of ed w) i) a ≡ shift_point F (sheet_root (sheet_of ed w)) (level_of (sheet_of ed w) i) b → a ≡ b
  shifts_different i a b l = Domains.same_shift F q.laws (sheet_root (sheet_of ed w)) signs q.e q.root (level_of (sheet_of ed w) i) (ready_sized ed w long passed i l) a b

  pub shifts_off_domain : (i m j : ℕ) → i < rounds_of (sheet_of ed w) → point F (sheet_root (sheet_of ed w)) (level_of (sheet_of ed w) (suc i)) m ≡ shift_point F (sheet_root (sheet_of ed w)) (level_of (sheet_of ed w) i) j → ⊥
  shifts_off_domain i m j l e =
      Domains.never_meet F q.laws (sheet_root (sheet_of ed w)) signs q.e q.root (out_coin_count (sheet_of ed w)) (level_of (sheet_of ed w) i) (level_of (sheet_of ed w) (suc i)) m j (step (sheet_of ed w) (lawful ed w long passed) i l)
      (ap (λ (x : Element (sheet_of ed w).spelling). F.◌⊖◌ x (shift_point F (sheet_root (sheet_of ed w)) (level_of (sheet_of ed w) i) j)) e ∙ sub_self F q.laws (shift_point F (sheet_root (sheet_of ed w)) (level_of (sheet_of ed w) i) j))
