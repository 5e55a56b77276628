-- The coins of each round of an honest run are fair, its levels fold, and so the corrected polynomial f_i has d_i coefficients.
use Prim.Native.Nat.{ℕ, zero, suc, ◌+◌, ◌-◌, ◌≤◌, ◌<◌}
use Rattle.std.proofs.Common.{add-suc, suc-add, add-zero, zero-add, arith, ◌∙◌, subst}
use Rattle.std.specs.Prelude.{List, map, ◌≡◌}
use Rattle.std.proofs.Math.Path.{sym}
use Rattle.std.proofs.Math.ListN.{length}
use Rattle.definition.specs.Field.{Element, Field, elements_in}
use Rattle.definition.specs.Layout.{read_coins}
use Rattle.definition.specs.Lists.{range}
use Rattle.definition.specs.Sheet.{Edition, Level, Sheet, first_level, sheet_length, sheet_of}
use Rattle.definition.specs.Transcript.{Coins}
use Rattle.algebra.specs.Laws.{FieldLaws}
use Rattle.layouts.proofs.Lawful.{lawful}
use Rattle.layouts.specs.LawfulSheets.{Lawful}
use Rattle.layouts.specs.Levels.{level_of, rounds_of, sheet_field, sheet_root}
use Rattle.layouts.proofs.LevelsByNumber.{level_first, undivided_degree}
use Rattle.completeness.proofs.Allowed.{allowed_degree, allowed_enough}
use Rattle.completeness.specs.CoinsByNumber.{coins_read}
use Rattle.completeness.proofs.Completeness.{admissible_coins, sheet_ready}
use Rattle.completeness.specs.DecidingAccepts
use Rattle.completeness.specs.DecidingAccepts.{Admissible, AdmissibleRound, Foldable}
use Rattle.completeness.proofs.Domains.{foldable}
use Rattle.completeness.specs.Numbered.{Allowed, coins_of, corrected_of, final_indices, fold_coin}
use Rattle.completeness.specs.Ready.{ready_sized}

-- n rounds past level i
admissible_at : (h : Sheet) (coins : List ℕ) (L : FieldLaws (sheet_field h)) (js : List ℕ) (m i n : ℕ) → n < m → Admissible (sheet_field h) L (sheet_root h) (level_of h i) (map (coins_of h coins) (range (suc i) m)) js →
    AdmissibleRound (sheet_field h) L (sheet_root h) (level_of h (i + n)) (coins_of h coins (suc (i + n)))
unfolding range
admissible_at h coins L js zero i n l f = absurd (omega arith)
admissible_at h coins L js (suc m) i zero l f = subst (λ (j : ℕ). AdmissibleRound (sheet_field h) L (sheet_root h) (level_of h j) (coins_of h coins (suc j))) (sym (add-zero i)) f.0
admissible_at h coins L js (suc m) i (suc n) l f =
    subst (λ (j : ℕ). AdmissibleRound (sheet_field h) L (sheet_root h) (level_of h j) (coins_of h coins (suc j))) (suc-add i n ∙ sym (add-suc i n)) (admissible_at h coins L js m (suc i) n (omega arith) f.1)

pub first_length : (ed : Edition) (w f : List ℕ) {coins : List ℕ} → Allowed ed w f coins → length (elements_in (sheet_of ed w).spelling f) ≡ (level_of (sheet_of ed w) 0).degree
first_length ed w f ok = allowed_degree ok ∙ sym (undivided_degree (sheet_of ed w))

module _ {ed : Edition} {w f coins : List ℕ} (ok : Allowed ed w f coins) where
  abbrev F : Field (Element (sheet_of ed w).spelling)
  F = sheet_field (sheet_of ed w)

  abbrev ω : Element (sheet_of ed w).spelling
  ω = sheet_root (sheet_of ed w)

  abbrev L : FieldLaws (sheet_field (sheet_of ed w))
  L = (sheet_ready ok).laws

  abbrev long : sheet_length ed ≤ length w
  long = allowed_enough ok

  pub lawful_sheet : Lawful (sheet_of ed w)
  lawful_sheet = lawful ed w (allowed_enough ok) ok.sheet

  admissible_all : Admissible F L ω (level_of (sheet_of ed w) 0) (map (coins_of (sheet_of ed w) coins) (range 1 (rounds_of (sheet_of ed w)))) (final_indices (sheet_of ed w) coins)
  admissible_all =
      subst (λ (c : Coins (Element (sheet_of ed w).spelling)). Admissible F L ω (level_of (sheet_of ed w) 0) c.rounds c.finals) (coins_read (sheet_of ed w) coins lawful_sheet.paired)
      (subst (λ (b : Level). Admissible F L ω b (read_coins (sheet_of ed w).spelling (sheet_of ed w) coins).rounds (read_coins (sheet_of ed w).spelling (sheet_of ed w) coins).finals) (level_first (sheet_of ed w)) admissible_read)
    where
      admissible_read : Admissible F L ω (first_level (sheet_of ed w)) (read_coins (sheet_of ed w).spelling (sheet_of ed w) coins).rounds (read_coins (sheet_of ed w).spelling (sheet_of ed w) coins).finals
      admissible_read = admissible_coins ok

  -- the coins of round i + 1 are fair
  pub admissible_round : (i : ℕ) → i < rounds_of (sheet_of ed w) → AdmissibleRound F L ω (level_of (sheet_of ed w) i) (coins_of (sheet_of ed w) coins (suc i))
  admissible_round i l = subst (λ (j : ℕ). AdmissibleRound F L ω (level_of (sheet_of ed w) j) (coins_of (sheet_of ed w) coins (suc j))) (zero-add i) (admissible_at (sheet_of ed w) coins L _ (rounds_of (sheet_of ed w)) 0 i l admissible_all)

  pub level_folds : (i : ℕ) → i ≤ rounds_of (sheet_of ed w) → Foldable F ω (level_of (sheet_of ed w) i)
  level_folds i l = foldable F L ω (sheet_ready ok).signs (sheet_ready ok).e (sheet_ready ok).root (level_of (sheet_of ed w) i) (ready_sized ed w long ok.sheet i l)

  -- DEGREES. f_i has d_i coefficients (g_i in RunByNumber).
  pub corrected_length : (i : ℕ) → i ≤ rounds_of (sheet_of ed w) → length (corrected_of (sheet_of ed w) f coins i) ≡ (level_of (sheet_of ed w) i).degree
  unfolding corrected_of
  corrected_length zero l = first_length ed w f ok
  corrected_length (suc i) l =
      DecidingAccepts.next_fits F L ω (level_of (sheet_of ed w) i) (corrected_of (sheet_of ed w) f coins i) (fold_coin (sheet_of ed w) coins i) (coins_of (sheet_of ed w) coins (suc i)) (corrected_length i (omega arith)) (admissible_round i (omega arith))
