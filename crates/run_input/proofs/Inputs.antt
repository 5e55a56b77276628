-- What is drawn in three parts is the definition's input of a run.
use Prim.Native.Nat.{ℕ, ◌≤◌, ◌<◌}
use native.Mathlib.Omega.{arith}
use mathlib.Core.List.{List}
use mathlib.Core.Option.{none}
use mathlib.Core.Path.{◌≡◌, sym, ap, ap₂, subst, ◌∙◌}
use lib.ListN.{length, get_or, replicate}
use Rattle.definition.specs.Field.{spelling_of}
use Rattle.definition.specs.Layout.{coin_kinds, layout, message}
use Rattle.definition.specs.Load.{Drawn, ProverInput, draw_kinds, draw_input, draw_sheet}
use Rattle.definition.specs.Reading.{sheet_test}
use Rattle.definition.specs.Sheet.{edition1, sheet_of}
use Rattle.definition.specs.Verdict.{accepted}
use Rattle.layouts.proofs.DueSizes.{coins_most}
use Rattle.layouts.proofs.PlainSheet.{sheet_plain}
use Rattle.layouts.specs.Spellings.{largest_most}
use Rattle.completeness.proofs.LoadAllowed.{sheet_faultless}

-- ---- the drawn sheet

module _ (v : ℕ) {next : ℕ} {w : List ℕ} (e : ◌≡◌ {A = Drawn (List ℕ)} (record { value = w; next = next }) (draw_sheet v)) where
  pub drawn_sheet : (length w ≡ 12) × (sheet_test edition1 w ≡ accepted) × (get_or w 0 0 < 3)
  drawn_sheet = subst (λ (l : List ℕ). (length l ≡ 12) × (sheet_test edition1 l ≡ accepted) × (get_or l 0 0 < 3)) (sym (ap (λ (d : Drawn (List ℕ)). d.value) e)) (sheet_faultless v)

  pub drawn_degree : get_or w 2 0 ≤ 2048
  drawn_degree = let r = (sheet_plain edition1 w drawn_sheet.1).plain in omega (arith, r.degree_range.1, r.size_range.1, largest_most (spelling_of (get_or w 0 0)))

  pub drawn_coins : length (coin_kinds (layout (sheet_of edition1 w))) ≤ 318
  drawn_coins = coins_most edition1 w (omega (arith, drawn_sheet.0)) drawn_sheet.1

-- ---- the three parts

coins_after : List ℕ → List ℕ → Drawn (List ℕ) → Drawn ProverInput
coins_after w f c = record { value = record { sheet = w; coefficients = f; coins = c.value }; next = c.next }

rest_after : List ℕ → Drawn (List ℕ) → Drawn ProverInput
rest_after w f = coins_after w f.value (draw_kinds (sheet_of edition1 w) none (coin_kinds (layout (sheet_of edition1 w))) f.next)

input_after : Drawn (List ℕ) → Drawn ProverInput
input_after w = rest_after w.value (draw_kinds (sheet_of edition1 w.value) none (replicate (sheet_of edition1 w.value).degree message) w.next)

module _
    (v : ℕ)
    {generator mid next : ℕ}
    {w f c : List ℕ}
    (sheet : ◌≡◌ {A = Drawn (List ℕ)} (record { value = w; next = generator }) (draw_sheet v))
    (coefficients : ◌≡◌ {A = Drawn (List ℕ)} (record { value = f; next = mid }) (draw_kinds (sheet_of edition1 w) none (replicate (sheet_of edition1 w).degree message) generator))
    (coins : ◌≡◌ {A = Drawn (List ℕ)} (record { value = c; next = next }) (draw_kinds (sheet_of edition1 w) none (coin_kinds (layout (sheet_of edition1 w))) mid))
  where
    pub drawn_input : ◌≡◌ {A = Drawn ProverInput} (record { value = record { sheet = w; coefficients = f; coins = c }; next = next }) (draw_input v)
    unfolding draw_input coins_after rest_after input_after
    drawn_input = ap (coins_after w f) coins ∙ ap (rest_after w) coefficients ∙ ap input_after sheet

-- coefficients and coins that are the front of longer lists
pub at_front : (v : ℕ) {next : ℕ} {w f c f' c' : List ℕ} → f' ≡ f → c' ≡ c →
    ◌≡◌ {A = Drawn ProverInput} (record { value = record { sheet = w; coefficients = f; coins = c }; next = next }) (draw_input v) →
    ◌≡◌ {A = Drawn ProverInput} (record { value = record { sheet = w; coefficients = f'; coins = c' }; next = next }) (draw_input v)
unfolding coins_after
at_front v {next} {w} ef ec h = ap₂ (λ (f c : List ℕ). coins_after w f (record { value = c; next = next })) ef ec ∙ h
