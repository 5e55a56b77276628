-- What a run draws is allowed, and so prove answers done and the verdict is the definition's.
use Prim.Native.Nat.{ℕ, ◌*◌}
use native.Mathlib.Omega.{arith}
use mathlib.Core.List.{List}
use mathlib.Core.Path.{◌≡◌, sym, ap, subst, ◌∙◌}
use lib.ListN.{length}
use borrow.Author.Tests.{le-ltb}
use Rattle.definition.specs.Block.{block_count}
use Rattle.definition.specs.Layout.{words_due}
use Rattle.definition.specs.Load.{Drawn, ProverInput, draw_input, verdict_on}
use Rattle.definition.specs.Prove.{Answer, done, output_test, prove}
use Rattle.definition.specs.Reading.{sheet_test}
use Rattle.definition.specs.Sheet.{edition1, sheet_of}
use Rattle.definition.specs.Verdict.{Verdict, accepted}
use Rattle.layouts.proofs.DueSizes.{blocks_most}
use Rattle.layouts.specs.Tests.{if_false}
use Rattle.completeness.proofs.LoadAllowed.{draws_accepted, draws_allowed, sheet_faultless}
use Rattle.completeness.specs.Numbered.{Allowed, Room, reads_due}
use Rattle.completeness.proofs.ProveAccepted.{done_exactly}

pub drawn_faultless : (v : ℕ) → (length (draw_input v).value.sheet ≡ 12) × (sheet_test edition1 (draw_input v).value.sheet ≡ accepted)
unfolding draw_input
drawn_faultless v = let sheet = sheet_faultless v in (sheet.0, sheet.1)

-- an input drawn, and the generator behind it
pub drawn_parts : (v : ℕ) {next : ℕ} {w f c : List ℕ} → ◌≡◌ {A = Drawn ProverInput} (record { value = record { sheet = w; coefficients = f; coins = c }; next = next }) (draw_input v) →
    (◌≡◌ {A = ProverInput} (record { sheet = w; coefficients = f; coins = c }) (draw_input v).value) × (next ≡ (draw_input v).next)
drawn_parts v e = (ap (λ (d : Drawn ProverInput). d.value) e, ap (λ (d : Drawn ProverInput). d.next) e)

module _ (v : ℕ) {w f c : List ℕ} (input : ◌≡◌ {A = ProverInput} (record { sheet = w; coefficients = f; coins = c }) (draw_input v).value) where
  drawn_sheet : (length w ≡ 12) × (sheet_test edition1 w ≡ accepted)
  drawn_sheet = subst (λ (o : ProverInput). (length o.sheet ≡ 12) × (sheet_test edition1 o.sheet ≡ accepted)) (sym input) (drawn_faultless v)

  drawn_allowed : Allowed edition1 w f c
  drawn_allowed = subst (λ (o : ProverInput). Allowed edition1 o.sheet o.coefficients o.coins) (sym input) (draws_allowed v)

  -- 67 blocks are room for every file
  has_room : (output : List ℕ) → length output ≡ 34304 → Room edition1 (sheet_of edition1 w) output
  unfolding output_test
  has_room output size =
      if_false 11 _ _ (le-ltb (length output) (512 * block_count (words_due edition1 (sheet_of edition1 w))) (omega (arith, blocks_most edition1 w (omega (arith, drawn_sheet.0)) drawn_sheet.1)))

  pub drawn_verdict : (output : List ℕ) {answer : Answer} {verdict : Verdict} → length output ≡ 34304 → answer ≡ (prove w f c output).answer →
      ((count : ℕ) → answer ≡ done count → verdict ≡ record { outcome = accepted; reads = reads_due (sheet_of edition1 w) c }) → verdict ≡ verdict_on (draw_input v).value
  drawn_verdict output {answer} size e given =
      given (block_count (words_due edition1 (sheet_of edition1 w))) (e ∙ (done_exactly edition1 w f c output).1 (drawn_allowed, has_room output size))
      ∙ ap (λ (o : ProverInput). record { outcome = accepted; reads = reads_due (sheet_of edition1 o.sheet) o.coins }) input
      ∙ sym (draws_accepted v)
