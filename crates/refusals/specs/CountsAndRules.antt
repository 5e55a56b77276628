-- The tests that prove and encode share: a list's number of words, the sheet's rules and the room in the output.
use Rattle.std.specs.Prelude.{ℕ, ◌*◌, true, not, List, ◌≡◌, refl, eqb, ltb, length}
use Rattle.std.proofs.Common.{arith, sym, ◌∙◌, eq-eqb, eqb-true, lt-ltb, ltb-true}
use Rattle.definition.specs.Sheet.{Edition, sheet_length, sheet_of}
use Rattle.layouts.proofs.Lawful.{lawful}
use Rattle.layouts.specs.LawfulSheets.{Lawful}
use Rattle.layouts.proofs.RulesByWord.{sheet_exactly}
use Rattle.completeness.proofs.Allowed.{sheet_enough}
use Rattle.completeness.specs.Faults.{RuleFault}
use Rattle.completeness.specs.TestsByNumber.{differ, differs}
use Rattle.completeness.proofs.VerifyExactly.{is_true}
use Rattle.refusals.specs.InputFaults.{CountFault, OutputFault}

module _ (place due : ℕ) (list : List ℕ) where
  pub count_sound : not (eqb (length list) due) ≡ true → CountFault place due list place
  count_sound e = (refl, differ _ _ e)

  pub count_complete : (q : ℕ) → CountFault place due list q → (q ≡ place) × (not (eqb (length list) due) ≡ true)
  count_complete q p = (p.0, differs _ _ p.1)

  pub counted : ((q : ℕ) → CountFault place due list q → ⊥) → length list ≡ due
  counted clear = eqb-true _ _ (is_true _ (λ k. clear place (refl, λ e. k (eq-eqb _ _ e))))

-- a sheet of all its words that breaks no rule
pub ruled_sheet : (ed : Edition) (w : List ℕ) → ((q : ℕ) → CountFault 0 (sheet_length ed) w q → ⊥) → ((q : ℕ) → RuleFault ed w q → ⊥) → Lawful (sheet_of ed w)
ruled_sheet ed w whole clear = lawful ed w (sheet_enough ed w (counted 0 (sheet_length ed) w whole)) ((sheet_exactly ed w).1 (λ i l. is_true _ (λ k. clear i (l, k))))

module _ (due need : ℕ) (output : List ℕ) where
  pub output_sound : ltb (length output) need ≡ true → OutputFault due need output due
  output_sound e = (refl, ltb-true _ _ e)

  pub output_complete : (q : ℕ) → OutputFault due need output q → (q ≡ due) × (ltb (length output) need ≡ true)
  output_complete q p = (p.0, lt-ltb _ _ p.1)

-- the same in blocks, where their number is worked out in another way
module _ (place due : ℕ) (output : List ℕ) (e : place ≡ due) where
  pub blocks_sound : ltb (length output) (512 * place) ≡ true → OutputFault due (512 * due) output place
  blocks_sound t = (e, omega (arith, ltb-true (length output) (512 * place) t, e))

  pub blocks_complete : (q : ℕ) → OutputFault due (512 * due) output q → (q ≡ place) × (ltb (length output) (512 * place) ≡ true)
  blocks_complete q p = (p.0 ∙ sym e, lt-ltb (length output) (512 * place) (omega (arith, p.1, e)))
