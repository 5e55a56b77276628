-- What a call over lent words leaves, from what its parts leave.
use Prim.Native.Nat.{ℕ, ◌<◌}
use native.Mathlib.Omega.{arith}
use mathlib.Core.List.{List}
use mathlib.Core.Path.{◌≡◌, refl, sym, ap, subst, ◌∙◌}
use lib.ListN.{get_or, length}
use borrow.Author.Tests.{ne_eqb}
use Rattle.definition.specs.Verdict.{Outcome, accepted, refused}
use Rattle.device_definition.specs.Device.{Device, Stepped}
use Rattle.outcome.specs.declared.Outcome.{Outcome as Told}
use Rattle.outcome.specs.declared.Outcome.TheVariants.{Accepted, Refused}
use Rattle.outcome.specs.Meaning.{outcome_of}
use Rattle.numbers.specs.Numbers.{number_of, place_in}
use Rattle.device_words.specs.Words.{device_in, words_of}
use Rattle.device_calls.specs.Calls.{called, other_length, state_after, stepped}
use Rattle.device_calls.specs.Counts.{Small, Sound}

-- the counts in words are small
pub words_small : (state : List ℕ) → get_or state 6 0 < 4294967296 → get_or state 7 0 < 4294967296 → Small (device_in state)
unfolding device_in
words_small state h k = record { taken = h; treated = k }

-- the words after a step, and that they give its device back where it is accepted
abbrev Leaves : Outcome → Device → List ℕ → List ℕ → Type 0
Leaves o next state after =
    (after ≡ state_after o state next) × (next.taken < 4294967296 → next.treated < 4294967296 → o ≡ accepted → device_in after ≡ next)

pub refused_leaves : (o : Told) (next : Device) (state : List ℕ) {number place : ℕ} → o ≡ Refused number place → Leaves (outcome_of o) next state state
unfolding outcome_of state_after
refused_leaves o next state {number} {place} e = rw e (refl, λ a b w. never w)
  where
    never : refused number place ≡ accepted → device_in state ≡ next
    never w = let f : ◌≡◌ {A = ℕ} 0 1 = cc in absurd (omega arith)

pub accepted_leaves : (o : Told) (next : Device) (state after : List ℕ) → o ≡ Accepted →
    (after ≡ words_of next) × (next.taken < 4294967296 → next.treated < 4294967296 → device_in after ≡ next) → Leaves (outcome_of o) next state after
unfolding outcome_of state_after
accepted_leaves o next state after e h = rw e (h.0, λ a b w. h.1 a b)

-- a call, its step a function of the device
module _ (step : Device → Stepped) (state buffer : List ℕ) where
  abbrev pub Answers : ℕ → ℕ → List ℕ → List ℕ → Type 0
  Answers number place after left =
      (number ≡ number_of (called state buffer (step (device_in state))).outcome) ×
      ((place ≡ place_in (called state buffer (step (device_in state))).outcome) ×
      ((after ≡ (called state buffer (step (device_in state))).state) ×
      ((left ≡ (called state buffer (step (device_in state))).buffer) × (length state ≡ 1160 → device_in after ≡ (step (device_in state)).device))))

  pub other_length_lem : (length state ≡ 1160 → ⊥) → Answers 16 2 state buffer
  unfolding called other_length number_of place_in
  other_length_lem n = rw (ne_eqb (length state) 1160 n) (refl, (refl, (refl, (refl, λ e. absurd (n e)))))

  -- what the step answers, by cases
  back : (o : Outcome) (after : List ℕ) → o ≡ (step (device_in state)).outcome → Sound (device_in state) (step (device_in state)) →
      Leaves o (step (device_in state)).device state after → device_in after ≡ (step (device_in state)).device
  unfolding state_after
  back accepted after e s h = h.1 s.small.taken s.small.treated refl
  back (refused number place) after e s h = ap device_in h.0 ∙ sym (s.kept number place (sym e))

  pub answered : (d : Device) (o : Outcome) (next : Device) {number place : ℕ} {after left : List ℕ} → length state ≡ 1160 → d ≡ device_in state →
      Sound (device_in state) (step (device_in state)) → o ≡ (step d).outcome → next ≡ (step d).device → left ≡ (step d).buffer →
      (number ≡ number_of o) × ((place ≡ place_in o) × Leaves o next state after) → Answers number place after left
  unfolding called stepped
  answered d o next {number} {place} {after} {left} long e s eo en eb h =
      let fo : o ≡ (step (device_in state)).outcome = eo ∙ ap (λ (z : Device). (step z).outcome) e in
      let fn : next ≡ (step (device_in state)).device = en ∙ ap (λ (z : Device). (step z).device) e in
      let k : Leaves o (step (device_in state)).device state after = subst (λ (z : Device). Leaves o z state after) fn h.1.1 in
      rw long (
        h.0 ∙ ap number_of fo,
        (
          h.1.0 ∙ ap place_in fo,
          (k.0 ∙ ap (λ (z : Outcome). state_after z state (step (device_in state)).device) fo, (eb ∙ ap (λ (z : Device). (step z).buffer) e, λ u. back o after fo s k)),
        ),
      )
