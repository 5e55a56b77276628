-- What the functions hand to each other, over plain numbers and lists: what a call requires, and what it gives, in the words of the stream.
use Prim.Native.Nat.{ℕ, ◌+◌, ◌*◌, ◌≤◌}
use native.Mathlib.Omega.{arith}
use mathlib.Core.Path.{◌≡◌, refl, sym, ap, ◌∙◌, subst}
use mathlib.Core.List.{List, zip_with}
use mathlib.Core.Option.{none}
use lib.ListN.{length, get_or, drop}
use Rattle.layouts.specs.Tests.{at_passes, then_passes}
use Rattle.definition.specs.Deciding.{counted, decide, deciding, out_in_domain, out_test, out_tests}
use Rattle.definition.specs.Field.{Element, begun_by, spelling_of, word_count}
use Rattle.layouts.specs.Levels.{element_at, sheet_field, sheet_root, words_for}
use Rattle.list_laws.specs.Zeros.{zeros, length_zeros}
use Rattle.spelling.specs.ByField.{at_one, at_three, words_at}
use Rattle.definition.specs.Layout.{layout, read_transcript, words_due}
use Rattle.definition.specs.Lists.{first_true}
use Rattle.definition.specs.Reading.{range_test, sheet_test}
use Rattle.definition.specs.Sheet.{Edition, Sheet, first_level, root_of_unity, sheet_length, sheet_of}
use Rattle.definition.specs.Verdict.{Outcome, Verdict, accepted, refused, then_verdict}
use Rattle.domain.specs.OfSheet.{fitting}
use Rattle.domain.specs.Powers.{Fitting, Powers, PowersOver}
use Rattle.fractions.specs.Points.{powers_as_elements}
use Rattle.fractions.specs.Values.{Clear}
use Rattle.round_words.specs.Handed.{sheet_points}
use Rattle.outcome.specs.declared.Outcome.{Outcome as Tested}
use Rattle.outcome.specs.declared.Outcome.TheVariants.{Accepted, Refused}
use Rattle.outcome.specs.Meaning.{outcome_of}
use Rattle.fractions.specs.declared.Oracle.{Oracle}
use Rattle.level_words.specs.declared.State.{State}
use Rattle.deciding.proofs.First.{first_room, first_step, range_after, represented_first, shaped, sheet_there, invariant_first, written}
use Rattle.deciding.proofs.Outs.{outs_first}
use Rattle.level_words.specs.State.{after_fold, first_oracle, first_state}
use Rattle.level_words.specs.Inside.{Written}
use Rattle.out_coins.specs.Kinds.{kinds_after_fold}
use Rattle.decide_rounds.specs.Invariant.{Decided, Invariant, Represented, Shaped}

-- ---- before round 1

module _ (ed : Edition) (w : List ℕ) (passed : sheet_test ed w ≡ accepted) (due : words_due ed (sheet_of ed w) ≤ length w) where
  abbrev h : Sheet
  h = sheet_of ed w

  abbrev from : ℕ
  from = sheet_length ed

  enough : sheet_length ed ≤ length w
  enough = sheet_there ed h w due

  pub sheet_written : Written ed (sheet_of ed w) w
  sheet_written = written ed w enough passed

  pub sheet_shaped : Shaped (sheet_of ed w)
  sheet_shaped = shaped ed w enough passed

  -- and so its field has a domain of its size
  pub sheet_fitting : (12 ≤ length w) × Fitting (get_or w 0 0) (get_or w 1 0)
  sheet_fitting = (sheet_written.long, fitting ed w enough passed)

  words_from_lem : sheet_length ed + length (layout (sheet_of ed w)) ≤ length w
  unfolding words_due
  words_from_lem = due

  -- fold coin 0 stands after table 0, by so many words
  pub coin_there : after_fold (sheet_length ed) (sheet_of ed w) ≤ length w
  coin_there = first_room from h w words_from_lem

  pub coin_place : {at v : ℕ} → at ≡ sheet_length ed → v ≡ word_count (spelling_of (get_or w 0 0)) (get_or w 1 0) → at + v ≡ sheet_length ed + words_for (sheet_of ed w) (sheet_of ed w).size
  unfolding sheet_of
  coin_place ea ev = λ i. ea i + ev i

  pub range_rest : range_test (sheet_of ed w) (sheet_length ed) (layout (sheet_of ed w)) w ≡ accepted →
      range_test (sheet_of ed w) (after_fold (sheet_length ed) (sheet_of ed w)) (kinds_after_fold (sheet_of ed w)) w ≡ accepted
  range_rest ranged = range_after from h w words_from_lem ranged

  module _ (pw ac vg : List ℕ) (ranged : range_test (sheet_of ed w) (after_fold (sheet_length ed) (sheet_of ed w)) (kinds_after_fold (sheet_of ed w)) w ≡ accepted)
      (points : Powers (get_or w 0 0) (root_of_unity (sheet_of ed w)) pw) (size : length pw ≡ get_or w 1 0)
      (outside : out_test (sheet_of ed w) (sheet_length ed) (layout (sheet_of ed w)) w ≡ accepted)
      (st : State) (es : st ≡ first_state (sheet_length ed) (sheet_of ed w)) (oracle : Oracle) (eh : oracle ≡ first_oracle (sheet_of ed w)) where
    first_outside : first_true (sheet_length ed) (zip_with (out_in_domain (sheet_of ed w).spelling (sheet_of ed w)) (layout (sheet_of ed w)) (begun_by (sheet_of ed w).spelling (drop (sheet_length ed) w))) ≡ none
    unfolding out_test
    first_outside = at_passes 7 _ outside

    -- the points of domain 0 as elements; before round 1 there is nothing to divide by
    powers : PowersOver (sheet_field (sheet_of ed w)) (sheet_root (sheet_of ed w)) (sheet_points (sheet_of ed w) pw)
    unfolding sheet_of
    powers = powers_as_elements (get_or w 0 0) points

    clear : Clear (get_or w 0 0) pw (first_state (sheet_length ed) (sheet_of ed w)).size vg (first_oracle (sheet_of ed w))
    unfolding first_oracle
    clear = record { ω = _; powers = powers_as_elements (get_or w 0 0) points; nonzero = λ m l some. absurd (omega arith) }

    pub first_ready : length ac ≡ words_for (sheet_of ed w) 66 → length vg ≡ words_for (sheet_of ed w) 132 → Invariant (sheet_of ed w) w (length pw) (length ac) (length vg) st oracle × Represented (sheet_of ed w) w pw ac vg st oracle
    first_ready la lv = (
      subst (λ (x : State). Invariant h w (length pw) (length ac) (length vg) x oracle) (sym es)
          (subst (Invariant h w (length pw) (length ac) (length vg) (first_state from h)) (sym eh)
          (invariant_first from h w words_from_lem sheet_shaped ranged (length pw) (length ac) (length vg) (size ∙ sheet_written.size) la lv)),
      subst (λ (x : State). Represented h w pw ac vg x oracle) (sym es)
          (subst (Represented h w pw ac vg (first_state from h)) (sym eh)
          (represented_first from h w pw ac vg powers clear (outs_first from h w words_from_lem ∙ first_outside))),
    )

    pub first_decided : {v : Verdict} {r : Element (sheet_of ed w).spelling} → r ≡ element_at (sheet_of ed w).spelling w (sheet_length ed + words_for (sheet_of ed w) (sheet_of ed w).size) →
        Decided (sheet_of ed w) w pw ac vg st 0 r oracle v →
        v ≡ counted (decide (sheet_field (sheet_of ed w)) (sheet_root (sheet_of ed w)) (first_level (sheet_of ed w)) (read_transcript (sheet_of ed w).spelling (sheet_of ed w) (drop (sheet_length ed) w)))
    first_decided {v} {r} er d =
        first_step from h w pw ac vg powers
        (subst (λ y. Decided h w pw ac vg (first_state from h) 0 y (first_oracle h) v) er
        (subst (λ (x : Oracle). Decided h w pw ac vg (first_state from h) 0 r x v) eh (subst (λ (x : State). Decided h w pw ac vg x 0 r oracle v) es d)))

-- ---- the tests of out coins, then the rest

module _ (ed : Edition) (w : List ℕ) (r : Tested) (tested : outcome_of r ≡ out_tests (sheet_of ed w) (sheet_length ed) (layout (sheet_of ed w)) w) where
  abbrev decided : Verdict
  decided = counted (decide (sheet_field (sheet_of ed w)) (sheet_root (sheet_of ed w)) (first_level (sheet_of ed w)) (read_transcript (sheet_of ed w).spelling (sheet_of ed w) (drop (sheet_length ed) w)))

  by_outcome : (o : Outcome) → outcome_of r ≡ o → deciding ed w ≡ then_verdict o decided
  unfolding deciding
  by_outcome o e = ap (λ (x : Outcome). then_verdict x decided) (sym tested ∙ e)

  pub out_refused : {number place : ℕ} → r ≡ Refused number place → record { outcome = refused number place; reads = 0 } ≡ deciding ed w
  unfolding outcome_of then_verdict
  out_refused {number} {place} e = sym (by_outcome (refused number place) (ap outcome_of e))

  pub out_passed : {v : Verdict} → r ≡ Accepted → v ≡ decided → v ≡ deciding ed w
  unfolding outcome_of then_verdict
  out_passed e d = d ∙ sym (by_outcome accepted (ap outcome_of e))

  pub outside_passed : r ≡ Accepted → out_test (sheet_of ed w) (sheet_length ed) (layout (sheet_of ed w)) w ≡ accepted
  unfolding outcome_of out_tests
  outside_passed e = (then_passes _ _ (sym tested ∙ ap outcome_of e)).0

-- ---- places by the field's number

-- so many elements of one word
pub one_words : (ed : Edition) (w : List ℕ) (n : ℕ) → (get_or w 0 0 ≡ 3 → ⊥) → n ≡ words_for (sheet_of ed w) n
unfolding sheet_of word_count
one_words ed w n other = at_one (λ σ. n ≡ word_count σ n) (get_or w 0 0) other refl

-- and of four
pub four_words : (ed : Edition) (w : List ℕ) (n : ℕ) → get_or w 0 0 ≡ 3 → 4 * n ≡ words_for (sheet_of ed w) n
unfolding sheet_of spelling_of word_count
four_words ed w n three = at_three (λ field. 4 * n ≡ words_at field n) (get_or w 0 0) three refl

-- a sheet of field 3 has at most 1,024 points
pub four_points : (ed : Edition) (w : List ℕ) → sheet_test ed w ≡ accepted → words_due ed (sheet_of ed w) ≤ length w → get_or w 0 0 ≡ 3 → get_or w 1 0 ≤ 1024
unfolding sheet_of spelling_of word_count
four_points ed w passed due three =
    let most = (sheet_shaped ed w passed due).law.words in
    let e : word_count (spelling_of (get_or w 0 0)) (get_or w 1 0) ≡ 4 * get_or w 1 0 = ap (λ (field : ℕ). word_count (spelling_of field) (get_or w 1 0)) three in
    omega (arith, most, e)
