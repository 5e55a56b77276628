-- What the answers of the tests say of the listing: those of the input's words, and those of the sheet.
use Prim.Native.Nat.{ℕ, ◌≤◌}
use native.Mathlib.Omega.{arith}
use mathlib.Core.List.{List}
use mathlib.Core.Path.{◌≡◌, sym, ap, ◌∙◌}
use lib.ListN.{length, get_or, take}
use Rattle.layouts.specs.SheetRules.{long_enough, rounds_most}
use Rattle.layouts.specs.Tests.{equal_passes, then_passes}
use Rattle.definition.specs.Line.{refusal_line}
use Rattle.definition.specs.Prove.{done, refusal, sheet_length_test}
use Rattle.definition.specs.Reading.{sheet_test}
use Rattle.definition.specs.Sheet.{Edition, sheet_length, sheet_of}
use Rattle.definition.specs.Verdict.{Outcome, accepted, ◌then◌}
use Rattle.domain.specs.OfSheet.{fitting}
use Rattle.domain.specs.Powers.{Fitting}
use Rattle.outcome.specs.declared.Outcome.{Outcome as Answered}
use Rattle.outcome.specs.declared.Outcome.TheVariants.{Accepted, Refused}
use Rattle.outcome.specs.Meaning.{outcome_of}
use Rattle.word_input.specs.Input.{take_words, taken}
use Rattle.word_input.specs.InputWords.{Made, words_partial, words_taken}
use Rattle.listing.specs.Listing.{domains_text, listing, sheet_listing, text_after}
use Rattle.listing.specs.Table.{ListingOf}

module _ (ed : Edition) (w : List ℕ) {r : Answered} (tests : outcome_of r ≡ (sheet_length_test ed w then sheet_test ed w)) where
  passes : r ≡ Accepted → (sheet_length ed ≤ length w) × (sheet_test ed w ≡ accepted)
  unfolding outcome_of sheet_length_test
  passes e =
      let both = then_passes (sheet_length_test ed w) (sheet_test ed w) (sym tests ∙ ap outcome_of e) in
      (omega (arith, equal_passes 10 0 (length w) (sheet_length ed) both.0), both.1)

  -- what the lines go by
  pub sheet_passes : r ≡ Accepted → (12 ≤ length w) × ((Fitting (get_or w 0 0) (get_or w 1 0)) × (get_or w 4 0 ≤ 5))
  sheet_passes e = let p = passes e in (long_enough ed w p.0, (fitting ed w p.0 p.1, rounds_most ed w p.1))

  pub text_passed : {text : List ℕ} → r ≡ Accepted → ListingOf w text → text ≡ sheet_listing ed w
  unfolding outcome_of sheet_listing text_after
  text_passed e l =
      let p = passes e in
      l.kept ed p.0 p.1 ∙ ap (λ (o : Outcome). text_after o (domains_text (sheet_of ed w))) (sym (ap outcome_of e) ∙ tests)

  pub text_refused : {number place : ℕ} → r ≡ Refused number place → refusal_line number place ≡ sheet_listing ed w
  unfolding outcome_of sheet_listing text_after
  text_refused e = ap (λ (o : Outcome). text_after o (domains_text (sheet_of ed w))) (sym (ap outcome_of e) ∙ tests)

module _ (ed : Edition) (bytes room : List ℕ) where
  pub listing_taken : {count : ℕ} {o text : List ℕ} → Made (take_words bytes room) (done count) o → text ≡ sheet_listing ed (take count o) → text ≡ listing ed bytes
  unfolding listing text_after
  listing_taken m e =
      let t = words_taken (taken bytes) room m in
      rw t.0 (e ∙ ap (sheet_listing ed) t.1)

  pub listing_partial : {a b : ℕ} → refusal a b ≡ (take_words bytes room).answer → refusal_line a b ≡ listing ed bytes
  unfolding listing text_after
  listing_partial e = rw (words_partial (taken bytes) room e)
