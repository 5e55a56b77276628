-- The verdict on a file with the indices of one part in another order.
use Rattle.std.specs.Prelude.{ℕ, ◌+◌, ◌<◌, ◌↔◌, ◌≡◌, refl, drop}
use mathlib.Core.List.Permᴰ
use mathlib.Core.List.{List, Permᴰ}
use Rattle.std.proofs.Math.Path.{sym, ap, subst}
use Rattle.std.proofs.Common.{◌∙◌}
use Rattle.std.proofs.Math.ListN.{get_or}
use Rattle.definition.specs.Block.{stream_of}
use Rattle.definition.specs.Deciding.{Decision, counted, decide, deciding, out_tests}
use Rattle.definition.specs.Layout.{layout, read_transcript}
use Rattle.definition.specs.Reading.{check_test, length_test, reading}
use Rattle.definition.specs.Sheet.{Edition, Sheet, first_level, sheet_length}
use Rattle.definition.specs.Verdict.{Outcome, Verdict, accepted, refused, then_verdict}
use Rattle.definition.specs.Verify.{verify_in}
use Rattle.layouts.specs.Levels.{rounds_of, sheet_field, sheet_root}
use Rattle.layouts.specs.Tests.{then_passes}
use Rattle.completeness.specs.Faults.{Part, combination, finals, fold, outs, part_length, part_start, part_words, sheet_in, shifts, words}
use Rattle.dependence.specs.Changes.{Indices, Reordered}
use Rattle.dependence.specs.Orders.{perm_reads}
use Rattle.dependence.specs.Reordered.{Alike, NotNine, accepted_not}
use Rattle.dependence.proofs.TurnedRun as run
use Rattle.dependence.proofs.TurnedWords as turned

-- deciding's verdict on a stream, by its sheet
abbrev decided_by : Edition → Sheet → List ℕ → Verdict
decided_by ed h w = then_verdict (out_tests h (sheet_length ed) (layout h) w) (counted (decide (sheet_field h) (sheet_root h) (first_level h) (read_transcript h.spelling h (drop (sheet_length ed) w))))

verdict_is : (ed : Edition) (file : List ℕ) → reading ed file ≡ accepted → verify_in ed file ≡ decided_by ed (sheet_in ed file) (stream_of file)
unfolding verify_in deciding then_verdict
verdict_is ed file read = ap (λ (o : Outcome). then_verdict o (deciding ed (stream_of file))) read

counted_same : (d e : Decision) → Alike d e → counted d ≡ counted e
unfolding counted
counted_same d e a = λ i. record { outcome = a.outcome_same i; reads = perm_reads a.places_same i }

then_same : (o : Outcome) (a b : Verdict) → (o ≡ accepted → a ≡ b) → then_verdict o a ≡ then_verdict o b
unfolding then_verdict
then_same accepted a b h = h refl
then_same (refused n q) a b h = refl

module _ (ed : Edition) (x y : List ℕ) (p : Part) (passed : reading ed x ≡ accepted) (ip : Indices (sheet_in ed x) p) (t : Reordered ed x p y) where
  abbrev h : Sheet
  h = sheet_in ed x

  pub reordered_reads : reading ed y ≡ accepted
  reordered_reads = turned.reads ed x y p ip passed t

  -- the two verdicts, by the one sheet
  other_verdict : verify_in ed y ≡ decided_by ed h (stream_of y)
  other_verdict = verdict_is ed y reordered_reads ∙ ap (λ (g : Sheet). decided_by ed g (stream_of y)) (turned.sheet_same ed x y p ip passed t)

  abbrev decision_of : List ℕ → Decision
  decision_of u = decide (sheet_field h) (sheet_root h) (first_level h) (read_transcript h.spelling h (drop (sheet_length ed) u))

  by_decisions : (out_tests h (sheet_length ed) (layout h) (stream_of x) ≡ accepted → Alike (decision_of (stream_of x)) (decision_of (stream_of y))) → verify_in ed x ≡ verify_in ed y
  by_decisions alike =
      verdict_is ed x passed
      ∙ then_same (out_tests h (sheet_length ed) (layout h) (stream_of x)) _ _ (λ e. counted_same _ _ (alike e))
      ∙ ap (λ (o : Outcome). then_verdict o (counted (decision_of (stream_of y)))) (run.out_tests_same ed x y p ip passed t)
      ∙ sym other_verdict

  -- the shift indices of a round: the verdict stays
  shifts_verdict : (k : ℕ) → p ≡ shifts k → k < rounds_of h → verify_in ed x ≡ verify_in ed y
  shifts_verdict k q l = by_decisions (λ e. run.shifts_decided ed x y p ip passed t k q l)

  -- the final indices: the verdict stays where no final index fails
  finals_verdict : p ≡ finals → NotNine (verify_in ed x).outcome → verify_in ed x ≡ verify_in ed y
  unfolding counted then_verdict
  finals_verdict q e =
      by_decisions (λ o. run.finals_decided ed x y p ip passed t q (λ n f. e n (ap (λ (v : Verdict). v.outcome) (verdict_is ed x passed)
      ∙ ap (λ (r : Outcome). (then_verdict r (counted (decision_of (stream_of x)))).outcome) o ∙ f)))

  pub reordered_same : NotNine (verify_in ed x).outcome → verify_in ed x ≡ verify_in ed y
  reordered_same e = go p refl ip
    where
      go : (q : Part) → p ≡ q → Indices h q → verify_in ed x ≡ verify_in ed y
      go (words m) f i = absurd i
      go (outs k) f i = absurd i
      go (combination k) f i = absurd i
      go (fold k) f i = absurd i
      go (shifts k) f i = shifts_verdict k f i
      go finals f i = finals_verdict f e

  accepted_same : (verify_in ed x).outcome ≡ accepted → verify_in ed x ≡ verify_in ed y
  accepted_same e = reordered_same (accepted_not _ e)

  -- the first file is the other one reordered
  pub back : Reordered ed y p x
  unfolding reading
  back = record {
    bytes = sym t.bytes;
    checks = (then_passes (check_test x) _ (then_passes (length_test x) _ passed).1).0;
    outside = subst (λ (g : Sheet). (n : ℕ) → ((j : ℕ) → j < part_length g p → n ≡ part_start ed g p + j → ⊥) → get_or (stream_of y) n 0 ≡ get_or (stream_of x) n 0) (sym (turned.sheet_same ed x y p ip passed t))
        (λ n o. sym (t.outside n o));
    order = subst (λ (g : Sheet). Permᴰ (part_words ed g (stream_of y) p) (part_words ed g (stream_of x) p)) (sym (turned.sheet_same ed x y p ip passed t)) (Permᴰ.symm t.order);
  }

  pub back_indices : Indices (sheet_in ed y) p
  back_indices = subst (λ (g : Sheet). Indices g p) (sym (turned.sheet_same ed x y p ip passed t)) ip

pub reordering : (ed : Edition) (x y : List ℕ) (p : Part) → reading ed x ≡ accepted → Indices (sheet_in ed x) p → Reordered ed x p y →
    ((verify_in ed x).outcome ≡ accepted) ↔ ((verify_in ed y).outcome ≡ accepted)
reordering ed x y p passed ip t = (
  λ e. ap (λ (v : Verdict). v.outcome) (sym (accepted_same ed x y p passed ip t e)) ∙ e,
  λ e. ap (λ (v : Verdict). v.outcome) (sym (accepted_same ed y x p (reordered_reads ed x y p passed ip t) (back_indices ed x y p passed ip t) (back ed x y p passed ip t) e)) ∙ e,
)

pub reordered_shifts : (ed : Edition) (x y : List ℕ) (i : ℕ) → reading ed x ≡ accepted → i < rounds_of (sheet_in ed x) → Reordered ed x (shifts i) y → verify_in ed x ≡ verify_in ed y
reordered_shifts ed x y i passed l t = shifts_verdict ed x y (shifts i) passed l t i refl l
