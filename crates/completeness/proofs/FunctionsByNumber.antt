-- The verifier's functions are the prover's polynomials: f_i as it is worked out from the words of the stream is the corrected polynomial on domain i, and so is each fold.
use Prim.Native.Nat.{ℕ, zero, suc, ◌≤◌, ◌<◌}
use native.Mathlib.Omega.{arith}
use mathlib.Core.List.{List, ◌++◌}
use Rattle.std.specs.Prelude.{◌≡◌}
use Rattle.std.proofs.Common.{sym, ◌∙◌}
use Rattle.std.proofs.Math.Path.{ap, subst}
use Rattle.std.proofs.Math.ListN.{get_or}
use Rattle.definition.specs.Deciding.{answers, next_function, table_function}
use Rattle.definition.specs.Domain.{fold_at, shift_point}
use Rattle.definition.specs.Field.{Element, Field, elements_in}
use Rattle.definition.specs.Polynomial.{Sample, distinct, evaluate, fold_poly}
use Rattle.definition.specs.Prover.{honest_round, honest_stream, next_poly}
use Rattle.definition.specs.Sheet.{Edition, sheet_of, shift_count}
use Rattle.definition.specs.Transcript.{Round}
use Rattle.list_laws.specs.All.{all_map}
use Rattle.algebra.specs.Laws.{FieldLaws}
use Rattle.layouts.specs.Levels.{level_of, rounds_of, sheet_field, sheet_root}
use Rattle.completeness.proofs.Completeness.{sheet_ready}
use Rattle.completeness.specs.DecidingAccepts
use Rattle.completeness.specs.DecidingAccepts.{Agrees}
use Rattle.completeness.specs.Numbered.{Allowed, coins_of, corrected_of, fold_coin, function_of, pairs_of, replies, round_of, round_poly, table}
use Rattle.completeness.proofs.FairRounds.{corrected_length, admissible_round, level_folds}
use Rattle.completeness.proofs.StreamByNumber.{message_entries, message_of}

module _ {ed : Edition} {w f coins : List ℕ} (ok : Allowed ed w f coins) (z : List ℕ) where
  abbrev F : Field (Element (sheet_of ed w).spelling)
  F = sheet_field (sheet_of ed w)

  abbrev ω : Element (sheet_of ed w).spelling
  ω = sheet_root (sheet_of ed w)

  abbrev L : FieldLaws (sheet_field (sheet_of ed w))
  L = (sheet_ready ok).laws

  abbrev stream : List ℕ
  stream = honest_stream ed w f coins ++ z

  -- round i + 1 as it stands in the stream is the honest round
  round_stands : (i : ℕ) → i < rounds_of (sheet_of ed w) → round_of ed (sheet_of ed w) coins stream (suc i) ≡ honest_round (sheet_field (sheet_of ed w)) (sheet_root (sheet_of ed w)) (round_poly (sheet_of ed w) f coins (suc i)) (coins_of (sheet_of ed w) coins (suc i))
  unfolding honest_round message_of
  round_stands i l = λ x. record {
    coins = coins_of (sheet_of ed w) coins (suc i);
    table = message_entries ok z (table (suc i)) l x;
    replies = message_entries ok z (replies (suc i)) (omega arith, l) x;
  }

  -- where the verifier's f_i is the prover's, so is the list of pairs of round i + 1
  pairs_from : (i : ℕ) → i < rounds_of (sheet_of ed w) → Agrees F ω (level_of (sheet_of ed w) i) (function_of ed (sheet_of ed w) coins stream i) (corrected_of (sheet_of ed w) f coins i) →
      answers F ω (level_of (sheet_of ed w) i) (function_of ed (sheet_of ed w) coins stream i) (fold_coin (sheet_of ed w) coins i) (round_of ed (sheet_of ed w) coins stream (suc i)) ≡ pairs_of (sheet_of ed w) f coins (suc i)
  unfolding pairs_of round_poly
  pairs_from i l agrees =
      let o = function_of ed (sheet_of ed w) coins stream i in
      let r = fold_coin (sheet_of ed w) coins i in
      let c = coins_of (sheet_of ed w) coins (suc i) in
      ap (answers F ω (level_of (sheet_of ed w) i) o r) (round_stands i l)
      ∙ DecidingAccepts.answers_honest F ω (level_of (sheet_of ed w) i) o r (round_poly (sheet_of ed w) f coins (suc i)) c (all_map c.shifts (admissible_round ok i l).indices
      (λ j. DecidingAccepts.fold_agrees F L ω (level_of (sheet_of ed w) i) (corrected_of (sheet_of ed w) f coins i) o r j (corrected_length ok i (omega arith)) (level_folds ok i (omega arith)) agrees))

  pub function_agrees : (i : ℕ) → i ≤ rounds_of (sheet_of ed w) → Agrees F ω (level_of (sheet_of ed w) i) (function_of ed (sheet_of ed w) coins stream i) (corrected_of (sheet_of ed w) f coins i)
  unfolding function_of corrected_of table_function message_of round_poly pairs_of
  function_agrees zero l = λ m h. ap (λ (t : List (Element (sheet_of ed w).spelling)). get_or t m F.𝟘) (message_entries ok z (table 0) l) ∙ DecidingAccepts.table_at F ω (level_of (sheet_of ed w) 0) (elements_in (sheet_of ed w).spelling f) m h
  function_agrees (suc i) l =
      let g = round_poly (sheet_of ed w) f coins (suc i) in
      let c = coins_of (sheet_of ed w) coins (suc i) in
      subst (λ (a : List (Sample (Element (sheet_of ed w).spelling))). Agrees F ω (level_of (sheet_of ed w) (suc i)) (next_function F ω (distinct F a) (round_of ed (sheet_of ed w) coins stream (suc i))).value (next_poly F ω (level_of (sheet_of ed w) i) g c))
      (sym (pairs_from i l (function_agrees i (omega arith))))
      (subst (λ (ρ : Round (Element (sheet_of ed w).spelling)). Agrees F ω (level_of (sheet_of ed w) (suc i)) (next_function F ω (distinct F (pairs_of (sheet_of ed w) f coins (suc i))) ρ).value (next_poly F ω (level_of (sheet_of ed w) i) g c))
      (sym (round_stands i l)) (DecidingAccepts.next_agrees F L ω (level_of (sheet_of ed w) i) g c (admissible_round ok i l)))

  pub pairs_agree : (i : ℕ) → i < rounds_of (sheet_of ed w) →
      answers F ω (level_of (sheet_of ed w) i) (function_of ed (sheet_of ed w) coins stream i) (fold_coin (sheet_of ed w) coins i) (round_of ed (sheet_of ed w) coins stream (suc i)) ≡ pairs_of (sheet_of ed w) f coins (suc i)
  pairs_agree i l = pairs_from i l (function_agrees i (omega arith))

  -- and the fold at a shift point, through the k roots, is the folded polynomial's value there, for every fold coin
  pub fold_agrees : (i : ℕ) (r : Element (sheet_of ed w).spelling) (j : ℕ) → i ≤ rounds_of (sheet_of ed w) → j < shift_count (level_of (sheet_of ed w) i) →
      fold_at F ω (level_of (sheet_of ed w) i) (function_of ed (sheet_of ed w) coins stream i) r j
      ≡ evaluate F (fold_poly F (level_of (sheet_of ed w) i).fold r (corrected_of (sheet_of ed w) f coins i)) (shift_point F ω (level_of (sheet_of ed w) i) j)
  fold_agrees i r j l h =
      DecidingAccepts.fold_agrees F L ω (level_of (sheet_of ed w) i) (corrected_of (sheet_of ed w) f coins i) (function_of ed (sheet_of ed w) coins stream i) r j (corrected_length ok i l) (level_folds ok i l) (function_agrees i l) h
