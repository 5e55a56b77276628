-- Edition 1, whose folding numbers are all one number k: d_i is d0/k^i, and the reads are k for each different index of a level.
use Prim.Native.Nat.{ℕ, zero, suc, ◌+◌, ◌-◌, ◌*◌, ◌/◌, ◌^◌, ◌≤◌, ◌<◌}
use Rattle.std.proofs.Common.{mul-add, mul-zero, arith, ◌∙◌}
use Rattle.std.proofs.Math.Nat.{mul_comm}
use Rattle.std.specs.Prelude.{Bool, true, false, cond, List, map, ◌≡◌, refl, get_or}
use Rattle.std.proofs.Math.Path.{sym, ap}
use Rattle.std.proofs.Math.ListN.{length}
use Rattle.std.proofs.Math.Dec.{eqb}
use Rattle.definition.specs.Block.{file_of}
use Rattle.definition.specs.Lists.{different, range}
use Rattle.definition.specs.Prover.{honest_stream}
use Rattle.definition.specs.Reading.{sheet_test}
use Rattle.definition.specs.Sheet.{Level, Sheet, edition1, sheet_of}
use Rattle.definition.specs.Verdict.{accepted}
use Rattle.definition.specs.Verify.{verify}
use Rattle.layouts.proofs.Lawful.{rounds_word}
use Rattle.layouts.specs.Levels.{degree_of, level_of, rounds_of, total}
use Rattle.layouts.specs.PlainRules.{word_turn}
use Rattle.layouts.proofs.PlainSheet.{fold_one, product_one}
use Rattle.layouts.proofs.SheetLevels.{level_is}
use Rattle.layouts.specs.SheetRules.{rounds_most}
use Rattle.completeness.proofs.Allowed.{allowed_enough}
use Rattle.completeness.proofs.Completeness.{completeness}
use Rattle.completeness.specs.Faults.{part_words, reads_before, shifts, turn_of}
use Rattle.completeness.specs.Numbered.{Allowed, corrected_of, indices_of, level_reads, quotient_poly, reads_due, round_poly, samples_at}
use Rattle.completeness.proofs.RunByNumber.{fewer, quotient_length, round_length}
use Rattle.completeness.proofs.FairRounds.{corrected_length}

module _ (w : List ℕ) (long : 12 ≤ length w) (passed : sheet_test edition1 w ≡ accepted) where
  most : get_or w 4 0 ≤ 5
  most = rounds_most edition1 w passed

  pub level_one : (i : ℕ) → i ≤ get_or w 4 0 → level_of (sheet_of edition1 w) i ≡ record {
    number = i;
    size = get_or w 1 0 / 2 ^ i;
    degree = get_or w 2 0 / get_or w 3 0 ^ i;
    fold = get_or w 3 0;
    repetitions = get_or w (6 + i) 0;
  }
  level_one i l = level_is edition1 w long passed i l ∙ (λ t. record {
    number = i;
    size = get_or w 1 0 / 2 ^ i;
    degree = get_or w 2 0 / product_one w i (omega (arith, most)) t;
    fold = fold_one w i (omega (arith, most)) t;
    repetitions = get_or w (6 + i) 0;
  })

  -- k for each different index, summed over m levels from i on
  different_one : (js : ℕ → List ℕ) (m i : ℕ) → i + m ≤ suc (get_or w 4 0) →
      total (map (λ j. level_reads (sheet_of edition1 w) j (js j)) (range i m)) ≡ get_or w 3 0 * total (map (λ j. length (different eqb (js j))) (range i m))
  unfolding total range level_reads
  different_one js zero i l = sym (mul-zero (get_or w 3 0))
  different_one js (suc m) i l =
      let n = length (different eqb (js i)) in
      (λ t. (ap (λ (b : Level). n * b.fold) (level_one i (omega arith)) ∙ mul_comm n (get_or w 3 0)) t + different_one js m (suc i) (omega arith) t)
      ∙ sym (mul-add (get_or w 3 0) n (total (map (λ j. length (different eqb (js j))) (range (suc i) m))))

  pub reads_one : (coins : List ℕ) → reads_due (sheet_of edition1 w) coins
      ≡ get_or w 3 0 * total (map (λ i. length (different eqb (indices_of (sheet_of edition1 w) coins i))) (range 0 (suc (get_or w 4 0))))
  unfolding reads_due
  reads_one coins =
      ap (λ (n : ℕ). total (map (λ i. level_reads (sheet_of edition1 w) i (indices_of (sheet_of edition1 w) coins i)) (range 0 (suc n)))) (rounds_word edition1 w long passed)
      ∙ different_one (indices_of (sheet_of edition1 w) coins) (suc (get_or w 4 0)) 0 (omega arith)

  pub reads_before_one : (stream : List ℕ) (m : ℕ) → m ≤ suc (get_or w 4 0) → reads_before edition1 (sheet_of edition1 w) stream m
      ≡ get_or w 3 0 * total (map (λ i. length (different eqb (part_words edition1 (sheet_of edition1 w) stream (shifts i)))) (range 0 m))
  unfolding reads_before
  reads_before_one stream m l = different_one (λ i. part_words edition1 (sheet_of edition1 w) stream (shifts i)) m 0 (omega arith)

-- each place is its own turn
pub turn_one : (n q : ℕ) → turn_of edition1 n q ≡ q
unfolding turn_of word_turn
turn_one n q = go (eqb n 3)
  where
    go : (b : Bool) → cond b q q ≡ q
    go true = refl
    go false = refl

-- an allowed run of edition 1: the claim in its own terms, and the degrees
module _ {w f coins : List ℕ} (ok : Allowed edition1 w f coins) where
  abbrev h : Sheet
  h = sheet_of edition1 w

  degree_one : (i : ℕ) → i ≤ get_or w 4 0 → degree_of h i ≡ get_or w 2 0 / get_or w 3 0 ^ i
  degree_one i l = ap (λ (b : Level). b.degree) (level_one w (allowed_enough ok) ok.sheet i l)

  rounds_one : rounds_of h ≡ get_or w 4 0
  rounds_one = rounds_word edition1 w (allowed_enough ok) ok.sheet

  pub accepted_one : verify (file_of (honest_stream edition1 w f coins)) ≡ record {
    outcome = accepted;
    reads = get_or w 3 0 * total (map (λ i. length (different eqb (indices_of (sheet_of edition1 w) coins i))) (range 0 (suc (get_or w 4 0))));
  }
  accepted_one = completeness edition1 w f coins ok ∙ (λ t. record { outcome = accepted; reads = reads_one w (allowed_enough ok) ok.sheet coins t })

  pub round_degree_one : (i : ℕ) → i ≤ get_or w 4 0 → length (round_poly (sheet_of edition1 w) f coins i) ≡ get_or w 2 0 / get_or w 3 0 ^ i
  round_degree_one i l = round_length ok i (omega (arith, rounds_one)) ∙ degree_one i l

  pub corrected_degree_one : (i : ℕ) → i ≤ get_or w 4 0 → length (corrected_of (sheet_of edition1 w) f coins i) ≡ get_or w 2 0 / get_or w 3 0 ^ i
  corrected_degree_one i l = corrected_length ok i (omega (arith, rounds_one)) ∙ degree_one i l

  pub quotient_degree_one : (i : ℕ) → i < get_or w 4 0 →
      length (quotient_poly (sheet_of edition1 w) f coins (suc i)) ≡ get_or w 2 0 / get_or w 3 0 ^ suc i - length (samples_at (sheet_of edition1 w) f coins (suc i))
  quotient_degree_one i l = quotient_length ok i (omega (arith, rounds_one)) ∙ ap (λ (d : ℕ). d - length (samples_at h f coins (suc i))) (degree_one (suc i) l)

  pub samples_fewer_one : (i : ℕ) → i < get_or w 4 0 → length (samples_at (sheet_of edition1 w) f coins (suc i)) < get_or w 2 0 / get_or w 3 0 ^ suc i
  samples_fewer_one i l = omega (arith, fewer ok i (omega (arith, rounds_one)), degree_one (suc i) l)
