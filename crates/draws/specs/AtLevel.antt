-- Where the draws of the coins stand: at level i of a sheet w of edition 1 and of one of the fields 0 to 2 that passes, with the table of the points of its domain 0.
use Prim.Native.Nat.{ℕ, suc, ◌+◌, ◌-◌, ◌*◌, ◌/◌, ◌^◌, ◌≤◌, ◌<◌}
use Rattle.std.proofs.Common.{mul_comm, pow-suc, add-one, ap, ◌∙◌}
use native.Mathlib.Omega.{arith}
use Rattle.std.proofs.Math.Bool.{cond}
use Rattle.std.specs.Prelude.{List, ◌≡◌, refl, eqb, length, get_or}
use Rattle.std.proofs.Math.Option
use Rattle.std.proofs.Math.Option.{Option}
use Rattle.std.proofs.Math.Path.{sym, subst}
use Rattle.std.proofs.Math.Pow.{pow_mono, pow_pos}
use Rattle.definition.specs.Field.{one}
use Rattle.definition.specs.Layout.{out}
use Rattle.definition.specs.Load.{smallest_allowed}
use Rattle.definition.specs.Reading.{sheet_test}
use Rattle.definition.specs.Sheet.{Level, edition1, root_of_unity, sheet_of, shift_count}
use Rattle.definition.specs.Verdict.{accepted}
use Rattle.layouts.proofs.Lawful.{lawful, rounds_word, times_word}
use Rattle.layouts.specs.LevelSizes.{positive_sizes}
use Rattle.layouts.specs.Levels.{level_of, rounds_of}
use Rattle.layouts.specs.OneWord.{one_word}
use Rattle.layouts.proofs.PlainSheet.{fold_one}
use Rattle.completeness.proofs.Premises.{smallest_second}
use Rattle.layouts.proofs.SheetLevels.{level_is, sized}
use Rattle.layouts.specs.SheetRules.{first_fold, folding_large, front_words, rounds_most, small_repetitions}
use Rattle.domain.specs.Powers.{Powers}
use Rattle.draws.specs.OutCoin.{StandsFor, Suits}

-- pw is the table of points, and scale is 2^i
pub record AtLevel (w pw : List ℕ) (i scale : ℕ) : Type 0 where
  pub long : length w ≡ 12
  pub passed : sheet_test edition1 w ≡ accepted
  pub field : get_or w 0 0 < 3
  pub powers : Powers (get_or w 0 0) (root_of_unity (sheet_of edition1 w)) pw
  pub points : length pw ≡ get_or w 1 0
  pub level : i ≤ get_or w 4 0
  pub scaled : scale ≡ 2 ^ i

pub first_level_lem : (w pw : List ℕ) → length w ≡ 12 → sheet_test edition1 w ≡ accepted → get_or w 0 0 < 3 → Powers (get_or w 0 0) (root_of_unity (sheet_of edition1 w)) pw → length pw ≡ get_or w 1 0 → AtLevel w pw 0 1
first_level_lem w pw long passed field powers points = record { long = long; passed = passed; field = field; powers = powers; points = points; level = omega arith; scaled = refl }

-- what the words of the sheet are at most, and what is not 0
pub record Bounded (w : List ℕ) (i scale points : ℕ) : Type 0 where
  pub rounds : get_or w 4 0 ≤ 5
  pub outs : get_or w 5 0 ≤ 2
  pub repetitions : get_or w (6 + i) 0 ≤ 48
  pub points_most : points ≤ 4096
  pub fold : 0 < get_or w 3 0
  pub some : 0 < scale
  pub small : scale ≤ 32
  pub shifts : 0 < points / scale / get_or w 3 0

module _ {w pw : List ℕ} {i scale : ℕ} (a : AtLevel w pw i scale) where
  long_enough : 12 ≤ length w
  long_enough = omega (arith, a.long)

  -- elements are of one word
  pub single : (sheet_of edition1 w).spelling ≡ one
  single = one_word edition1 w a.field

  -- M is word 4, and t_i word 6 + i
  pub rounds_are : rounds_of (sheet_of edition1 w) ≡ get_or w 4 0
  rounds_are = rounds_word edition1 w long_enough a.passed

  pub times_are : (level_of (sheet_of edition1 w) i).repetitions ≡ get_or w (6 + i) 0
  times_are = times_word edition1 w long_enough a.passed i a.level

  few : i < 6
  few = omega (arith, a.level, rounds_most edition1 w a.passed)

  -- n_i/k by the table
  pub shifts_are : length pw / scale / get_or w 3 0 ≡ shift_count (level_of (sheet_of edition1 w) i)
  unfolding shift_count sheet_of
  shifts_are =
      let k = level_is edition1 w long_enough a.passed i a.level in
      (λ x. a.points x / a.scaled x / sym (fold_one w i few) x) ∙ sym (ap (λ (l : Level). l.size / l.fold) k)

  pub bounded : Bounded w i scale (length pw)
  unfolding shift_count
  bounded =
      let f = front_words edition1 w a.passed in
      let l : i ≤ 5 = omega arith in
      let z = positive_sizes _ (level_of (sheet_of edition1 w) i) (sized (sheet_of edition1 w) (lawful edition1 w long_enough a.passed) i (omega (arith, a.level, rounds_are))) in
      record {
        rounds = rounds_most edition1 w a.passed;
        outs = f.5;
        repetitions = small_repetitions edition1 w a.passed i few;
        points_most = omega (arith, a.points, f.1);
        fold = omega (arith, folding_large w (get_or w 3 0) (first_fold edition1 w a.passed));
        some = omega (arith, a.scaled, pow_pos i);
        small = omega (arith, a.scaled, pow_mono l);
        shifts = omega (arith, shifts_are, z.0);
      }

  pub next_level : i < get_or w 4 0 → AtLevel w pw (i + 1) (2 * scale)
  next_level more = record {
    long = a.long;
    passed = a.passed;
    field = a.field;
    powers = a.powers;
    points = a.points;
    level = omega arith;
    scaled = ap (λ (s : ℕ). 2 * s) a.scaled ∙ sym (ap (λ (j : ℕ). 2 ^ j) (add-one i) ∙ pow-suc 2 i ∙ mul_comm (2 ^ i) 2);
  }

  -- an out coin of the level, past level 0, is the definition's
  pub suits : 0 < i → {before : ℕ} (o : Option ℕ) → StandsFor (sheet_of edition1 w) o before → Suits (get_or w 0 0) pw scale before (sheet_of edition1 w) o (level_of (sheet_of edition1 w) i)
  unfolding sheet_of
  suits some o stands = record {
    prime = refl;
    powers = a.powers;
    number = sym a.scaled;
    size = λ x. sym a.points x / sym a.scaled x;
    stands = stands;
    smallest = λ y. smallest_after y;
  }
    where
      smallest_after : (y : ℕ) → smallest_allowed (sheet_of edition1 w) (Option.some y) (out (level_of (sheet_of edition1 w) i)) ≡ cond (eqb 0 y) 1 0
      smallest_after y =
          let e : suc (i - 1) ≡ i = omega arith in
          subst (λ (j : ℕ). smallest_allowed (sheet_of edition1 w) (Option.some y) (out (level_of (sheet_of edition1 w) j)) ≡ cond (eqb 0 y) 1 0) e
          (smallest_second edition1 w long_enough a.passed (i - 1) y (omega (arith, a.level, rounds_are)))
