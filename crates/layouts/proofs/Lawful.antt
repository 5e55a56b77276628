-- A sheet without a fault, of either edition, in numbers: the exponents of n0, d0 and of each folding number, and what the rules leave room for. Nothing after this
-- looks at the words of a sheet.
use Prim.Native.Nat.{ℕ, suc, ◌+◌, ◌-◌, ◌^◌, ◌≤◌, ◌<◌}
use Rattle.std.proofs.Common.{arith, sym, ap, ◌∙◌}
use mathlib.Core.List.{List, [], ◌∷◌, map, tail}
use Rattle.std.specs.Prelude.{◌≡◌, refl, length, take, drop}
use Rattle.std.proofs.Math.Path.{subst}
use Rattle.std.proofs.Math.ListN.{get_or, length-drop}
use Rattle.std.proofs.Math.Seq.{get_or-drop, get_or-take, length-take-le, take-take}
use Rattle.definition.specs.Field.{spelling_of}
use Rattle.definition.specs.Lists.{product_of}
use Rattle.definition.specs.Reading.{sheet_test}
use Rattle.definition.specs.Sheet.{Edition, Sheet, fold_words, sheet_length, sheet_of}
use Rattle.definition.specs.Verdict.{accepted}
use Rattle.layouts.specs.Levels.{degree_of, rounds_of, total}
use Rattle.layouts.specs.LawfulSheets.{Lawful}
use Rattle.layouts.specs.PlainRules.{PlainSheet}
use Rattle.layouts.proofs.PlainSheet.{sheet_plain}
use Rattle.layouts.specs.Spellings.{largest_most, largest_words}
use Rattle.layouts.specs.SheetRules.{fold_count, fold_words_lem, long_enough, logs, positive, pow_below, pow_most, product_powers}

tail_length : (l : List ℕ) → 0 < length l → suc (length (tail l)) ≡ length l
tail_length [] h = absurd (omega arith)
tail_length (x ∷ l) h = refl

module _ (ed : Edition) (w : List ℕ) (long : sheet_length ed ≤ length w) (passed : sheet_test ed w ≡ accepted) where
  abbrev h : Sheet
  h = sheet_of ed w

  plain : PlainSheet ed w
  plain = sheet_plain ed w passed

  folds_length : length (sheet_of ed w).folds ≡ suc (get_or w 4 0)
  unfolding sheet_of
  folds_length = length-take-le (suc (get_or w 4 0)) (fold_words ed w) (omega (arith, fold_count ed w, plain.plain.rounds_range))

  -- M is word 4
  pub rounds_word : rounds_of (sheet_of ed w) ≡ get_or w 4 0
  rounds_word = omega (arith, folds_length, tail_length h.folds (omega (arith, folds_length)))

  times_length : length (sheet_of ed w).repetitions ≡ suc (get_or w 4 0)
  unfolding sheet_of
  times_length = length-take-le (suc (get_or w 4 0)) (drop 6 w) (omega (arith, length-drop 6 w, long_enough ed w long, plain.plain.rounds_range))

  -- t_i is word 6 + i
  pub times_word : (i : ℕ) → i ≤ get_or w 4 0 → get_or (sheet_of ed w).repetitions i 0 ≡ get_or w (6 + i) 0
  unfolding sheet_of
  times_word i l = get_or-take (suc (get_or w 4 0)) (drop 6 w) i 0 (omega arith) ∙ get_or-drop 6 w i 0

  -- and k_0 to k_(i-1) are the first i of its folding words
  folds_front : (i : ℕ) → i ≤ suc (get_or w 4 0) → take i (sheet_of ed w).folds ≡ take i (fold_words ed w)
  unfolding sheet_of
  folds_front i l = take-take i (suc (get_or w 4 0)) (fold_words ed w) l

  few_here : (i : ℕ) → i < rounds_of (sheet_of ed w) → get_or (sheet_of ed w).repetitions i 0 + (sheet_of ed w).out_coins < degree_of (sheet_of ed w) (suc i)
  unfolding sheet_of
  few_here i l =
      let m : i < get_or w 4 0 = omega (arith, rounds_word) in
      let t = times_word i (omega arith) in
      let p = folds_front (suc i) (omega arith) in
      rw (t, p) (plain.times_few i m)

  pub lawful : Lawful (sheet_of ed w)
  unfolding sheet_of
  lawful =
      let q = plain.plain in
      let n = q.size_power in
      let d = q.degree_power in
      let p = positive (get_or w 1 0) n.0 n.1 (omega (arith, q.size_range.0)) in
      let c = logs w (suc (get_or w 4 0)) (fold_words ed w) (omega (arith, fold_count ed w, q.rounds_range)) (λ i u. fold_words_lem ed w passed i (omega arith)) in
      record {
        a = p.0;
        b = d.0;
        cs = c.0;
        size = p.1;
        small = omega (arith, q.size_range.1, largest_most (spelling_of (get_or w 0 0)));
        words = largest_words (spelling_of (get_or w 0 0)) (get_or w 1 0) q.size_range.1;
        divides = q.size_divides;
        degree = d.1;
        below = pow_below d.0 (suc p.0) (omega (arith, d.1, p.1, q.degree_range.1, q.degree_range.0));
        folds = c.1;
        room = pow_most (total (map suc c.0)) d.0
            (subst (λ (x : ℕ). x ≤ 2 ^ d.0) (ap product_of c.1 ∙ product_powers c.0) (subst (λ (x : ℕ). product_of (take (suc (get_or w 4 0)) (fold_words ed w)) ≤ x) d.1 plain.fold_product));
        most = omega (arith, folds_length, q.rounds_range);
        paired = record { some = omega (arith, rounds_word, folds_length); same = omega (arith, times_length, folds_length) };
        outs = q.outs_range.1;
        few = few_here;
        times = λ i l. let u : i ≤ get_or w 4 0 = omega (arith, rounds_word) in subst (λ (x : ℕ). x ≤ 48) (sym (times_word i u)) (q.times_range i u).1;
        once = λ i l. let u : i ≤ get_or w 4 0 = omega (arith, rounds_word) in subst (λ (x : ℕ). 1 ≤ x) (sym (times_word i u)) (q.times_range i u).0;
      }
