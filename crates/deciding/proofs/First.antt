-- Before round 1: what the sheet and the tests of the words after fold coin 0 say of the first place, and that the verdict from there on is the definition's.
use Prim.Native.Nat.{ℕ, suc, ◌+◌, ◌≤◌}
use native.Mathlib.Omega.{arith}
use mathlib.Core.Path.{◌≡◌, refl, sym, ap, ◌∙◌, subst}
use mathlib.Core.List.{List, [], ◌++◌, zip_with}
use mathlib.Core.Option.{none}
use lib.ListN.{length, get_or, take, drop, replicate, length-append, length-drop, length-replicate}
use lib.Seq.{drop-drop, get_or-take}
use Rattle.list_laws.specs.Lists.{tail_drop}
use Rattle.layouts.proofs.Lawful.{lawful, rounds_word, times_word}
use Rattle.layouts.proofs.LevelsByNumber.{undivided}
use Rattle.layouts.specs.EachWord.{Front, InRange, front_at, front_false, front_none}
use Rattle.layouts.specs.Levels.{element_at, rounds_of, sheet_field, sheet_root, words_for}
use Rattle.layouts.specs.Spellings.{count_zero, read_drop}
use Rattle.layouts.specs.SheetRules.{fold_words_lem, folding_large, folding_log, folding_small, long_enough, rounds_most}
use Rattle.layouts.specs.Tests.{at_none, at_passes}
use Rattle.definition.specs.Deciding.{counted, decide, decide_rest, reads_of, table_function}
use Rattle.definition.specs.Field.{elements_in, number_in}
use Rattle.definition.specs.Layout.{Kind, coin, layout, message, read_rest, read_transcript, rest_layout, words_due}
use Rattle.definition.specs.Lists.{different, first_true}
use Rattle.definition.specs.Reading.{out_of_range, range_test, sheet_test}
use Rattle.definition.specs.Sheet.{Edition, Sheet, first_level, fold_words, later_levels, sheet_length, sheet_of, shift_count}
use Rattle.definition.specs.Verdict.{Verdict, accepted}
use Rattle.domain.specs.Powers.{PowersOver}
use Rattle.rounds.specs.NextRound.{represents_first}
use Rattle.fractions.specs.Values.{Clear, Fits}
use Rattle.decide_rounds.specs.Sizes.{divided}
use Rattle.level_words.specs.State.{after_fold, current_level, current_table, first_oracle, first_state, later_levels_at, rest_of}
use Rattle.level_words.specs.Inside.{Written}
use Rattle.round_words.specs.Handed.{sheet_points}
use Rattle.decide_rounds.specs.Kinds.{kinds_of, outs_from}
use Rattle.out_coins.specs.Kinds.{kinds_after_fold}
use Rattle.decide_rounds.specs.Invariant.{Decided, Folding, Invariant, Placed, Represented, RepresentsIn, Shaped}

-- ---- the sheet of given words

module _ (ed : Edition) (w : List ℕ) (long : sheet_length ed ≤ length w) (passed : sheet_test ed w ≡ accepted) where
  -- k_i is folding word i
  fold_word : (i : ℕ) → i ≤ rounds_of (sheet_of ed w) → get_or (fold_words ed w) i 0 ≡ get_or (sheet_of ed w).folds i 0
  unfolding sheet_of
  fold_word i l = sym (get_or-take (suc (get_or w 4 0)) (fold_words ed w) i 0 (omega (arith, rounds_word ed w long passed)))

  folding : (i : ℕ) → i ≤ rounds_of (sheet_of ed w) → Folding (get_or (sheet_of ed w).folds i 0)
  folding i l =
      let rule = fold_words_lem ed w passed i (omega (arith, rounds_word ed w long passed)) in
      let c = folding_log w _ rule in
      subst Folding (fold_word i l) (record { log = c.0; two = c.1; large = folding_large w _ rule; small = (folding_small w _ rule).0 })

  pub shaped : Shaped (sheet_of ed w)
  shaped = record {
    law = lawful ed w long passed;
    rounds = omega (arith, rounds_word ed w long passed, rounds_most ed w passed);
    folds = folding;
  }

  pub written : Written ed (sheet_of ed w) w
  unfolding sheet_of
  written = record {
    long = long_enough ed w long;
    sheet = long;
    spelling = refl;
    prime = refl;
    size = refl;
    degree = refl;
    rounds = sym (rounds_word ed w long passed);
    outs = refl;
    times = λ i l. sym (times_word ed w long passed i (omega (arith, rounds_word ed w long passed)));
    folds = fold_word;
  }

-- the words due hold the sheet
pub sheet_there : (ed : Edition) (h : Sheet) (w : List ℕ) → words_due ed h ≤ length w → sheet_length ed ≤ length w
unfolding words_due
sheet_there ed h w due = omega arith

-- ---- the first place

-- the words after the sheet begin at a number
module _ (from : ℕ) (h : Sheet) where
  -- the sheet's levels are those of the first place
  pub first_level_lem : first_level h ≡ current_level h (first_state from h)
  unfolding first_level current_level first_state
  first_level_lem = refl

  pub later_levels_lem : later_levels h ≡ later_levels_at h (first_state from h)
  unfolding later_levels later_levels_at first_state
  later_levels_lem = rw (tail_drop 0 h.folds, tail_drop 0 h.repetitions)

  pub first_kinds : kinds_after_fold h ≡ kinds_of h (first_state from h)
  first_kinds = λ i. rest_layout h.spelling h.out_coins (first_level_lem i) (later_levels_lem i)

  module _ (w : List ℕ) where
    first_words_lem : drop (words_for h 1) (drop (words_for h h.size) (drop from w)) ≡ drop (after_fold from h) w
    first_words_lem = ap (drop (words_for h 1)) (drop-drop (words_for h h.size) from w) ∙ drop-drop (words_for h 1) (from + words_for h h.size) w

    first_fold : get_or (elements_in h.spelling (drop (words_for h h.size) (drop from w))) 0 (number_in h.spelling 0) ≡ element_at h.spelling w (from + words_for h h.size)
    first_fold =
        let σ = h.spelling in
        let at = from + words_for h h.size in
        let e : at + words_for h 0 ≡ at = omega (arith, count_zero σ) in
        ap (λ (l : List ℕ). get_or (elements_in σ l) 0 (number_in σ 0)) (drop-drop (words_for h h.size) from w) ∙ read_drop σ w at 0 ∙ ap (element_at σ w) e

    -- all words due are there
    module _ (due : from + length (layout h) ≤ length w) where
      pub kinds_there : after_fold from h + length (kinds_after_fold h) ≤ length w
      unfolding layout
      kinds_there =
          let n = words_for h h.size in
          let c = words_for h 1 in
          omega (
            arith,
            length-append (replicate n message) (replicate c coin ++ kinds_after_fold h),
            length-append (replicate c coin) (kinds_after_fold h),
            length-replicate n message,
            length-replicate c coin,
          )

      pub first_room : after_fold from h ≤ length w
      first_room = omega (arith, kinds_there)

      -- of the words in range, those after fold coin 0 are
      pub range_after : range_test h from (layout h) w ≡ accepted → range_test h (after_fold from h) (kinds_after_fold h) w ≡ accepted
      unfolding range_test layout
      range_after e =
          let n = words_for h h.size in
          let c = words_for h 1 in
          let all : Front (InRange h) (layout h) (drop from w) = front_false (out_of_range h) from (layout h) (drop from w) (omega (arith, length-drop from w))
          (at_passes 5 (first_true from (zip_with (out_of_range h) (layout h) (drop from w))) e) in
          let table = front_at (InRange h) n (replicate n message) (replicate c coin ++ kinds_after_fold h) (drop from w) (length-replicate n message) all in
          let coins = front_at (InRange h) c (replicate c coin) (kinds_after_fold h) (drop n (drop from w)) (length-replicate c coin) table.1 in
          at_none 5 _ (front_none (out_of_range h) (after_fold from h) (kinds_after_fold h) (drop (after_fold from h) w) (subst (Front (InRange h) (kinds_after_fold h)) first_words_lem coins.1))

      module _ (x : Shaped h) (ranged : range_test h (after_fold from h) (kinds_after_fold h) w ≡ accepted) where
        first_front : Front (InRange h) (kinds_of h (first_state from h)) (drop (after_fold from h) w)
        unfolding range_test
        first_front =
            subst (λ (ks : List Kind). Front (InRange h) ks (drop (after_fold from h) w)) first_kinds
            (front_false (out_of_range h) (after_fold from h) (kinds_after_fold h) (drop (after_fold from h) w) (omega (arith, kinds_there, length-drop (after_fold from h) w))
            (at_passes 5 (first_true (after_fold from h) (zip_with (out_of_range h) (kinds_after_fold h) (drop (after_fold from h) w))) ranged))

        pub placed_first : Placed h w (first_state from h)
        unfolding first_state
        placed_first = record {
          sheet = x;
          level = omega arith;
          here = first_room;
          words = first_front;
          points = x.law.small;
        }

        first_fits : Fits h.size h.size (first_oracle h) (get_or h.folds 0 0)
        unfolding first_oracle
        first_fits =
            let k = x.folds 0 (omega arith) in
            record {
              log = k.log;
              two = k.two;
              few = k.small;
              spaced = omega arith;
              roots = divided h x 0 h.size (sym (undivided h.size)) (omega arith);
              room = omega arith;
              small = x.law.small;
              columns = 0;
              whole = omega arith;
              used = omega arith;
            }

        pub invariant_first : (points answers factors : ℕ) → points ≡ h.size → answers ≡ words_for h 66 → factors ≡ words_for h 132 →
            Invariant h w points answers factors (first_state from h) (first_oracle h)
        unfolding first_state first_oracle
        invariant_first points answers factors e a g = record {
          place = placed_first;
          size = sym (undivided h.size);
          scale = refl;
          inside = record {
            few = x.law.outs;
            table = omega (arith, first_room);
            fits = subst (λ (n : ℕ). Fits n h.size (first_oracle h) (get_or h.folds 0 0)) (sym e) first_fits;
            in_answers = a;
            in_factors = g;
            step = refl;
          };
        }

    module _ (pw ac vg : List ℕ) (powers : PowersOver (sheet_field h) (sheet_root h) (sheet_points h pw)) where
      first_represents : RepresentsIn h (sheet_root h)
          (table_function (sheet_field h) (sheet_root h) (current_level h (first_state from h)) (elements_in h.spelling (current_table h w (first_state from h)))).value w pw ac vg (first_state from h) (first_oracle h)
      unfolding first_oracle first_state current_level shift_count
      first_represents =
          let σ = h.spelling in
          represents_first (sheet_field h) (sheet_root h) (current_level h (first_state from h)) (sheet_points h pw) (elements_in σ (current_table h w (first_state from h))) (elements_in σ ac) (elements_in σ vg)
          (first_oracle h) (get_or h.folds 0 0) powers refl refl refl refl

      pub represented_first : Clear (get_or w 0 0) pw (first_state from h).size vg (first_oracle h) → outs_from h w (first_state from h) ≡ none →
          Represented h w pw ac vg (first_state from h) (first_oracle h)
      represented_first clear outside = record { f = _; represents = first_represents; clear = clear; outside = outside }

      -- the definition's deciding is that from the first place on, with fold coin 0
      pub first_step : {v : Verdict} → Decided h w pw ac vg (first_state from h) 0 (element_at h.spelling w (from + words_for h h.size)) (first_oracle h) v →
          v ≡ counted (decide (sheet_field h) (sheet_root h) (first_level h) (read_transcript h.spelling h (drop from w)))
      unfolding decide read_transcript table_function rest_of first_state current_table reads_of different
      first_step d =
          let ω = sheet_root h in
          let F = sheet_field h in
          let σ = h.spelling in
          let n = words_for h h.size in
          d ω _ [] first_represents refl tt
          ∙ (λ i. counted (decide_rest F ω (sym first_level_lem i) (table_function F ω (sym first_level_lem i) (elements_in σ (take n (drop from w)))) (sym first_fold i) []
          (read_rest σ h.out_coins (sym first_level_lem i) (sym later_levels_lem i) (sym first_words_lem i))))
