-- The shift indices of round 1, in words of edition 1 that are all in range: each is below the number of shift points of level 0.
use Rattle.std.specs.Prelude.{ℕ, ◌+◌, ◌-◌, ◌≤◌, ◌<◌, Bool, ◌≡◌, drop}
use Rattle.std.proofs.Common.{arith, ◌∙◌, get_or-drop}
use Rattle.std.proofs.Math.Bool.{false}
use mathlib.Core.List.{List, zip_with}
use Rattle.std.proofs.Math.Path.{sym, ap, subst}
use Rattle.std.proofs.Math.ListN.{length, get_or, length-drop}
use Rattle.definition.specs.Layout.{Kind, index, layout, limit, message, words_due}
use Rattle.definition.specs.Reading.{out_of_range, range_test}
use Rattle.definition.specs.Sheet.{Sheet, edition1, shift_count}
use Rattle.definition.specs.Verdict.{accepted}
use Rattle.list_laws.specs.All.{All, all_places, at_place}
use Rattle.layouts.specs.EachWord.{in_range}
use Rattle.layouts.specs.Levels.{level_of, rounds_of}
use Rattle.layouts.specs.LawfulSheets.{Paired}
use Rattle.layouts.specs.Tests.{all_false}
use Rattle.completeness.specs.Faults.{due_of, part_length, part_start, part_words, shifts}
use Rattle.completeness.specs.PairsByNumber.{part_length_lem, part_word_lem}
use Rattle.completeness.specs.PartsByNumber.{due_is, part_below, part_kind_lem, part_kind}
use Rattle.completeness.specs.TestsByNumber.{zip_at, zip_length}

module _ (h : Sheet) (v : List ℕ) (paired : Paired h) (due : words_due edition1 h ≤ length v) (ranged : range_test h 12 (layout h) v ≡ accepted) where
  kinds_due : 12 + length (layout h) ≡ due_of edition1 h
  unfolding words_due
  kinds_due = due_is edition1 h paired

  pub enough : due_of edition1 h ≤ length v
  enough = omega (arith, due, due_is edition1 h paired)

  good_at : (z : ℕ) → z < length (layout h) → out_of_range h (get_or (layout h) z message) (get_or (drop 12 v) z 0) ≡ false
  unfolding range_test
  good_at z l =
      let ks = layout h in
      let long : length ks ≤ length (drop 12 v) = omega (arith, length-drop 12 v, enough, kinds_due) in
      sym (zip_at (out_of_range h) message 0 ks (drop 12 v) z l long)
      ∙ at_place (λ (b : Bool). b ≡ false) (zip_with (out_of_range h) ks (drop 12 v)) false (all_false 5 12 _ ranged) z (omega (arith, zip_length (out_of_range h) message 0 ks (drop 12 v) long))

  pub indices_below : 0 < rounds_of h → All (λ j. j < shift_count (level_of h 0)) (part_words edition1 h v (shifts 0))
  unfolding limit part_kind
  indices_below rounds = all_places (λ j. j < shift_count (level_of h 0)) (part_words edition1 h v (shifts 0)) 0 (λ j l.
      let u : j < part_length h (shifts 0) = omega (arith, l, part_length_lem edition1 h v enough (shifts 0) rounds) in
      let b = part_below edition1 h (shifts 0) rounds j u in
      let z = part_start edition1 h (shifts 0) + j - 12 in
      let e : 12 + z ≡ part_start edition1 h (shifts 0) + j = omega (arith, b.0) in
      subst (λ (n : ℕ). n < shift_count (level_of h 0)) (get_or-drop 12 v z 0 ∙ ap (λ (n : ℕ). get_or v n 0) e ∙ sym (part_word_lem edition1 h v enough (shifts 0) j u))
      (in_range h (index (shift_count (level_of h 0))) (get_or (drop 12 v) z 0)
      (subst (λ (k : Kind). out_of_range h k (get_or (drop 12 v) z 0) ≡ false) (part_kind_lem edition1 h paired (shifts 0) rounds j u z e) (good_at z (omega (arith, b.1, kinds_due))))))
