-- The first out coin from a place on that lies in its domain: one of the next round, or the first from the next place on.
use Prim.Native.Nat.{ℕ, ◌+◌, ◌<◌}
use native.Mathlib.Omega.{arith}
use mathlib.Core.Path.{◌≡◌, ap, ◌∙◌}
use mathlib.Core.Bool.{false}
use mathlib.Core.List.{List, ◌++◌, zip_with, append_assoc}
use lib.ListN.{drop, replicate, length-append, length-replicate}
use Rattle.list_laws.specs.All.{all_append, all_replicate}
use Rattle.layouts.proofs.LayoutFacts.{later_length}
use Rattle.layouts.specs.KindsAfter.{later_layout}
use Rattle.layouts.specs.Levels.{rounds_of, words_for}
use Rattle.layouts.specs.Spellings.{begun_length}
use Rattle.definition.specs.Deciding.{out_in_domain}
use Rattle.definition.specs.Field.{Element, begun_by, number_in}
use Rattle.definition.specs.Layout.{Kind, coin, index, later_count, message, out_layout, rest_layout, round_layout}
use Rattle.definition.specs.Lists.{first_true}
use Rattle.definition.specs.Sheet.{Level, Sheet, root_of_unity, shift_count}
use Rattle.domain.specs.OutCoins.{coin_not_out, first_inside, indices_not_outs, messages_not_outs, or_else, outs_run, passed_over}
use Rattle.level_words.specs.declared.State.{State}
use Rattle.decide_rounds.proofs.Inside.{words_there}
use Rattle.level_words.specs.Words.{levels_next}
use Rattle.level_words.specs.State.{current_level, current_repetitions, next_size, next_state, outs_at, replies_at}
use Rattle.decide_rounds.specs.Kinds.{kinds_of, outs_from}
use Rattle.decide_rounds.specs.Invariant.{Placed}

module _ (h : Sheet) (w : List ℕ) (st : State) (ok : Placed h w st) where
  regroup : (m o p r : List Kind) → (m ++ (o ++ p)) ++ r ≡ m ++ (o ++ (p ++ r))
  regroup m o p r = append_assoc m (o ++ p) r ∙ ap {B = List Kind} (λ x. m ++ x) (append_assoc o p r)

  pub outs_next : st.level < rounds_of h →
      outs_from h w st
      ≡ or_else (first_inside h.spelling h.prime (root_of_unity h) (current_level h (next_state h st)) w (outs_at h st) h.out_coins) (outs_from h w (next_state h st))
  unfolding outs_from rest_layout round_layout current_level next_state later_count
  outs_next more =
      let σ = h.spelling in
      let test = out_in_domain σ h in
      let xs = begun_by σ w in
      let z = number_in σ 0 in
      let b = current_level h st in
      let l = current_level h (next_state h st) in
      let n = words_for h (next_size st) in
      let s = words_for h h.out_coins in
      let c = words_for h 2 in
      let t = current_repetitions h st in
      let there = words_there h w st ok more in
      let long = begun_length σ w in
      let outs = out_layout σ h.out_coins l in
      let tail = replicate s message ++ later_layout σ b in
      let rest = kinds_of h (next_state h st) in
      let e : replies_at h st + (s + (c + t)) ≡ (next_state h st).at = omega arith in
      ap (λ (ls : List Level). first_true st.at (zip_with test (rest_layout σ h.out_coins b ls) (drop st.at xs))) (levels_next h st ok.sheet.law.paired more)
      ∙ ap (λ (ks : List Kind). first_true st.at (zip_with test ks (drop st.at xs))) (regroup (replicate n message) outs tail rest)
      ∙ passed_over z test (replicate n message) (outs ++ (tail ++ rest)) xs st.at n (length-replicate n message) (messages_not_outs σ h n) (omega (arith, there, long))
      ∙ outs_run σ h l (tail ++ rest) w h.out_coins (outs_at h st) (omega (arith, there))
      ∙ ap (or_else (first_inside σ h.prime (root_of_unity h) l w (outs_at h st) h.out_coins))
      (passed_over z test tail rest xs (replies_at h st) (s + (c + t))
      (length-append (replicate s message) (later_layout σ b) ∙ omega (arith, length-replicate s message, later_length σ b))
      (all_append (λ k. (x : Element σ) → test k x ≡ false) (replicate s message) (later_layout σ b) (messages_not_outs σ h s)
      (all_append (λ k. (x : Element σ) → test k x ≡ false) (replicate c coin) (replicate t (index (shift_count b)))
      (all_replicate (λ k. (x : Element σ) → test k x ≡ false) c coin (coin_not_out σ h)) (indices_not_outs σ h t (shift_count b)))) (omega (arith, there, long))
      ∙ ap (λ (m : ℕ). first_true m (zip_with test rest (drop m xs))) e)
