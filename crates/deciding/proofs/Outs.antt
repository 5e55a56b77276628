-- The first out coin from the first place on that lies in its domain is that of the definition's layout.
use Prim.Native.Nat.{ℕ, ◌+◌, ◌≤◌}
use native.Mathlib.Omega.{arith}
use mathlib.Core.Path.{◌≡◌, sym, ap, ◌∙◌}
use mathlib.Core.Bool.{false}
use mathlib.Core.List.{List, ◌++◌, zip_with}
use lib.ListN.{length, drop, replicate, length-replicate}
use Rattle.list_laws.specs.All.{all_replicate}
use Rattle.layouts.specs.Levels.{words_for}
use Rattle.layouts.specs.Spellings.{begun_drop, begun_length}
use Rattle.definition.specs.Deciding.{out_in_domain}
use Rattle.definition.specs.Field.{Element, begun_by, number_in}
use Rattle.definition.specs.Layout.{Kind, coin, layout, message}
use Rattle.definition.specs.Lists.{first_true}
use Rattle.definition.specs.Sheet.{Sheet}
use Rattle.domain.specs.OutCoins.{coin_not_out, messages_not_outs, passed_over}
use Rattle.deciding.proofs.First.{first_kinds, first_room}
use Rattle.level_words.specs.State.{after_fold, first_state}
use Rattle.decide_rounds.specs.Kinds.{outs_from}
use Rattle.out_coins.specs.Kinds.{kinds_after_fold}

-- table 0 and fold coin 0 are no out coins
module _ (from : ℕ) (h : Sheet) (w : List ℕ) (due : from + length (layout h) ≤ length w) where
  outs_rest : outs_from h w (first_state from h)
      ≡ first_true (after_fold from h) (zip_with (out_in_domain h.spelling h) (kinds_after_fold h) (drop (after_fold from h) (begun_by h.spelling w)))
  unfolding outs_from first_state
  outs_rest = ap (λ (ks : List Kind). first_true (after_fold from h) (zip_with (out_in_domain h.spelling h) ks (drop (after_fold from h) (begun_by h.spelling w)))) (sym (first_kinds from h))

  outs_all : first_true from (zip_with (out_in_domain h.spelling h) (layout h) (drop from (begun_by h.spelling w)))
      ≡ first_true (after_fold from h) (zip_with (out_in_domain h.spelling h) (kinds_after_fold h) (drop (after_fold from h) (begun_by h.spelling w)))
  unfolding layout
  outs_all =
      let σ = h.spelling in
      let test = out_in_domain σ h in
      let z = number_in σ 0 in
      let xs = begun_by σ w in
      let n = words_for h h.size in
      let c = words_for h 1 in
      let room = first_room from h w due in
      let long = begun_length σ w in
      passed_over z test (replicate n message) (replicate c coin ++ kinds_after_fold h) xs from n (length-replicate n message) (messages_not_outs σ h n) (omega (arith, room, long))
      ∙ passed_over z test (replicate c coin) (kinds_after_fold h) xs (from + n) c (length-replicate c coin)
      (all_replicate (λ k. (x : Element σ) → test k x ≡ false) c coin (coin_not_out σ h)) (omega (arith, room, long))

  pub outs_first : outs_from h w (first_state from h) ≡ first_true from (zip_with (out_in_domain h.spelling h) (layout h) (begun_by h.spelling (drop from w)))
  outs_first =
      outs_rest ∙ sym outs_all
      ∙ ap (λ xs. first_true from (zip_with (out_in_domain h.spelling h) (layout h) xs)) (begun_drop h.spelling from w)
