-- Non-anticipation: what the prover works out for a message is settled by the coins sent before it. No coin list need be allowed, or even full.
use Prim.Native.Nat.{ℕ, zero, suc, ◌+◌, ◌≤◌}
use Rattle.std.proofs.Common.{arith, sym, ◌∙◌}
use mathlib.Core.List.{List, map}
use Rattle.std.specs.Prelude.{◌≡◌}
use Rattle.std.proofs.Math.Path.{refl, ap}
use Rattle.std.proofs.Math.ListN.{take}
use Rattle.definition.specs.Field.{Element, elements_in, words_of}
use Rattle.definition.specs.Layout.{later_count}
use Rattle.definition.specs.Polynomial.{evaluate, fold_poly}
use Rattle.definition.specs.Prover.{next_poly, table_of}
use Rattle.definition.specs.Sheet.{Edition, Sheet, sheet_of}
use Rattle.definition.specs.Transcript.{RoundCoins}
use Rattle.list_laws.specs.Lists.{same_fewer, same_part}
use Rattle.layouts.specs.Levels.{coin_count, coins_before, element_at, level_of, out_coin_count, rounds_of, sheet_field, sheet_root, words_for}
use Rattle.layouts.specs.Spellings.{at_take, count_add}
use Rattle.completeness.specs.Numbered.{Allowed, Copy, Due, Message, coins_of, combination_coin, corrected_of, final, fold_coin, out_coins_of, replies, round_poly, sent_before, shift_indices, stream_on, table, words_in}
use Rattle.completeness.proofs.StreamByNumber.{copy_is, message_words, message_of}

module _ (h : Sheet) (f c d : List ℕ) where
  -- an element all of whose words are among the first n
  same_element : (i n : ℕ) → i + words_for h 1 ≤ n → take n c ≡ take n d → element_at h.spelling c i ≡ element_at h.spelling d i
  same_element i n l e = sym (at_take h.spelling c n i l) ∙ ap (λ (v : List ℕ). element_at h.spelling v i) e ∙ at_take h.spelling d n i l

  -- the coins of round i + 1 come before table i + 2
  same_coins : (i : ℕ) → take (coins_before h (suc (suc i))) c ≡ take (coins_before h (suc (suc i))) d → coins_of h c (suc i) ≡ coins_of h d (suc i)
  unfolding coins_before coin_count later_count out_coins_of combination_coin fold_coin shift_indices
  same_coins i e =
      let b = coins_before h (suc i) in
      let n = coins_before h (suc (suc i)) in
      let s = out_coin_count h in
      let two = count_add h.spelling 1 1 in
      λ x. record {
        level = level_of h (suc i);
        outs = elements_in h.spelling (same_part b (words_for h s) n c d (omega arith) e x);
        combination = same_element (b + words_for h s) n (omega (arith, two)) e x;
        fold = same_element (b + words_for h (s + 1)) n (omega (arith, two, count_add h.spelling s 1)) e x;
        shifts = same_part (b + words_for h (s + 2)) (level_of h i).repetitions n c d (omega (arith, count_add h.spelling s 2)) e x;
      }

  same_fold : (i : ℕ) → take (coins_before h (suc i)) c ≡ take (coins_before h (suc i)) d → fold_coin h c i ≡ fold_coin h d i
  unfolding fold_coin coins_before coin_count
  same_fold zero e = same_element 0 (0 + words_for h 1) (omega arith) e
  same_fold (suc i) e = ap (λ (r : RoundCoins (Element h.spelling)). r.fold) (same_coins i e)

  -- f_i, and g_i
  same_corrected : (i : ℕ) → take (coins_before h (suc i)) c ≡ take (coins_before h (suc i)) d → corrected_of h f c i ≡ corrected_of h f d i
  unfolding corrected_of coins_before
  same_corrected zero e = refl
  same_corrected (suc i) e =
      let n = coins_before h (suc i) in
      let a : take n c ≡ take n d = same_fewer n (coins_before h (suc (suc i))) c d (omega arith) e in
      λ x. next_poly (sheet_field h) (sheet_root h) (level_of h i) (fold_poly (sheet_field h) (level_of h i).fold (same_fold i a x) (same_corrected i a x)) (same_coins i e x)

  same_round : (i : ℕ) → take (coins_before h i) c ≡ take (coins_before h i) d → round_poly h f c i ≡ round_poly h f d i
  unfolding round_poly
  same_round zero e = refl
  same_round (suc i) e = λ x. fold_poly (sheet_field h) (level_of h i).fold (same_fold i e x) (same_corrected i e x)

  -- Each message is settled by the coins before it.
  same_message : (m : Message) → take (sent_before h m) c ≡ take (sent_before h m) d → message_of h f c m ≡ message_of h f d m
  unfolding sent_before message_of out_coins_of
  same_message (table i) e = ap (table_of (sheet_field h) (sheet_root h) (level_of h i)) (same_round i e)
  same_message (replies i) e =
      let b = coins_before h i in
      let n = words_for h (out_coin_count h) in
      λ x. map (evaluate (sheet_field h) (same_round i (same_fewer b (b + n) c d (omega arith) e) x)) (elements_in h.spelling (same_part b n (b + n) c d (omega arith) e x))
  same_message final e = same_round (suc (rounds_of h)) e

-- In the streams of two allowed lists, as they are written and as they are read out of the file.
pub non_anticipation : (ed : Edition) (w f c d : List ℕ) → Allowed ed w f c → Allowed ed w f d → (copy : Copy) (m : Message) → Due (sheet_of ed w) m →
    take (sent_before (sheet_of ed w) m) c ≡ take (sent_before (sheet_of ed w) m) d →
    words_in ed (sheet_of ed w) (stream_on copy ed w f c) m ≡ words_in ed (sheet_of ed w) (stream_on copy ed w f d) m
non_anticipation ed w f c d okc okd copy m due e =
    rw (copy_is okc copy, copy_is okd copy) (message_words okc _ m due ∙ ap (words_of (sheet_of ed w).spelling) (same_message (sheet_of ed w) f c d m e) ∙ sym (message_words okd _ m due))
