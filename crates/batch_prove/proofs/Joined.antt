-- The words of a batch's stream: the front over the plain prover's words, and what each of the two asks.
use Prim.Native.Nat.{ℕ, ◌+◌, ◌-◌, ◌*◌, ◌≤◌}
use native.Mathlib.Nat.{le_of_eq, mul-le-mul_left, mul-one}
use native.Mathlib.Omega.{arith}
use mathlib.Core.List.{List, [], ◌∷◌, ◌++◌, append_assoc, append-nil}
use mathlib.Core.Path.{◌≡◌, sym, ap, ◌∙◌}
use lib.ListN.{length, get_or, take, drop, replicate, drop_of_length-le, length-append, length-drop, length-replicate}
use lib.Seq.{drop-append-add, length-take-le, take_at}
use borrow.Rule.Slice.PartMut.{put_mid}
use Rattle.batch_definition.specs.Batch.{batch_start, batch_words, honest_batch}
use Rattle.definition.specs.Field.{elements_in, number_in, words_of}
use Rattle.definition.specs.Layout.{coin, layout, message, rest_layout, words_due}
use Rattle.definition.specs.Prover.{honest_stream}
use Rattle.definition.specs.Sheet.{Sheet, edition1, first_level, later_levels, sheet_of}
use Rattle.layouts.specs.Levels.{words_for}
use Rattle.layouts.specs.Spellings.{one_back, words_length}
use Rattle.batches.proofs.AllowedBatches.{batch_long, batch_number, batch_some, batch_words_lem}
use Rattle.batches.specs.Batched.{AllowedBatch, fold_number, higher_by}
use Rattle.batches.proofs.PlainProver.{combined_words, prover_as_plain}
use Rattle.batches.proofs.PlainStream.{words_higher}
use Rattle.batch_front.specs.Words.{Ordered, tables_of}
use Rattle.batch_front.proofs.OneByOne.{tables_words}

module _ {w bounds f coins : List ℕ} (ok : AllowedBatch w bounds f coins) where
  abbrev h : Sheet
  h = sheet_of edition1 w

  abbrev o : ℕ
  o = words_for (sheet_of edition1 w) 1

  abbrev W : ℕ
  W = words_for (sheet_of edition1 w) (sheet_of edition1 w).size

  pub ordered : Ordered w bounds f
  ordered = record { long = omega (arith, batch_long ok); passed = ok.sheet; ruled = ok.bounded; count = batch_words_lem ok }

  -- the words of r
  coin_words : take o coins ≡ words_of h.spelling (get_or (elements_in h.spelling coins) 0 (number_in h.spelling 0) ∷ [])
  coin_words =
      let r = words_of h.spelling (get_or (elements_in h.spelling coins) 0 (number_in h.spelling 0) ∷ []) in
      ap (take o) (sym (one_back h.spelling coins (batch_some ok).0)) ∙ take_at r (drop o coins) o (words_length h.spelling (get_or (elements_in h.spelling coins) 0 (number_in h.spelling 0) ∷ []))

  module _ {shift : ℕ} (is : shift ≡ higher_by (sheet_of edition1 w) (length bounds)) where
    -- the places of the plain prover's words
    pub plain_room : {n : ℕ} → n ≡ batch_words (sheet_of edition1 w) (length bounds) → (shift ≤ n) × (n - shift ≡ words_due edition1 (sheet_of edition1 w))
    plain_room e = let q = words_higher h (length bounds) (batch_number ok).0 in (omega (arith, q, e, is), omega (arith, q, e, is))

    module _ {at : ℕ} (ends : at ≡ shift + 12 + words_for (sheet_of edition1 w) (sheet_of edition1 w).size) where
      -- and those of the front
      pub front_room : at ≡ length w + (length bounds + 1 + (words_for (sheet_of edition1 w) (sheet_of edition1 w).size * length bounds + words_for (sheet_of edition1 w) 1))
      unfolding higher_by fold_number batch_start
      front_room = omega (arith, ends, is, batch_long ok, tables_words h.spelling (length bounds) h.size, mul-le-mul_left W (batch_number ok).0, mul-one W)

      pub front_inside : {n : ℕ} → n ≡ batch_words (sheet_of edition1 w) (length bounds) → at ≤ n
      unfolding words_due layout
      front_inside e =
          let r = plain_room e in
          omega (arith, ends, r.0, r.1, length-append (replicate W message) (replicate o coin ++ rest_layout h.spelling h.out_coins (first_level h) (later_levels h)), length-replicate W message)

      -- the front over the plain prover's words
      pub stream_is : (out plain front : List ℕ) → length out ≡ batch_words (sheet_of edition1 w) (length bounds) → plain ≡ honest_stream edition1 w (combined_words ok) (drop (words_for (sheet_of edition1 w) 1) coins) →
          front ≡ w ++ ((length bounds ∷ bounds) ++ (tables_of (sheet_of edition1 w) bounds (elements_in (sheet_of edition1 w).spelling f) ++ take (words_for (sheet_of edition1 w) 1) coins)) →
          front ++ drop at (put_mid shift (length out - shift) out plain) ≡ honest_batch w bounds f coins
      stream_is out plain front full ep ef =
          let T = take shift out in
          let S = honest_stream edition1 w (combined_words ok) (drop o coins) in
          let D = drop (12 + W) S in
          let tables = tables_of h bounds (elements_in h.spelling f) in
          let nothing : drop (length out - shift) (drop shift out) ≡ [] = drop_of_length-le (drop shift out) {i = length out - shift} (le_of_eq (length-drop shift out)) in
          let lt : length T ≡ shift = length-take-le shift out (omega (arith, (plain_room full).0)) in
          let ea : at ≡ length T + (12 + W) = omega (arith, ends, lt) in
          let after : drop at (put_mid shift (length out - shift) out plain) ≡ D =
          (λ i. drop (ea i) (T ++ (ep i ++ nothing i))) ∙ drop-append-add T (S ++ []) (12 + W) ∙ ap (drop (12 + W)) (append-nil S) in
          (λ i. ef i ++ after i) ∙ append_assoc w ((length bounds ∷ bounds) ++ (tables ++ take o coins)) D
          ∙ ap (λ (l : List ℕ). w ++ l) (append_assoc (length bounds ∷ bounds) (tables ++ take o coins) D)
          ∙ ap (λ (l : List ℕ). w ++ ((length bounds ∷ bounds) ++ l)) (append_assoc tables (take o coins) D ∙ ap (λ (l : List ℕ). tables ++ (l ++ D)) coin_words)
          ∙ sym (prover_as_plain ok)
