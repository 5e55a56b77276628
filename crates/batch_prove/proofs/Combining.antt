-- The combined polynomial of an order that is allowed: what the function that combines asks, and the words that it leaves.
use Prim.Native.Nat.{ℕ, ◌≤◌}
use native.Mathlib.Omega.{arith}
use mathlib.Core.List.{List}
use mathlib.Core.Path.{◌≡◌, sym, ap, ◌∙◌}
use lib.ListN.{length, get_or}
use Rattle.algebra.specs.FieldIn.{zero_in}
use Rattle.batch_definition.specs.Batch.{combine_poly, cut_by}
use Rattle.definition.specs.Field.{Element, elements_in, number_in, spelling_of, words_of}
use Rattle.definition.specs.Sheet.{Sheet, edition1, sheet_of}
use Rattle.layouts.specs.Levels.{sheet_field, words_for}
use Rattle.layouts.specs.Spellings.{count_least, words_read}
use Rattle.batches.proofs.AllowedBatches.{batch_bounds, batch_enough, batch_number, batch_sum}
use Rattle.batches.specs.Batched.{AllowedBatch}
use Rattle.spelling.specs.ByField.{ElementOf, elements_at, field_at}
use Rattle.spelling.specs.Words.{elements_many}
use Rattle.combination.specs.Asked.{Parted}
use Rattle.batch_front.proofs.OneByOne.{degree_small}

module _ {w bounds f coins : List ℕ} (ok : AllowedBatch w bounds f coins) where
  abbrev h : Sheet
  h = sheet_of edition1 w

  pub places_enough : words_for (sheet_of edition1 w) (sheet_of edition1 w).degree ≤ 2048
  places_enough = degree_small w ok.sheet (batch_enough ok)

  pub parted : (scratch out : List ℕ) → length scratch ≡ words_for (sheet_of edition1 w) (sheet_of edition1 w).degree → length out ≡ words_for (sheet_of edition1 w) (sheet_of edition1 w).degree →
      Parted (get_or w 0 0) (get_or w 2 0) bounds f scratch out
  unfolding sheet_of
  parted scratch out es eo = record {
    bounded = record { each = batch_bounds ok; few = (batch_number ok).1 };
    coefficients = batch_sum ok;
    room = elements_many h.spelling h.degree scratch es;
    whole = elements_many h.spelling h.degree out eo;
    small = omega (arith, count_least h.spelling h.degree, places_enough);
  }

  pub combined_words : (r : ElementOf (get_or w 0 0)) (out : List ℕ) → r ≡ get_or (elements_at (get_or w 0 0) coins) 0 (field_at (get_or w 0 0)).𝟘 →
      elements_at (get_or w 0 0) out ≡ combine_poly (field_at (get_or w 0 0)) (get_or w 2 0) 0 r (cut_by bounds (elements_at (get_or w 0 0) f)) →
      length out ≡ words_for (sheet_of edition1 w) (sheet_of edition1 w).degree →
      out ≡ words_of (sheet_of edition1 w).spelling (combine_poly (sheet_field (sheet_of edition1 w)) (sheet_of edition1 w).degree 0 (get_or (elements_in (sheet_of edition1 w).spelling coins) 0 (number_in (sheet_of edition1 w).spelling 0))
      (cut_by bounds (elements_in (sheet_of edition1 w).spelling f)))
  unfolding sheet_of
  combined_words r out er e eo =
      let σ = spelling_of (get_or w 0 0) in
      let whole : r ≡ get_or (elements_in σ coins) 0 (number_in σ 0) = er ∙ ap (get_or (elements_in σ coins) 0) (zero_in σ h.prime) in
      sym (words_read σ h.degree out eo) ∙ ap (words_of σ) (e ∙ ap (λ (x : Element σ). combine_poly (sheet_field h) h.degree 0 x (cut_by bounds (elements_in σ f))) whole)
