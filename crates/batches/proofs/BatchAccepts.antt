-- Deciding accepts every honest batch, for every r and all admissible coins.
use Rattle.std.specs.Prelude.{ℕ, ◌≤◌, ◌<◌, ◌≡◌, refl, get_or}
use mathlib.Core.List.{List, [], ◌∷◌, map}
use Rattle.std.proofs.Math.Path.{sym, ap}
use Rattle.std.proofs.Common.{◌∙◌}
use Rattle.std.proofs.Math.ListN.{length}
use Rattle.batch_definition.specs.Batch.{Batch, batch_function, combine_at, combine_poly, decide_batch}
use Rattle.definition.specs.Field.{Field}
use Rattle.definition.specs.Sheet.{Level}
use Rattle.definition.specs.Polynomial.{evaluate}
use Rattle.definition.specs.Domain.{point}
use Rattle.definition.specs.Transcript.{RoundCoins}
use Rattle.definition.specs.Prover.{honest_rest, table_of}
use Rattle.definition.specs.Verdict.{accepted}
use Rattle.algebra.specs.Laws.{FieldLaws}
use Rattle.list_laws.specs.All.{All}
use Rattle.completeness.specs.DecidingAccepts
use Rattle.completeness.specs.DecidingAccepts.{Admissible, Agrees, Foldable, all_places, table_at}
use Rattle.batches.proofs.Combination.{combine_length, combine_value}

module _ {A : Type 0} (F : Field A) (L : FieldLaws F) (ω : A) where
  open F use {𝟘}

  -- the honest batch of the polynomials fs
  abbrev pub honest_of : Level → List (List A) → A → A → List (RoundCoins A) → List ℕ → Batch A
  honest_of first fs r fold cs js = record {
    bounds = map length fs;
    tables = map (table_of F ω first) fs;
    combination = r;
    fold = fold;
    rest = honest_rest F ω first (combine_poly F first.degree 0 r fs) fold cs js;
  }

  entries : (first : Level) (fs : List (List A)) (m : ℕ) → m < first.size → map (λ t. get_or t m 𝟘) (map (table_of F ω first) fs) ≡ map (λ f. evaluate F f (point F ω first m)) fs
  entries first [] m h = refl
  entries first (f ∷ fs) m h = λ i. table_at F ω first f m h i ∷ entries first fs m h i

  batch_agrees : (first : Level) (fs : List (List A)) (r fold : A) (cs : List (RoundCoins A)) (js : List ℕ) →
      Agrees F ω first (batch_function F ω first (honest_of first fs r fold cs js)).value (combine_poly F first.degree 0 r fs)
  unfolding batch_function
  batch_agrees first fs r fold cs js m h =
      ap (combine_at F first.degree 0 r (point F ω first m) (map length fs)) (entries first fs m h) ∙ sym (combine_value F L first.degree 0 r (point F ω first m) fs)

  pub batch_accepts : (first : Level) (fs : List (List A)) (r fold : A) (cs : List (RoundCoins A)) (js : List ℕ) →
      All (λ f. (0 < length f) × (length f ≤ first.degree)) fs → Foldable F ω first → Admissible F L ω first cs js →
      decide_batch F ω first (honest_of first fs r fold cs js)
      ≡ record { outcome = accepted; used = all_places first (batch_function F ω first (honest_of first fs r fold cs js)).places cs js }
  unfolding decide_batch
  batch_accepts first fs r fold cs js bounded foldable admissible =
      DecidingAccepts.rest_accepted F L ω first (batch_function F ω first (honest_of first fs r fold cs js)) (combine_poly F first.degree 0 r fs) fold [] cs js
      (combine_length F first.degree 0 r fs bounded) foldable (batch_agrees first fs r fold cs js) admissible
