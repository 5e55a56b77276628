-- THE PAGE OF STATEMENTS on the inverse (02, CR 3). It holds theorems and nothing else; each proof is one citation, and no proof need be read.
-- To read it: the definition (crate `definition`), and the vocabulary TakenApart.antt, the definition's text beside the definition, in which the inverse's answer is
-- taken apart wherever one is asked for. What stands in a file and in a run, by number, and `divisors` are of Faults.antt and Numbered.antt (crate `completeness`);
-- Differ and Apart, elements whose difference is not 0 and a list of which any two differ so, of Different.antt (crate `algebra`). All theorems are of both editions and
-- of the four fields, in either spelling. What holds with the inverse as it was stands on the page AsItWas.antt.
use Rattle.std.specs.Prelude.{ℕ, suc, ◌≤◌, ◌<◌, List, ◌∷◌, map, ◌↔◌, ◌≡◌, length, get_or}
use Rattle.std.proofs.Math.Option.{none, some}
use Rattle.definition.specs.Block.{file_of, stream_of}
use Rattle.definition.specs.Deciding.{deciding, out_test}
use Rattle.definition.specs.Domain.{fold_at, point, root_numbers}
use Rattle.definition.specs.Field.{Element, Field}
use Rattle.definition.specs.Layout.{layout}
use Rattle.definition.specs.Polynomial.{Sample, corrected_poly, corrected_value, distinct, interpolate, points}
use Rattle.definition.specs.Prove.{prove_in}
use Rattle.definition.specs.Prover.{honest_stream}
use Rattle.definition.specs.Reading.{reading}
use Rattle.definition.specs.Sheet.{Edition, Level, Sheet, sheet_length, sheet_of, shift_count}
use Rattle.definition.specs.Verdict.{accepted}
use Rattle.definition.specs.Verify.{verify_in}
use Rattle.list_laws.specs.All.{All}
use Rattle.algebra.specs.Different.{Apart, Differ}
use Rattle.algebra.specs.Laws.{FieldLaws}
use Rattle.layouts.specs.Levels.{level_of, rounds_of, sheet_field, sheet_root}
use Rattle.completeness.proofs.Divisors
use Rattle.completeness.specs.Faults.{function_in, pairs_in, round_in}
use Rattle.completeness.specs.Numbered.{Allowed, combination_coin, corrected_of, divisors, round_poly, samples_at}
use Rattle.inverse_laws.proofs.Found
use Rattle.inverse_laws.proofs.FoundByNumber
use Rattle.inverse_laws.proofs.FoundInFiles
use Rattle.inverse_laws.specs.TakenApart.{corrected_poly_found, corrected_value_found, deciding_found, fold_at_found, honest_stream_found, interpolate_found, next_function_found, prove_found, verify_found}

-- 1. EACH INVERSE IS THERE (document 02: "Fold, interpolation and quotient must show that their divisors differ from 0"). In any field with the laws:
-- interpolation through samples at different points finds each inverse that it asks for, and is the definition's;
module _ {A : Type 0} (F : Field A) (L : FieldLaws F) where
  open F use {𝟘}

  pub interpolation_found : (samples : List (Sample A)) → Apart F (points samples) → interpolate_found F samples ≡ some (interpolate F samples)
  interpolation_found = Found.interpolate_found_lem F L

  -- so does the quotient at a point x, by samples at different points that differ from x;
  pub quotient_found : (g : List (Sample A)) (c x y : A) → Apart F (points g) → All (λ a. Differ F x a) (points g) → corrected_value_found F g c x y ≡ some (corrected_value F g c x y)
  quotient_found = Found.corrected_value_found_lem F L

  -- so does the fold at a shift point whose roots are different;
  pub fold_found : (ω : A) (b : Level) (f : ℕ → A) (r : A) (j : ℕ) → Apart F (map (point F ω b) (root_numbers b j)) → fold_at_found F ω b (λ m. some (f m)) r j ≡ some (fold_at F ω b f r j)
  fold_found = Found.fold_found F L

  -- and so does the prover's quotient as a polynomial, which divides by no element but in its interpolation.
  pub polynomial_found : (g : List (Sample A)) (c : A) (f : List A) → Apart F (points g) → corrected_poly_found F g c f ≡ some (corrected_poly F g c f)
  polynomial_found = Found.corrected_poly_found_lem F L

  -- An inverse that is not there is not passed over (document 02: "or that there is none"): interpolation with a point twice is none, and so is the quotient at
  -- one of its own points.
  pub interpolation_none : (samples : List (Sample A)) (y : A) (j : ℕ) → j < length (points samples) →
      interpolate_found F (record { point = get_or (points samples) j 𝟘; value = y } ∷ samples) ≡ none
  interpolation_none = Found.interpolate_none F L

  pub quotient_none : (g : List (Sample A)) (c y : A) (j : ℕ) → j < length (points g) → corrected_value_found F g c (get_or (points g) j 𝟘) y ≡ none
  quotient_none = Found.corrected_value_none F L

-- The list `divisors` (crate `completeness`, page Statements, item 12) is what interpolation divides by (document 02: "their divisors"): it is found exactly
-- where each of them has an inverse, also without the laws.
pub divisors_exactly : {A : Type 0} (F : Field A) (samples : List (Sample A)) →
    ((q : List A) × (interpolate_found F samples ≡ some q)) ↔ ((j : ℕ) → j < length (divisors F samples) → (u : A) × (F.inverse (get_or (divisors F samples) j F.𝟘) ≡ some u))
divisors_exactly = Found.divisors_exactly

-- VERIFY asks for no inverse that is not there, of any file, whatever its words are: with each answer taken apart it is found, and is the definition's. A file
-- that fails reading, or that 7 or 14 refuses, is refused before one is asked for; in every other each fold, interpolation and quotient finds its own.
pub verify_found_lem : (ed : Edition) (bytes : List ℕ) → verify_found ed bytes ≡ some (verify_in ed bytes)
verify_found_lem = FoundInFiles.verify_found_lem

pub deciding_found_lem : (ed : Edition) (bytes : List ℕ) → reading ed bytes ≡ accepted → deciding_found ed (stream_of bytes) ≡ some (deciding ed (stream_of bytes))
deciding_found_lem = FoundInFiles.deciding_found_lem

-- One by one, in a file that passes reading and refusal 7, whatever its tables, replies and final coefficients are:
module _ (ed : Edition) (bytes : List ℕ) where
  -- its stream, and the sheet in front of it
  abbrev w : List ℕ
  w = stream_of bytes

  abbrev g : Sheet
  g = sheet_of ed (stream_of bytes)

  module _ (passes : reading ed bytes ≡ accepted) (outside : out_test g (sheet_length ed) (layout g) w ≡ accepted) where
    -- the fold of f_i, at each of the n_i/k_i indices, by any coin;
    pub file_fold : (i : ℕ) → i ≤ rounds_of g → (j : ℕ) → j < shift_count (level_of g i) → (r : Element g.spelling) →
        fold_at_found (sheet_field g) (sheet_root g) (level_of g i) (λ m. some ((function_in ed g w i).value m)) r j
        ≡ some (fold_at (sheet_field g) (sheet_root g) (level_of g i) (function_in ed g w i).value r j)
    file_fold = FoundByNumber.file_fold ed bytes passes outside

    -- the interpolation of round i + 1;
    pub file_interpolation : (i : ℕ) → i < rounds_of g →
        interpolate_found (sheet_field g) (distinct (sheet_field g) (pairs_in ed g w i)) ≡ some (interpolate (sheet_field g) (distinct (sheet_field g) (pairs_in ed g w i)))
    file_interpolation = FoundByNumber.file_interpolation ed bytes passes outside

    -- and its quotient at each point of its domain, which gives f_(i+1) there.
    pub file_quotient : (i : ℕ) → i < rounds_of g → (m : ℕ) → m < (level_of g (suc i)).size →
        (next_function_found (sheet_field g) (sheet_root g) (distinct (sheet_field g) (pairs_in ed g w i)) (round_in ed g w i)).value m ≡ some ((function_in ed g w (suc i)).value m)
    file_quotient = FoundByNumber.file_quotient ed bytes passes outside

-- The file of every honest run is such a file,
module _ (ed : Edition) (w f coins : List ℕ) (ok : Allowed ed w f coins) where
  abbrev honest_file : List ℕ
  honest_file = file_of (honest_stream ed w f coins)

  pub honest_passes : (reading ed honest_file ≡ accepted)
      × (out_test (sheet_of ed (stream_of honest_file)) (sheet_length ed) (layout (sheet_of ed (stream_of honest_file))) (stream_of honest_file) ≡ accepted)
  honest_passes = Divisors.honest_passes ok

  -- and the prover of it finds each inverse: its f_(i+1), and its whole stream.
  pub prover_found : (i : ℕ) → i < rounds_of (sheet_of ed w) →
      corrected_poly_found (sheet_field (sheet_of ed w)) (samples_at (sheet_of ed w) f coins (suc i)) (combination_coin (sheet_of ed w) coins (suc i)) (round_poly (sheet_of ed w) f coins (suc i))
      ≡ some (corrected_of (sheet_of ed w) f coins (suc i))
  prover_found = FoundByNumber.prover_round ed w f coins ok

  pub stream_found : honest_stream_found ed w f coins ≡ some (honest_stream ed w f coins)
  stream_found = FoundInFiles.stream_found ed w f coins ok

-- PROVE asks for no inverse that is not there, of any input: what its tests refuse is refused before one is asked for.
pub prove_found_lem : (ed : Edition) (w f coins output : List ℕ) → prove_found ed w f coins output ≡ some (prove_in ed w f coins output)
prove_found_lem = FoundInFiles.prove_found_lem
