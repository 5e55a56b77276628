-- What is worked out over the elements in hand is the definition's, where they are those of a level's function.
use Prim.Native.Nat.{ℕ, suc, ◌+◌, ◌*◌, ◌^◌, ◌<◌, zero-le, suc-le-suc}
use Rattle.std.specs.Prelude.{◌≡◌, Bool, not, length}
use Rattle.std.proofs.Common.{◌∙◌, sym, arith}
use Rattle.std.proofs.Math.Path.{ap, refl}
use mathlib.Core.List.{List, [], ◌∷◌, ◌++◌, map}
use Rattle.std.proofs.Math.Option.{Option}
use Rattle.definition.specs.Lists.{first_true}
use Rattle.definition.specs.Field.{Field, power, prime_of, spelling_of}
use Rattle.definition.specs.Sheet.{Level, shift_count}
use Rattle.definition.specs.Polynomial.{Sample, pair, evaluate}
use Rattle.definition.specs.Domain.{shift_point, fold_at}
use Rattle.definition.specs.Transcript.{Round}
use Rattle.definition.specs.Deciding.{answers, differences}
use Rattle.algebra.specs.Laws.{FieldLaws}
use Rattle.algebra.specs.FieldIn.{signs_in}
use Rattle.algebra.specs.PrimeField.{prime_field_lem, suited}
use Rattle.algebra.specs.RootsOfUnity.{minus_one}
use Rattle.spelling.specs.ByField.{ElementOf, field_at, points_at, elements_at}
use Rattle.samples.specs.Samples.{distinct_or_clash}
use Rattle.fractions.specs.declared.Oracle.{Oracle}
use Rattle.folds.specs.PointsIn.{inverse_power_in, inverse_power_is, shift_in_lem}
use Rattle.domain.specs.Powers.{PowersOver}
use Rattle.folds.specs.Halving.{halving}
use Rattle.folds.specs.HalvingLaw.{halving_same}
use Rattle.folds.specs.FoldLaw.{fold_by_halves}
use Rattle.fractions.specs.Values.{value_in, root_in, Fits, Below, exponent, first_point, folded, half_way, root_number}
use Rattle.folds.specs.OneHalf.{half_of, two_halves}
use Rattle.rounds.specs.SamplesIn.{fold_in, sample_in}

-- The elements in hand are those of the function f at level b, whose folding number is k.
pub record RepresentsOver {A : Type 0} (F : Field A) (ω : A) (b : Level) (f : ℕ → A) (pw table ac vg : List A) (oracle : Oracle) (k : ℕ) : Type 0 where
  pub powers : PowersOver F ω pw
  pub scale : oracle.scale ≡ 2 ^ b.number
  pub step : oracle.step ≡ shift_count b
  pub fold : k ≡ b.fold
  pub values : (m : ℕ) → m < length table → value_in F pw table ac vg oracle m ≡ f m

-- v is the definition's G, for every level, function and round that the elements are those of
abbrev pub AnsweredOver : {A : Type 0} → Field A → List A → List A → List A → List A → Oracle → ℕ → A → List ℕ → List A → List A → Option (List (Sample A)) → Type 0
AnsweredOver {A} F pw table ac vg oracle k r shifts outs replies v =
    (ω : A) (b : Level) (f : ℕ → A) (ρ : Round A) → ρ.coins.outs ≡ outs → ρ.replies ≡ replies → ρ.coins.shifts ≡ shifts →
    RepresentsOver F ω b f pw table ac vg oracle k → v ≡ distinct_or_clash F (answers F ω b f r ρ)

-- v is the place of the definition's first difference, for every level and function that the elements are those of
abbrev pub ComparedOver : {A : Type 0} → Field A → List A → List A → List A → List A → Oracle → ℕ → A → List A → List ℕ → Option ℕ → Type 0
ComparedOver {A} F pw table ac vg oracle k r coefficients finals v =
    (ω : A) (b : Level) (f : ℕ → A) → RepresentsOver F ω b f pw table ac vg oracle k → v ≡ first_true 0 (differences F ω b f r coefficients finals)

-- the same of words, by the field's number
abbrev pub Represents : (field : ℕ) → ElementOf field → Level → (ℕ → ElementOf field) → List ℕ → List ℕ → List ℕ → List ℕ → Oracle → ℕ → Type 0
Represents field ω b f pw table ac vg oracle k =
    RepresentsOver (field_at field) ω b f (points_at field pw) (elements_at field table) (elements_at field ac) (elements_at field vg) oracle k

abbrev pub Answered : (field : ℕ) → List ℕ → List ℕ → List ℕ → List ℕ → Oracle → ℕ → ElementOf field → List ℕ → List ℕ → List ℕ → Option (List (Sample (ElementOf field))) → Type 0
Answered field pw table ac vg oracle k r shifts outs replies v =
    AnsweredOver (field_at field) (points_at field pw) (elements_at field table) (elements_at field ac) (elements_at field vg) oracle k r shifts (elements_at field outs) (elements_at field replies) v

abbrev pub Compared : (field : ℕ) → List ℕ → List ℕ → List ℕ → List ℕ → Oracle → ℕ → ElementOf field → List ℕ → List ℕ → Option ℕ → Type 0
Compared field pw table ac vg oracle k r coefficients finals v =
    ComparedOver (field_at field) (points_at field pw) (elements_at field table) (elements_at field ac) (elements_at field vg) oracle k r (elements_at field coefficients) finals v

-- does the final polynomial differ from a sample?
unfoldable pub differs_in : {A : Type 0} → Field A → List A → Sample A → Bool
differs_in F coefficients s = not (F.equal (evaluate F coefficients s.point) s.value)

module _ {A : Type 0} (F : Field A) (L : FieldLaws F) (signs : minus_one F ≡ F.𝟙 → ⊥) where
  open F use {𝟘}

  -- ---- folds and samples

  module _ {ω : A} {b : Level} {f : ℕ → A} {pw table ac vg : List A} {oracle : Oracle} {k : ℕ} (s : RepresentsOver F ω b f pw table ac vg oracle k)
      (fits : Fits (length pw) (length table) oracle k) (r : A) where
    long : {j : ℕ} → j < oracle.step → 0 < length pw
    long l = omega (arith, first_point fits l)

    -- k/2 roots on stands the opposite of a root
    turn : power F ω (2 ^ fits.log * (2 ^ b.number * shift_count b)) ≡ minus_one F
    turn = ap (power F ω) ((λ i. 2 ^ fits.log * (sym s.scale i * sym s.step i)) ∙ sym (half_way fits)) ∙ s.powers.half

    pub fold_is : (j : ℕ) → j < oracle.step → fold_in F pw table ac vg oracle k r j ≡ fold_at F ω b f r j
    unfolding fold_in
    fold_is j l =
        let half = half_of F in
        let inverse_power = inverse_power_in 𝟘 pw in
        let e = 1 + oracle.scale * j in
        let d = oracle.scale * oracle.step in
        ap (λ (a : ℕ). halving F half inverse_power a e d r (root_in F pw table ac vg oracle j)) (exponent fits)
        ∙ halving_same F half inverse_power (suc fits.log) e d r (root_in F pw table ac vg oracle j) (λ m. f (j + m * oracle.step))
        (λ m h. s.values (j + m * oracle.step) (root_number fits l m (omega (arith, fits.two))))
        ∙ (λ i. halving F half inverse_power (suc fits.log) (1 + s.scale i * j) (s.scale i * s.step i) r (λ m. f (j + m * s.step i)))
        ∙ fold_by_halves F L ω half inverse_power signs (two_halves F L signs) (inverse_power_is F L s.powers (long l)) b f r j fits.log (sym s.fold ∙ fits.two) turn

    pub sample_is : (j : ℕ) → j < oracle.step → sample_in F pw table ac vg oracle k r j ≡ record { point = shift_point F ω b j; value = fold_at F ω b f r j }
    unfolding sample_in
    sample_is j l =
        let some : 0 < k = omega (arith, folded fits) in
        λ i. record { point = shift_in_lem F s.powers b s.scale L s.fold j some (long l) i; value = fold_is j l i }

    samples_are : (js : List ℕ) → Below oracle.step js →
        map (sample_in F pw table ac vg oracle k r) js ≡ map (λ j. record { point = shift_point F ω b j; value = fold_at F ω b f r j }) js
    samples_are [] l = refl
    samples_are (j ∷ js) l = λ i. sample_is j (l 0 (suc-le-suc zero-le)) i ∷ samples_are js (λ m n. l (suc m) (suc-le-suc n)) i

    differences_are : (coefficients : List A) (js : List ℕ) → Below oracle.step js →
        map (λ j. differs_in F coefficients (sample_in F pw table ac vg oracle k r j)) js ≡ differences F ω b f r coefficients js
    unfolding differences differs_in
    differences_are coefficients [] l = refl
    differences_are coefficients (j ∷ js) l =
        λ i. differs_in F coefficients (sample_is j (l 0 (suc-le-suc zero-le)) i) ∷ differences_are coefficients js (λ m n. l (suc m) (suc-le-suc n)) i

  module _ (pw table ac vg : List A) (oracle : Oracle) (k : ℕ) (r : A) (fits : Fits (length pw) (length table) oracle k) where
    pub answered : (shifts : List ℕ) (outs replies : List A) {v : Option (List (Sample A))} → Below oracle.step shifts →
        v ≡ distinct_or_clash F (pair outs replies ++ map (sample_in F pw table ac vg oracle k r) shifts) → AnsweredOver F pw table ac vg oracle k r shifts outs replies v
    unfolding answers
    answered shifts outs replies l e = λ ω b f ρ eo er es s.
        let sample : ℕ → Sample A = λ j. record { point = shift_point F ω b j; value = fold_at F ω b f r j } in
        e ∙ ap (λ (t : List (Sample A)). distinct_or_clash F (pair outs replies ++ t)) (samples_are s fits r shifts l)
        ∙ (λ i. distinct_or_clash F (pair (sym eo i) (sym er i) ++ map sample (sym es i)))

    pub compared : (coefficients : List A) (finals : List ℕ) {v : Option ℕ} → Below oracle.step finals →
        v ≡ first_true 0 (map (λ j. differs_in F coefficients (sample_in F pw table ac vg oracle k r j)) finals) →
        ComparedOver F pw table ac vg oracle k r coefficients finals v
    compared coefficients finals l e = λ ω b f s. e ∙ ap (first_true 0) (differences_are s fits r coefficients finals l)

-- in the field of each number -1 is not 1
pub signs_at : (field : ℕ) → minus_one (field_at field) ≡ (field_at field).𝟙 → ⊥
signs_at field = signs_in (spelling_of field) (prime_of field) (prime_field_lem (prime_of field) (suited field).prime) (suited field).large
