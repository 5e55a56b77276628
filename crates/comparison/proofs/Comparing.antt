-- The final polynomial beside the folds, and one turn of the walk that compares. Assumes nothing.
use Prim.Native.Nat.{ℕ, ◌+◌, ◌-◌, ◌*◌, ◌≤◌, ◌<◌, suc-le-suc, zero-le}
use mathlib.Core.Path.{◌≡◌, ◌∙◌, sym, ap}
use mathlib.Core.Bool.{Bool, true, false, not}
use mathlib.Core.List.{List, [], ◌∷◌}
use mathlib.Core.Option.{Option, none, some}
use native.Mathlib.Numerals.{add-one}
use native.Mathlib.Omega.{arith}
use lib.ListN.{length, drop, get_or, drop_of_length-le, get_or-eq_default}
use Rattle.definition.specs.Lists.{first_true}
use Rattle.definition.specs.Field.{Field, elements_in, embed, field_in, field_of, number_in, power, prime_field, prime_of, quads, spelling_of}
use Rattle.definition.specs.Polynomial.{evaluate, geometric}
use Rattle.algebra.specs.Laws.{FieldLaws}
use Rattle.algebra.specs.RootsOfUnity.{minus_one, power_zero}
use Rattle.spelling.specs.ByField.{ElementOf, at_one, at_three, elements_at, field_at, laws_at, points_at}
use Rattle.spelling.specs.Field3.{base, field3}
use Rattle.quartic.specs.declared.Four.{Four}
use Rattle.quartic.specs.Meaning.{quad_of}
use Rattle.elements.specs.Meaning.{value_at, value_in}
use Rattle.domain.specs.Powers.{PowersOver}
use Rattle.sums.specs.Sums.{products, products_powers}
use Rattle.folds.specs.PointsIn.{PowerTable, shift_in, shift_power}
use Rattle.fractions.specs.declared.Oracle.{Oracle}
use Rattle.fractions.specs.Points.{powers_as_words}
use Rattle.fractions.specs.Values.{Fits, Below, root_in}
use Rattle.root_values.specs.Places.{PreparedOver}
use Rattle.rounds.specs.RoundLaws.{ComparedOver, compared, differs_in, signs_at}
use Rattle.rounds.specs.SamplesIn.{fold_by, numbered, sample_by, sample_in}
use Rattle.rounds.proofs.Shifts.{numbered_front, numbered_map, sample_same}

-- the final polynomial's value v at the shift point, beside the fold y there
module _ {A : Type 0} (F : Field A) (pw roots : List A) (oracle : Oracle) (k : ℕ) (r : A) (i : ℕ) (coefficients : List A) {v y : A} {k' k'' j j' : ℕ}
    (value : v ≡ evaluate F coefficients (shift_in F.𝟘 pw oracle.scale k'' j)) (fold : y ≡ fold_by F pw roots oracle k' r i j) (length'' : k'' ≡ k) (length' : k' ≡ k) (index : j ≡ j') where
  pub tested : not (F.equal v y) ≡ differs_in F coefficients (sample_by F pw roots oracle k r i j')
  unfolding differs_in sample_by
  tested =
      (λ z. not (F.equal (value z) (fold z)))
      ∙ (λ z. not (F.equal (evaluate F coefficients (shift_in F.𝟘 pw oracle.scale (length'' z) (index z))) (fold_by F pw roots oracle (length' z) r i (index z))))

-- the final polynomial by the powers of a shift point, which has no more coefficients than there are powers
pub final_is : {A : Type 0} (F : Field A) (L : FieldLaws F) (ω : A) (pw : List A) (scale k j : ℕ) (coefficients powers : List A) {v : A} → PowersOver F ω pw → 0 < k → 0 < length pw →
    powers ≡ geometric F (power F (power F ω (1 + scale * j)) k) (length powers - 1) → length coefficients < length powers → v ≡ products F coefficients powers →
    v ≡ evaluate F coefficients (shift_in F.𝟘 pw scale k j)
final_is F L ω pw scale k j coefficients powers w pos long list more ev =
    ev ∙ ap (products F coefficients) list
    ∙ products_powers F L coefficients (power F (power F ω (1 + scale * j)) k) (length powers - 1) (λ m l. get_or-eq_default coefficients F.𝟘 (omega arith))
    ∙ ap (evaluate F coefficients) (sym (shift_power F L w scale k j pos long))

-- the comparison by the values at the roots
pub comparison_is : {A : Type 0} (F : Field A) → FieldLaws F → (minus_one F ≡ F.𝟙 → ⊥) → (pw table ac vg : List A) (oracle : Oracle) (k : ℕ) (r : A) (js : List ℕ) (roots : List A) →
    Fits (length pw) (length table) oracle k → PreparedOver F.𝟘 k (root_in F pw table ac vg oracle) js roots → (coefficients : List A) {v : Option ℕ} → Below oracle.step js →
    v ≡ first_true 0 (numbered (λ i j. differs_in F coefficients (sample_by F pw roots oracle k r i j)) 0 js) → ComparedOver F pw table ac vg oracle k r coefficients js v
comparison_is F L signs pw table ac vg oracle k r js roots fits ready coefficients below e =
    compared F L signs pw table ac vg oracle k r fits coefficients js below
    (e ∙ ap (first_true 0) (numbered_map (λ i j. differs_in F coefficients (sample_by F pw roots oracle k r i j)) (λ j. differs_in F coefficients (sample_in F pw table ac vg oracle k r j)) js
    (λ i l. ap (differs_in F coefficients) (sample_same F pw table ac vg oracle k r js roots fits ready i l))))

-- ---- by the field's number

-- where the points as elements are the powers of some ω, so are the words: the table is not empty, since half of its powers make -1
pub power_table : (field : ℕ) (pw : List ℕ) {ω : ElementOf field} → PowersOver (field_at field) ω (points_at field pw) → PowerTable field pw
power_table field pw {ω} w = (get_or pw 0 0, powers_as_words field pw (some pw w) w)
  where
    some : (pw : List ℕ) → PowersOver (field_at field) ω (points_at field pw) → 0 < length pw
    some [] w = absurd (signs_at field (sym w.half ∙ power_zero (field_at field) (laws_at field) ω))
    some (x ∷ pw) w = suc-le-suc zero-le

-- the final polynomial's value at each spelling
module _ (field : ℕ) (coefficients : List ℕ) (x : ℕ) (v : Four) where
  pub value_three : field ≡ 3 → quad_of v ≡ evaluate field3 (quads coefficients) (embed base x) → value_at field v ≡ evaluate (field_at field) (elements_at field coefficients) (number_in (spelling_of field) x)
  unfolding spelling_of prime_of field_in elements_in number_in embed prime_field value_in
  value_three h p = at_three (λ n. value_at n v ≡ evaluate (field_at n) (elements_at n coefficients) (number_in (spelling_of n) x)) field h p

  pub value_one : (field ≡ 3 → ⊥) → v.a ≡ evaluate (field_of field) coefficients x → value_at field v ≡ evaluate (field_at field) (elements_at field coefficients) (number_in (spelling_of field) x)
  unfolding field_in elements_in number_in field_of value_in
  value_one h p = at_one (λ σ. value_in σ v ≡ evaluate (field_in σ (prime_of field)) (elements_in σ coefficients) (number_in σ x)) field h p

-- ---- comparing, from the first index to the last

module _ (test : ℕ → ℕ → Bool) (js : List ℕ) (i : ℕ) where
  pub first_here : i < length js → test i (get_or js i 0) ≡ true → some i ≡ first_true i (numbered test i (drop i js))
  unfolding first_true
  first_here h e = rw (numbered_front test js i h, e)

  pub first_later : i < length js → test i (get_or js i 0) ≡ false → first_true (i + 1) (numbered test (i + 1) (drop (i + 1) js)) ≡ first_true i (numbered test i (drop i js))
  unfolding first_true
  first_later h e = rw (numbered_front test js i h, e) (ap (λ (n : ℕ). first_true n (numbered test (i + 1) (drop (i + 1) js))) (add-one i))

  pub first_nowhere : length js ≤ i → none ≡ first_true i (numbered test i (drop i js))
  unfolding first_true numbered
  first_nowhere h = rw (drop_of_length-le js h)
