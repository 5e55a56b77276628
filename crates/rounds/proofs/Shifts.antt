-- The sample at a shift index, and one turn of the walks over indices: the one that puts samples, and the one that compares. Assumes nothing.
use Prim.Native.Nat.{ℕ, zero, suc, ◌+◌, ◌-◌, ◌*◌, ◌≤◌, ◌<◌}
use mathlib.Core.Path.{◌≡◌, ◌∙◌, sym, ap, refl, subst}
use mathlib.Core.List.{List, [], ◌∷◌, ◌++◌, map, zip_with}
use mathlib.Core.Option.{Option, none, some}
use native.Mathlib.Nat
use native.Mathlib.Nat.{le_refl}
use native.Mathlib.Numerals.{add-one}
use native.Mathlib.Omega.{arith}
use lib.ListN.{length, drop, get_or, drop_of_length-le}
use lib.Seq.{drop-cons}
use Rattle.definition.specs.Field.{Field}
use Rattle.definition.specs.Polynomial.{Sample, pair}
use Rattle.algebra.specs.Laws.{FieldLaws}
use Rattle.algebra.specs.RootsOfUnity.{minus_one}
use Rattle.list_laws.specs.Backwards.{drop_back}
use Rattle.spelling.specs.ByField.{ElementOf, elements_at, field_at, points_at}
use Rattle.element_folds.specs.Points.{inverse_at}
use Rattle.samples.specs.Samples.{Gathered, put, distinct_or_clash, Room}
use Rattle.std.specs.Prelude.{Some, None}
use Rattle.samples.specs.SampleLaws.{put_ok, clash_drop, clash_append, distinct_nil}
use Rattle.fractions.specs.declared.Oracle.{Oracle}
use Rattle.folds.specs.Halving.{halving, exponent_of}
use Rattle.folds.specs.HalvingLaw.{halving_same}
use Rattle.folds.specs.PointsIn.{inverse_power_in, shift_in}
use Rattle.root_values.specs.Places.{PreparedOver}
use Rattle.rounds.specs.Points.{inverse_number}
use Rattle.rounds.specs.SamplesIn.{fold_by, numbered, sample_by, fold_in, sample_in}
use Rattle.fractions.specs.Values.{Fits, Below, power_of, root_in}
use Rattle.folds.specs.OneHalf.{half_of}
use Rattle.rounds.specs.RoundLaws.{AnsweredOver, answered}

-- ---- the fold and the sample at an index

-- as many values as there are roots
pub fits_as : {points n : ℕ} {oracle : Oracle} {k k' : ℕ} → k' ≡ k → Fits points n oracle k → Fits points (k' * oracle.step) oracle k'
fits_as {points} {n} {oracle} {k} e h = rw e (subst (λ (n : ℕ). Fits points n oracle k) (sym h.roots) h)

module _ {A : Type 0} (F : Field A) (pw roots : List A) (oracle : Oracle) where
  open F use {𝟘}

  pub folded : (k : ℕ) (r : A) (i j : ℕ) (values : List A) {points n : ℕ} {v : A} → Fits points n oracle k → length values ≡ k → ((m : ℕ) → m < k → get_or values m 𝟘 ≡ get_or roots (i * k + 1 * m) 𝟘) →
      v ≡ halving F (half_of F) (inverse_power_in 𝟘 pw) (exponent_of (length values)) (1 + oracle.scale * j) (oracle.scale * oracle.step) r (λ m. get_or values m 𝟘) →
      v ≡ fold_by F pw roots oracle k r i j
  unfolding fold_by
  folded k r i j values fits long there e =
      let d = oracle.scale * oracle.step in
      let w : ℕ → A = λ m. get_or values m 𝟘 in
      e ∙ ap (λ (l : ℕ). halving F (half_of F) (inverse_power_in 𝟘 pw) (exponent_of l) (1 + oracle.scale * j) d r w) long
      ∙ halving_same F (half_of F) (inverse_power_in 𝟘 pw) (exponent_of k) (1 + oracle.scale * j) d r w (λ m. get_or roots (i * k + m) 𝟘)
      (λ m l. there m (omega (arith, power_of fits)) ∙ ap (λ (n : ℕ). get_or roots (i * k + n) 𝟘) (Nat.one-mul m))

  -- the sample by as many values as roots, at the index as it was read
  pub sampled : (k : ℕ) (r : A) (i : ℕ) {k' j j' : ℕ} {x y : A} → j ≡ j' → k' ≡ k → x ≡ shift_in 𝟘 pw oracle.scale k j → y ≡ fold_by F pw roots oracle k' r i j →
      record { point = x; value = y } ≡ sample_by F pw roots oracle k r i j'
  unfolding sample_by
  sampled k r i {j = j} ej ek ex ey =
      (λ z. record { point = ex z; value = (ey ∙ ap (λ (k : ℕ). fold_by F pw roots oracle k r i j) ek) z }) ∙ ap (sample_by F pw roots oracle k r i) ej

-- the same by the field's number, where the points are words
pub folded_at : (field : ℕ) (pw roots : List ℕ) (oracle : Oracle) (k : ℕ) (r : ElementOf field) (i j : ℕ) (values : List (ElementOf field)) {points n : ℕ} {v : ElementOf field} → Fits points n oracle k → length values ≡ k →
    ((m : ℕ) → m < k → get_or values m (field_at field).𝟘 ≡ get_or (elements_at field roots) (i * k + 1 * m) (field_at field).𝟘) →
    v ≡ halving (field_at field) (half_of (field_at field)) (inverse_at field pw) (exponent_of (length values)) (1 + oracle.scale * j) (oracle.scale * oracle.step) r (λ m. get_or values m (field_at field).𝟘) →
    v ≡ fold_by (field_at field) (points_at field pw) (elements_at field roots) oracle k r i j
folded_at field pw roots oracle k r i j values fits long there e =
    let F = field_at field in
    folded F (points_at field pw) (elements_at field roots) oracle k r i j values fits long there
    (e ∙ (λ z. halving F (half_of F) (λ n. inverse_number field pw n z) (exponent_of (length values)) (1 + oracle.scale * j) (oracle.scale * oracle.step) r (λ m. get_or values m F.𝟘)))

-- ---- numbered elements

module _ {A : Type 0} (f : ℕ → ℕ → A) where
  pub numbered_back : (js : List ℕ) (i : ℕ) → 0 < i → i ≤ length js → numbered f (i - 1) (drop (i - 1) js) ≡ f (i - 1) (get_or js (i - 1) 0) ∷ numbered f i (drop i js)
  unfolding numbered
  numbered_back js i h l =
      let next : suc (i - 1) ≡ i = omega arith in
      ap (numbered f (i - 1)) (drop_back js 0 i h l) ∙ ap (λ (n : ℕ). f (i - 1) (get_or js (i - 1) 0) ∷ numbered f n (drop i js)) next

  pub numbered_front : (js : List ℕ) (i : ℕ) → i < length js → numbered f i (drop i js) ≡ f i (get_or js i 0) ∷ numbered f (i + 1) (drop (i + 1) js)
  unfolding numbered
  numbered_front js i l = rw add-one (ap (numbered f i) (drop-cons js i 0 l))

  numbered_from : (i n : ℕ) (js : List ℕ) → drop i (numbered f n js) ≡ numbered f (n + i) (drop i js)
  unfolding numbered
  numbered_from zero n js = ap (λ (m : ℕ). numbered f m js) (sym (Nat.add-zero n))
  numbered_from (suc i) n [] = refl
  numbered_from (suc i) n (j ∷ js) = numbered_from i (suc n) js ∙ ap (λ (m : ℕ). numbered f m (drop i js)) (Nat.suc-add n i ∙ sym (Nat.add-suc n i))

  pub numbered_drop : (i : ℕ) (js : List ℕ) → drop i (numbered f 0 js) ≡ numbered f i (drop i js)
  numbered_drop i js = numbered_from i 0 js ∙ ap (λ (m : ℕ). numbered f m (drop i js)) (Nat.zero-add i)

  -- what does not depend on the number
  numbered_same : (g : ℕ → A) (n : ℕ) (js : List ℕ) → ((i : ℕ) → i < length js → f (n + i) (get_or js i 0) ≡ g (get_or js i 0)) → numbered f n js ≡ map g js
  unfolding numbered
  numbered_same g n [] h = refl
  numbered_same g n (j ∷ js) h =
      λ z. (ap (λ (m : ℕ). f m j) (sym (Nat.add-zero n)) ∙ h 0 (omega arith)) z
      ∷ numbered_same g (suc n) js (λ i l. ap (λ (m : ℕ). f m (get_or js i 0)) (Nat.suc-add n i ∙ sym (Nat.add-suc n i)) ∙ h (suc i) (omega arith)) z

  pub numbered_map : (g : ℕ → A) (js : List ℕ) → ((i : ℕ) → i < length js → f i (get_or js i 0) ≡ g (get_or js i 0)) → numbered f 0 js ≡ map g js
  numbered_map g js h = numbered_same g 0 js (λ i l. ap (λ (m : ℕ). f m (get_or js i 0)) (Nat.zero-add i) ∙ h i l)

-- the samples by the values at the roots
module _ {A : Type 0} (F : Field A) (pw table ac vg : List A) (oracle : Oracle) (k : ℕ) (r : A) (js : List ℕ) (roots : List A) (fits : Fits (length pw) (length table) oracle k)
    (ready : PreparedOver F.𝟘 k (root_in F pw table ac vg oracle) js roots) where
  open F use {𝟘, 𝟙}

  pub sample_same : (i : ℕ) → i < length js → sample_by F pw roots oracle k r i (get_or js i 0) ≡ sample_in F pw table ac vg oracle k r (get_or js i 0)
  unfolding sample_by sample_in fold_by fold_in
  sample_same i l =
      let j = get_or js i 0 in
      λ z. record {
        point = shift_in 𝟘 pw oracle.scale k j;
        value = halving_same F (half_of F) (inverse_power_in 𝟘 pw) (exponent_of k) (1 + oracle.scale * j) (oracle.scale * oracle.step) r
            (λ m. get_or roots (i * k + m) 𝟘) (root_in F pw table ac vg oracle j) (λ m h. ready i m l (omega (arith, power_of fits))) z;
      }

  pub answer_is : FieldLaws F → (minus_one F ≡ 𝟙 → ⊥) → (outs replies : List A) {v : Option (List (Sample A))} → Below oracle.step js →
      v ≡ distinct_or_clash F (pair outs replies ++ numbered (sample_by F pw roots oracle k r) 0 js) → AnsweredOver F pw table ac vg oracle k r js outs replies v
  answer_is L signs outs replies below e =
      answered F L signs pw table ac vg oracle k r fits js outs replies below
      (e ∙ ap (λ (t : List (Sample A)). distinct_or_clash F (pair outs replies ++ t)) (numbered_map (sample_by F pw roots oracle k r) (sample_in F pw table ac vg oracle k r) js sample_same))

-- ---- putting the samples, from the last index to the first

module _ {A : Type 0} (F : Field A) (S : ℕ → ℕ → Sample A) (shifts : List ℕ) where
  pub shifts_end : (px py : List A) (k : ℕ) → length px ≡ k → some (pair (drop k px) (drop k py)) ≡ distinct_or_clash F (numbered S (length shifts) (drop (length shifts) shifts))
  unfolding pair zip_with numbered
  shifts_end px py k e =
      let h : length px ≤ k = omega arith in
      rw (drop_of_length-le px h, drop_of_length-le shifts (le_refl (length shifts))) (distinct_nil F)

  pub shifts_turn : FieldLaws F → (i : ℕ) {g : List (Sample A)} {o : Option (List (Sample A))} {s : Sample A} → 0 < i → i ≤ length shifts →
      some g ≡ distinct_or_clash F (numbered S i (drop i shifts)) → s ≡ S (i - 1) (get_or shifts (i - 1) 0) → o ≡ put F.equal s g →
      o ≡ distinct_or_clash F (numbered S (i - 1) (drop (i - 1) shifts))
  shifts_turn L i {g} {s = s} h l e es eo =
      eo ∙ put_ok F L s (numbered S i (drop i shifts)) g e
      ∙ ap (λ (t : Sample A). distinct_or_clash F (t ∷ numbered S i (drop i shifts))) es
      ∙ ap (distinct_or_clash F) (sym (numbered_back S shifts i h l))

  -- a clash among the samples from number i on is one of all, whatever stands before them
  pub shifts_clash : (before : List (Sample A)) (i : ℕ) → none ≡ distinct_or_clash F (numbered S i (drop i shifts)) → none ≡ distinct_or_clash F (before ++ numbered S 0 shifts)
  shifts_clash before i e = clash_append F before (numbered S 0 shifts) (clash_drop F i (numbered S 0 shifts) (e ∙ ap (distinct_or_clash F) (sym (numbered_drop S i shifts))))

  pub shifts_all : (i : ℕ) → i ≡ 0 → {o : Option (List (Sample A))} → o ≡ distinct_or_clash F (numbered S i (drop i shifts)) → o ≡ distinct_or_clash F (numbered S 0 shifts)
  shifts_all i z e = e ∙ ap (λ (n : ℕ). distinct_or_clash F (numbered S n (drop n shifts))) z

-- samples put in front of samples
pub room_add : {n k : ℕ} (t u : ℕ) (r : Gathered) → (n ≤ k + t) × (k ≤ n) → Room k u r → Room n (u + t) r
room_add t u None h l = tt
room_add t u (Some m) h l = (omega arith, omega arith)
