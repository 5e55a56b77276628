-- The words of the folding numbers, as the code finds them.
use Rattle.std.specs.Prelude.{ℕ, zero, suc, ◌+◌, ◌/◌, ◌<◌, List, ◌≡◌, refl, length, get_or, take}
use Rattle.std.proofs.Math.Nat.{div-div-eq-div-mul}
use Rattle.std.proofs.Common.{div-one, add-one, arith, sym, ap, ◌∙◌}
use Rattle.std.proofs.lemmas.List.{get_or-replicate}
use Rattle.definition.specs.Lists.{product_of, range}
use Rattle.definition.specs.Sheet.{Edition, edition1, edition2, fold_places, fold_words, sheet_length}
use Rattle.layouts.proofs.LevelsByNumber.{product_next}
use Rattle.list_laws.specs.Lists.{get_d_map, get_d_range}
use Rattle.layouts.specs.SheetRules.{fold_count}
use Rattle.edition.specs.declared.Edition.TheVariants.{One, Two}
use Rattle.edition.specs.declared.Edition as code
use Rattle.edition.specs.Meaning.{edition_of}

-- the word of k_i
abbrev pub Place : Edition → ℕ → ℕ → Type 0
Place ed i at = (at < sheet_length ed) × (at ≡ get_or (fold_places ed) i 0)

pub first_place : (ed : Edition) (i : ℕ) → i ≡ 0 → Place ed i 3
unfolding fold_places
first_place edition1 i e = (omega arith, rw e)
first_place edition2 i e = (omega arith, rw e)

pub one_place : (e : code.Edition) (i : ℕ) → e ≡ One → i < 6 → Place (edition_of e) i 3
unfolding edition_of fold_places
one_place e i q l = rw q (omega arith, sym (get_or-replicate 6 i 3 0 l))

later_place : (i : ℕ) → (i ≡ 0 → ⊥) → i < 6 → 11 + i ≡ get_or (fold_places edition2) i 0
unfolding fold_places
later_place zero n l = absurd (n refl)
later_place (suc i) n l = sym (get_d_range 12 5 i (omega arith) ∙ (let e : 12 + i ≡ 11 + suc i = omega arith in e))

pub two_place : (e : code.Edition) (i : ℕ) → e ≡ Two → (i ≡ 0 → ⊥) → i < 6 → Place (edition_of e) i (11 + i)
unfolding edition_of
two_place e i q n l = rw q (omega arith, later_place i n l)

pub one_words : (e : code.Edition) → e ≡ One → 12 ≡ sheet_length (edition_of e)
unfolding edition_of
one_words e q = rw q

pub two_words : (e : code.Edition) → e ≡ Two → 18 ≡ sheet_length (edition_of e)
unfolding edition_of
two_words e q = rw q

places_length : (ed : Edition) → length (fold_places ed) ≡ 6
unfolding fold_places range
places_length edition1 = refl
places_length edition2 = refl

pub fold_word : (ed : Edition) (w : List ℕ) (i at : ℕ) → i < 6 → at ≡ get_or (fold_places ed) i 0 → get_or w at 0 ≡ get_or (fold_words ed w) i 0
unfolding fold_words
fold_word ed w i at l e = ap (λ (j : ℕ). get_or w j 0) e ∙ sym (get_d_map (λ j. get_or w j 0) (fold_places ed) 0 0 i (omega (arith, places_length ed)))

-- d0 over the first folding numbers, none and one more
pub degree_none : (ed : Edition) (w : List ℕ) → get_or w 2 0 ≡ get_or w 2 0 / product_of (take 0 (fold_words ed w))
unfolding product_of
degree_none ed w = sym (div-one (get_or w 2 0))

pub degree_next : (ed : Edition) (w : List ℕ) (j : ℕ) {d k : ℕ} → j < 6 → d ≡ get_or w 2 0 / product_of (take j (fold_words ed w)) → k ≡ get_or (fold_words ed w) j 0 →
    d / k ≡ get_or w 2 0 / product_of (take (j + 1) (fold_words ed w))
degree_next ed w j l e f =
    (λ t. e t / f t) ∙ div-div-eq-div-mul (get_or w 2 0) (product_of (take j (fold_words ed w))) (get_or (fold_words ed w) j 0)
    ∙ ap (λ (x : ℕ). get_or w 2 0 / x) (sym (ap (λ (n : ℕ). product_of (take n (fold_words ed w))) (add-one j) ∙ product_next j (fold_words ed w) (omega (arith, fold_count ed w))))
