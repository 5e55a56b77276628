-- The decoder's candidate against the definition's search: the search answers the candidate where it is near, and none where it is not or there is none.
use Prim.Native.Nat.{ℕ, ◌+◌, ◌-◌, ◌*◌, ◌/◌, ◌^◌, ◌≤◌, ◌<◌}
use native.Mathlib.Omega.{arith}
use mathlib.Core.Path.{◌≡◌, refl, sym, ap, ◌∙◌, subst}
use mathlib.Core.Bool.{Bool, true, false, cond}
use mathlib.Core.List.{List}
use mathlib.Core.Option.{Option, none, some}
use lib.ListN.{length}
use Rattle.definition.specs.Field.{Element, Field, Spelling, elements_in, field_of, number_in, power, prime_field, prime_of, spelling_of}
use Rattle.definition.specs.Sheet.{Level}
use Rattle.definition.specs.Domain.{domain, point}
use Rattle.definition.specs.Verdict.{accepted, refused}
use Rattle.definition.specs.Prove.{Answer, Result, finish, refusal}
use Rattle.nearest_definition.specs.Nearest.{all_elements, found_test, near, nearest_of}
use Rattle.list_laws.specs.All.{all_map}
use Rattle.list_laws.specs.Lists.{by_number}
use Rattle.algebra.specs.FieldIn.{below_in, reduced_in}
use Rattle.algebra.specs.Laws.{FieldLaws}
use Rattle.algebra.specs.PrimeField.{suited}
use Rattle.decoding.specs.AllElements.{all_below, all_in}
use Rattle.decoding.specs.Errors.{wrong_at}
use Rattle.decoding.proofs.Exactly.{near_few, search_by, tested}
use Rattle.domain.specs.Powers.{Powers}
use Rattle.spelling.specs.ByField.{elements_at, field_at, laws_at, points_at}
use Rattle.spelling.specs.Points.{length_points, number_power, points_get}
use Rattle.closest.specs.Report.{conclusion, reported, Concluded}
use Rattle.nearest_planes.specs.InEither.{FoundIn, polynomial_in}
use Rattle.nearest.specs.Searched.{found_words, searched, searched_at, Searched}

module _ (field : ℕ) where
  abbrev σ : Spelling
  σ = spelling_of field

  abbrev F : Field (Element (spelling_of field))
  F = field_at field

  abbrev L : FieldLaws (field_at field)
  L = laws_at field

  -- the table of powers is domain 0
  points_are : (ω : ℕ) (l : Level) (pw : List ℕ) → Powers field ω pw → 2 ^ l.number ≡ 1 → l.size ≡ length pw → points_at field pw ≡ domain (field_at field) (number_in (spelling_of field) ω) l
  unfolding domain point field_of prime_field
  points_are ω l pw h scale size =
      by_number F.𝟘 (points_at field pw) (λ j. power F (number_in σ ω) (1 + 2 ^ l.number * j)) l.size (length_points field pw ∙ sym size)
      (λ j u. points_get field pw j ∙ ap (number_in σ) (h.entry j (omega (arith, size))) ∙ sym (number_power field ω (1 + j))
      ∙ ap (λ (m : ℕ). power F (number_in σ ω) (1 + m)) (let z : 1 * j ≡ j = omega arith in sym (ap (λ (s : ℕ). s * j) scale ∙ z)))

  module _ (pw table : List ℕ) (d : ℕ) (r : Bool) (f : List ℕ) (is : FoundIn (spelling_of field) field pw table d r f) where
    -- the definition's search is the candidate, tested
    search_is : (ω : ℕ) (l : Level) → Powers field ω pw → 2 ^ l.number ≡ 1 → l.size ≡ length pw →
        nearest_of F (number_in σ ω) l (all_elements σ (prime_of field)) d (elements_at field table) ≡ tested F L (number_in σ ω) l d (elements_at field table) (polynomial_in σ r f)
    search_is ω l h scale size =
        search_by F L (number_in σ ω) l d (elements_at field table) (all_elements σ (prime_of field)) (polynomial_in σ r f)
        (all_map (all_elements σ (prime_of field)) (all_below σ (prime_of field)) (λ x b. reduced_in σ (prime_of field) L x b))
        (λ g n e k. is.candidate ω h g n (all_map g e (λ x q. below_in σ (prime_of field) L (omega (arith, (suited field).large)) x q))
        (subst (λ (m : ℕ). length (wrong_at F (points_at field pw) (elements_at field table) g) ≤ (m - d) / 2) size
        (subst (λ (xs : List (Element (spelling_of field))). length (wrong_at F xs (elements_at field table) g) ≤ (l.size - d) / 2) (sym (points_are ω l pw h scale size))
        (near_few F (number_in σ ω) l d (elements_at field table) g k))))
        (λ g e. ((is.in_range g e).0, all_map g (is.in_range g e).1 (λ x b. all_in σ (prime_of field) x b)))

    -- what follows for the answer, by the candidate
    module _ (ω : ℕ) (l : Level) (h : Powers field ω pw) (scale : 2 ^ l.number ≡ 1) (size : l.size ≡ length pw) (output : List ℕ) where
      abbrev answered : Option (List (Element (spelling_of field))) → Result
      answered o = searched σ F (number_in σ ω) l (elements_at field table) o output

      searched_is : searched_at field ω l table d output ≡ answered (tested F L (number_in σ ω) l d (elements_at field table) (polynomial_in σ r f))
      searched_is = ap answered (search_is ω l h scale size)

    -- no candidate
    pub nothing : (output : List ℕ) → r ≡ false → Searched field pw table d output (refusal 19 0) output
    unfolding polynomial_in searched found_test found_words finish tested
    nothing output e ω l h scale size =
        let t = searched_is ω l h scale size output
        ∙ ap (λ (x : Bool). answered ω l h scale size output (tested F L (number_in σ ω) l d (elements_at field table) (polynomial_in σ x f))) e in
        (sym (ap (λ (x : Result). x.answer) t), sym (ap (λ (x : Result). x.output) t))

    -- a candidate
    conclusion_is : (ω : ℕ) (l : Level) (output : List ℕ) (b : Bool) →
        finish (cond b accepted (refused 19 0)) (length (reported σ F (number_in σ ω) l (elements_at field table) (elements_at field f)))
        (reported σ F (number_in σ ω) l (elements_at field table) (elements_at field f)) output
        ≡ searched σ F (number_in σ ω) l (elements_at field table) (cond b (some (elements_at field f)) none) output
    unfolding searched found_test found_words finish
    conclusion_is ω l output true = refl
    conclusion_is ω l output false = refl

    pub concluded : r ≡ true → length (elements_at field f) ≡ d → (output : List ℕ) {a : Answer} {after : List ℕ} → Concluded field pw table f output a after → Searched field pw table d output a after
    unfolding conclusion tested polynomial_in
    concluded e long output {a} {after} c ω l h scale size =
        let s = c ω l h scale size in
        let ω' = number_in σ ω in
        let words = reported σ F ω' l (elements_at field table) (elements_at field f) in
        let t : conclusion σ F ω' l (elements_at field table) (elements_at field f) output ≡ searched_at field ω l table d output =
        ap (λ (m : ℕ). finish (cond (near F ω' l m (elements_at field table) (elements_at field f)) accepted (refused 19 0)) (length words) words output) long
        ∙ conclusion_is ω l output (near F ω' l d (elements_at field table) (elements_at field f))
        ∙ sym (searched_is ω l h scale size output ∙ ap (λ (x : Bool). answered ω l h scale size output (tested F L ω' l d (elements_at field table) (polynomial_in σ x f))) e) in
        (s.0 ∙ ap (λ (x : Result). x.answer) t, s.1 ∙ ap (λ (x : Result). x.output) t)
