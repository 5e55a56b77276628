-- What the search through all polynomials of degree below d answers, over any field with the laws, any domain of pairwise different points and any table: some f
-- exactly if f is near, and then no other is; none exactly if no polynomial below the bound is near.
use Rattle.std.specs.Prelude.{ℕ, zero, suc, ◌+◌, ◌-◌, ◌/◌, ◌≤◌, ◌≡◌, Bool, List, [], ◌∷◌, map, length}
use Rattle.std.proofs.Common.{arith, inl, ◌∙◌, subst}
use Rattle.std.proofs.Math.Path.{refl, sym, ap}
use Rattle.std.proofs.Math.Bool.{true, false, cond}
use Rattle.std.proofs.Math.Option.{Option, none, some}
use Rattle.std.proofs.Math.ListN.{length-map}
use borrow.Author.Tests.{leb-true, le-leb}
use Rattle.definition.specs.Field.{Field}
use Rattle.definition.specs.Lists.{range}
use Rattle.definition.specs.Sheet.{Level}
use Rattle.definition.specs.Domain.{domain}
use Rattle.definition.specs.Prover.{table_of}
use Rattle.nearest_definition.specs.Nearest.{near, nearest_of, polynomials}
use Rattle.list_laws.specs.All.{All, all_flat, all_map, all_of_map}
use Rattle.list_laws.specs.Booleans.{some≢none}
use Rattle.list_laws.specs.Lists.{range_length}
use Rattle.decoding.specs.Searches.{In, first_none, first_some, in_flat, in_map, none_passes, some_passes}
use Rattle.algebra.specs.Laws.{FieldLaws}
use Rattle.algebra.specs.Different.{Apart}
use Rattle.algebra.specs.Coefficients.{Elements}
use Rattle.decoding.specs.Errors.{wrong_at, near_unique}

-- the lists of d elements, all of them and no other
pub in_polynomials : {A : Type 0} (elements f : List A) → All (λ c. In c elements) f → In f (polynomials elements (length f))
unfolding polynomials
in_polynomials elements [] h = inl refl
in_polynomials {A = A} elements (c ∷ f) h =
    in_flat {B = List A} (λ g. map (λ b. b ∷ g) elements) (c ∷ f) f (polynomials elements (length f)) (in_polynomials elements f h.1) (in_map {C = List A} (λ b. b ∷ f) c elements h.0)

pub all_polynomials : {A : Type 0} (P : A → Type 0) (elements : List A) (d : ℕ) → All P elements → All (λ f. (length f ≡ d) × All P f) (polynomials elements d)
unfolding polynomials
all_polynomials P elements zero h = ((refl, tt), tt)
all_polynomials {A = A} P elements (suc d) h =
    all_flat {A = List A} (λ f. (length f ≡ suc d) × All P f) (λ f. map (λ c. c ∷ f) elements) (polynomials elements d)
    (all_map (polynomials elements d) (all_polynomials P elements d h)
    (λ f e. all_of_map {B = List A} (λ g. (length g ≡ suc d) × All P g) (λ c. c ∷ f) elements (all_map elements h (λ c k. (ap suc e.0, (k, e.1))))))

module _ {A : Type 0} (F : Field A) (ω : A) (l : Level) (d : ℕ) (table : List A) where
  -- near, in plain numbers
  pub near_few : (f : List A) → near F ω l d table f ≡ true → length (wrong_at F (domain F ω l) table f) ≤ (l.size - d) / 2
  unfolding near table_of
  near_few f e = leb-true _ _ e

  pub few_near : (f : List A) → length (wrong_at F (domain F ω l) table f) ≤ (l.size - d) / 2 → near F ω l d table f ≡ true
  unfolding near table_of
  few_near f h = le-leb _ _ h

  module _ (elements : List A) where
    -- the search finds the one that is near
    pub nearest_some : (f : List A) → length f ≡ d → All (λ c. In c elements) f → near F ω l d table f ≡ true →
        (P : A → Type 0) → All P elements → ((g : List A) → length g ≡ d → All P g → near F ω l d table g ≡ true → g ≡ f) → nearest_of F ω l elements d table ≡ some f
    unfolding nearest_of
    nearest_some f q m e P p unique =
        first_some (near F ω l d table) f (polynomials elements d) (all_map (polynomials elements d) (all_polynomials P elements d p) (λ g h k. unique g h.0 h.1 k))
        (subst (λ (n : ℕ). In f (polynomials elements n)) q (in_polynomials elements f m)) e

    -- and none if none is near
    pub nearest_none : (P : A → Type 0) → All P elements → ((g : List A) → length g ≡ d → All P g → near F ω l d table g ≡ true → ⊥) → nearest_of F ω l elements d table ≡ none
    unfolding nearest_of
    nearest_none P p never =
        first_none (near F ω l d table) (polynomials elements d) (all_map (polynomials elements d) (all_polynomials P elements d p) (λ g h k. never g h.0 h.1 k))

    -- NONE ONLY IF no list of d elements is near
    pub none_near : nearest_of F ω l elements d table ≡ none → (g : List A) → length g ≡ d → All (λ c. In c elements) g → near F ω l d table g ≡ true → ⊥
    unfolding nearest_of
    none_near e g q m t = none_passes (near F ω l d table) g (polynomials elements d) e (subst (λ (n : ℕ). In g (polynomials elements n)) q (in_polynomials elements g m)) t

    -- SOME f ONLY IF f has d coefficients, all elements, and is near
    pub some_near : (P : A → Type 0) → All P elements → (f : List A) → nearest_of F ω l elements d table ≡ some f → ((length f ≡ d) × All P f) × (near F ω l d table f ≡ true)
    unfolding nearest_of
    some_near P p f e = some_passes (λ g. (length g ≡ d) × All P g) (near F ω l d table) f (polynomials elements d) (all_polynomials P elements d p) e

module _ {A : Type 0} (F : Field A) (L : FieldLaws F) (ω : A) (l : Level) (d : ℕ) (table : List A) (apart : Apart F (domain F ω l))
    (long : length table ≡ l.size) (fits : d + (l.size - d) / 2 + (l.size - d) / 2 ≤ l.size) where
  points_count : length (domain F ω l) ≡ l.size
  unfolding domain
  points_count = length-map (range 0 l.size) _ ∙ range_length 0 l.size

  -- AT MOST ONE POLYNOMIAL IS NEAR
  pub only_one : (f g : List A) → length f ≡ d → Elements F L f → near F ω l d table f ≡ true → length g ≡ d → Elements F L g → near F ω l d table g ≡ true → f ≡ g
  only_one f g lf ef nf lg eg ng =
      near_unique F L (domain F ω l) table apart (points_count ∙ sym long) f g ((l.size - d) / 2) (lf ∙ sym lg) ef eg (near_few F ω l d table f nf) (near_few F ω l d table g ng)
      (omega (arith, fits, lf, points_count))

  -- SOME f FOR EVERY f THAT IS NEAR
  pub some_exactly : (elements : List A) → Elements F L elements → (f : List A) → length f ≡ d → All (λ c. In c elements) f → Elements F L f → near F ω l d table f ≡ true →
      nearest_of F ω l elements d table ≡ some f
  some_exactly elements all f q m ef e = nearest_some F ω l d table elements f q m e (λ c. L.reduce c ≡ c) all (λ g lg eg ng. only_one g f lg eg ng q ef e)

-- ---- THE SEARCH BY A CANDIDATE: if whatever is near is the candidate, the search answers the candidate where it is near, and none where it is not or there is none

module _ {A : Type 0} (F : Field A) (L : FieldLaws F) (ω : A) (l : Level) (d : ℕ) (table : List A) where
  -- the candidate, tested
  unfoldable pub tested : Option (List A) → Option (List A)
  tested none = none
  tested (some f) = cond (near F ω l d table f) (some f) none

  some_same : {f g : List A} → ◌≡◌ {A = Option (List A)} (some f) (some g) → f ≡ g
  some_same q = cc

  different : false ≡ true → ⊥
  different z = let y : ◌≡◌ {A = ℕ} 0 1 = cc in omega arith

  pub search_by : (elements : List A) (o : Option (List A)) → Elements F L elements →
      ((f : List A) → length f ≡ d → Elements F L f → near F ω l d table f ≡ true → o ≡ some f) → ((f : List A) → o ≡ some f → (length f ≡ d) × All (λ c. In c elements) f) →
      nearest_of F ω l elements d table ≡ tested o
  unfolding tested
  search_by elements none all only is = nearest_none F ω l d table elements (λ c. L.reduce c ≡ c) all (λ g n e k. some≢none g (sym (only g n e k)))
  search_by elements (some f) all only is = go (near F ω l d table f) refl
    where
      go : (b : Bool) → near F ω l d table f ≡ b → nearest_of F ω l elements d table ≡ cond b (some f) none
      go true q =
          nearest_some F ω l d table elements f (is f refl).0 (is f refl).1 q (λ c. L.reduce c ≡ c) all (λ g n e k. sym (some_same (only g n e k)))
      go false q = nearest_none F ω l d table elements (λ c. L.reduce c ≡ c) all (λ g n e k. different (sym q ∙ ap (near F ω l d table) (some_same (only g n e k)) ∙ k))
