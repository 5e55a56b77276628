-- The candidate in either spelling: of one word it is the decoder's, of four words it is the candidates of the four planes.
use Prim.Native.Nat.{ℕ, ◌-◌, ◌*◌, ◌/◌, ◌≤◌, ◌<◌}
use native.Mathlib.Omega.{arith}
use mathlib.Core.Path.{◌≡◌, refl, sym, ap, ◌∙◌, subst}
use mathlib.Core.List.{List, [], ◌∷◌, map}
use mathlib.Core.Option.{Option, some}
use lib.ListN.{length}
use Rattle.definition.specs.Field.{Quad, elements_in, embed, field_in, field_of, four, number_in, one, prime_field, prime_of, quads, quartic, spelling_of, word_count}
use Rattle.algebra.specs.Coefficients.{Elements}
use Rattle.algebra.specs.FieldIn.{Below, below_in, reduced_in}
use Rattle.algebra.specs.Field3.{laws₃}
use Rattle.algebra.specs.Laws.{FieldLaws}
use Rattle.algebra.specs.PrimeField.{laws, suited}
use Rattle.list_laws.specs.All.{All, all_map}
use Rattle.list_laws.specs.Booleans.{some≢none}
use Rattle.decoding.specs.Errors.{wrong_at}
use Rattle.decoding.specs.FourPlanes.{found_by_planes, none_by_planes, part, plane_of}
use Rattle.decoder.specs.Answer.{polynomial_of}
use Rattle.decoder.specs.Steps.{OfElements}
use mathlib.Core.Bool.{Bool, true, false}
use Rattle.candidate.specs.Tables.{Candidate}
use Rattle.spelling.specs.ByField.{at_one, at_three, from_one, from_three, words_at}
use Rattle.spelling.specs.Words.{quads_many}
use Rattle.nearest_planes.specs.InEither.{FoundIn, polynomial_in}
use Rattle.nearest_planes.specs.Planes.{FourCandidates, plane}

some_same : {A : Type 0} {f g : List A} → ◌≡◌ {A = Option (List A)} (some f) (some g) → f ≡ g
some_same q = cc

same_map : (xs : List ℕ) → map (number_in one) xs ≡ xs
unfolding number_in
same_map [] = refl
same_map (x ∷ xs) = ap (λ (l : List ℕ). x ∷ l) (same_map xs)

-- the words of an element below p are below p, and the other way; p is the prime of a field
words_below : (field : ℕ) (f : List ℕ) → Elements (field_of field) (laws field) f → All (λ x. x < prime_of field) f
unfolding field_of field_in
words_below field f h = all_map f h (λ x e. below_in one (prime_of field) (laws field) (omega (arith, (suited field).large)) x e)

below_words : (field : ℕ) (f : List ℕ) → All (λ x. x < prime_of field) f → Elements (field_of field) (laws field) f
unfolding field_of field_in
below_words field f h = all_map f h (λ x l. reduced_in one (prime_of field) (laws field) x l)

-- ---- one word

module _ (field : ℕ) (pw table : List ℕ) (d : ℕ) (r : Bool) (out : List ℕ) where
  one_is : polynomial_of r out ≡ polynomial_in one r out
  unfolding polynomial_of polynomial_in elements_in
  one_is = go r
    where
      go : (x : Bool) → polynomial_of x out ≡ polynomial_in one x out
      go true = refl
      go false = refl

  long_in : (x : Bool) (f : List ℕ) → length out ≡ d → polynomial_in one x out ≡ some f → length f ≡ d
  unfolding polynomial_in elements_in
  long_in true f long e = ap length (sym (some_same e)) ∙ long
  long_in false f long e = absurd (some≢none f (sym e))

  found_one : length out ≡ d → Candidate field pw table d (polynomial_of r out) → OfElements field (polynomial_of r out) → FoundIn one field pw table d r out
  unfolding field_in field_of elements_in
  found_one long is elements = record {
    candidate = λ ω p f n b few.
        sym one_is ∙ is ω p f n (below_words field f b) (subst (λ (xs : List ℕ). length (wrong_at (field_of field) xs table f) ≤ (length pw - d) / 2) (same_map pw) few);
    in_range = λ f e. (long_in r f long e, words_below field f (elements f (one_is ∙ e)));
  }

  pub by_one : (field ≡ 3 → ⊥) → length out ≡ words_at field d → Candidate field pw table d (polynomial_of r out) → OfElements field (polynomial_of r out) →
      FoundIn (spelling_of field) field pw table d r out
  unfolding word_count
  by_one h long is elements = at_one (λ σ. FoundIn σ field pw table d r out) field h (found_one (from_one (λ σ. length out ≡ word_count σ d) field h long) is elements)

-- ---- four words

four_laws : FieldLaws (quartic (prime_field (prime_of 3)) 11)
unfolding prime_of
four_laws = laws₃

-- elements whose four planes are below p are in range
planes_below : (xs : List (Quad ℕ)) → ((k : ℕ) → k < 4 → All (λ x. x < prime_of 3) (map (part k) xs)) → All (Below four (prime_of 3)) xs
planes_below [] h = tt
planes_below (q ∷ xs) h =
    (((h 0 (omega arith)).0, (h 1 (omega arith)).0, (h 2 (omega arith)).0, (h 3 (omega arith)).0), planes_below xs (λ k l. (h k l).1))

module _ (pw table : List ℕ) (d : ℕ) (out : List ℕ) (entries : length table ≡ 4 * length pw) (long : length out ≡ 4 * d) where
  table_plane : (k : ℕ) → k < 4 → plane k (length pw) table ≡ map (part k) (quads table)
  unfolding plane
  table_plane k h = plane_of k h (length pw) table entries

  out_plane : (k : ℕ) → k < 4 → plane k d out ≡ map (part k) (quads out)
  unfolding plane
  out_plane k h = plane_of k h d out long

  elements_four : (f : List (Quad ℕ)) → All (Below four (prime_of 3)) f → Elements (quartic (prime_field (prime_of 3)) 11) four_laws f
  unfolding field_in
  elements_four f b = all_map f b (λ x l. reduced_in four (prime_of 3) four_laws x l)

  found_four : (r : Bool) → FourCandidates 3 pw table d out r → FoundIn four 3 pw table d r out
  unfolding polynomial_in elements_in field_in number_in embed prime_field field_of
  found_four true is = record {
    candidate = λ ω p f n b few.
        ap {B = Option (List (Quad ℕ))} some
        (found_by_planes (field_of 3) (laws 3) 11 four_laws pw (quads table) d ((length pw - d) / 2) (quads out)
        (λ k h g lg eg fg. ap {B = Option (List ℕ)} some (sym (out_plane k h)) ∙ (is k h).0 ω p g lg eg (subst (λ (ys : List ℕ). length (wrong_at (field_of 3) pw ys g) ≤ (length pw - d) / 2) (sym (table_plane k h)) fg))
        f n (elements_four f b) few);
    in_range = λ f e.
        let same : quads out ≡ f = some_same e in
        subst (λ (g : List (Quad ℕ)). (length g ≡ d) × All (Below four (prime_of 3)) g) same
        (quads_many d out long, planes_below (quads out) (λ k h. words_below 3 (map (part k) (quads out)) (subst (Elements (field_of 3) (laws 3)) (out_plane k h) (is k h).1)));
  }
  found_four false is = record {
    candidate = λ ω p f n b few. absurd
        (none_by_planes (field_of 3) (laws 3) 11 four_laws pw (quads table) d ((length pw - d) / 2) is.0 is.1.0
        (λ g lg eg fg. is.1.1 ω p g lg eg (subst (λ (ys : List ℕ). length (wrong_at (field_of 3) pw ys g) ≤ (length pw - d) / 2) (sym (table_plane is.0 is.1.0)) fg))
        f n (elements_four f b) few);
    in_range = λ f e. absurd (some≢none f (sym e));
  }

pub by_four : (field : ℕ) (pw table : List ℕ) (d : ℕ) (r : Bool) (out : List ℕ) → field ≡ 3 → length table ≡ 4 * length pw → length out ≡ 4 * d → FourCandidates field pw table d out r →
    FoundIn (spelling_of field) field pw table d r out
unfolding spelling_of
by_four field pw table d r out h entries long is =
    at_three (λ n. FoundIn (spelling_of n) n pw table d r out) field h (found_four pw table d out entries long r (from_three (λ n. FourCandidates n pw table d out r) field h is))

-- the words of n elements, four each
pub words_three : (field n m : ℕ) → field ≡ 3 → m ≡ words_at field n → m ≡ 4 * n
unfolding spelling_of word_count
words_three field n m h e = from_three (λ k. m ≡ words_at k n) field h e

pub words_one : (field n m : ℕ) → (field ≡ 3 → ⊥) → m ≡ words_at field n → m ≡ n
unfolding word_count
words_one field n m h e = from_one (λ σ. m ≡ word_count σ n) field h e
