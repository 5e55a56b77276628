-- Points of domains, which are numbers, as elements: tables of them, and their powers. Assumes nothing.
use Rattle.std.specs.Prelude.{ℕ, zero, suc, ◌≡◌, refl, List, [], ◌∷◌, map, length, get_or}
use Rattle.std.proofs.Common.{sym, ap, ◌∙◌}
use Rattle.std.proofs.lemmas.List.{length-map}
use Rattle.definition.specs.Field.{Field, Quad, Spelling, one, four, spelling_of, Element, embed, field_in, field_of, number_in, power, prime_field, prime_of, quartic}
use Rattle.algebra.specs.FieldIn.{zero_in}
use Rattle.algebra.specs.Laws.{FieldLaws}
use Rattle.algebra.specs.PrimeField.{laws}
use Rattle.algebra.specs.Quartic.{embed_minus_one, embed_power}
use Rattle.algebra.specs.RootsOfUnity.{minus_one}
use Rattle.spelling.specs.ByField.{field_at, points_at}

pub length_points : (field : ℕ) (pw : List ℕ) → length (points_at field pw) ≡ length pw
length_points field pw = length-map pw (number_in (spelling_of field))

map_get : {A B : Type 0} (f : A → B) (xs : List A) (i : ℕ) (z : A) → get_or (map f xs) i (f z) ≡ f (get_or xs i z)
map_get f [] i z = refl
map_get f (x ∷ xs) zero z = refl
map_get f (x ∷ xs) (suc i) z = map_get f xs i z

pub points_get : (field : ℕ) (pw : List ℕ) (i : ℕ) → get_or (points_at field pw) i (field_at field).𝟘 ≡ number_in (spelling_of field) (get_or pw i 0)
points_get field pw i = ap (get_or (points_at field pw) i) (zero_in (spelling_of field) (prime_of field)) ∙ map_get (number_in (spelling_of field)) pw i 0

-- ---- numbers in either spelling

pub number_same : (σ : Spelling) (x y : ℕ) → number_in σ x ≡ number_in σ y → x ≡ y
unfolding number_in
number_same one x y e = e
number_same four x y e = ap (λ (q : Quad ℕ). q.a) e

pub number_power : (field x n : ℕ) → power (field_at field) (number_in (spelling_of field) x) n ≡ number_in (spelling_of field) (power (field_of field) x n)
unfolding field_of field_in number_in embed prime_field
number_power field x n = go (spelling_of field) (prime_of field) (laws field)
  where
    go : (σ : Spelling) (p : ℕ) → FieldLaws (prime_field p) → power (field_in σ p) (number_in σ x) n ≡ number_in σ (power (prime_field p) x n)
    go one p L = refl
    go four p L = embed_power (prime_field p) L 11 x n

pub number_minus_one : (field : ℕ) → minus_one (field_at field) ≡ number_in (spelling_of field) (minus_one (field_of field))
unfolding field_of field_in number_in embed prime_field
number_minus_one field = go (spelling_of field) (prime_of field) (laws field)
  where
    go : (σ : Spelling) (p : ℕ) → FieldLaws (prime_field p) → minus_one (field_in σ p) ≡ number_in σ (minus_one (prime_field p))
    go one p L = refl
    go four p L = embed_minus_one (prime_field p) L 11
