-- A power, and the geometric sum in front of zeros, in either spelling. Assumes nothing.
use Prim.Native.Nat.{ℕ, ◌+◌, ◌-◌, ◌*◌, ◌<◌}
use native.Mathlib.Decide.{dec_lt}
use native.Mathlib.Nat.{le_refl}
use native.Mathlib.Omega.{arith}
use mathlib.Core.Path.{◌≡◌, sym, ap, ◌∙◌, subst}
use mathlib.Core.List.{List, ◌++◌}
use lib.ListN.{length, get_or, set, take, drop, get_or-eq_default}
use Rattle.definition.specs.Field.{Quad, Spelling, one, four, embed, elements_in, field_in, field_of, power, prime_field, prime_of, quads, quartic, spelling_of}
use Rattle.definition.specs.Polynomial.{evaluate, geometric}
use Rattle.algebra.specs.PrimeField.{laws}
use Rattle.algebra.specs.Quartic.{quad_path}
use Rattle.list_laws.specs.Filled.{Filled, FilledOver, filled_next}
use Rattle.sums.specs.ZeroPadding.{ZeroFrom}
use Rattle.spelling.specs.Field3.{field3}
use Rattle.spelling.specs.ByField.{ElementOf, field_at, elements_at, words_at, laws_at, at_three, at_one}
use Rattle.spelling.specs.Words.{elements_append, elements_drop, elements_take, quads_at}
use Rattle.quartic.specs.Meaning.{quad_of}
use Rattle.quartic.specs.declared.Four.{Four}
use Rattle.elements.specs.Meaning.{value_in, value_at}
use Rattle.lists.proofs.Interpolating.{filled_zeros, growth_is}

module _ (field : ℕ) (x r : Four) (e : ℕ) where
  pub power_three : field ≡ 3 → quad_of r ≡ power field3 (quad_of x) e → value_at field r ≡ power (field_at field) (value_at field x) e
  unfolding spelling_of prime_of field_in value_in
  power_three h q = at_three (λ n. value_at n r ≡ power (field_at n) (value_at n x) e) field h q

  pub power_one : {v : ℕ} → (field ≡ 3 → ⊥) → r.a ≡ v → v ≡ power (field_of field) x.a e → value_at field r ≡ power (field_at field) (value_at field x) e
  unfolding field_in value_in field_of
  power_one h er q = at_one (λ σ. value_in σ r ≡ power (field_in σ (prime_of field)) (value_in σ x) e) field h (er ∙ q)

-- words that are zeros spell zeros
words_zero : (σ : Spelling) (p : ℕ) (w : List ℕ) → ((k : ℕ) → get_or w k 0 ≡ 0) → (m : ℕ) → get_or (elements_in σ w) m (field_in σ p).𝟘 ≡ (field_in σ p).𝟘
unfolding elements_in field_in prime_field quartic embed
words_zero one p w h m = h m
words_zero four p w h m = go (dec_lt m (length (quads w)))
  where
    z : Quad ℕ
    z = embed (prime_field p) 0

    go : Dec (m < length (quads w)) → get_or (quads w) m z ≡ z
    go (yes l) = sym (quads_at w m z l) ∙ quad_path (h (4 * m)) (h (4 * m + 1)) (h (4 * m + 2)) (h (4 * m + 3))
    go (no l) = get_or-eq_default (quads w) z (omega arith)

pub filled_none : (field : ℕ) (old new : List ℕ) → Filled (λ _. 0) old new (length old) → ZeroFrom (field_at field) (elements_at field new) 0
unfolding field_of prime_field
filled_none field old new t m l = words_zero (spelling_of field) (prime_of field) new (λ k. filled_zeros (field_of 0) (laws 0) old new t k (omega arith)) m

-- the powers in the first words of zeros
pub factor_is : (field : ℕ) (c : ElementOf field) (e n : ℕ) (front old : List ℕ) → e < length (elements_at field old) → ZeroFrom (field_at field) (elements_at field old) 0 →
    n ≡ words_at field (e + 1) → length front ≡ n → elements_at field front ≡ geometric (field_at field) c (length (elements_at field (take n old)) - 1) →
    (x : ElementOf field) → evaluate (field_at field) (elements_at field (front ++ drop n old)) x ≡ evaluate (field_at field) (geometric (field_at field) c e) x
factor_is field c e n front old l h en size ef x =
    let σ = spelling_of field in
    let F = field_at field in
    ap (λ (k : ℕ). evaluate F (elements_at field (front ++ drop k old)) x) en
    ∙ ap (λ (v : List (ElementOf field)). evaluate F v x)
    (elements_append σ (e + 1) front (drop (words_at field (e + 1)) old) (size ∙ en) ∙ ap (λ (v : List (ElementOf field)). elements_at field front ++ v) (elements_drop σ (e + 1) old))
    ∙ (growth_is F (laws_at field) c e (elements_at field front) (elements_at field old) l h
    (ef ∙ ap (λ (k : ℕ). geometric F c (length (elements_at field (take k old)) - 1)) en ∙ ap (λ (v : List (ElementOf field)). geometric F c (length v - 1)) (elements_take σ (e + 1) old))).0 x

-- one entry more of a list that is filled from the front, where the entry goes by the one that is there
pub next_entry : {A : Type 0} {z : A} (f : ℕ → A) (old out new : List A) (j : ℕ) {x : A} → FilledOver z f old out j → j < length old → (get_or out j z ≡ get_or old j z → x ≡ f j) →
    new ≡ set out j x → FilledOver z f old new (j + 1)
next_entry {z = z} f old out new j {x} t l h e = subst (λ (v : List _). FilledOver z f old v (j + 1)) (sym e) (filled_next f old out j t l (h (t.left j (le_refl j))))
