-- Tests in order find the first fault: no fault where they accept, and where they refuse the first by the turns of numbers and places.
use Rattle.std.specs.Prelude.{ℕ, suc, ◌+◌, ◌≤◌, ◌<◌, Bool, List, ◌≡◌, length, get_or}
use Rattle.std.proofs.Math.Decide.{dec_lt}
use native.Mathlib.Omega.{arith}
use Rattle.std.proofs.Math.Bool.{true, false, true≢false}
use Rattle.std.proofs.Math.Option.{Option, none, some}
use Rattle.std.proofs.Math.Path.{refl, ap, subst}
use Rattle.std.proofs.Common.{sym, ◌∙◌}
use Rattle.definition.specs.Lists.{first_true}
use Rattle.definition.specs.Verdict.{Outcome, ◌then◌, accepted, refuse_at, refuse_if, refused}
use Rattle.list_laws.specs.First.{FirstAt, first_true_lem}

-- P n q: there is a fault of number n at place q; turn n q: the turn of place q among the places of number n; order n: that of number n among the tests
module _ (P : ℕ → (ℕ → Type 0)) (turn : ℕ → ℕ → ℕ) (order : ℕ → ℕ) (own_turn : (m n : ℕ) → order m ≡ order n → m ≡ n) where
  -- what an outcome of the tests from turn `from` on says
  abbrev pub Exact : ℕ → Outcome → Type 0
  Exact from accepted = (n q : ℕ) → from ≤ order n → P n q → ⊥
  Exact from (refused n q) = (from ≤ order n) × P n q × ((r : ℕ) → turn n r < turn n q → P n r → ⊥) × ((m r : ℕ) → from ≤ order m → order m < order n → P m r → ⊥)

  -- no fault of one number, and what the tests after it say
  pub exact_none : (number : ℕ) (o : Outcome) → ((q : ℕ) → P number q → ⊥) → Exact (suc (order number)) o → Exact (order number) o
  exact_none number o clear h = go o h
    where
      from : ℕ
      from = order number

      least : (m r : ℕ) → from ≤ order m → P m r → (suc from ≤ order m → ⊥) → ⊥
      least m r l p k = let e : m ≡ number = own_turn m number (same_turn (dec_lt from (order m))) in clear r (subst (λ (x : ℕ). P x r) e p)
        where
          same_turn : Dec (from < order m) → order m ≡ order number
          same_turn (yes u) = absurd (k (omega arith))
          same_turn (no u) = omega arith

      go : (x : Outcome) → Exact (suc from) x → Exact from x
      go accepted k = λ n q l p. least n q l p (λ u. k n q u p)
      go (refused n q) k = (omega (arith, k.0), k.1, k.2, λ m r l u p. least m r l p (λ v. k.3 m r v u p))

  -- a test of one fault at one place
  pub exact_if : (number place : ℕ) (b : Bool) (rest : Outcome) → (b ≡ true → P number place) → ((q : ℕ) → P number q → (q ≡ place) × (b ≡ true)) →
      (((q : ℕ) → P number q → ⊥) → Exact (suc (order number)) rest) → Exact (order number) (refuse_if number place b then rest)
  unfolding refuse_if ◌then◌
  exact_if number place true rest sound complete next =
      (omega arith, sound refl, λ r l p. absurd (omega (arith, ap (turn number) (complete r p).0)), λ m r l u p. absurd (omega arith))
  exact_if number place false rest sound complete next =
      let clear : (q : ℕ) → P number q → ⊥ = λ q p. true≢false (sym (complete q p).1) in exact_none number rest clear (next clear)

  -- a list of tests whose places are in the order of their turns
  pub exact_places : (number : ℕ) (place : ℕ → ℕ) (bs : List Bool) (o : Option ℕ) (rest : Outcome) → FirstAt place bs o →
      ((i j : ℕ) → i < length bs → j < length bs → turn number (place i) < turn number (place j) → i < j) →
      ((j : ℕ) → j < length bs → get_or bs j false ≡ true → P number (place j)) →
      ((q : ℕ) → P number q → (j : ℕ) × (q ≡ place j) × (j < length bs) × (get_or bs j false ≡ true)) →
      (((q : ℕ) → P number q → ⊥) → Exact (suc (order number)) rest) → Exact (order number) (refuse_at number o then rest)
  unfolding refuse_at ◌then◌
  exact_places number place bs o rest first rises sound complete next = go o first
    where
      go : (x : Option ℕ) → FirstAt place bs x → Exact (order number) (refuse_at number x then rest)
      go none h =
          let clear : (q : ℕ) → P number q → ⊥ = λ q p. let c = complete q p in true≢false (sym c.3 ∙ h c.0 c.2) in exact_none number rest clear (next clear)
      go (some q) h = (
        omega arith,
        subst (P number) (sym h.1) (sound h.0 h.2 h.3),
        λ r l p. let c = complete r p in
            true≢false (sym c.3 ∙ h.4 c.0 (rises c.0 h.0 c.2 h.2 (omega (arith, l, ap (turn number) c.1, ap (turn number) h.1)))),
        λ m r l u p. absurd (omega arith),
      )

  -- places from `start` on, each of which is its own turn
  pub exact_at : (number start : ℕ) (bs : List Bool) (rest : Outcome) → ((q : ℕ) → turn number q ≡ q) → ((j : ℕ) → j < length bs → get_or bs j false ≡ true → P number (start + j)) →
      ((q : ℕ) → P number q → (j : ℕ) × (q ≡ start + j) × (j < length bs) × (get_or bs j false ≡ true)) →
      (((q : ℕ) → P number q → ⊥) → Exact (suc (order number)) rest) → Exact (order number) (refuse_at number (first_true start bs) then rest)
  exact_at number start bs rest own =
      exact_places number (λ j. start + j) bs (first_true start bs) rest (first_true_lem start bs) (λ i j li lj l. omega (arith, l, own (start + i), own (start + j)))

  -- What the outcome says is all: the converse of both cases, for faults from turn 1 on.
  module _ (o : Outcome) (exact : Exact 1 o) (numbered : (n q : ℕ) → P n q → 1 ≤ order n) (apart : (n q r : ℕ) → P n q → P n r → turn n q ≡ turn n r → q ≡ r) where
    pub accepted_then : o ≡ accepted → (n q : ℕ) → P n q → ⊥
    accepted_then e n q p = subst (Exact 1) e exact n q (numbered n q p) p

    pub none_then : ((n q : ℕ) → P n q → ⊥) → o ≡ accepted
    none_then h = go o exact
      where
        go : (x : Outcome) → Exact 1 x → x ≡ accepted
        go accepted k = refl
        go (refused n q) k = absurd (h n q k.1)

    pub refused_then : (n q : ℕ) → o ≡ refused n q → P n q × ((r : ℕ) → turn n r < turn n q → P n r → ⊥) × ((m r : ℕ) → order m < order n → P m r → ⊥)
    refused_then n q e = let k = subst (Exact 1) e exact in (k.1, k.2, λ m r l p. k.3 m r (numbered m r p) l p)

    pub first_then : (n q : ℕ) → P n q → ((r : ℕ) → turn n r < turn n q → P n r → ⊥) → ((m r : ℕ) → order m < order n → P m r → ⊥) → o ≡ refused n q
    first_then n q there place number = go o exact
      where
        go : (x : Outcome) → Exact 1 x → x ≡ refused n q
        go accepted k = absurd (k n q (numbered n q there) there)
        go (refused m r) k = least (dec_lt (order m) (order n)) (dec_lt (order n) (order m))
          where
            same : m ≡ n → refused m r ≡ refused n q
            same e = λ i. refused (e i) (places (dec_lt (turn n r) (turn n q)) (dec_lt (turn n q) (turn n r)) i)
              where
                here : P n r
                here = subst (λ (x : ℕ). P x r) e k.1

                places : Dec (turn n r < turn n q) → Dec (turn n q < turn n r) → r ≡ q
                places (yes l) d = absurd (place r l here)
                places (no l) (yes u) = absurd (subst (λ (x : ℕ). turn x q < turn x r → P x q → ⊥) e (k.2 q) u there)
                places (no l) (no u) = apart n r q here there (omega arith)

            least : Dec (order m < order n) → Dec (order n < order m) → refused m r ≡ refused n q
            least (yes l) d = absurd (number m r l k.1)
            least (no l) (yes u) = absurd (k.3 n q (numbered n q there) u there)
            least (no l) (no u) = same (own_turn m n (omega arith))
