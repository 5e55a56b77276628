-- A row of tests refuses exactly with its first fault, by FirstFaults of the crate `completeness`. Tests are told apart by their turns, since two
-- of them may have one number.
use Prim.Native.Nat.{ℕ, suc, ◌<◌}
use Rattle.std.proofs.Common.{arith, ◌∙◌, subst}
use Rattle.std.specs.Prelude.{Bool, List, ◌↔◌, length}
use Rattle.std.proofs.Math.Bool.{true, false, cond}
use Rattle.std.proofs.Math.Option.{Option, none, some}
use Rattle.std.proofs.Math.Path.{◌≡◌, refl, sym, ap}
use Rattle.std.proofs.Math.Dec.{eqb}
use Rattle.std.proofs.Math.ListN.{get_or-eq_default}
use Rattle.std.proofs.Math.Decide.{dec_lt}
use borrow.Author.Tests.{eqb-true}
use Rattle.definition.specs.Prove.{done, finish, refusal}
use Rattle.definition.specs.Sheet.{Edition, sheet_length}
use Rattle.definition.specs.Verdict.{Outcome, ◌then◌, accepted, refuse_at, refuse_if, refused}
use Rattle.layouts.specs.PlainRules.{word_turn}
use Rattle.layouts.proofs.RulesByWord.{turns_differ}
use Rattle.completeness.specs.Faults.{turn_of}
use Rattle.completeness.specs.FirstFaults.{Exact, accepted_then, first_then, none_then, refused_then}
use Rattle.completeness.proofs.ProveAccepted.{finish_done}
use Rattle.refusals.specs.InputFaults.{FirstFailure, NoFailure, Test, test_at}

-- an outcome of tests that are called by their turns, with their numbers
unfoldable pub named : (ℕ → ℕ) → Outcome → Outcome
named number accepted = accepted
named number (refused t q) = refused (number t) q

module _ (number : ℕ → ℕ) where
  pub named_if : (t q : ℕ) (b : Bool) → named number (refuse_if t q b) ≡ refuse_if (number t) q b
  unfolding refuse_if named
  named_if t q true = refl
  named_if t q false = refl

  pub named_at : (t : ℕ) (o : Option ℕ) → named number (refuse_at t o) ≡ refuse_at (number t) o
  unfolding refuse_at named
  named_at t none = refl
  named_at t (some q) = refl

  pub named_then : (a b : Outcome) → named number (a then b) ≡ (named number a then named number b)
  unfolding ◌then◌ named
  named_then accepted b = refl
  named_then (refused t q) b = refl

  -- one test more in front
  pub next : (a b c d : Outcome) → named number a ≡ c → named number b ≡ d → named number (a then b) ≡ (c then d)
  next a b c d e f = named_then a b ∙ (λ i. e i then f i)

  named_refused : (o : Outcome) (n q : ℕ) → named number o ≡ refused n q → (t : ℕ) × (number t ≡ n) × (o ≡ refused t q)
  unfolding named
  named_refused accepted n q e = let z : ◌≡◌ {A = ℕ} 0 1 = cc in absurd (omega arith)
  named_refused (refused t r) n q e = let number_is : number t ≡ n = cc in let place : r ≡ q = cc in (t, number_is, ap (refused t) place)

  named_accepted : (o : Outcome) → named number o ≡ accepted → o ≡ accepted
  unfolding named
  named_accepted accepted e = refl
  named_accepted (refused t r) e = let z : ◌≡◌ {A = ℕ} 0 1 = cc in absurd (omega arith)

-- an operation refuses as its tests do
finish_refused : (o : Outcome) (count n q : ℕ) (written output : List ℕ) → ((finish o count written output).answer ≡ refusal n q) ↔ (o ≡ refused n q)
unfolding finish
finish_refused o count n q written output = (λ e. forth o e, λ e. ap (λ (x : Outcome). (finish x count written output).answer) e)
  where
    forth : (x : Outcome) → (finish x count written output).answer ≡ refusal n q → x ≡ refused n q
    forth accepted e = let z : ◌≡◌ {A = ℕ} 0 1 = cc in absurd (omega arith)
    forth (refused m r) e = let number : m ≡ n = cc in let place : r ≡ q = cc in λ i. refused (number i) (place i)

-- no two tests have one turn
pub own : (m n : ℕ) → suc m ≡ suc n → m ≡ n
own m n e = omega arith

module _ (ed : Edition) (tests : List Test) where
  abbrev pub FaultOf : ℕ → (ℕ → Type 0)
  FaultOf t = (test_at tests t).Fault

  abbrev pub number_of : ℕ → ℕ
  number_of t = (test_at tests t).number

  abbrev pub place_turn : ℕ → ℕ → ℕ
  place_turn t q = turn_of ed (test_at tests t).number q

  -- what the tests from turn `from` on say
  abbrev pub ExactRow : ℕ → Outcome → Type 0
  ExactRow from o = Exact FaultOf place_turn suc own from o

  -- a test with a fault is one of the row
  pub of_row : (n q : ℕ) → FirstFailure ed tests n q → (t : ℕ) × (t < length tests) × ((test_at tests t).number ≡ n)
  of_row n q f = (f.at, go (dec_lt f.at (length tests)), f.number_is)
    where
      go : Dec (f.at < length tests) → f.at < length tests
      go (yes l) = l
      go (no l) = absurd (subst (λ (x : Test). x.Fault q) (get_or-eq_default tests _ {n = f.at} (omega arith)) f.there)

  -- the outcome o is that of the row, of which the rules of a sheet have places in it
  module _ (o row : Outcome) (same : named number_of row ≡ o) (exact : ExactRow 1 row) (rules : (t q : ℕ) → number_of t ≡ 3 → FaultOf t q → q < sheet_length ed) where
    apart : (t q r : ℕ) → FaultOf t q → FaultOf t r → place_turn t q ≡ place_turn t r → q ≡ r
    unfolding turn_of
    apart t q r p u e = go (eqb (number_of t) 3) refl e
      where
        go : (b : Bool) → eqb (number_of t) 3 ≡ b → cond b (word_turn ed q) q ≡ cond b (word_turn ed r) r → q ≡ r
        go true s f = let three = eqb-true (number_of t) 3 s in turns_differ ed q r (rules t q three p) (rules t r three u) f
        go false s f = f

    pub row_refused : (n q : ℕ) → (o ≡ refused n q) ↔ FirstFailure ed tests n q
    unfolding named
    row_refused n q = (
      λ e. let s = named_refused number_of row n q (same ∙ e) in
          let r = refused_then FaultOf place_turn suc own row exact (λ t q p. omega arith) apart s.0 q s.2 in
          record {
            at = s.0;
            number_is = s.1;
            there = r.0;
            place_first = λ x l. r.1 x (subst (λ (m : ℕ). turn_of ed m x < turn_of ed m q) (sym s.1) l);
            test_first = λ t x l. r.2 t x (omega arith);
          },
      λ f. sym same ∙ ap (named number_of) (first_then FaultOf place_turn suc own row exact (λ t q p. omega arith) apart f.at q f.there
          (λ x l. f.place_first x (subst (λ (m : ℕ). turn_of ed m x < turn_of ed m q) f.number_is l)) (λ t x l. f.test_first t x (omega arith)))
          ∙ ap (λ (m : ℕ). refused m q) f.number_is,
    )

    pub row_accepted : (o ≡ accepted) ↔ NoFailure tests
    unfolding named
    row_accepted = (
      λ e. accepted_then FaultOf place_turn suc own row exact (λ t q p. omega arith) apart (named_accepted number_of row (same ∙ e)),
      λ k. sym same ∙ ap (named number_of) (none_then FaultOf place_turn suc own row exact (λ t q p. omega arith) apart k),
    )

    -- what an operation answers after its tests
    module _ (count : ℕ) (written output : List ℕ) where
      pub answer_refused : (n q : ℕ) → ((finish o count written output).answer ≡ refusal n q) ↔ FirstFailure ed tests n q
      answer_refused n q = let a = finish_refused o count n q written output in let r = row_refused n q in (λ e. r.0 (a.0 e), λ f. a.1 (r.1 f))

      pub answer_done : (due : ℕ) → (NoFailure tests → count ≡ due) → (n : ℕ) → ((finish o count written output).answer ≡ done n) ↔ ((n ≡ due) × NoFailure tests)
      unfolding finish
      answer_done due size n = (
        λ e. let d = finish_done o count n written output e in
            let k = row_accepted.0 d.0 in
            (sym d.1 ∙ size k, k),
        λ k. ap (λ (x : Outcome). (finish x count written output).answer) (row_accepted.1 k.1) ∙ ap done (size k.1 ∙ sym k.0),
      )
