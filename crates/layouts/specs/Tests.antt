-- Tests: what the passing of a test says, and what makes it pass.
use Rattle.std.specs.Prelude.{ℕ, suc, ◌≤◌, Bool, true, false, not, List, [], ◌∷◌, ◌≡◌, refl, eqb, length}
use Rattle.std.proofs.Common.{arith, eqb-true}
use Rattle.std.proofs.Math.Option.{Option, none, some}
use Rattle.std.proofs.lemmas.Bool.{not-false}
use Rattle.definition.specs.Lists.{first_of, first_true}
use Rattle.definition.specs.Verdict.{Outcome, Verdict, ◌then◌, accepted, refuse_at, refuse_if, refused, then_verdict}
use Rattle.list_laws.specs.All.{All}

-- what a test that passes says
pub if_passes : (n p : ℕ) (b : Bool) → refuse_if n p b ≡ accepted → b ≡ false
unfolding refuse_if
if_passes n p true e = let z : ◌≡◌ {A = ℕ} 0 1 = cc in absurd (omega arith)
if_passes n p false e = refl

pub at_passes : (n : ℕ) (o : Option ℕ) → refuse_at n o ≡ accepted → o ≡ none
unfolding refuse_at
at_passes n none e = refl
at_passes n (some p) e = let z : ◌≡◌ {A = ℕ} 0 1 = cc in absurd (omega arith)

pub equal_passes : (n p a b : ℕ) → refuse_if n p (not (eqb a b)) ≡ accepted → a ≡ b
equal_passes n p a b e = eqb-true a b (not-false (eqb a b) (if_passes n p (not (eqb a b)) e))

pub then_passes : (a b : Outcome) → (a then b) ≡ accepted → (a ≡ accepted) × (b ≡ accepted)
unfolding ◌then◌
then_passes accepted b e = (refl, e)
then_passes (refused n p) b e = let z : ◌≡◌ {A = ℕ} 0 1 = cc in absurd (omega arith)

pub verdict_passes : (o : Outcome) (v : Verdict) → (then_verdict o v).outcome ≡ accepted → (o ≡ accepted) × (v.outcome ≡ accepted)
unfolding then_verdict
verdict_passes accepted v e = (refl, e)
verdict_passes (refused n p) v e = let z : ◌≡◌ {A = ℕ} 0 1 = cc in absurd (omega arith)

pub all_false : (n from : ℕ) (bs : List Bool) → refuse_at n (first_true from bs) ≡ accepted → All (λ (b : Bool). b ≡ false) bs
unfolding first_true refuse_at
all_false n from [] e = tt
all_false n from (true ∷ bs) e = let z : ◌≡◌ {A = ℕ} 0 1 = cc in absurd (omega arith)
all_false n from (false ∷ bs) e = (refl, all_false n (suc from) bs e)

pub none_of : (n : ℕ) (ns : List ℕ) (bs : List Bool) → length bs ≤ length ns → refuse_at n (first_of ns bs) ≡ accepted → All (λ (b : Bool). b ≡ false) bs
unfolding first_of refuse_at
none_of n [] [] l e = tt
none_of n [] (b ∷ bs) l e = absurd (omega arith)
none_of n (m ∷ ns) [] l e = tt
none_of n (m ∷ ns) (true ∷ bs) l e = let z : ◌≡◌ {A = ℕ} 0 1 = cc in absurd (omega arith)
none_of n (m ∷ ns) (false ∷ bs) l e = (refl, none_of n ns bs (omega arith) e)

-- what makes a test pass
pub if_false : (n p : ℕ) (b : Bool) → b ≡ false → refuse_if n p b ≡ accepted
unfolding refuse_if
if_false n p b e = rw e

pub none_true : (from : ℕ) (bs : List Bool) → All (λ (b : Bool). b ≡ false) bs → first_true from bs ≡ none
unfolding first_true
none_true from [] h = refl
none_true from (b ∷ bs) h = rw h.0 (none_true (suc from) bs h.1)

pub none_found : (ns : List ℕ) (bs : List Bool) → All (λ (b : Bool). b ≡ false) bs → first_of ns bs ≡ none
unfolding first_of
none_found [] bs h = refl
none_found (n ∷ ns) [] h = refl
none_found (n ∷ ns) (b ∷ bs) h = rw h.0 (none_found ns bs h.1)

pub at_none : (n : ℕ) (o : Option ℕ) → o ≡ none → refuse_at n o ≡ accepted
unfolding refuse_at
at_none n o e = rw e
