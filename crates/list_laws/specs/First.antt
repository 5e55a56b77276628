-- The first test that is true, by place.
use Rattle.std.specs.Prelude.{ℕ, zero, suc, ◌+◌, ◌≤◌, ◌<◌, Bool, true, false, List, [], ◌∷◌, ◌≡◌, refl, length, get_or}
use Rattle.std.proofs.Common.{add-zero, add-suc, suc-add, arith, sym, ◌∙◌, subst}
use Rattle.std.proofs.Math.Option.{Option, none, some}
use Rattle.definition.specs.Lists.{first_of, first_true}

-- the place of the first true one, where test j has a place, or none where all are false
abbrev pub FirstAt : (ℕ → ℕ) → List Bool → Option ℕ → Type 0
FirstAt place bs none = (j : ℕ) → j < length bs → get_or bs j false ≡ false
FirstAt place bs (some q) = (j : ℕ) × (q ≡ place j) × (j < length bs) × (get_or bs j false ≡ true) × ((i : ℕ) → i < j → get_or bs i false ≡ false)

-- one false test before the others
later : (p q : ℕ → ℕ) (bs : List Bool) (o : Option ℕ) → ((j : ℕ) → p j ≡ q (suc j)) → FirstAt p bs o → FirstAt q (false ∷ bs) o
later p q bs o e h = go o h
  where
    none_before : (n : ℕ) → ((i : ℕ) → i < n → get_or bs i false ≡ false) → (i : ℕ) → i < suc n → get_or (false ∷ bs) i false ≡ false
    none_before n k zero l = refl
    none_before n k (suc i) l = k i (omega arith)

    go : (x : Option ℕ) → FirstAt p bs x → FirstAt q (false ∷ bs) x
    go none k = none_before (length bs) k
    go (some r) k = (suc k.0, k.1 ∙ e k.0, omega (arith, k.2), k.3, none_before k.0 k.4)

-- places that go up from one on, and places in a list
abbrev pub FirstTrue : ℕ → List Bool → Option ℕ → Type 0
FirstTrue start bs o = FirstAt (λ j. start + j) bs o

pub first_true_lem : (start : ℕ) (bs : List Bool) → FirstTrue start bs (first_true start bs)
unfolding first_true
first_true_lem start [] = λ j l. absurd (omega arith)
first_true_lem start (true ∷ bs) = (0, sym (add-zero start), omega arith, refl, λ i l. absurd (omega arith))
first_true_lem start (false ∷ bs) = later (λ j. suc start + j) (λ j. start + j) bs (first_true (suc start) bs) (λ j. suc-add start j ∙ sym (add-suc start j)) (first_true_lem (suc start) bs)

pub first_of_lem : (ns : List ℕ) (bs : List Bool) → length bs ≤ length ns → FirstAt (λ j. get_or ns j 0) bs (first_of ns bs)
unfolding first_of
first_of_lem [] [] l = λ j u. absurd (omega arith)
first_of_lem [] (b ∷ bs) l = absurd (omega arith)
first_of_lem (n ∷ ns) [] l = λ j u. absurd (omega arith)
first_of_lem (n ∷ ns) (true ∷ bs) l = (0, refl, omega arith, refl, λ i u. absurd (omega arith))
first_of_lem (n ∷ ns) (false ∷ bs) l = later (λ j. get_or ns j 0) (λ j. get_or (n ∷ ns) j 0) bs (first_of ns bs) (λ j. refl) (first_of_lem ns bs (omega arith))

-- the first of some tests that is true has its number among theirs
pub first_below : (from : ℕ) (bs : List Bool) (i : ℕ) → first_true from bs ≡ some i → i < from + length bs
first_below from bs i e = let k = subst (FirstTrue from bs) e (first_true_lem from bs) in omega (arith, k.1, k.2)
