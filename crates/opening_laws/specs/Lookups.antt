-- THE OPENED ENTRIES: where the openings are those of given places, each of these places has its own entry, and the places that coins lead to are among those due.
use Rattle.std.specs.Prelude.{ℕ, zero, suc, ◌+◌, ◌-◌, ◌≤◌, ◌<◌, Bool, true, false, cond, ◌⊎◌, ◌≡◌, refl, eqb}
use Rattle.std.proofs.Common.{eq-zero-or-pos, arith, true≢false, inl, inr, ⊎_elim, sym, ap, ap₂, ◌∙◌, subst, eq-eqb, eqb-true}
use mathlib.Core.List.{List, [], ◌∷◌, ◌++◌, map, flat_map}
use Rattle.std.proofs.Math.Option.{none}
use Rattle.definition.specs.Lists.{member, range}
use Rattle.definition.specs.Sheet.{Sheet, Level}
use Rattle.definition.specs.Domain.{root_numbers}
use Rattle.definition.specs.Deciding.{Place, same_place}
use Rattle.list_laws.specs.All.{All, all_left, all_right}
use Rattle.list_laws.specs.Booleans.{and_true}
use Rattle.list_laws.specs.Members.{all_members}
use Rattle.openings.specs.Openings.{place_in, entry_in, opened_entry, reached, due_at, first_other}

-- equal places
pub place_is : (a b : Place) → same_place a b ≡ true → a ≡ b
unfolding same_place
place_is a b e =
    let both = and_true (eqb a.table b.table) (eqb a.number b.number) e in
    ap₂ {C = Place} (λ t n. record { table = t; number = n }) (eqb-true a.table b.table both.0) (eqb-true a.number b.number both.1)

pub same_place_lem : (a : Place) → same_place a a ≡ true
unfolding same_place
same_place_lem a = rw (eq-eqb a.table a.table refl, eq-eqb a.number a.number refl)

-- a list of places differs nowhere from itself
pub no_other : (q : ℕ) (ps : List Place) → first_other q ps ps ≡ none
unfolding first_other
no_other q [] = refl
no_other q (p ∷ ps) = rw (same_place_lem p) (no_other (suc q) ps)

-- among places
unfoldable pub Among : Place → List Place → Type 0
Among p [] = ⊥
Among p (q ∷ qs) = (p ≡ q) ⊎ Among p qs

pub among_left : (p : Place) (xs ys : List Place) → Among p xs → Among p (xs ++ ys)
unfolding Among
among_left p [] ys a = absurd a
among_left p (x ∷ xs) ys (inl e) = inl e
among_left p (x ∷ xs) ys (inr a) = inr (among_left p xs ys a)

pub among_right : (p : Place) (xs ys : List Place) → Among p ys → Among p (xs ++ ys)
unfolding Among
among_right p [] ys a = a
among_right p (x ∷ xs) ys a = inr (among_right p xs ys a)

among_range : (f : ℕ → List Place) (p : Place) (from count m : ℕ) → from ≤ m → m < from + count → Among p (f m) → Among p (flat_map f (range from count))
unfolding flat_map range
among_range f p from zero m a b q = absurd (omega arith)
among_range f p from (suc count) m a b q =
    ⊎_elim (λ z. let e : m ≡ from = omega arith in among_left p (f from) _ (subst (λ (k : ℕ). Among p (f k)) e q))
    (λ z. among_right p (f from) _ (among_range f p (suc from) count m (omega arith) (omega arith) q)) (eq-zero-or-pos (m - from))

-- a place that a coin leads to is due
pub due_at_lem : (l : Level) (js : List ℕ) (m : ℕ) → m < l.size → reached l js m ≡ true → Among (record { table = l.number; number = m }) (due_at l js)
unfolding due_at Among
due_at_lem l js m h e =
    among_range (λ k. cond (reached l js k) (record { table = l.number; number = k } ∷ []) []) (record { table = l.number; number = m }) 0 l.size m (omega arith) (omega arith) (rw e (inl refl))

-- the roots of each index are reached
all_parts : {A : Type 0} (P : ℕ → Type 0) (f : A → List ℕ) (xs : List A) → All P (flat_map f xs) → All (λ x. All P (f x)) xs
unfolding flat_map
all_parts P f [] h = tt
all_parts P f (x ∷ xs) h = (all_left P (f x) (flat_map f xs) h, all_parts P f xs (all_right P (f x) (flat_map f xs) h))

pub roots_reached : (l : Level) (js : List ℕ) → All (λ j. All (λ m. reached l js m ≡ true) (root_numbers l j)) js
unfolding reached
roots_reached l js = all_parts (λ m. member eqb m (flat_map (root_numbers l) js) ≡ true) (root_numbers l) js (all_members (flat_map (root_numbers l) js))

-- the entry of a place among those opened
pub entry_found : (h : Sheet) (opening : Place → List ℕ) (ps : List Place) (p : Place) → All (λ q. place_in (opening q) ≡ q) ps → Among p ps → opened_entry h (map opening ps) p ≡ entry_in h (opening p)
unfolding opened_entry Among
entry_found h opening [] p k a = absurd a
entry_found h opening (q ∷ ps) p k a = go (same_place (place_in (opening q)) p) refl a (entry_found h opening ps p k.1)
  where
    go : (b : Bool) → same_place (place_in (opening q)) p ≡ b → (p ≡ q) ⊎ Among p ps → (Among p ps → opened_entry h (map opening ps) p ≡ entry_in h (opening p)) → cond b (entry_in h (opening q)) (opened_entry h (map opening ps) p) ≡ entry_in h (opening p)
    go true e c ih = ap (λ (x : Place). entry_in h (opening x)) (sym k.0 ∙ place_is (place_in (opening q)) p e)
    go false e (inl c) ih = absurd (true≢false (sym (same_place_lem p) ∙ ap (λ (x : Place). same_place x p) (c ∙ sym k.0) ∙ e))
    go false e (inr c) ih = ih c
