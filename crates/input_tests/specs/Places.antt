-- Refusal 5 of an order: words whose limit is p by their numbers, then others by theirs after all of them.
use Rattle.std.specs.Prelude.{ℕ, suc, ◌+◌, ◌≡◌, Bool, true, false, length, replicate}
use Rattle.std.proofs.Common.{add-suc, arith, sym, ap, ◌∙◌}
use Rattle.std.proofs.Math.Path.{refl}
use mathlib.Core.List.{List, [], ◌∷◌, ◌++◌, map, zip_with}
use Rattle.std.proofs.Math.Option.{Option, none, some}
use Rattle.std.proofs.Math.Dec.{leb}
use Rattle.std.proofs.lemmas.List.{length-map}
use Rattle.definition.specs.Layout.{Kind, limit}
use Rattle.definition.specs.Lists.{first_true}
use Rattle.definition.specs.Reading.{out_of_range}
use Rattle.definition.specs.Sheet.{Sheet}
use Rattle.domain.specs.OutCoins.{or_else}

-- the first of two lists of tests
first_append : (from : ℕ) (bs cs : List Bool) → first_true from (bs ++ cs) ≡ or_else (first_true from bs) (first_true (from + length bs) cs)
unfolding first_true
first_append from [] cs = let e : from ≡ from + 0 = omega arith in ap (λ (n : ℕ). first_true n cs) e
first_append from (true ∷ bs) cs = refl
first_append from (false ∷ bs) cs =
    first_append (suc from) bs cs
    ∙ (let e : suc from + length bs ≡ from + suc (length bs) = omega arith in ap (λ (n : ℕ). or_else (first_true (suc from) bs) (first_true n cs)) e)

-- a place, counted after n others
abbrev after : ℕ → Option ℕ → Option ℕ
after n none = none
after n (some place) = some (n + place)

first_after : (n from : ℕ) (bs : List Bool) → first_true (n + from) bs ≡ after n (first_true from bs)
unfolding first_true
first_after n from [] = refl
first_after n from (true ∷ bs) = refl
first_after n from (false ∷ bs) = ap (λ (m : ℕ). first_true m bs) (sym (add-suc n from)) ∙ first_after n (suc from) bs

-- words f of one kind, whose limit is p, and words of other kinds after them
module _ (h : Sheet) (k : Kind) (below : limit h.prime k ≡ h.prime) (ks : List Kind) (f others : List ℕ) where
  abbrev tests : List Bool
  tests = map (leb h.prime) f

  row : zip_with (out_of_range h) (replicate (length f) k ++ ks) (f ++ others) ≡ tests ++ zip_with (out_of_range h) ks others
  unfolding zip_with out_of_range
  row = go f
    where
      go : (g : List ℕ) → zip_with (out_of_range h) (replicate (length g) k ++ ks) (g ++ others) ≡ map (leb h.prime) g ++ zip_with (out_of_range h) ks others
      go [] = refl
      go (x ∷ g) = λ i. leb (below i) x ∷ go g i

  module _ (n : ℕ) (count : length f ≡ n) where
    abbrev whole : Option ℕ
    whole = first_true 0 (zip_with (out_of_range h) (replicate n k ++ ks) (f ++ others))

    abbrev rest : Option ℕ
    rest = first_true 0 (zip_with (out_of_range h) ks others)

    either : or_else (first_true 0 tests) (after (length f) rest) ≡ whole
    either =
        let e : 0 + length tests ≡ length f + 0 = omega (arith, length-map f (leb h.prime)) in
        let later = zip_with (out_of_range h) ks others in
        sym
        (ap (λ (m : ℕ). first_true 0 (zip_with (out_of_range h) (replicate m k ++ ks) (f ++ others))) (sym count) ∙ ap (first_true 0) row ∙ first_append 0 tests later
        ∙ ap (λ (m : ℕ). or_else (first_true 0 tests) (first_true m later)) e ∙ ap (or_else (first_true 0 tests)) (first_after (length f) 0 later))

    by_places : (o o' : Option ℕ) → o ≡ first_true 0 tests → o' ≡ rest → or_else o (after (length f) o') ≡ whole
    by_places o o' e e' = (λ i. or_else (e i) (after (length f) (e' i))) ∙ either

    -- a word of f, one of the others, or none
    pub in_front : (place : ℕ) → some place ≡ first_true 0 (map (leb h.prime) f) → some place ≡ first_true 0 (zip_with (out_of_range h) (replicate n k ++ ks) (f ++ others))
    in_front place e = by_places (some place) rest e refl

    pub in_others : (place : ℕ) → none ≡ first_true 0 (map (leb h.prime) f) → some place ≡ first_true 0 (zip_with (out_of_range h) ks others) →
        some (length f + place) ≡ first_true 0 (zip_with (out_of_range h) (replicate n k ++ ks) (f ++ others))
    in_others place e e' = by_places none (some place) e e'

    pub in_neither : none ≡ first_true 0 (map (leb h.prime) f) → none ≡ first_true 0 (zip_with (out_of_range h) ks others) →
        none ≡ first_true 0 (zip_with (out_of_range h) (replicate n k ++ ks) (f ++ others))
    in_neither e e' = by_places none none e e'
