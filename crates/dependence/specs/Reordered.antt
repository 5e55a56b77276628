-- Coins in another order, over any field with the laws. The shift coins of a round: the outcome stays, and the places used are the same in another order.
-- The final coins: the same, where no final coin fails.
use Rattle.std.specs.Prelude.{ℕ, Bool, ◌≡◌, get_or}
use Rattle.std.proofs.Common.{arith, ap, ◌∙◌}
use Rattle.std.proofs.Math.Bool.{true, false, cond}
use mathlib.Core.List.Permᴰ
use mathlib.Core.List.{List, [], ◌∷◌, ◌++◌, flat_map, Permᴰ}
use Rattle.std.proofs.Math.Option.{Option, none, some}
use Rattle.std.proofs.Math.Path.{refl, sym, subst}
use Rattle.definition.specs.Deciding.{Decision, Function, Place, answers, coin_places, decide_final, decide_rest, differences, next_function, own_place, places_of, treated}
use Rattle.definition.specs.Domain.{fold_at, point, shift_point}
use Rattle.definition.specs.Field.{Field}
use Rattle.definition.specs.Lists.{first_true}
use Rattle.definition.specs.Polynomial.{Sample, clash, distinct, pair, points}
use Rattle.definition.specs.Sheet.{Level}
use Rattle.definition.specs.Transcript.{Rest, Round, final, round}
use Rattle.definition.specs.Verdict.{Outcome, accepted, refuse_at, refused}
use Rattle.algebra.specs.Different.{Apart}
use Rattle.algebra.specs.Laws.{FieldLaws}
use Rattle.list_laws.specs.All.{All}
use Rattle.layouts.specs.Tests.{all_false, at_none, none_true}
use Rattle.completeness.proofs.Divisors.{samples_apart}
use Rattle.dependence.specs.Orders.{perm_all, perm_clash, perm_corrected, perm_distinct, perm_map}

-- a round with other shift coins
unfoldable pub reshift : {A : Type 0} → Round A → List ℕ → Round A
reshift ρ js = record {
  coins = record { level = ρ.coins.level; outs = ρ.coins.outs; combination = ρ.coins.combination; fold = ρ.coins.fold; shifts = js };
  table = ρ.table;
  replies = ρ.replies;
}

-- lists joined, in another order
perm_flat : {A B : Type 0} (f : A → List B) {xs ys : List A} → Permᴰ xs ys → Permᴰ (flat_map f xs) (flat_map f ys)
unfolding flat_map
perm_flat f Permᴰ.nil = Permᴰ.nil
perm_flat {A} {B} f (Permᴰ.cons {a} {b} {l₁} {l₂} e d) =
    subst (λ (t : List B). Permᴰ (f a ++ flat_map f l₁) (t ++ flat_map f l₂)) (ap f e) (Permᴰ.append_left (f a) (perm_flat f d))
perm_flat {A} {B} f (Permᴰ.swap {a} {b} {a'} {b'} {l} e₁ e₂) =
    subst (λ (t : List B). Permᴰ (f a ++ (f b ++ flat_map f l)) t) (λ i. f (e₂ i) ++ (f (e₁ i) ++ flat_map f l)) (exchanged (f a) (f b) (flat_map f l))
  where
    exchanged : (xs ys zs : List B) → Permᴰ (xs ++ (ys ++ zs)) (ys ++ (xs ++ zs))
    exchanged [] ys zs = Permᴰ.refl (ys ++ zs)
    exchanged (x ∷ xs) ys zs = Permᴰ.trans (Permᴰ.cons refl (exchanged xs ys zs)) (Permᴰ.symm (Permᴰ.middle x ys (xs ++ zs)))
perm_flat f (Permᴰ.trans d₁ d₂) = Permᴰ.trans (perm_flat f d₁) (perm_flat f d₂)

-- two decisions with one outcome, by the same places in another order
pub record Alike (d e : Decision) : Type 0 where
  pub outcome_same : d.outcome ≡ e.outcome
  pub places_same : Permᴰ d.used e.used

alike_refl : (d : Decision) → Alike d d
alike_refl d = record { outcome_same = refl; places_same = Permᴰ.refl d.used }

pub alike_by : (a b c d : Decision) → a ≡ b → c ≡ d → Alike b d → Alike a c
alike_by a b c d e f k = record {
  outcome_same = ap (λ (x : Decision). x.outcome) e ∙ k.outcome_same ∙ ap (λ (x : Decision). x.outcome) (sym f);
  places_same = subst (λ (x : Decision). Permᴰ x.used c.used) (sym e) (subst (λ (x : Decision). Permᴰ b.used x.used) (sym f) k.places_same);
}

-- Two rests of a run that differ in the order of one round's shift coins, whose out coins are elements; or in the order of the final coins.
module _ {A : Type 0} (Element : A → Type 0) where
  pub data ShiftsTurned : Rest A → Rest A → Type 0 where
    here : (ρ : Round A) (js : List ℕ) (rest : Rest A) → All Element ρ.coins.outs → Permᴰ ρ.coins.shifts js → ShiftsTurned (round ρ rest) (round (reshift ρ js) rest)
    later : (ρ : Round A) (rest other : Rest A) → ShiftsTurned rest other → ShiftsTurned (round ρ rest) (round ρ other)

pub data FinalsTurned {A : Type 0} : Rest A → Rest A → Type 0 where
  here : (cs : List A) (js ks : List ℕ) → Permᴰ js ks → FinalsTurned (final cs js) (final cs ks)
  later : (ρ : Round A) (rest other : Rest A) → FinalsTurned rest other → FinalsTurned (round ρ rest) (round ρ other)

module _ {A : Type 0} (F : Field A) (ω : A) where
  -- other places used so far: the outcome does not depend on them
  used_turned : (rest : Rest A) (b : Level) (f : Function A) (r : A) (used more : List Place) → Permᴰ used more → Alike (decide_rest F ω b f r used rest) (decide_rest F ω b f r more rest)
  unfolding decide_rest decide_final
  used_turned (final cs js) b f r used more d = record { outcome_same = refl; places_same = Permᴰ.append_right _ d }
  used_turned (round ρ rest) b f r used more d =
      go (clash F (answers F ω b f.value r ρ)) _ _ _ _ (Permᴰ.append_right (places_of b f.places ρ.coins.shifts) d)
      (used_turned rest ρ.coins.level (next_function F ω (distinct F (answers F ω b f.value r ρ)) ρ) ρ.coins.fold (used ++ places_of b f.places ρ.coins.shifts) (more ++ places_of b f.places ρ.coins.shifts)
      (Permᴰ.append_right (places_of b f.places ρ.coins.shifts) d))
    where
      go : (c : Bool) (u v : List Place) (x y : Decision) → Permᴰ u v → Alike x y →
          Alike (cond c (record { outcome = refused 8 ρ.coins.level.number; used = u }) x) (cond c (record { outcome = refused 8 ρ.coins.level.number; used = v }) y)
      go true u v x y p e = record { outcome_same = refl; places_same = p }
      go false u v x y p e = e

module _ {A : Type 0} (F : Field A) (L : FieldLaws F) (ω : A) where
  open F use {𝟘, equal}
  open L use {reduce}

  abbrev pub Element : A → Type 0
  Element x = reduce x ≡ x

  perm_answers : (b : Level) (f : ℕ → A) (r : A) (ρ : Round A) (js : List ℕ) → Permᴰ ρ.coins.shifts js → Permᴰ (answers F ω b f r ρ) (answers F ω b f r (reshift ρ js))
  unfolding answers reshift
  perm_answers b f r ρ js d =
      Permᴰ.append_left (pair ρ.coins.outs ρ.replies) (perm_map {B = Sample A} (λ j. record { point = shift_point F ω b j; value = fold_at F ω b f r j }) d)

  -- the next function is the same
  next_same : (g h : List (Sample A)) (ρ : Round A) (js : List ℕ) → Permᴰ g h → Apart F (points g) → Apart F (points h) → next_function F ω g ρ ≡ next_function F ω h (reshift ρ js)
  unfolding next_function reshift
  next_same g h ρ js d ag ah = λ i. record {
    value = λ j. perm_corrected F L g h ρ.coins.combination (point F ω ρ.coins.level j) (get_or ρ.table j 𝟘) d ag ah i;
    places = own_place ρ.coins.level;
  }

  -- the shift coins of this round
  round_turned : (b : Level) (f : Function A) (r : A) (used : List Place) (ρ : Round A) (rest : Rest A) (js : List ℕ) → Permᴰ ρ.coins.shifts js →
      All Element ρ.coins.outs → Alike (decide_rest F ω b f r used (round ρ rest)) (decide_rest F ω b f r used (round (reshift ρ js) rest))
  unfolding decide_rest reshift places_of
  round_turned b f r used ρ rest js d elements =
      alike_by _ (cond (clash F h) clashed (after g ρ now)) _ _ (ap (λ (c : Bool). cond c clashed (after g ρ now)) (perm_clash F L p)) refl (go (clash F h) refl)
    where
      g : List (Sample A)
      g = answers F ω b f.value r ρ

      h : List (Sample A)
      h = answers F ω b f.value r (reshift ρ js)

      p : Permᴰ (answers F ω b f.value r ρ) (answers F ω b f.value r (reshift ρ js))
      p = perm_answers b f.value r ρ js d

      now : List Place
      now = used ++ places_of b f.places ρ.coins.shifts

      later : List Place
      later = used ++ places_of b f.places js

      moved : Permᴰ (used ++ places_of b f.places ρ.coins.shifts) (used ++ places_of b f.places js)
      moved = Permᴰ.append_left used (perm_flat (coin_places b f.places) d)

      clashed : Decision
      clashed = record { outcome = refused 8 ρ.coins.level.number; used = now }

      after : List (Sample A) → Round A → List Place → Decision
      after s σ u = decide_rest F ω ρ.coins.level (next_function F ω (distinct F s) σ) ρ.coins.fold u rest

      quiet : clash F (answers F ω b f.value r (reshift ρ js)) ≡ false → Alike (after g ρ now) (after h (reshift ρ js) later)
      quiet e =
          let q = perm_distinct F L p (perm_clash F L p ∙ e) in
          let ag = samples_apart F L ω b f.value r ρ elements in
          let ah = samples_apart F L ω b f.value r (reshift ρ js) elements in
          alike_by _ _ _ _ (ap (λ (k : Function A). decide_rest F ω ρ.coins.level k ρ.coins.fold now rest) (next_same (distinct F g) (distinct F h) ρ js q ag ah)) refl
          (used_turned F ω rest ρ.coins.level (next_function F ω (distinct F h) (reshift ρ js)) ρ.coins.fold now later moved)

      go : (c : Bool) → clash F (answers F ω b f.value r (reshift ρ js)) ≡ c →
          Alike (cond c clashed (after g ρ now)) (cond c (record { outcome = refused 8 ρ.coins.level.number; used = later }) (after h (reshift ρ js) later))
      go true e = record { outcome_same = refl; places_same = moved }
      go false e = quiet e

  -- SHIFT COINS of a round in another order: the outcome stays, and the places used are the same in another order.
  pub shifts_turned : (rest other : Rest A) → ShiftsTurned Element rest other → (b : Level) (f : Function A) (r : A) (used : List Place) → Alike (decide_rest F ω b f r used rest) (decide_rest F ω b f r used other)
  unfolding decide_rest
  shifts_turned _ _ (here ρ js rest elements d) b f r used = round_turned b f r used ρ rest js d elements
  shifts_turned _ _ (later ρ rest other t) b f r used =
      go (clash F (answers F ω b f.value r ρ)) _ _ (shifts_turned rest other t ρ.coins.level (next_function F ω (distinct F (answers F ω b f.value r ρ)) ρ) ρ.coins.fold (used ++ places_of b f.places ρ.coins.shifts))
    where
      go : (c : Bool) (x y : Decision) → Alike x y →
          Alike (cond c (record { outcome = refused 8 ρ.coins.level.number; used = used ++ places_of b f.places ρ.coins.shifts }) x)
          (cond c (record { outcome = refused 8 ρ.coins.level.number; used = used ++ places_of b f.places ρ.coins.shifts }) y)
      go true x y e = alike_refl _
      go false x y e = e

-- not refused for a final coin
abbrev pub NotNine : Outcome → Type 0
NotNine o = (q : ℕ) → o ≡ refused 9 q → ⊥

pub accepted_not : (o : Outcome) → o ≡ accepted → NotNine o
accepted_not o e q f = let z : ◌≡◌ {A = ℕ} 0 1 = cc in omega arith

module _ {A : Type 0} (F : Field A) (ω : A) where
  -- FINAL COINS in another order: where no final coin fails, the outcome stays, by the same places in another order.
  pub finals_turned : (rest other : Rest A) → FinalsTurned rest other → (b : Level) (f : Function A) (r : A) (used : List Place) → NotNine (decide_rest F ω b f r used rest).outcome →
      Alike (decide_rest F ω b f r used rest) (decide_rest F ω b f r used other)
  unfolding decide_rest decide_final differences places_of treated refuse_at
  finals_turned _ _ (here cs js ks d) b f r used e = go (first_true 0 (differences F ω b f.value r cs js)) refl
    where
      go : (o : Option ℕ) → first_true 0 (differences F ω b f.value r cs js) ≡ o → Alike (decide_rest F ω b f r used (final cs js)) (decide_rest F ω b f r used (final cs ks))
      go (some q) n = absurd (e q (ap (refuse_at 9) n))
      go none n =
          let m : first_true 0 (differences F ω b f.value r cs ks) ≡ none = none_true 0 (differences F ω b f.value r cs ks)
          (perm_all (λ (x : Bool). x ≡ false) (perm_map _ d) (all_false 9 0 (differences F ω b f.value r cs js) (at_none 9 _ n))) in
          record {
            outcome_same = at_none 9 _ n ∙ sym (at_none 9 _ m);
            places_same = subst (λ (o : Option ℕ). Permᴰ (used ++ places_of b f.places (treated js o)) (used ++ places_of b f.places (treated ks (first_true 0 (differences F ω b f.value r cs ks))))) (sym n)
                (subst (λ (o : Option ℕ). Permᴰ (used ++ places_of b f.places js) (used ++ places_of b f.places (treated ks o))) (sym m)
                (Permᴰ.append_left used (perm_flat (coin_places b f.places) d)));
          }
  finals_turned _ _ (later ρ rest other t) b f r used e =
      go (clash F (answers F ω b f.value r ρ)) _ _ e
      (finals_turned rest other t ρ.coins.level (next_function F ω (distinct F (answers F ω b f.value r ρ)) ρ) ρ.coins.fold (used ++ places_of b f.places ρ.coins.shifts))
    where
      go : (c : Bool) (x y : Decision) → NotNine (cond c (record { outcome = refused 8 ρ.coins.level.number; used = used ++ places_of b f.places ρ.coins.shifts }) x).outcome →
          (NotNine x.outcome → Alike x y) →
          Alike (cond c (record { outcome = refused 8 ρ.coins.level.number; used = used ++ places_of b f.places ρ.coins.shifts }) x)
          (cond c (record { outcome = refused 8 ρ.coins.level.number; used = used ++ places_of b f.places ρ.coins.shifts }) y)
      go true x y h k = alike_refl _
      go false x y h k = k h
