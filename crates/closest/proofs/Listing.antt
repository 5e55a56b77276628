-- The turns of `numbers`, over any field.
use Prim.Native.Nat.{ℕ, zero, suc, ◌+◌, ◌≤◌, ◌<◌}
use native.Mathlib.Omega.{arith}
use mathlib.Core.Path.{◌≡◌, refl, sym, ap, ap₂, ◌∙◌, subst}
use mathlib.Core.Bool.{Bool, true, false, not}
use mathlib.Core.List.{List, [], ◌∷◌, ◌++◌, zip_with, append-nil}
use lib.ListN.{length, take, drop, get_or, set, drop_of_length-le, length-append, length-set, take-append-drop}
use lib.Seq.{drop-cons, take-suc-set, drop-set-lt, append_snoc, length-take-le}
use Rattle.definition.specs.Field.{Field}
use Rattle.nearest_definition.specs.Nearest.{all_true, differing_points}
use Rattle.decoding.specs.AllTrue.{count_most}
use Rattle.list_laws.specs.Lists.{zip_short}

after : (a b : List ℕ) (n : ℕ) → drop n a ≡ drop n b → drop (suc n) a ≡ drop (suc n) b
after a b n e = sym (one_more a n) ∙ ap (drop 1) e ∙ one_more b n
  where
    one_more : (c : List ℕ) (n : ℕ) → drop 1 (drop n c) ≡ drop (suc n) c
    one_more [] zero = refl
    one_more [] (suc n) = refl
    one_more (x ∷ c) zero = refl
    one_more (x ∷ c) (suc n) = one_more c n

module _ {A : Type 0} (F : Field A) where
  open F use {𝟘, equal}

  -- what is left to list from place i on
  unfoldable pub left : List A → List A → ℕ → List ℕ
  left xs ys i = all_true i (zip_with (λ x y. not (equal x y)) (drop i xs) (drop i ys))

  -- the first `count` places of out hold what was listed, and the others are as before
  pub record Listed (xs ys : List A) (out₀ out : List ℕ) (count i : ℕ) : Type 0 where
    pub whole : take count out ++ left xs ys i ≡ differing_points F xs ys
    pub kept : drop count out ≡ drop count out₀
    pub long : length out ≡ length out₀
    pub inside : count ≤ length out₀
    pub room : length (differing_points F xs ys) ≤ length out₀

  pub list_start : (xs ys : List A) (out : List ℕ) → length (differing_points F xs ys) ≤ length out → Listed xs ys out out 0 0
  unfolding left differing_points
  list_start xs ys out h = record { whole = refl; kept = refl; long = refl; inside = omega arith; room = h }

  pub list_end : (xs ys : List A) (out₀ out : List ℕ) (count i : ℕ) → Listed xs ys out₀ out count i → length xs ≤ i → out ≡ differing_points F xs ys ++ drop (length (differing_points F xs ys)) out₀
  unfolding left differing_points zip_with all_true
  list_end xs ys out₀ out count i l h =
      let nil : left xs ys i ≡ [] = ap (λ (a : List A). all_true i (zip_with (λ x y. not (equal x y)) a (drop i ys))) (drop_of_length-le xs {i = i} h) in
      let front : take count out ≡ differing_points F xs ys = sym (append-nil (take count out)) ∙ ap (λ (a : List ℕ). take count out ++ a) (sym nil) ∙ l.whole in
      let many : count ≡ length (differing_points F xs ys) = sym (length-take-le count out (omega (arith, l.inside, l.long))) ∙ ap length front in
      sym (take-append-drop count out) ∙ ap₂ (λ (a b : List ℕ). a ++ b) front (l.kept ∙ ap (λ (m : ℕ). drop m out₀) many)

  -- no more places than there are
  pub differing_most : (xs ys : List A) → length (differing_points F xs ys) ≤ length ys
  unfolding differing_points
  differing_most xs ys = omega (arith, count_most 0 (zip_with (λ x y. not (equal x y)) xs ys), zip_short (λ x y. not (equal x y)) xs ys)

  -- a turn of the loop, by the test b of place i
  module _ (xs ys : List A) (out₀ out : List ℕ) (count i : ℕ) (l : Listed xs ys out₀ out count i) (hx : i < length xs) (hy : i < length ys)
      (b : Bool) (is : b ≡ equal (get_or xs i 𝟘) (get_or ys i 𝟘)) where
    left_by : (other : Bool) → not b ≡ other → left xs ys i ≡ all_true i (other ∷ zip_with (λ x y. not (equal x y)) (drop (suc i) xs) (drop (suc i) ys))
    unfolding left zip_with
    left_by other e =
        ap₂ (λ (a c : List A). all_true i (zip_with (λ x y. not (equal x y)) a c)) (drop-cons xs i 𝟘 hx) (drop-cons ys i 𝟘 hy)
        ∙ ap (λ (c : Bool). all_true i (c ∷ zip_with (λ x y. not (equal x y)) (drop (suc i) xs) (drop (suc i) ys))) (ap not (sym is) ∙ e)

    left_other : not b ≡ true → left xs ys i ≡ i ∷ left xs ys (suc i)
    unfolding all_true left
    left_other e = left_by true e

    left_same : not b ≡ false → left xs ys i ≡ left xs ys (suc i)
    unfolding all_true left
    left_same e = left_by false e

    -- there is room for one more
    pub place_left : not b ≡ true → count < length out
    place_left e =
        let t : length (take count out) ≡ count = length-take-le count out (omega (arith, l.inside, l.long)) in
        let w : length (take count out) + length (left xs ys i) ≡ length (differing_points F xs ys) = sym (length-append (take count out) (left xs ys i)) ∙ ap length l.whole in
        let s : length (left xs ys i) ≡ suc (length (left xs ys (suc i))) = ap length (left_other e) in
        omega (arith, t, w, s, l.room, l.long)

    pub list_other : not b ≡ true → {r count' : ℕ} {out' : List ℕ} → r ≡ i → out' ≡ set out count r → count' ≡ count + 1 → Listed xs ys out₀ out' count' (i + 1)
    list_other e {r} {count'} {out'} er eo ec =
        let room : count < length out = place_left e in
        let one : count + 1 ≡ suc count = omega arith in
        let next : i + 1 ≡ suc i = omega arith in
        let turn : Listed xs ys out₀ (set out count r) (count + 1) (i + 1) = record {
          whole = ap₂ (λ (m k : ℕ). take m (set out count r) ++ left xs ys k) one next
              ∙ ap (λ (a : List ℕ). a ++ left xs ys (suc i)) (take-suc-set out count r room) ∙ append_snoc (take count out) r (left xs ys (suc i))
              ∙ ap (λ (a : List ℕ). take count out ++ a) (ap (λ (k : ℕ). k ∷ left xs ys (suc i)) er ∙ sym (left_other e)) ∙ l.whole;
          kept = ap (λ (m : ℕ). drop m (set out count r)) one ∙ drop-set-lt (suc count) out count r (omega arith) ∙ after out out₀ count l.kept ∙ ap (λ (m : ℕ). drop m out₀) (sym one);
          long = length-set out count r ∙ l.long;
          inside = omega (arith, room, l.long);
          room = l.room;
        } in
        subst (λ (a : List ℕ). Listed xs ys out₀ a count' (i + 1)) (sym eo) (subst (λ (c : ℕ). Listed xs ys out₀ (set out count r) c (i + 1)) (sym ec) turn)

    pub list_same : not b ≡ false → {count' : ℕ} {out' : List ℕ} → out' ≡ out → count' ≡ count → Listed xs ys out₀ out' count' (i + 1)
    list_same e {count'} {out'} eo ec =
        let next : i + 1 ≡ suc i = omega arith in
        let turn : Listed xs ys out₀ out count (i + 1) = record {
          whole = ap (λ (k : ℕ). take count out ++ left xs ys k) next ∙ ap (λ (a : List ℕ). take count out ++ a) (sym (left_same e)) ∙ l.whole;
          kept = l.kept;
          long = l.long;
          inside = l.inside;
          room = l.room;
        } in
        subst (λ (a : List ℕ). Listed xs ys out₀ a count' (i + 1)) (sym eo) (subst (λ (c : ℕ). Listed xs ys out₀ out c (i + 1)) (sym ec) turn)
