-- The coefficients of the product of 1 - aX, and the quotient by sums, from turn to turn. Assumes nothing.
use Prim.Native.Nat.{ℕ, zero, suc, ◌+◌, ◌-◌, ◌≤◌, ◌<◌, min}
use native.Mathlib.Decide.{dec_lt}
use native.Mathlib.Nat.{le_refl}
use native.Mathlib.Numerals.{add-one}
use native.Mathlib.Omega.{arith}
use mathlib.Core.Path.{◌≡◌, refl, sym, ap, ap₂, ◌∙◌, subst}
use mathlib.Core.List.{List, [], ◌∷◌, ◌++◌}
use lib.ListN.{length, take, drop, get_or, set, length-append, length-drop, length-set, get_or-append, drop_of_length-le, get_or-eq_default}
use lib.Seq.{drop-cons, ext_get_or, get_or-append_right, get_or-drop, get_or-take, length-take-le, take_at}
use Rattle.std.proofs.lemmas.List.{take-append-le}
use Rattle.definition.specs.Field.{Field, power}
use Rattle.definition.specs.Polynomial.{geometric, quotient}
use Rattle.algebra.specs.Laws.{FieldLaws}
use Rattle.algebra.specs.Lengths.{length_geometric, length_quotient}
use Rattle.algebra.specs.RingLaws.{zero_mul}
use Rattle.algebra.specs.Solver.{:0, :1, ◌:+◌, ◌:*◌, ◌:=◌, solve₁}
use Rattle.list_laws.specs.Filled.{FilledOver, filled_next}
use Rattle.list_laws.specs.Backwards.{drop_back}
use Rattle.sums.specs.Sums.{geometric_power, products, products_swap}
use Rattle.division.specs.BackToFront.{part_store, unchanged}
use Rattle.division.specs.LongDivision.{Dividing, Divides, coefficient_is, products_front, sums_next, sums_none}

-- ---- the sum of what is behind

module _ {A : Type 0} (F : Field A) where
  -- a sum ends where the shorter list does
  pub products_cut : (n : ℕ) (l w : List A) → min (length l) (length w) ≤ n → products F (take n l) w ≡ products F l w
  unfolding products
  products_cut zero [] w h = refl
  products_cut (suc n) [] w h = refl
  products_cut zero (a ∷ l) [] h = refl
  products_cut (suc n) (a ∷ l) [] h = refl
  products_cut zero (a ∷ l) (b ∷ w) h = absurd (omega arith)
  products_cut (suc n) (a ∷ l) (b ∷ w) h = ap (F.◌⊕◌ (F.◌⊗◌ a b)) (products_cut n l w (omega arith))

-- ---- one factor more

module _ {A : Type 0} (F : Field A) (d : A) (w₀ : List A) where
  infixl 65 ◌⊕◌ ◌⊖◌
  infixl 70 ◌⊗◌
  open F use {𝟘, ◌⊕◌, ◌⊖◌, ◌⊗◌}

  abbrev pub raised_at : ℕ → A
  raised_at m = get_or w₀ m 𝟘 ⊕ d ⊗ get_or (𝟘 ∷ w₀) m 𝟘

  abbrev pub Raised : List A → A → ℕ → Type 0
  Raised w below i = FilledOver 𝟘 raised_at w₀ w i × (below ≡ get_or (𝟘 ∷ w₀) i 𝟘)

  pub raise_turn : (w : List A) (below : A) (i : ℕ) {r : A} → i < length w₀ → Raised w below i → r ≡ get_or w i 𝟘 ⊕ d ⊗ below → Raised (set w i r) (get_or w i 𝟘) (i + 1)
  raise_turn w below i l h er =
      let same = h.0.left i (le_refl i) in (
        filled_next raised_at w₀ w i h.0 l (er ∙ ap₂ (λ (a b : A). a ⊕ d ⊗ b) same h.1),
        same ∙ ap (λ (n : ℕ). get_or (𝟘 ∷ w₀) n 𝟘) (sym (add-one i)),
      )

  -- the first n coefficients raised, and the others left
  pub raised_front : (w : List A) (n : ℕ) → n ≤ length w₀ → FilledOver 𝟘 (λ m. get_or (take n w₀) m 𝟘 ⊕ d ⊗ get_or (𝟘 ∷ take n w₀) m 𝟘) (take n w₀) w (length (take n w₀)) →
      FilledOver 𝟘 raised_at w₀ (w ++ drop n w₀) n
  raised_front w n h t =
      let front : length (take n w₀) ≡ n = length-take-le n w₀ h in
      let long : length w ≡ n = t.same ∙ front in record {
        same = simp (length-append, length-drop) (omega arith);
        passed = λ k l. get_or-append w (drop n w₀) 𝟘 k (omega arith) ∙ t.passed k (omega arith) ∙ ap₂ (λ (a b : A). a ⊕ d ⊗ b) (get_or-take n w₀ k 𝟘 l) (below k l);
        left = λ k l. get_or-append_right w (drop n w₀) k 𝟘 (omega arith) ∙ get_or-drop n w₀ (k - length w) 𝟘 ∙ ap (λ (m : ℕ). get_or w₀ m 𝟘) (omega arith);
      }
    where
      below : (k : ℕ) → k < n → get_or (𝟘 ∷ take n w₀) k 𝟘 ≡ get_or (𝟘 ∷ w₀) k 𝟘
      below zero l = refl
      below (suc k) l = get_or-take n w₀ k 𝟘 (omega arith)

  module _ (L : FieldLaws F) (xs w : List A) (n : ℕ) (size : n ≡ length xs + 2) (room : n ≤ length w₀) (before : Dividing F L xs w₀) (fill : FilledOver 𝟘 raised_at w₀ w n) where
    beyond : (m : ℕ) → n ≤ m → 𝟘 ≡ raised_at m
    beyond zero l = absurd (omega arith)
    beyond (suc m) l =
        sym ((λ i. before.few (suc m) (omega arith) i ⊕ d ⊗ before.few m (omega arith) i) ∙ solve₁ F L (λ d. :0 :+ d :* :0 := :0) tt d)

    each : (m : ℕ) → get_or w m 𝟘 ≡ raised_at m
    each m = go (dec_lt m n)
      where
        go : Dec (m < n) → get_or w m 𝟘 ≡ raised_at m
        go (yes l) = fill.passed m l
        go (no l) = fill.left m (omega arith) ∙ before.few m (omega arith) ∙ beyond m (omega arith)

    pub dividing_next : (a : A) → d ≡ 𝟘 ⊖ a → Dividing F L (a ∷ xs) w
    dividing_next a ed = record {
      one = each 0 ∙ ap (λ (v : A). v ⊕ d ⊗ 𝟘) before.one ∙ solve₁ F L (λ d. :1 :+ d :* :0 := :1) tt d;
      few = λ m l. fill.left m (omega arith) ∙ before.few m (omega arith);
      sums = sums_next F L a xs w₀ w fill.same last (λ m l. each m ∙ ap (λ (t : A). get_or w₀ m 𝟘 ⊕ t ⊗ get_or (𝟘 ∷ w₀) m 𝟘) ed) before.sums;
    }
      where
        last : (m : ℕ) → length w₀ ≤ m → get_or (𝟘 ∷ w₀) m 𝟘 ≡ 𝟘
        last zero l = refl
        last (suc m) l = before.few m (omega arith)

module _ {A : Type 0} (F : Field A) (L : FieldLaws F) where
  infixl 65 ◌⊖◌
  open F use {𝟘, 𝟙, ◌⊖◌}

  -- one point more in front of those from number i on
  pub dividing_more : (d : A) (all w₀ w : List A) (i : ℕ) → 0 < i → i ≤ length all → length all - (i - 1) + 1 ≤ length w₀ → Dividing F L (drop i all) w₀ →
      FilledOver 𝟘 (raised_at F d w₀) w₀ w (length all - (i - 1) + 1) → d ≡ 𝟘 ⊖ get_or all (i - 1) 𝟘 → Dividing F L (drop (i - 1) all) w
  dividing_more d all w₀ w i pos few room before fill ed =
      subst (λ (l : List A). Dividing F L l w) (sym (drop_back all 𝟘 i pos few))
      (dividing_next F d w₀ L (drop i all) w (length all - (i - 1) + 1) (omega (arith, length-drop i all)) room before fill (get_or all (i - 1) 𝟘) ed)

  -- the powers of 0 are 1 and then zeros
  pub dividing_none : (w : List A) (n : ℕ) → w ≡ geometric F 𝟘 n → Dividing F L [] w
  unfolding power
  dividing_none w n e = record { one = one; few = few; sums = sums_none F L w one few }
    where
      one : get_or w 0 𝟘 ≡ 𝟙
      one = ap (λ (l : List A). get_or l 0 𝟘) e ∙ geometric_power F L 𝟘 n 0 (omega arith)

      zero_word : (m : ℕ) → power F 𝟘 (suc m) ≡ 𝟘
      zero_word m = zero_mul F L (power F 𝟘 m)

      go : (m : ℕ) → Dec (m < n) → get_or w (suc m) 𝟘 ≡ 𝟘
      go m (yes l) = ap (λ (l : List A). get_or l (suc m) 𝟘) e ∙ geometric_power F L 𝟘 n (suc m) l ∙ zero_word m
      go m (no l) = get_or-eq_default w 𝟘 (omega (arith, ap length e, length_geometric F 𝟘 n))

      few : (m : ℕ) → 1 ≤ m → get_or w m 𝟘 ≡ 𝟘
      few zero l = absurd (omega arith)
      few (suc m) l = go m (dec_lt m n)

  -- all but the first
  pub divides_is : (xs w v : List A) (e : ℕ) → 0 < length xs → length xs ≡ e → e < length w → v ≡ take e (drop 1 w) → Dividing F L xs w → Divides F L xs v
  divides_is xs w v e pos size room ev h = record {
    some = pos;
    many = long ∙ sym size;
    sums = λ f j. sym (products_front F L (𝟙 ∷ v) w (drop j (quotient F f xs)) same) ∙ h.sums f j;
  }
    where
      long : length v ≡ e
      long = ap length ev ∙ length-take-le e (drop 1 w) (omega (arith, length-drop 1 w))

      go : (m : ℕ) → Dec (m < e) → get_or w (suc m) 𝟘 ≡ get_or v m 𝟘
      go m (yes l) = sym (ap (λ (r : List A). get_or r m 𝟘) ev ∙ get_or-take e (drop 1 w) m 𝟘 l ∙ get_or-drop 1 w m 𝟘 ∙ ap (λ (n : ℕ). get_or w n 𝟘) (one_more m))
        where
          one_more : (m : ℕ) → 1 + m ≡ suc m
          one_more m = omega arith
      go m (no l) = h.few (suc m) (omega arith) ∙ sym (get_or-eq_default v 𝟘 (omega (arith, long)))

      same : (m : ℕ) → get_or w m 𝟘 ≡ get_or (𝟙 ∷ v) m 𝟘
      same zero = h.one
      same (suc m) = go m (dec_lt m e)

  -- ---- the quotient, from its last coefficient to its first

  pub record Summing (w f₀ : List A) (count : ℕ) (f : List A) (i : ℕ) : Type 0 where
    pub same : length f ≡ length f₀
    pub below : (j : ℕ) → j < i → get_or f j 𝟘 ≡ get_or f₀ j 𝟘
    pub above : (xs : List A) → Divides F L xs w → take (count - i) (drop i f) ≡ drop (i - length w) (quotient F (take count f₀) xs)

  pub summing_first : (w f₀ : List A) (count : ℕ) → count ≤ length f₀ → Summing w f₀ count f₀ count
  summing_first w f₀ count inside = record {
    same = refl;
    below = λ j l. refl;
    above = λ xs h.
        let none : count - count ≡ 0 = omega arith in
        let few : length (quotient F (take count f₀) xs) ≤ count - length w = omega (arith, length_quotient F (take count f₀) xs, length-take-le count f₀ inside, h.many) in
        ap (λ (n : ℕ). take n (drop count f₀)) none ∙ sym (drop_of_length-le (quotient F (take count f₀) xs) few);
  }

  pub summing_next : (w f₀ : List A) (count : ℕ) (f : List A) (i : ℕ) {s v : A} → length w < i → i ≤ count → count ≤ length f₀ → Summing w f₀ count f i →
      s ≡ products F (take (count - i) (drop i f)) w → v ≡ get_or f (i - 1) 𝟘 ⊖ s → Summing w f₀ count (set f (i - 1) v) (i - 1)
  summing_next w f₀ count f i {s} {v} more few inside h es ev = record {
    same = length-set f (i - 1) v ∙ h.same;
    below = unchanged 𝟘 f f₀ i v h.below (omega arith);
    above = λ xs d.
        let q = quotient F (take count f₀) xs in
        let j = i - 1 - length w in
        let next : suc j ≡ i - length w = omega arith in
        let place : length xs + j ≡ i - 1 = omega (arith, d.many) in
        let long : j < length q = omega (arith, length_quotient F (take count f₀) xs, length-take-le count f₀ inside, d.many) in
        let front : drop j q ≡ get_or q j 𝟘 ∷ drop (suc j) q = drop-cons q j 𝟘 long in
        let rest : take (count - i) (drop i f) ≡ drop (suc j) q = h.above xs d ∙ ap (λ (n : ℕ). drop n q) (sym next) in
        let sum : s ≡ products F w (drop (suc j) q) = es ∙ ap (λ (l : List A). products F l w) rest ∙ products_swap F L (drop (suc j) q) w in
        let read : get_or f (i - 1) 𝟘 ≡ get_or (take count f₀) (length xs + j) 𝟘 =
        h.below (i - 1) (omega arith) ∙ sym (get_or-take count f₀ (i - 1) 𝟘 (omega arith)) ∙ ap (λ (n : ℕ). get_or (take count f₀) n 𝟘) (sym place) in
        let value : v ≡ get_or q j 𝟘 = ev ∙ ap₂ (λ (a b : A). a ⊖ b) read sum ∙ sym (coefficient_is F L (take count f₀) xs w j (drop (suc j) q) d.some d.sums front) in
        part_store f count i v (omega arith) few (omega (arith, h.same)) ∙ (λ z. value z ∷ rest z) ∙ sym front;
  }

  pub summing_last : (w f₀ : List A) (count : ℕ) (f : List A) (i : ℕ) → i ≡ length w → Summing w f₀ count f i →
      (xs : List A) → Divides F L xs w → take (count - length w) (drop (length w) f) ≡ quotient F (take count f₀) xs
  summing_last w f₀ count f i e h xs d =
      let none : length w - length w ≡ 0 = omega arith in
      (λ z. take (count - sym e z) (drop (sym e z) f)) ∙ h.above xs d ∙ (λ z. drop (e z - length w) (quotient F (take count f₀) xs))
      ∙ ap (λ (n : ℕ). drop n (quotient F (take count f₀) xs)) none

  -- ---- all together

  pub divided : (xs f₀ f₁ f₂ v rest : List A) (count e : ℕ) → Divides F L xs v → length v ≡ e → length f₁ ≡ count →
      ((xs : List A) → Divides F L xs v → drop (length v) f₁ ≡ quotient F (take count f₀) xs) →
      length f₂ ≡ length (take count (f₁ ++ drop count f₀)) →
      take (length (take count (f₁ ++ drop count f₀)) - e) f₂ ≡ drop e (take count (f₁ ++ drop count f₀)) →
      take (count - e) (f₂ ++ rest) ≡ quotient F (take count f₀) xs
  divided xs f₀ f₁ f₂ v rest count e d size long sums same moved =
      let back : take count (f₁ ++ drop count f₀) ≡ f₁ = take_at f₁ (drop count f₀) count long in
      let n : length (take count (f₁ ++ drop count f₀)) ≡ count = ap length back ∙ long in
      take-append-le (count - e) f₂ rest (omega arith) ∙ ap (λ (m : ℕ). take (m - e) f₂) (sym n) ∙ moved ∙ ap (drop e) back
      ∙ ap (λ (m : ℕ). drop m f₁) (sym size) ∙ sums xs d

-- ---- elements moved

pub moved : {A : Type 0} (z : A) (f₀ f : List A) (e n : ℕ) → e + n ≤ length f₀ → FilledOver z (λ m. get_or f₀ (e + m) z) f₀ f n → take n f ≡ take n (drop e f₀)
moved z f₀ f e n inside t =
    let long : length (take n f) ≡ n = length-take-le n f (omega (arith, t.same)) in
    let long₀ : length (take n (drop e f₀)) ≡ n = length-take-le n (drop e f₀) (omega (arith, length-drop e f₀)) in
    ext_get_or z (take n f) (take n (drop e f₀)) (long ∙ sym long₀)
    (λ i l. get_or-take n f i z (omega (arith, long)) ∙ t.passed i (omega (arith, long)) ∙ sym (get_or-take n (drop e f₀) i z (omega (arith, long)) ∙ get_or-drop e f₀ i z))
