-- The values at the k roots of a point by sums of products and a table by halves, and the numerators there. Assumes nothing.
use Prim.Native.Nat.{ℕ, zero, suc, ◌+◌, ◌-◌, ◌*◌, ◌/◌, ◌≤◌, ◌<◌}
use mathlib.Core.Path.{◌≡◌, refl, sym, ap, ◌∙◌, subst}
use mathlib.Core.List.{List, ◌∷◌, ◌++◌}
use native.Mathlib.Nat.{mul-div_cancel_left, suc-mul}
use native.Mathlib.Omega.{arith}
use lib.ListN.{length, get_or, take, drop, length-drop, get_or-append}
use lib.Seq.{get_or-take, length-take-le, take_at, take-take}
use Rattle.definition.specs.Field.{Field}
use Rattle.definition.specs.Polynomial.{evaluate}
use Rattle.algebra.specs.Laws.{FieldLaws}
use Rattle.list_laws.specs.Filled.{FilledOver}
use Rattle.sums.specs.AtRoots.{every_nth, sums_at}
use Rattle.sums.specs.Sums.{products}
use Rattle.tables.specs.Halving.{Halves}
use Rattle.root_quotients.specs.Rooted.{Rooted, numerator_in, growth_in}

-- ---- a polynomial's values at the roots

pub halves_same : {A : Type 0} {F : Field A} {pw : List A} {at step k : ℕ} {powers : List A} → Rooted F pw at step k powers → (n m : ℕ) → n ≡ k → m ≡ k → Halves n m
halves_same r n m en em = record { log = r.log; log_size = r.log; count_is = en ∙ r.two; size_is = em ∙ r.two; fits = omega arith }

-- every stride-th element of the front of a list, as far as it goes
pub every_front : {A : Type 0} (F : Field A) (f : List A) (w from stride count : ℕ) → from + count * stride < w + stride → every_nth F (take w f) from stride count ≡ every_nth F f from stride count
unfolding every_nth
every_front F f w from stride zero h = refl
every_front F f w from stride (suc count) h =
    let less : from + count * stride < w = omega (arith, suc-mul count stride) in
    λ i. get_or-take w f from F.𝟘 (omega arith) i ∷ every_front F f w (from + stride) stride count (omega arith) i

module _ {A : Type 0} (F : Field A) (L : FieldLaws F) {pw : List A} {at step k : ℕ} {powers : List A} (r : Rooted F pw at step k powers) where
  open F use {𝟘}

  -- where the sums are k and the table has their values, those of the first words of f
  at_root : (f sums out : List A) → k * length powers ≤ length f → length sums ≡ k →
      ((m : ℕ) → m < k → get_or sums m 𝟘 ≡ products F (every_nth F f m k (length powers)) powers) → ((m : ℕ) → m < k → get_or out m 𝟘 ≡ evaluate F sums (get_or pw (at + step * m) 𝟘)) →
      (m : ℕ) → m < k → get_or out m 𝟘 ≡ evaluate F (take (k * length powers) f) (get_or pw (at + step * m) 𝟘)
  at_root f sums out long size each table m l =
      let words = k * length powers in
      let n = length powers - 1 in
      let whole : length powers ≡ suc n = omega (arith, r.nonempty) in
      let few : length (take words f) ≤ suc n * k = omega (arith, length-take-le words f long, ap (λ (c : ℕ). k * c) whole) in
      table m l
      ∙ sums_at F L (take words f) sums n k (get_or pw (at + step * m) 𝟘) r.y few size (r.root m l)
      (λ i u. each i u ∙ ap (λ (t : List A). products F t powers) (sym (every_front F f words i k (length powers) (omega arith)))
      ∙ (λ j. products F (every_nth F (take words f) i k (whole j)) (r.list j)))

  -- by a part of a scratch array for the sums, into a part of a longer list
  pub at_roots_is : (f room sums old front : List A) → k * length powers ≤ length f → k ≤ length room → k ≤ length old → length sums ≡ length (take k room) →
      ((m : ℕ) → m < length (take k room) → get_or sums m 𝟘 ≡ products F (every_nth F f m (length (take k room)) (length powers)) powers) →
      length front ≡ length (take k old) →
      ((m : ℕ) → m < length (take k old) → get_or front m 𝟘 ≡ evaluate F (take k (sums ++ drop k room)) (get_or pw (at + step * m) 𝟘)) →
      (m : ℕ) → m < k → get_or (front ++ drop k old) m 𝟘 ≡ evaluate F (take (k * length powers) f) (get_or pw (at + step * m) 𝟘)
  at_roots_is f room sums old front long in-room in-old ls each lf table m l =
      let size_room : length (take k room) ≡ k = length-take-le k room in-room in
      let size-old : length (take k old) ≡ k = length-take-le k old in-old in
      let whole : take k (sums ++ drop k room) ≡ sums = take_at sums (drop k room) k (ls ∙ size_room) in
      let size : length front ≡ k = lf ∙ size-old in
      get_or-append front (drop k old) 𝟘 m (omega arith)
      ∙ at_root f sums front long (ls ∙ size_room)
      (λ m u. each m (omega (arith, size_room)) ∙ ap (λ (n : ℕ). products F (every_nth F f m n (length powers)) powers) size_room)
      (λ m u. table m (omega (arith, size-old)) ∙ ap (λ (t : List A). evaluate F t (get_or pw (at + step * m) 𝟘)) whole) m l

-- ---- numerators and denominators at the roots

-- the elements behind the first 66, from which the geometric sum is read
abbrev behind : {A : Type 0} → List A → List A
behind vg = take (length vg - 66) (drop 66 vg)

-- words as elements of one width, in the words of the trait
module _ {C : Type 0} (elements : List ℕ → List C) (width : ℕ) (wide : 0 < width) (counted : (w : List ℕ) → length w / width ≡ length (elements w)) where
  pub many : (n : ℕ) (w : List ℕ) → length w ≡ width * n → length (elements w) ≡ n
  many n w e = sym (counted w) ∙ ap (λ (m : ℕ). m / width) e ∙ mul-div_cancel_left n wide

  module _ (first : (n : ℕ) (w : List ℕ) → elements (take (width * n) w) ≡ take n (elements w)) (behind_laws : (n : ℕ) (w : List ℕ) → elements (drop (width * n) w) ≡ drop n (elements w))
      (vg : List ℕ) (e : length vg ≡ width * 132) where
    -- the second half of the words, from which the geometric sum is read
    pub second_half : elements (take (length vg - length vg / 2) (drop (length vg / 2) vg)) ≡ behind (elements vg)
    second_half =
        let half : length vg / 2 ≡ width * 66 = omega (arith, e) in
        let rest : length vg - length vg / 2 ≡ width * 66 = omega (arith, e) in
        (λ i. elements (take (rest i) (drop (half i) vg))) ∙ first 66 (drop (width * 66) vg) ∙ ap (take 66) (behind_laws 66 vg)
        ∙ ap (λ (n : ℕ). take (n - 66) (drop 66 (elements vg))) (sym (many 132 vg e))

    pub second_half_many : length (elements (take (length vg - length vg / 2) (drop (length vg / 2) vg))) ≡ 66
    second_half_many =
        let all = many 132 vg e in
        ap length second_half ∙ length-take-le (length (elements vg) - 66) (drop 66 (elements vg)) (omega (arith, length-drop 66 (elements vg))) ∙ omega (arith, all)

-- for as many roots as are counted
pub at_count : {C : Type 0} (F : Field C) (k n c : ℕ) (x : ℕ → C) (l out : List C) → k ≡ n → ((m : ℕ) → m < k → get_or out m F.𝟘 ≡ evaluate F (take (k * c) l) (x m)) →
    (m : ℕ) → m < n → get_or out m F.𝟘 ≡ evaluate F (take (n * c) l) (x m)
at_count F k n c x l out e h = subst (λ (q : ℕ). (m : ℕ) → m < q → get_or out m F.𝟘 ≡ evaluate F (take (q * c) l) (x m)) e h

pub numerators_are : {A : Type 0} (F : Field A) (words : ℕ) (ac vg : List A) (x : ℕ → A) (old new a g : List A) → words ≤ length vg - 66 →
    ((m : ℕ) → m < length old → get_or a m F.𝟘 ≡ evaluate F (take words ac) (x m)) →
    ((m : ℕ) → m < length old → get_or g m F.𝟘 ≡ evaluate F (take words (behind vg)) (x m)) →
    FilledOver F.𝟘 (λ m. F.◌⊗◌ (F.◌⊖◌ (get_or old m F.𝟘) (get_or a m F.𝟘)) (get_or g m F.𝟘)) old new (length old) →
    (m : ℕ) → m < length old → get_or new m F.𝟘 ≡ numerator_in F words ac vg (x m) (get_or old m F.𝟘)
numerators_are {A} F words ac vg x old new a g room ea eg t m l =
    let grown : get_or g m F.𝟘 ≡ evaluate F (growth_in words vg) (x m) = eg m l ∙ ap (λ (w : List A). evaluate F w (x m)) (take-take words (length vg - 66) (drop 66 vg) room) in
    t.passed m l ∙ (λ i. F.◌⊗◌ (F.◌⊖◌ (get_or old m F.𝟘) (ea m l i)) (grown i))
