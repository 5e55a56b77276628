-- The values at the k roots of a shift point: where the roots stand, and the values as fractions. Assumes nothing.
use Prim.Native.Nat.{ℕ, zero, suc, ◌+◌, ◌-◌, ◌*◌, ◌/◌, ◌≤◌, ◌<◌}
use mathlib.Core.Path.{◌≡◌, refl, sym, ap, ◌∙◌}
use mathlib.Core.List.{List, ◌++◌}
use native.Mathlib.Nat.{mul-div_cancel_left, mul-le-mul, mul-le-mul_left, mul-le-mul_right, not-suc-le-zero}
use native.Mathlib.Omega.{arith}
use lib.ListN.{length, get_or, take, drop}
use lib.Seq.{length-take-le, take_at}
use Rattle.definition.specs.Field.{Field, found_or, number_in, power, reciprocal, spelling_of}
use Rattle.definition.specs.Polynomial.{evaluate, geometric}
use Rattle.algebra.specs.Laws.{FieldLaws}
use Rattle.algebra.specs.Solver.{◌:*◌, ◌:=◌, solve₃}
use Rattle.algebra.specs.Divisors.{Nonzero}
use Rattle.spelling.specs.ByField.{ElementOf, field_at, laws_at, points_at, elements_at}
use Rattle.spelling.specs.Points.{points_get}
use Rattle.domain.specs.Powers.{PowersOver}
use Rattle.sums.specs.Residues.{root_powers}
use Rattle.root_quotients.specs.Rooted.{Rooted, numerator_in, vanishing_in, growth_in}
use Rattle.fractions.specs.declared.Oracle.{Oracle}
use Rattle.folds.specs.PointsIn.{point_in}
use Rattle.fractions.specs.Fraction.{Fraction, FractionOver}
use Rattle.fractions.specs.Points.{fits_points}
use Rattle.fractions.specs.Values.{Clear, ClearOver, Fits, corrected_in, value_of, value_in, root_in, folded, root_number, point_room}

-- ---- where the roots stand

module _ {points n : ℕ} {oracle : Oracle} {k : ℕ} (fits : Fits points n oracle k) where
  -- as many powers as columns
  pub count_is : oracle.words / k ≡ fits.columns
  count_is = ap (λ (m : ℕ). m / k) fits.whole ∙ mul-div_cancel_left fits.columns (omega (arith, folded fits))

  pub count_few : oracle.words / k ≤ 33
  count_few = omega (arith, count_is, fits.whole, fits.used, mul-le-mul_right fits.columns (folded fits))

  pub count_some : 0 < oracle.words → 0 < oracle.words / k
  count_some h = go fits.columns fits.whole count_is
    where
      go : (c : ℕ) → oracle.words ≡ k * c → oracle.words / k ≡ c → 0 < oracle.words / k
      go zero e d = absurd (omega arith)
      go (suc c) e d = omega arith

  pub words_are : oracle.words ≡ k * (oracle.words / k)
  words_are = fits.whole ∙ ap (λ (c : ℕ). k * c) (sym count_is)

  pub roots_spaced : {j : ℕ} → j < oracle.step → (oracle.scale * j < oracle.scale * oracle.step) × (oracle.scale * oracle.step * k ≡ points)
  roots_spaced {j} l = (
    (let less : oracle.scale * suc j ≤ oracle.scale * oracle.step = mul-le-mul_left oracle.scale l in omega (arith, less, fits.spaced)),
    (let whole : oracle.scale * (k * oracle.step) ≡ oracle.scale * n = ap (λ (m : ℕ). oracle.scale * m) fits.roots in omega (arith, whole, fits.room)),
  )

  pub root_place : (j m : ℕ) → oracle.scale * (j + m * oracle.step) ≡ oracle.scale * j + oracle.scale * oracle.step * m
  root_place j m = omega arith

-- the exponent of a shift point fits
pub exponent_fits : (e k : ℕ) {n : ℕ} → e < n → n ≤ 4096 → k ≤ 16 → (k * e ≤ 65536) × (k + k * e ≤ 131072)
exponent_fits e k l few small =
    let less : e ≤ 4096 = omega arith in
    let most : k * e ≤ 16 * 4096 = mul-le-mul small less in
    (omega arith, omega arith)

pub rooted : {A : Type 0} (F : Field A) (L : FieldLaws F) (pw : List A) (n : ℕ) (oracle : Oracle) (k : ℕ) → Fits (length pw) n oracle k → {ω : A} → PowersOver F ω pw →
    (j : ℕ) (y : A) (powers : List A) → j < oracle.step → y ≡ power F (power F ω (1 + oracle.scale * j)) k → 0 < oracle.words → length powers ≡ oracle.words / k →
    powers ≡ geometric F y (length powers - 1) → Rooted F pw (oracle.scale * j) (oracle.scale * oracle.step) k powers
rooted {A} F L pw n oracle k fits {ω} table j y powers l shift pos size list = record {
  ω = ω;
  table = table;
  y = y;
  nonempty = omega (arith, size, count_some fits pos);
  short = omega (arith, size, count_few fits);
  list = list;
  root = root;
  log = suc fits.log;
  two = fits.two;
  few = fits.few;
  spaced = roots_spaced fits l;
}
  where
    root : (m : ℕ) → m < k → power F (get_or pw (oracle.scale * j + oracle.scale * oracle.step * m) F.𝟘) k ≡ y
    root m u =
        let d = oracle.scale * oracle.step in
        let e = 1 + oracle.scale * j in
        let place = root_place fits j m in
        let inside : oracle.scale * j + d * m < length pw = omega (arith, place, point_room fits (j + m * oracle.step) (root_number fits l m u)) in
        let next : 1 + (oracle.scale * j + d * m) ≡ e + m * d = omega arith in
        let round : power F ω (d * k) ≡ F.𝟙 = ap (power F ω) (roots_spaced fits l).1 ∙ table.round in
        ap (λ (x : A). power F x k) (table.entry _ inside ∙ ap (power F ω) next)
        ∙ root_powers F L ω e d k m round ∙ sym shift

-- the first words of their places, which were stored there
pub front_whole : {A : Type 0} (count : ℕ) (room front : List A) → count ≤ length room → length front ≡ length (take count room) →
    (take count (front ++ drop count room) ≡ front) × (length front ≡ count)
front_whole count room front inside same =
    let long : length front ≡ count = same ∙ length-take-le count room inside in
    (take_at front (drop count room) count long, long)

-- the powers of the shift point, in a part of their places
pub rooted_part : {A : Type 0} (F : Field A) (L : FieldLaws F) (pw : List A) (n : ℕ) (oracle : Oracle) (k k' : ℕ) → Fits (length pw) n oracle k → {ω : A} → PowersOver F ω pw →
    (j : ℕ) (room front : List A) → j < oracle.step → 0 < oracle.words → length room ≡ 33 → length front ≡ length (take (oracle.words / k) room) →
    front ≡ geometric F (power F (power F ω (1 + oracle.scale * j)) k) (length front - 1) → k' ≡ k →
    Rooted F pw (oracle.scale * j) (oracle.scale * oracle.step) k' (take (oracle.words / k) (front ++ drop (oracle.words / k) room))
    × (oracle.words ≡ k' * length (take (oracle.words / k) (front ++ drop (oracle.words / k) room)))
rooted_part F L pw n oracle k k' fits {ω} table j room front l pos places same list e =
    let count = oracle.words / k in
    let w = front_whole count room front (omega (arith, count_few fits)) same in
    let y = power F (power F ω (1 + oracle.scale * j)) k in
    let r = rooted F L pw n oracle k fits table j y front l refl pos w.1 list in
    let whole : oracle.words ≡ k * length front = words_are fits ∙ ap (λ (n : ℕ). k * n) (sym w.1) in
    rw (e, w.0) (r, whole)

-- V is 0 at no root
pub roots_nonzero : {A : Type 0} (F : Field A) (L : FieldLaws F) (pw table vg : List A) (oracle : Oracle) (k : ℕ) (fits : Fits (length pw) (length table) oracle k) → (clear : ClearOver F L pw (length table) vg oracle) →
    (j : ℕ) → j < oracle.step → 0 < oracle.words → (m : ℕ) → m < k →
    Nonzero F L (evaluate F (vanishing_in oracle.words vg) (get_or pw (oracle.scale * j + oracle.scale * oracle.step * m) F.𝟘))
roots_nonzero F L pw table vg oracle k fits clear j l pos m u z =
    clear.nonzero (j + m * oracle.step) (root_number fits l m u) pos
    (ap (λ (e : ℕ). L.reduce (evaluate F (vanishing_in oracle.words vg) (get_or pw e F.𝟘))) (root_place fits j m) ∙ z)

-- ---- the value at a point, without samples and with some

value_some : {A : Type 0} (F : Field A) (n : ℕ) (ac vg : List A) (x y : A) → 0 < n → corrected_in F n ac vg x y ≡ value_of F n ac vg x y
unfolding value_of
value_some F zero ac vg x y h = absurd (not-suc-le-zero h)
value_some F (suc n) ac vg x y h = refl

module _ {A : Type 0} (F : Field A) (pw table ac vg : List A) (oracle : Oracle) (k : ℕ) (fits : Fits (length pw) (length table) oracle k) (j m : ℕ) where
  open F use {𝟘}

  times : j + oracle.step * m ≡ j + m * oracle.step
  times = omega arith

  pub value_first : {v : A} → oracle.words ≡ 0 → v ≡ get_or table (j + oracle.step * m) 𝟘 → v ≡ root_in F pw table ac vg oracle j m
  unfolding value_in value_of
  value_first e ev = let z = times in rw e (ev ∙ ap (λ (i : ℕ). get_or table i 𝟘) z)

  pub value_next : {v y : A} → 0 < oracle.words → y ≡ get_or table (j + oracle.step * m) 𝟘 →
      v ≡ corrected_in F oracle.words ac vg (get_or pw (oracle.scale * j + oracle.scale * oracle.step * m) F.𝟘) y → v ≡ root_in F pw table ac vg oracle j m
  unfolding value_in point_in
  value_next h ey ev =
      ev ∙ (λ i. corrected_in F oracle.words ac vg (get_or pw (sym (root_place fits j m) i) 𝟘) ((ey ∙ ap (λ (i : ℕ). get_or table i 𝟘) times) i))
      ∙ value_some F oracle.words ac vg _ _ h

-- ---- the quotient

-- the numerator, by the inverse of V, is the corrected value
pub fraction_is : {A : Type 0} (F : Field A) (L : FieldLaws F) (words : ℕ) (ac vg : List A) (x y : A) {top bottom v : A} → top ≡ numerator_in F words ac vg x y →
    bottom ≡ evaluate F (vanishing_in words vg) x → Nonzero F L (evaluate F (vanishing_in words vg) x) →
    corrected_in F words ac vg x y ≡ v → FractionOver F L v top bottom
unfolding corrected_in reciprocal found_or
fraction_is {A} F L words ac vg x y {top} {bottom} {v} et eb h ev = (
  (λ z. h (ap L.reduce (sym eb) ∙ z)),
  (λ u e.
      let d = F.◌⊖◌ y (evaluate F (take words ac) x) in
      let g = evaluate F (growth_in words vg) x in
      let w : u ≡ reciprocal F (evaluate F (vanishing_in words vg) x) = sym (ap (found_or F.𝟘) e) ∙ ap (reciprocal F) eb in
      (λ i. F.◌⊗◌ (et i) (w i)) ∙ exchanged d g (reciprocal F (evaluate F (vanishing_in words vg) x)) ∙ ev),
)
  where
    exchanged : (d g u : A) → F.◌⊗◌ (F.◌⊗◌ d g) u ≡ F.◌⊗◌ (F.◌⊗◌ d u) g
    exchanged = solve₃ F L (λ d g u. d :* g :* u := d :* u :* g) tt

module _ {A : Type 0} (F : Field A) (L : FieldLaws F) (pw table ac vg : List A) (oracle : Oracle) (k : ℕ) (fits : Fits (length pw) (length table) oracle k) (clear : ClearOver F L pw (length table) vg oracle) where
  open F use {𝟘}

  pub fractions_are : (j : ℕ) → j < oracle.step → 0 < oracle.words → (m : ℕ) → m < k → (words : ℕ) {y top bottom : A} → oracle.words ≡ words → y ≡ get_or table (j + oracle.step * m) 𝟘 →
      top ≡ numerator_in F words ac vg (get_or pw (oracle.scale * j + oracle.scale * oracle.step * m) F.𝟘) y →
      bottom ≡ evaluate F (vanishing_in words vg) (get_or pw (oracle.scale * j + oracle.scale * oracle.step * m) F.𝟘) →
      FractionOver F L (root_in F pw table ac vg oracle j m) top bottom
  fractions_are j l more m u words {y} ew ey et eb =
      let x = get_or pw (oracle.scale * j + oracle.scale * oracle.step * m) F.𝟘 in
      fraction_is F L oracle.words ac vg x y (et ∙ (λ i. numerator_in F (sym ew i) ac vg x y)) (eb ∙ (λ i. evaluate F (vanishing_in (sym ew i) vg) x))
      (roots_nonzero F L pw table vg oracle k fits clear j l more m u) (value_next F pw table ac vg oracle k fits j m more ey refl)

-- the same by the field's number, where the points are words
module _ (field : ℕ) (pw table ac vg : List ℕ) (oracle : Oracle) (k : ℕ) (fits : Fits (length pw) (length (elements_at field table)) oracle k)
    (clear : Clear field pw (length (elements_at field table)) vg oracle) where
  pub fractions_at : (j : ℕ) → j < oracle.step → 0 < oracle.words → (m : ℕ) → m < k → (words : ℕ) {y top bottom : ElementOf field} → oracle.words ≡ words →
      y ≡ get_or (elements_at field table) (j + oracle.step * m) (field_at field).𝟘 →
      top ≡ numerator_in (field_at field) words (elements_at field ac) (elements_at field vg) (number_in (spelling_of field) (get_or pw (oracle.scale * j + oracle.scale * oracle.step * m) 0)) y →
      bottom ≡ evaluate (field_at field) (vanishing_in words (elements_at field vg)) (number_in (spelling_of field) (get_or pw (oracle.scale * j + oracle.scale * oracle.step * m) 0)) →
      Fraction field (root_in (field_at field) (points_at field pw) (elements_at field table) (elements_at field ac) (elements_at field vg) oracle j m) top bottom
  fractions_at j l more m u words {y} ew ey et eb =
      let F = field_at field in
      let x = sym (points_get field pw (oracle.scale * j + oracle.scale * oracle.step * m)) in
      fractions_are F (laws_at field) (points_at field pw) (elements_at field table) (elements_at field ac) (elements_at field vg) oracle k
      (fits_points field pw fits) clear j l more m u words ew ey
      (et ∙ ap (λ (z : ElementOf field). numerator_in F words (elements_at field ac) (elements_at field vg) z y) x)
      (eb ∙ ap (λ (z : ElementOf field). evaluate F (vanishing_in words (elements_at field vg)) z) x)
