-- Values over the words in hand at the k roots of a point: the coefficients of what a table is corrected by, and where the roots stand.
use Rattle.std.specs.Prelude.{ℕ, ◌+◌, ◌-◌, ◌*◌, ◌^◌, ◌≤◌, ◌<◌, ◌≡◌, List, length, get_or, take, drop}
use Rattle.definition.specs.Field.{Field, power}
use Rattle.definition.specs.Polynomial.{evaluate, geometric}
use Rattle.domain.specs.Powers.{PowersOver}

-- The coefficients of A stand in ac, those of V in vg and those of the geometric sum behind them in vg, from place 66 on; the first `words` of each are in use.
abbrev pub vanishing_in : {A : Type 0} → ℕ → List A → List A
vanishing_in words vg = take words vg

abbrev pub growth_in : {A : Type 0} → ℕ → List A → List A
growth_in words vg = take words (drop 66 vg)

-- the numerator of the corrected value at x, where the table has y and V's value is the denominator
abbrev pub numerator_in : {A : Type 0} → Field A → ℕ → List A → List A → A → A → A
numerator_in F words ac vg x y = F.◌⊗◌ (F.◌⊖◌ y (evaluate F (take words ac) x)) (evaluate F (growth_in words vg) x)

-- The k places at, at + step, .. of pw, a table of powers, go once round it; the points there have one k-th power, whose powers are given.
pub record Rooted {A : Type 0} (F : Field A) (pw : List A) (at step k : ℕ) (powers : List A) : Type 0 where
  pub ω : A
  pub table : PowersOver F ω pw
  pub y : A
  pub nonempty : 0 < length powers
  pub short : length powers ≤ 66
  pub list : powers ≡ geometric F y (length powers - 1)
  pub root : (m : ℕ) → m < k → power F (get_or pw (at + step * m) F.𝟘) k ≡ y
  pub log : ℕ
  pub two : k ≡ 2 ^ log
  pub few : k ≤ 16
  pub spaced : (at < step) × (step * k ≡ length pw)
