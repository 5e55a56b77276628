-- The points and the shift points of a domain, and the inverses of points, in the table of the powers of ω.
use Rattle.std.specs.Prelude.{ℕ, zero, suc, ◌+◌, ◌-◌, ◌*◌, ◌%◌, ◌^◌, ◌<◌, ◌≡◌, refl, List, [], ◌∷◌, get_or}
use Rattle.std.proofs.Common.{◌∙◌}
use Rattle.std.proofs.Math.Path.{sym, ap}
use Rattle.std.proofs.Math.Nat.{mod-lt}
use native.Mathlib.Omega.{arith}
use Rattle.std.proofs.Math.ListN.{length}
use Rattle.definition.specs.Field.{Field, prime_field, prime_of, field_of, power}
use Rattle.definition.specs.Sheet.{Level}
use Rattle.definition.specs.Domain.{point, shift_point}
use Rattle.algebra.specs.Laws.{FieldLaws}
use Rattle.algebra.specs.RingLaws.{power_add}
use Rattle.algebra.specs.RootsOfUnity.{minus_one, power_mul}
use Rattle.domain.specs.Powers.{PowersOver, Powers}
use Rattle.domain.specs.Roots.{around}
use Rattle.domain.specs.Points.{point_at_lem}

-- the words are the powers of some ω
abbrev pub PowerTable : ℕ → List ℕ → Type 0
PowerTable field pw = (ω : ℕ) × Powers field ω pw

-- z stands for what is read outside the table
module _ {A : Type 0} (z : A) (pw : List A) where
  -- point m of a domain: every scale-th element of the table
  unfoldable pub point_in : ℕ → ℕ → A
  point_in scale m = get_or pw (scale * m) z

  -- the k-th power of point j: the exponent 1 + scale·j becomes k + k·scale·j, and goes round
  unfoldable pub shift_in : ℕ → ℕ → ℕ → A
  shift_in scale k j = get_or pw ((k - 1 + k * (scale * j)) % length pw) z

  -- the inverse of ω^e: ω^(n - e mod n), where n powers make the round
  unfoldable pub inverse_power_in : ℕ → A
  inverse_power_in e = get_or pw (length pw - 1 - e % length pw) z

-- the inverse of ω^e, a word of the prime field, as an element
abbrev pub inverse_as : {C : Type 0} → (ℕ → C) → List ℕ → ℕ → C
inverse_as number pw e = number (inverse_power_in 0 pw e)

module _ {A : Type 0} (F : Field A) (L : FieldLaws F) where
  infixl 70 ◌⊗◌
  open F use {𝟘, 𝟙, ◌⊗◌}

  -- the exponent of the shift point, in the table
  pub exponent_is : (ω : A) (n k e : ℕ) → power F ω n ≡ 𝟙 → power F ω ((k + k * e) % n) ≡ power F (power F ω (1 + e)) k
  exponent_is ω n k e round =
      let times : 0 + (k + k * e) ≡ (1 + e) * k = omega arith in
      let none : (k + k * e) % n ≡ 0 + (k + k * e) % n = omega arith in
      ap (power F ω) none ∙ around F L ω 0 (k + k * e) n round ∙ ap (power F ω) times ∙ sym (power_mul F L ω (1 + e) k)

  module _ {ω : A} {pw : List A} (w : PowersOver F ω pw) where
    pub inverse_power_is : 0 < length pw → (e : ℕ) → power F ω e ⊗ inverse_power_in 𝟘 pw e ≡ 𝟙
    unfolding inverse_power_in
    inverse_power_is long e =
        let n = length pw in
        let b = n - 1 - e % n in
        let below = mod-lt e long in
        let inside : b < n = omega arith in
        let swapped : e + (1 + b) ≡ 1 + b + e = omega arith in
        let whole : 1 + b + e % n ≡ n = omega arith in
        ap (λ (v : A). power F ω e ⊗ v) (w.entry b inside)
        ∙ sym (power_add F L ω e (1 + b)) ∙ ap (power F ω) swapped
        ∙ sym (around F L ω (1 + b) e n w.round) ∙ ap (power F ω) whole ∙ w.round

    pub shift_power : (scale k j : ℕ) → 0 < k → 0 < length pw → shift_in 𝟘 pw scale k j ≡ power F (power F ω (1 + scale * j)) k
    unfolding shift_in
    shift_power scale k j some long =
        let e = k - 1 + k * (scale * j) in
        let times : 1 + (k - 1 + k * (scale * j)) ≡ (1 + scale * j) * k = omega arith in
        w.entry (e % length pw) (mod-lt e long) ∙ around F L ω 1 e (length pw) w.round
        ∙ ap (power F ω) times ∙ sym (power_mul F L ω (1 + scale * j) k)

-- the elements of the table are the definition's points and shift points
module _ {A : Type 0} (F : Field A) {ω : A} {pw : List A} (w : PowersOver F ω pw) (b : Level) {scale : ℕ} (scaled : scale ≡ 2 ^ b.number) where
  open F use {𝟘}

  pub point_in_lem : (m : ℕ) → scale * m < length pw → point_in 𝟘 pw scale m ≡ point F ω b m
  unfolding point_in
  point_in_lem m l = point_at_lem F ω b pw scale m w (sym scaled) l

  pub shift_in_lem : FieldLaws F → {k : ℕ} → k ≡ b.fold → (j : ℕ) → 0 < k → 0 < length pw → shift_in 𝟘 pw scale k j ≡ shift_point F ω b j
  unfolding shift_point point
  shift_in_lem L {k} folded j some long = shift_power F L w scale k j some long ∙ (λ i. power F (power F ω (1 + scaled i * j)) (folded i))

-- v is the k-th power of ω^(1 + scale·j), for every ω that the table is of
abbrev pub ShiftPoint : List ℕ → ℕ → ℕ → ℕ → ℕ → Type 0
ShiftPoint pw scale k j v = (field ω : ℕ) → Powers field ω pw → v ≡ power (field_of field) (power (field_of field) ω (1 + scale * j)) k

-- such a table: the four powers of 13 in the field of 17
pub four_powers : Powers 0 13 (13 ∷ 16 ∷ 4 ∷ 1 ∷ [])
unfolding field_of prime_of prime_field power minus_one
four_powers = record { entry = entry; round = refl; half = refl }
  where
    entry : (e : ℕ) → e < 4 → get_or (13 ∷ 16 ∷ 4 ∷ 1 ∷ []) e 0 ≡ power (field_of 0) 13 (1 + e)
    entry zero h = refl
    entry (suc zero) h = refl
    entry (suc (suc zero)) h = refl
    entry (suc (suc (suc zero))) h = refl
    entry (suc (suc (suc (suc e)))) h = absurd (omega arith)
