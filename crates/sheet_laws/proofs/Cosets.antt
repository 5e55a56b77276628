-- Domains in any field with the laws and for any ω with ω^(n0/2) = -1: domain 0 is all n0-th roots of 1, and domain i is ω times the powers of ω^(2^i).
use Prim.Native.Nat.{ℕ, zero, suc, ◌+◌, ◌*◌, ◌/◌, ◌%◌, ◌^◌, ◌<◌}
use Rattle.std.proofs.Math.Nat
use Rattle.std.proofs.Common.{div-add-mod', mod-lt, pow-suc, ◌∙◌}
use Rattle.std.proofs.Math.Nat.{pow-zero}
use native.Mathlib.Omega.{arith}
use Rattle.std.specs.Prelude.{true, ◌↔◌, ◌≡◌}
use Rattle.std.proofs.Math.Path.{sym, ap}
use Rattle.std.proofs.lemmas.List.{length-map}
use Rattle.std.proofs.Math.Pow.{pow_pos}
use Rattle.definition.specs.Domain.{domain, in_domain, point}
use Rattle.definition.specs.Field.{Field, power}
use Rattle.definition.specs.Lists.{range}
use Rattle.definition.specs.Sheet.{Level}
use Rattle.list_laws.specs.All.{all_of_map, all_range}
use Rattle.list_laws.specs.Lists.{range_length}
use Rattle.list_laws.specs.Members.{member_range, range_member}
use Rattle.algebra.specs.Laws.{FieldLaws}
use Rattle.algebra.specs.RingLaws.{one_mul, power_add, reduce_power}
use Rattle.algebra.specs.RootsOfUnity.{minus_one, power_mul, power_one, power_suc}
use Rattle.layouts.specs.LevelSizes.{Sized}
use Rattle.completeness.proofs.Domains.{domain_apart, full_power}
use Rattle.sheet_laws.specs.DomainPoints.{IsPoint}
use Rattle.sheet_laws.proofs.RootsWhole.{roots_whole}

module _ {A : Type 0} (F : Field A) (L : FieldLaws F) (ω : A) where
  infixl 70 ◌⊗◌
  open F use {𝟙, ◌⊗◌, equal}
  open L use {equal_refl, equal_true}

  -- the definition's test finds just these
  pub tested_exactly : (l : Level) (x : A) → (in_domain F ω l x ≡ true) ↔ IsPoint F ω l x
  unfolding in_domain domain
  tested_exactly l x = (
    λ e. let m = member_range equal (point F ω l) x 0 l.size e in (m.0, omega (arith, m.2), equal_true x _ m.3),
    λ h. range_member equal (point F ω l) x 0 l.size h.0 (omega arith) (omega (arith, h.1)) (ap (equal x) (sym h.2) ∙ equal_refl x),
  )

  -- ω^(1 + t·j) is ω·(ω^t)^j
  pub coset_point : (l : Level) (j : ℕ) → point F ω l j ≡ ω ⊗ power F (power F ω (2 ^ l.number)) j
  unfolding point
  coset_point l j =
      let e : 1 + 2 ^ l.number * j ≡ suc (2 ^ l.number * j) = omega arith in
      ap (power F ω) e ∙ power_suc F L ω (2 ^ l.number * j) ∙ ap (λ (y : A). ω ⊗ y) (sym (power_mul F L ω (2 ^ l.number) j))

  -- powers of an n-th root of 1 go around
  around : (y : A) (n j : ℕ) → power F y n ≡ 𝟙 → power F y j ≡ power F y (j % n)
  around y n j e =
      let s : j ≡ n * (j / n) + j % n = sym (div-add-mod' j n) ∙ ap (λ (q : ℕ). q + j % n) (Nat.mul_comm (j / n) n) in
      let q : power F y (n * (j / n)) ≡ 𝟙 = sym (power_mul F L y n (j / n)) ∙ ap (λ (v : A). power F v (j / n)) e ∙ power_one F L (j / n) in
      ap (power F y) s ∙ power_add F L y (n * (j / n)) (j % n) ∙ ap (λ (v : A). v ⊗ power F y (j % n)) q ∙ one_mul F L (power F y (j % n)) ∙ reduce_power F L y (j % n)

  module _ (signs : minus_one F ≡ F.𝟙 → ⊥) (e : ℕ) (root : power F ω (2 ^ e) ≡ minus_one F) where
    open L use {reduce}

    -- n0
    abbrev n : ℕ
    n = 2 ^ e + 2 ^ e

    order : (a : ℕ) → power F (power F ω a) (2 ^ e + 2 ^ e) ≡ 𝟙
    order a = power_mul F L ω a n ∙ ap (power F ω) (Nat.mul_comm a n) ∙ full_power F L ω signs e root a

    sizes : (l : Level) → Sized (suc e) l → 2 ^ l.number * l.size ≡ 2 ^ e + 2 ^ e
    sizes l r = omega (arith, r.whole, pow-suc 2 e)

    some_points : (l : Level) → Sized (suc e) l → 0 < l.size
    some_points l r = go l.size r.whole
      where
        go : (m : ℕ) → 2 ^ l.number * m ≡ 2 ^ suc e → 0 < m
        go zero q = absurd (omega (arith, Nat.mul-zero (2 ^ l.number), pow_pos (suc e)))
        go (suc m) q = omega arith

    pub coset_exactly : (l : Level) → Sized (suc e) l → (x : A) → IsPoint F ω l x ↔ ((j : ℕ) × (x ≡ ω ⊗ power F (power F ω (2 ^ l.number)) j))
    coset_exactly l r x = (
      λ h. (h.0, h.2 ∙ coset_point l h.0),
      λ h. let t = 2 ^ l.number in
          let whole : power F (power F ω t) l.size ≡ 𝟙 =
          power_mul F L ω t l.size ∙ ap (power F ω) (sizes l r ∙ sym (Nat.mul-one n)) ∙ full_power F L ω signs e root 1 in
          (h.0 % l.size, mod-lt h.0 (some_points l r), h.1 ∙ ap (λ (y : A). ω ⊗ y) (around (power F ω t) l.size h.0 whole) ∙ sym (coset_point l (h.0 % l.size))),
    )

    twice : 2 ^ e + 2 ^ e ≡ 2 ^ suc e
    twice = omega (arith, pow-suc 2 e)

    pub whole_exactly : (l : Level) → Sized (suc e) l → l.number ≡ 0 → (x : A) → ((reduce x ≡ x) × (power F x (2 ^ suc e) ≡ 𝟙)) ↔ IsPoint F ω l x
    unfolding point domain in_domain
    whole_exactly l r first x = (
      λ h. (tested_exactly l x).0 (roots_whole F L (2 ^ e + 2 ^ e) (domain F ω l) (omega (arith, pow_pos e)) (length-map (range 0 l.size) (point F ω l) ∙ range_length 0 l.size ∙ size)
          (domain_apart F L ω signs e root l r)
          (all_of_map _ (point F ω l) (range 0 l.size) (all_range _ 0 l.size (λ j a b. (reduce_power F L ω _, order _)))) x h.0 (ap (power F x) twice ∙ h.1)),
      λ h. (
        ap reduce h.2 ∙ reduce_power F L ω _ ∙ sym h.2,
        ap (power F x) (sym twice) ∙ ap (λ (y : A). power F y n) h.2 ∙ order _,
      ),
    )
      where
        size : l.size ≡ 2 ^ e + 2 ^ e
        size = sym (Nat.one-mul l.size) ∙ ap (λ (t : ℕ). t * l.size) (sym (ap (λ (i : ℕ). 2 ^ i) first ∙ pow-zero 2)) ∙ sizes l r

    -- and these are the powers of ω
    pub powers_exactly : (l : Level) → Sized (suc e) l → l.number ≡ 0 → (x : A) → IsPoint F ω l x ↔ ((j : ℕ) × (x ≡ power F ω j))
    unfolding point
    powers_exactly l r first x = (
      λ h. (_, h.2),
      λ h. (whole_exactly l r first x).0 (ap reduce h.1 ∙ reduce_power F L ω h.0 ∙ sym h.1, ap (power F x) (sym twice) ∙ ap (λ (y : A). power F y n) h.1 ∙ order h.0),
    )
