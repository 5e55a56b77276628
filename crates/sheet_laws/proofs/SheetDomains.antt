-- The domains of every sheet without a fault: domain 0 is all n0-th roots of 1 in its field, and domain i is ω times the powers of ω^(2^i).
use Rattle.std.specs.Prelude.{ℕ, suc, ◌*◌, ◌/◌, ◌^◌, ◌≤◌, ◌<◌, true, List, ◌↔◌, ◌≡◌, refl, length}
use Rattle.std.proofs.Common.{one-mul, arith, sym, ap, ◌∙◌, subst}
use Rattle.std.proofs.Math.Nat.{pow-zero}
use Rattle.definition.specs.Domain.{in_domain, point}
use Rattle.definition.specs.Field.{Element, Field, Spelling, embed, field_in, four, number_in, one, power, prime_field}
use Rattle.definition.specs.Reading.{sheet_test}
use Rattle.definition.specs.Sheet.{Edition, sheet_length, sheet_of}
use Rattle.definition.specs.Verdict.{accepted}
use Rattle.algebra.specs.FieldIn.{Below, below_in, reduced_in}
use Rattle.algebra.specs.Laws.{FieldLaws}
use Rattle.algebra.specs.Quartic.{embed_power}
use Rattle.layouts.specs.Levels.{level_of, rounds_of, sheet_field, sheet_root}
use Rattle.layouts.proofs.LevelsByNumber.{undivided}
use Rattle.completeness.specs.Ready.{Ready, ready, ready_sized, sheet_laws}
use Rattle.sheet_laws.proofs.Cosets
use Rattle.sheet_laws.specs.DomainPoints.{PointOf, RootOfOne}

-- powers of a number of the prime field are such numbers, in either spelling
number_power : (σ : Spelling) (p : ℕ) → FieldLaws (prime_field p) → (ω n : ℕ) → power (field_in σ p) (number_in σ ω) n ≡ number_in σ (power (prime_field p) ω n)
unfolding field_in number_in embed prime_field
number_power one p L ω n = refl
number_power four p L ω n = embed_power (prime_field p) L 11 ω n

number_below : (σ : Spelling) (p a : ℕ) → Below σ p (number_in σ a) → a < p
unfolding number_in
number_below one p a l = l
number_below four p a l = l.0

-- the test of a domain, whatever the sheet
pub tested_exactly : (ed : Edition) (w : List ℕ) (i : ℕ) (x : Element (sheet_of ed w).spelling) →
    (in_domain (sheet_field (sheet_of ed w)) (sheet_root (sheet_of ed w)) (level_of (sheet_of ed w) i) x ≡ true) ↔ PointOf (sheet_of ed w) i x
tested_exactly ed w i x = Cosets.tested_exactly (sheet_field (sheet_of ed w)) (sheet_laws ed w) (sheet_root (sheet_of ed w)) (level_of (sheet_of ed w) i) x

module _ (ed : Edition) (w : List ℕ) (long : sheet_length ed ≤ length w) (passed : sheet_test ed w ≡ accepted) where
  abbrev q : Ready (sheet_of ed w)
  q = ready ed w long passed

  abbrev F : Field (Element (sheet_of ed w).spelling)
  F = sheet_field (sheet_of ed w)

  abbrev ω : Element (sheet_of ed w).spelling
  ω = sheet_root (sheet_of ed w)

  size_is : (sheet_of ed w).size ≡ 2 ^ suc (ready ed w long passed).e
  size_is =
      let n = (sheet_of ed w).size in
      sym (undivided n) ∙ sym (one-mul (n / 2 ^ 0)) ∙ ap (λ (t : ℕ). t * (n / 2 ^ 0)) (sym (pow-zero 2)) ∙ (ready_sized ed w long passed 0 (omega arith)).whole

  pub coset_exactly : (i : ℕ) → i ≤ rounds_of (sheet_of ed w) → (x : Element (sheet_of ed w).spelling) →
      PointOf (sheet_of ed w) i x ↔ ((j : ℕ) × (x ≡ (sheet_field (sheet_of ed w)).◌⊗◌ (sheet_root (sheet_of ed w)) (power (sheet_field (sheet_of ed w)) (power (sheet_field (sheet_of ed w)) (sheet_root (sheet_of ed w)) (2 ^ i)) j)))
  coset_exactly i l x = Cosets.coset_exactly F q.laws ω q.signs q.e q.root (level_of (sheet_of ed w) i) (ready_sized ed w long passed i l) x

  pub whole_exactly : (x : Element (sheet_of ed w).spelling) → RootOfOne (sheet_of ed w) x ↔ PointOf (sheet_of ed w) 0 x
  whole_exactly x =
      let t = Cosets.whole_exactly F q.laws ω q.signs q.e q.root (level_of (sheet_of ed w) 0) (ready_sized ed w long passed 0 (omega arith)) refl x in
      let σ = (sheet_of ed w).spelling in
      let p = (sheet_of ed w).prime in (
        λ h. t.0 (reduced_in σ p q.laws x h.0, ap (power F x) (sym size_is) ∙ h.1),
        λ h. let r = t.1 h in (below_in σ p q.laws (omega (arith, q.large)) x r.0, ap (power F x) size_is ∙ r.1),
      )

  pub powers_exactly : (x : Element (sheet_of ed w).spelling) → PointOf (sheet_of ed w) 0 x ↔ ((j : ℕ) × (x ≡ power (sheet_field (sheet_of ed w)) (sheet_root (sheet_of ed w)) j))
  powers_exactly x = Cosets.powers_exactly F q.laws ω q.signs q.e q.root (level_of (sheet_of ed w) 0) (ready_sized ed w long passed 0 (omega arith)) refl x

  -- in field 3 too these roots are numbers of the prime field
  pub roots_numbers : (x : Element (sheet_of ed w).spelling) → RootOfOne (sheet_of ed w) x → (a : ℕ) × (a < (sheet_of ed w).prime) × (x ≡ number_in (sheet_of ed w).spelling a)
  unfolding point
  roots_numbers x h =
      let σ = (sheet_of ed w).spelling in
      let p = (sheet_of ed w).prime in
      let j = (whole_exactly x).0 h in
      let e = j.2 ∙ number_power σ p q.base _ _ in
      (_, number_below σ p _ (subst (Below σ p) e h.0), e)
