use Prim.Native.Nat.{ℕ, ◌+◌, ◌-◌}
use native.Mathlib.Nat.{le_refl}
use native.Mathlib.Omega.{arith}
use mathlib.Core.Path.{◌≡◌, sym, ap, ◌∙◌}
use mathlib.Core.List.{List}
use lib.ListN.{length, take, drop, length-drop}
use lib.Seq.{take_all, take-length}
use Rattle.definition.specs.Field.{prime_field, field_of}
use Rattle.definition.specs.Polynomial.{quotient}
use Rattle.algebra.specs.PrimeField.{laws}
use Rattle.sums.specs.Sums.{products}
use Rattle.division.proofs.Dividing.{summing_first, summing_last, summing_next}
use Rattle.division.proofs.by_sums.Goals as goal

pub loop-i-init : goal.loop-i-init
loop-i-init c =
    let a = c.args in
    (c.requires.0, summing_first (field_of a.field) (laws a.field) a.w.now a.f.now (length a.f.now) (le_refl (length a.f.now)))

pub loop-i-preserved : goal.loop-i-preserved
unfolding field_of prime_field
loop-i-preserved c =
    let l = c.loop-i in
    let a = c.args in
    let place : l.i - 1 + 1 ≡ l.i = omega arith in
    let s : c.behind-s.result ≡ products (field_of a.field) (take (length a.f.now - l.i) (drop l.i l.f)) a.w.now =
    c.behind-s.ensures ∙ ap (λ (n : ℕ). products (field_of a.field) (take (n - (l.i - 1 + 1)) (drop (l.i - 1 + 1) l.f)) a.w.now) l.invariant.1.same
    ∙ ap (λ (n : ℕ). products (field_of a.field) (take (length a.f.now - n) (drop n l.f)) a.w.now) place in
    (omega arith, summing_next (field_of a.field) (laws a.field) a.w.now a.f.now (length a.f.now) l.f l.i (omega arith) (omega arith) (le_refl (length a.f.now)) l.invariant.1 s c.sub.ensures)

pub returns : goal.returns
returns c =
    let l = c.loop-i in
    let a = c.args in
    λ xs d. sym (take_all (length a.f.now - length a.w.now) (drop (length a.w.now) l.f) (omega (arith, length-drop (length a.w.now) l.f, l.invariant.1.same)))
    ∙ summing_last (field_of a.field) (laws a.field) a.w.now a.f.now (length a.f.now) l.f l.i (omega arith) l.invariant.1 xs d
    ∙ ap (λ (g : List ℕ). quotient (field_of a.field) g xs) (take-length a.f.now)
