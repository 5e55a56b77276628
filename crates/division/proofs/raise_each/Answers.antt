use Prim.Native.Nat.{ℕ, ◌+◌, ◌-◌}
use native.Mathlib.Omega.{arith}
use mathlib.Core.Path.{◌≡◌, sym, subst}
use mathlib.Core.List.{List, ◌++◌}
use lib.ListN.{length, drop}
use lib.Seq.{drop-length}
use Rattle.definition.specs.Field.{prime_field, field_of}
use Rattle.algebra.specs.PrimeField.{laws}
use Rattle.division.specs.LongDivision.{Dividing}
use Rattle.division.proofs.Dividing.{dividing_more, raised_front}
use Rattle.division.proofs.raise_each.Goals as goal

pub loop-i-init : goal.loop-i-init
loop-i-init c =
    let a = c.args in
    subst (λ (l : List ℕ). Dividing (field_of a.field) (laws a.field) l a.w.now) (sym (drop-length a.xs.now)) c.requires.dividing

pub loop-i-preserved : goal.loop-i-preserved
unfolding field_of prime_field
loop-i-preserved c =
    let l = c.loop-i in
    let a = c.args in
    let n = length a.xs.now - (l.i - 1) + 1 in
    dividing_more (field_of a.field) (laws a.field) c.sub-d.result a.xs.now l.w (c.raise.new.w ++ drop n l.w) l.i (omega arith) (omega arith) (omega arith)
    l.invariant (raised_front (field_of a.field) c.sub-d.result l.w c.raise.new.w n (omega arith) c.raise.ensures) c.sub-d.ensures

pub returns : goal.returns
returns c =
    let l = c.loop-i in
    let a = c.args in
    let none : l.i ≡ 0 = omega arith in
    subst (λ (n : ℕ). Dividing (field_of a.field) (laws a.field) (drop n a.xs.now) l.w) none l.invariant
