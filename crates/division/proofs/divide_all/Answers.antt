use Prim.Native.Nat.{ℕ, ◌+◌, ◌-◌, ◌<◌}
use native.Mathlib.Omega.{arith}
use mathlib.Core.Path.{◌≡◌, ap, ◌∙◌, subst}
use mathlib.Core.List.{List}
use lib.ListN.{length, take, drop, length-drop}
use lib.Seq.{length-take-le, take_all}
use Rattle.definition.specs.Field.{field_of}
use Rattle.algebra.specs.PrimeField.{laws}
use Rattle.list_laws.specs.Zeros.{length_zeros}
use Rattle.division.specs.LongDivision.{Dividing}
use Rattle.division.proofs.Dividing.{divided, divides_is}
use Rattle.division.proofs.divide_all.Goals as goal

pub returns : goal.returns
returns c =
    let a = c.args in
    let m = c.move_down in
    let b = c.by_sums in
    let f = c.factors in
    let e = length a.xs.now - a.from in
    let size = length-drop a.from a.xs.now in
    let same : e + 1 - 1 ≡ e = omega arith in
    let room : e < length f.new.w = omega (arith, f.auto.w, length_zeros 66) in
    let points : take e (drop a.from a.xs.now) ≡ drop a.from a.xs.now = take_all e (drop a.from a.xs.now) (omega (arith, size)) in
    let v = take (e + 1 - 1) (drop 1 f.new.w) in
    let long : length v ≡ e = ap (λ (n : ℕ). length (take n (drop 1 f.new.w))) same ∙ length-take-le e (drop 1 f.new.w) (omega (arith, length-drop 1 f.new.w)) in
    let divides = divides_is (field_of a.field) (laws a.field) (drop a.from a.xs.now) f.new.w v e (omega (arith, size)) size room
    (ap (λ (n : ℕ). take n (drop 1 f.new.w)) same) (subst (λ (xs : List ℕ). Dividing (field_of a.field) (laws a.field) xs f.new.w) points f.ensures) in
    divided (field_of a.field) (laws a.field) (drop a.from a.xs.now) a.f.now b.new.f m.new.f v _ a.count e divides long
    (b.auto.f ∙ length-take-le a.count a.f.now c.requires.from_in_bounds.1.1) b.ensures m.auto.f m.ensures
