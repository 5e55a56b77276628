use native.Mathlib.Omega.{arith}
use Prim.Native.Nat.{ℕ}
use mathlib.Core.Path.{◌≡◌, ◌∙◌, refl, sym, ap, subst}
use mathlib.Core.List.{List, map}
use lib.ListN.{drop}
use Rattle.definition.specs.Field.{spelling_of}
use Rattle.spelling.specs.ByField.{ElementOf, field_at, elements_at}
use Rattle.spelling.specs.Words.{elements_even}
use Rattle.distinct.specs.Points.{keep_points}
use Rattle.distinct.proofs.Turns.{keep_start, keep_turn, keep_end, map_same}
use Rattle.distinct.proofs.keep_all.Goals as goal

pub loop-i-init : goal.loop-i-init
loop-i-init c =
    let a = c.args in
    let n = c.count-i.ensures in
    let kept = drop a.from (elements_at a.field a.xs.now) in (
      omega arith,
      (
        omega (arith, n),
        subst (λ (m : ℕ). kept ≡ keep_points (field_at a.field).equal (map (λ x. x) (drop m (elements_at a.field a.points.now))) kept) (sym n)
            (keep_start (field_at a.field).equal (field_at a.field).𝟘 (λ x. x) (elements_at a.field a.points.now) kept refl),
      ),
    )

pub keep-at-requires : goal.keep-at-requires
keep-at-requires c =
    let l = c.loop-i in
    let a = c.args in
    (omega (arith, c.count-i.ensures, l.invariant, c.requires.1), omega (arith, elements_even (spelling_of a.field) l.xs a.xs.now l.auto.xs, l.invariant.0, c.requires.0))

pub loop-i-preserved : goal.loop-i-preserved
loop-i-preserved c =
    let l = c.loop-i in
    let a = c.args in
    let k = c.keep-at in
    let n = c.count-i.ensures in (
      omega (arith, k.ensures.upper_bound, l.invariant),
      (
        omega (arith, k.ensures.upper_bound, n, l.invariant),
        keep_turn (field_at a.field).equal (field_at a.field).𝟘 (λ x. x) (elements_at a.field a.points.now) (drop a.from (elements_at a.field a.xs.now)) l.i (omega arith) (omega (arith, n)) l.invariant.1.1 c.get-x.ensures k.ensures.xs_after,
      ),
    )

pub returns : goal.returns
returns c =
    let l = c.loop-i in
    let a = c.args in
    let kept = drop a.from (elements_at a.field a.xs.now) in
    let same = ap (λ (p : List (ElementOf a.field)). keep_points (field_at a.field).equal p kept) (map_same (elements_at a.field a.points.now)) in record { xs_after = keep_end (field_at a.field).equal (field_at a.field).𝟘 (λ x. x) (elements_at a.field a.points.now) kept l.i (omega arith) l.invariant.1.1 ∙ same; upper_bound = (l.invariant.0, omega (arith, l.invariant.1.0)) }
