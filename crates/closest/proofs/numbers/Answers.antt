use Prim.Native.Nat.{◌<◌}
use native.Mathlib.Omega.{arith}
use mathlib.Core.Path.{refl, ap}
use lib.ListN.{length}
use Rattle.std.specs.Prelude.{not}
use Rattle.spelling.specs.ByField.{elements_at, field_at}
use Rattle.closest.proofs.Listing.{list_end, list_other, list_same, list_start, place_left}
use Rattle.closest.proofs.numbers.Goals as goal
use Rattle.closest.proofs.numbers.Goals.{then-not-alike, else-not-alike}

pub loop-i-init : goal.loop-i-init
loop-i-init c =
    let a = c.args in
    (omega arith, list_start (field_at a.field) (elements_at a.field a.xs.now) (elements_at a.field a.ys.now) a.out.now c.requires.ys_in_bounds)

pub alike-requires : goal.alike-requires
alike-requires c = (omega (arith, c.count-n.ensures, c.loop-i-test.true), omega (arith, c.count-n.ensures, c.loop-i-test.true, c.requires.xs_len.0))

pub overflow_cast-out : goal.overflow_cast-out
overflow_cast-out c = omega (arith, c.count-n.ensures, c.loop-i-test.true, c.requires.xs_len.1)

pub offset_bounds-out-place : goal.offset_bounds-out-place
offset_bounds-out-place c = omega (arith, c.loop-i.invariant.0, c.count-n.ensures, c.loop-i-test.true, c.requires.xs_len.1)

pub bounds-out-place : goal.bounds-out-place
bounds-out-place c =
    let a = c.args in
    let l = c.loop-i in
    let t = c.loop-i-test.true in
    place_left (field_at a.field) (elements_at a.field a.xs.now) (elements_at a.field a.ys.now) a.out.now l.out l.place l.i l.invariant.1 (omega (arith, c.count-n.ensures, t)) (omega (arith, c.count-n.ensures, t, c.requires.xs_len.0)) _ c.alike.ensures (ap not c.if-not-alike.true)

pub overflow_add-place : goal.overflow_add-place
overflow_add-place c = omega (arith, c.loop-i.invariant.0, c.count-n.ensures, c.loop-i-test.true, c.requires.xs_len.1)

pub loop-i-preserved : goal.loop-i-preserved
loop-i-preserved c =
    let a = c.args in
    let l = c.loop-i in
    let t = c.loop-i-test.true in
    let F = field_at a.field in
    let xs = elements_at a.field a.xs.now in
    let ys = elements_at a.field a.ys.now in
    let hx : l.i < length xs = omega (arith, c.count-n.ensures, t) in
    let hy : l.i < length ys = omega (arith, c.count-n.ensures, t, c.requires.xs_len.0) in (
      elim c.if-not-alike.branch [ then-not-alike x ↦ omega (arith, l.invariant.0, x.place-is) | else-not-alike x ↦ omega (arith, l.invariant.0, x.place-is) ],
      elim c.if-not-alike.branch [
        | then-not-alike x ↦ list_other F xs ys a.out.now l.out l.place l.i l.invariant.1 hx hy _ c.alike.ensures (ap not x.if-not-alike.true) refl x.out-is x.place-is
        | else-not-alike x ↦ list_same F xs ys a.out.now l.out l.place l.i l.invariant.1 hx hy _ c.alike.ensures (ap not x.if-not-alike.false) x.out-is x.place-is
      ],
    )

pub shape_of-out : goal.shape_of-out
shape_of-out c = c.loop-i.invariant.1.long

pub returns : goal.returns
returns c =
    let a = c.args in
    let l = c.loop-i in
    list_end (field_at a.field) (elements_at a.field a.xs.now) (elements_at a.field a.ys.now) a.out.now l.out l.place l.i l.invariant.1 (omega (arith, c.count-n.ensures, c.loop-i-test.false))
