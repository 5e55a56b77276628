use Prim.Native.Nat.{ℕ, ◌+◌, ◌-◌, ◌*◌, ◌/◌}
use mathlib.Core.List.{List, ◌++◌, flat_map}
use mathlib.Core.Path.{ap, ◌∙◌}
use native.Mathlib.Omega.{arith}
use lib.ListN.{length, get_or, take}
use Rattle.listing.specs.Listing.{point_text}
use Rattle.listing.specs.Table.{points_from}
use Rattle.listing.proofs.Writing.{points_next, points_none, written_all, written_next}
use Rattle.listing.proofs.points.Goals as goal

-- src/lib.rt:44:5
pub loop-j-preserved : goal.loop-j-preserved
loop-j-preserved c =
    let l = c.loop-j in
    let a = c.args in
    let pw = a.pw.now in
    let count = length pw / a.scale in
    let p = c.point.ensures in
    let w = c.write-place.ensures in (
      omega (arith, p.1, w.value, l.invariant.0),
      written_next (take l.place l.out) (point_text (get_or pw (a.scale * l.j) 0)) (flat_map point_text (points_from pw a.scale (l.j + 1) (count - (l.j + 1)))) (w.out_after ∙ ap (λ (xs : List ℕ). take l.place l.out ++ xs) p.0.text)
          (points_next pw a.scale l.j count (omega arith)) l.invariant.1,
    )

-- src/lib.rt:36:1
pub returns : goal.returns
returns c =
    let l = c.loop-j in
    let a = c.args in
    let count = length a.pw.now / a.scale in record { out_after = written_all (points_none a.pw.now a.scale l.j count (omega arith)) l.invariant.1; upper_bound = omega (arith, l.invariant.0) }
