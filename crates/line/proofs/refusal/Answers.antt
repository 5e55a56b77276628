use Prim.Native.Nat.{ℕ}
use mathlib.Core.List.{List, [], ◌∷◌, ◌++◌}
use native.Mathlib.Omega.{arith}
use Rattle.definition.specs.Line.{decimal, outcome_text}
use Rattle.line.specs.Decimal.{long_32, long_64}
use Rattle.line.specs.Text.{begun, extends_then}
use Rattle.line.proofs.refusal.Goals as goal

pub digits-numbered-requires : goal.digits-numbered-requires
digits-numbered-requires c =
    omega (arith, long_32 c.args.number c.ranges.number.fits)

pub put-requires : goal.put-requires
put-requires c =
    omega (arith, long_32 c.args.number c.ranges.number.fits)

pub digits-requires : goal.digits-requires
digits-requires c =
    omega (arith, long_32 c.args.number c.ranges.number.fits, long_64 c.args.place c.ranges.place.fits)

pub returns : goal.returns
unfolding outcome_text
returns c =
    let last = c.digits in
    let p = c.put in
    let d = c.digits-numbered in
    let t = c.text in
    let e = c.empty in
    let number = decimal c.args.number in
    let place = decimal c.args.place in
    let word : List ℕ = 114 ∷ 101 ∷ 102 ∷ 117 ∷ 115 ∷ 101 ∷ 100 ∷ 32 ∷ [] in
    let placed = extends_then d.result p.result last.result (32 ∷ []) place p.ensures last.ensures in
    let numbered = extends_then t.result d.result last.result number (32 ∷ place) d.ensures placed in (
      begun e.result last.result (word ++ (number ++ (32 ∷ place))) e.ensures
          (extends_then e.result t.result last.result word (number ++ (32 ∷ place)) t.ensures numbered),
      omega (arith, long_32 c.args.number c.ranges.number.fits, long_64 c.args.place c.ranges.place.fits),
    )
