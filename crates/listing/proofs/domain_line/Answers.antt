use Prim.Native.Nat.{ℕ}
use mathlib.Core.List.{List, ◌++◌}
use mathlib.Core.Path.{ap, ◌∙◌}
use native.Mathlib.Omega.{arith}
use lib.ListN.{take}
use Rattle.listing.proofs.Writing.{line_written}
use Rattle.listing.proofs.domain_line.Goals as goal

pub returns : goal.returns
returns c =
    let e = c.end in
    let p = c.points-ended in
    let w = c.write-begun in
    let h = c.head in
    let a = c.args in
    let before = take a.at a.out.now in
    let ended = take p.result p.new.out in record {
      out_after = line_written a.pw.now a.i a.scale before (w.ensures.out_after ∙ ap (λ (xs : List ℕ). before ++ xs) h.ensures.0.text) p.ensures.out_after
          (c.write.ensures.out_after ∙ ap (λ (xs : List ℕ). ended ++ xs) e.ensures.0.text);
      upper_bound = omega (arith, c.write.ensures.value, e.ensures.1, p.ensures.upper_bound, w.ensures.value, h.ensures.1);
    }
