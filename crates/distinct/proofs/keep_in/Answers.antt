use native.Mathlib.Omega.{arith}
use Prim.Native.Nat.{◌-◌}
use mathlib.Core.Path.{◌∙◌, sym, ap}
use lib.ListN.{drop}
use Rattle.distinct.proofs.Turns.{keep_new, keep_there}
use Rattle.distinct.proofs.keep_in.Goals as goal

pub returns-then-found : goal.returns-then-found
returns-then-found g c =
    let A = g.A.Arithmetic in
    let a = c.args in record { xs_after = keep_there (A.over a.a).equal (A.elements a.xs.now) a.from (A.value a.x) (sym c.if-found.true ∙ c.found.ensures); upper_bound = (omega arith, omega arith) }

pub returns : goal.returns
returns g c =
    let A = g.A.Arithmetic in
    let a = c.args in record {
      xs_after = ap (drop (a.from - 1)) c.put.ensures
          ∙ keep_new (A.over a.a).equal (A.elements a.xs.now) a.from (A.value a.x) c.requires.0 c.requires.1 (sym c.if-found.false ∙ c.found.ensures);
      upper_bound = (omega arith, omega (arith, c.requires));
    }
