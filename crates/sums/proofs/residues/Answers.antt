use Prim.Native.Nat.{ℕ, ◌*◌}
use native.Mathlib.Omega.{arith}
use mathlib.Core.Path.{ap, ◌∙◌}
use lib.ListN.{length}
use Rattle.definition.specs.Field.{field_of}
use Rattle.list_laws.specs.Filled.{filled_first, filled_next}
use Rattle.sums.specs.AtRoots.{every_nth}
use Rattle.sums.specs.Sums.{products}
use Rattle.sums.proofs.residues.Goals as goal

pub loop-m-init : goal.loop-m-init
loop-m-init c =
    let a = c.args in
    filled_first (λ i. products (field_of a.field) (every_nth (field_of a.field) a.f.now i (length a.out.now) (length a.powers.now)) a.powers.now) a.out.now

pub sum_every-requires : goal.sum_every-requires
sum_every-requires c =
    let l = c.loop-m in
    let a = c.args in
    (omega arith, (omega (arith, ap (λ (n : ℕ). n * length a.powers.now) l.invariant.same), omega arith))

pub loop-m-preserved : goal.loop-m-preserved
loop-m-preserved c =
    let l = c.loop-m in
    let a = c.args in
    filled_next (λ i. products (field_of a.field) (every_nth (field_of a.field) a.f.now i (length a.out.now) (length a.powers.now)) a.powers.now) a.out.now l.out l.m l.invariant (omega (arith, l.invariant.same))
    (c.sum_every.ensures ∙ ap (λ (n : ℕ). products (field_of a.field) (every_nth (field_of a.field) a.f.now l.m n (length a.powers.now)) a.powers.now) l.invariant.same)

pub returns : goal.returns
returns c =
    let l = c.loop-m in
    λ m u. l.invariant.passed m (omega (arith, l.invariant.same))
