use Prim.Native.Nat.{ℕ, ◌*◌}
use native.Mathlib.Omega.{arith}
use mathlib.Core.Path.{sym, ap, ◌∙◌}
use lib.ListN.{length, drop}
use lib.Seq.{length_front, length-take-le}
use mathlib.Core.List.{◌++◌}
use Rattle.list_laws.specs.Zeros.{zeros, length_zeros}
use Rattle.definition.specs.Field.{field_of, prime_field}
use Rattle.algebra.specs.PrimeField.{laws}
use Rattle.root_quotients.proofs.AtRoots.{at_roots_is, halves_same}
use Rattle.root_quotients.proofs.PrimeValuesAtRoots.at_roots.Goals as goal

pub returns : goal.returns
unfolding field_of prime_field
returns c =
    let a = c.args in
    let d = c.residues in
    let t = c.on_roots in
    at_roots_is (field_of a.self.field) (laws a.self.field) c.requires.rooted a.f.now (zeros 16) d.new.out a.out.now t.new.out c.requires.powers_in_bounds.0 (omega (arith, length_zeros 16, c.requires.rooted.few)) (omega arith)
    d.auto.out d.ensures t.auto.out (t.ensures c.requires.rooted.ω c.requires.rooted.table)
