use native.Mathlib.Omega.{arith}
use Prim.Native.Nat.{◌≤◌}
use mathlib.Core.Path.{◌≡◌}
use lib.ListN.{length}
use Rattle.tables.specs.Halving.{Spaced}
use Rattle.plane_tables.proofs.Cases.{asked_three, asked_one, whole_three, size_three, size_one, table_three, table_one}
use Rattle.plane_tables.proofs.roots_table.Goals as goal

-- `plane_tables::roots_table` meets its contract. Assumes nothing.
pub by_own_plane-requires : goal.by_own_plane-requires
by_own_plane-requires c =
    let a = c.args in
    let h : a.field ≡ 3 = omega arith in record { halves = (asked_three a.field a.f.now a.out.now h c.requires.halves.0, size_three a.field a.f.now a.out.now (λ n. Spaced a.at a.step n (length a.pw.now)) h c.requires.halves.1); out_len = (whole_three a.field a.f.now a.out.now h c.requires.out_len.0, (size_three a.field a.f.now a.out.now (λ n. n ≤ 16) h c.requires.out_len.1, omega arith)) }

pub on_roots-requires : goal.on_roots-requires
on_roots-requires c =
    let a = c.args in
    let h : a.field ≡ 3 → ⊥ = omega arith in
    (asked_one a.field a.f.now a.out.now h c.requires.halves.0, size_one a.field a.f.now a.out.now (λ n. Spaced a.at a.step n (length a.pw.now)) h c.requires.halves.1)

pub returns-then-field-eq3 : goal.returns-then-field-eq3
returns-then-field-eq3 c =
    let a = c.args in
    let t = c.by_own_plane in
    table_three a.field a.f.now a.pw.now a.out.now t.new.out a.at a.step (omega arith) t.ensures

pub returns-else-field-eq3 : goal.returns-else-field-eq3
returns-else-field-eq3 c =
    let a = c.args in
    let t = c.on_roots in
    table_one a.field a.f.now a.pw.now a.out.now t.new.out a.at a.step (omega arith) t.ensures
