use native.Mathlib.Omega.{arith}
use Prim.Native.Nat.{◌*◌, ◌<◌}
use mathlib.Core.Path.{◌≡◌}
use lib.ListN.{length}
use Rattle.plane_tables.proofs.Cases.{asked_three, asked_one, whole_three, size_three, size_one, domain_three, domain_one, whole_domain}
use Rattle.plane_tables.proofs.domain_table.Goals as goal

-- `plane_tables::domain_table` meets its contract. Assumes nothing.
pub by_own_plane-requires : goal.by_own_plane-requires
by_own_plane-requires c =
    let a = c.args in
    let h : a.field ≡ 3 = omega arith in
    let whole = whole_three a.field a.f.now a.out.now h c.requires.out_len.0 in record {
      halves = (asked_three a.field a.f.now a.out.now h c.requires.halves, size_three a.field a.f.now a.out.now (λ n. (0 < a.scale) × (a.scale * n ≡ length a.pw.now)) h c.requires.scale_nonzero);
      out_len = (whole, (omega (arith, whole, c.requires.out_len.1), omega arith));
    }

pub on_domain-requires : goal.on_domain-requires
on_domain-requires c =
    let a = c.args in
    let h : a.field ≡ 3 → ⊥ = omega arith in record { halves = asked_one a.field a.f.now a.out.now h c.requires.halves; scale_nonzero = size_one a.field a.f.now a.out.now (λ n. (0 < a.scale) × (a.scale * n ≡ length a.pw.now)) h c.requires.scale_nonzero }

pub returns-then-field-eq3 : goal.returns-then-field-eq3
returns-then-field-eq3 c =
    let a = c.args in
    let t = c.by_own_plane in
    let h : a.field ≡ 3 = omega arith in
    let scaled = size_three a.field a.f.now a.out.now (λ n. (0 < a.scale) × (a.scale * n ≡ length a.pw.now)) h c.requires.scale_nonzero in
    domain_three a.field a.f.now a.pw.now a.out.now t.new.out a.scale h (whole_domain a.field a.f.now a.pw.now a.out.now t.new.out a.scale scaled.0 scaled.1 t.auto.out t.ensures)

pub returns-else-field-eq3 : goal.returns-else-field-eq3
returns-else-field-eq3 c =
    let a = c.args in
    let t = c.on_domain in
    domain_one a.field a.f.now a.pw.now a.out.now t.new.out a.scale (omega arith) t.ensures
