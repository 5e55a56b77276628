use Prim.Native.Nat.{◌-◌, ◌*◌, ◌<◌}
use native.Mathlib.Omega.{arith}
use mathlib.Core.Path.{refl, ap, ◌∙◌}
use lib.ListN.{length}
use Rattle.definition.specs.Field.{spelling_of}
use Rattle.list_laws.specs.Lists.{part_length_lem}
use Rattle.spelling.specs.ByField.{elements_at}
use Rattle.spelling.specs.Words.{elements_even, elements_few}
use Rattle.elements.specs.Meaning.{value_at}
use Rattle.combination.proofs.Cases.{filled_none}
use Rattle.combination.proofs.Tables.{all_tables, bound_at, entries, no_table, table_inside, table_turn, tabled_kept}
use Rattle.combination.proofs.values.Goals as goal

pub loop-m-init : goal.loop-m-init
loop-m-init c =
    let a = c.args in
    let f = c.fill in
    let size = elements_even (spelling_of a.field) f.new.out a.out.now f.auto.out ∙ entries c.requires.tabled in
    record { list_same = refl; multipliers_same = refl; out_same = refl; combined = no_table a.field a.d (value_at a.field a.r) a.bounds.now a.pw.now a.tables.now (length a.pw.now) f.new.out size (filled_none a.field a.out.now f.new.out f.ensures) }

pub overflow_cast-e : goal.overflow_cast-e
overflow_cast-e c = omega (arith, c.shared_slice_known-in-loop-m-1.given (c.loop-m.m - 1))

pub overflow_sub-e : goal.overflow_sub-e
overflow_sub-e c =
    let a = c.args in
    omega (arith, (bound_at a.d (c.loop-m.m - 1) a.bounds.now c.requires.bounded.0 (omega arith)).1)

pub overflow_mul-n : goal.overflow_mul-n
overflow_mul-n c =
    let a = c.args in
    let inside = table_inside (length a.bounds.now) (length a.pw.now) (c.loop-m.m - 1) (length (elements_at a.field a.tables.now)) (omega arith) c.requires.bounded.1 in
    omega (arith, inside, elements_few (spelling_of a.field) a.tables.now)

pub part-table-requires : goal.part-table-requires
part-table-requires c =
    let a = c.args in
    table_inside (length a.bounds.now) (length a.pw.now) (c.loop-m.m - 1) (length (elements_at a.field a.tables.now)) (omega arith) c.requires.bounded.1

pub add_table-requires : goal.add_table-requires
add_table-requires c =
    let a = c.args in
    let l = c.loop-m in
    let here : l.m - 1 < length a.bounds.now = omega arith in
    let inside = table_inside (length a.bounds.now) (length a.pw.now) (l.m - 1) (length (elements_at a.field a.tables.now)) here c.requires.bounded.1 in
    let b = bound_at a.d (l.m - 1) a.bounds.now c.requires.bounded.0 here in
    let size = elements_even (spelling_of a.field) l.list a.list.now l.invariant.list_same ∙ c.requires.tabled.degree in record { tabled = tabled_kept c.requires.tabled l.list l.multipliers l.out l.invariant.list_same l.invariant.multipliers_same (l.invariant.out_same ∙ c.fill.auto.out); e_in_bounds = (omega (arith, size, b), ap length c.part-table.ensures ∙ part_length_lem (length a.pw.now * (l.m - 1)) (length a.pw.now) (elements_at a.field a.tables.now) inside) }

pub loop-m-preserved : goal.loop-m-preserved
loop-m-preserved c =
    let a = c.args in
    let l = c.loop-m in
    let t = c.add_table in
    let n = l.invariant in
    let size = elements_even (spelling_of a.field) l.out a.out.now (n.out_same ∙ c.fill.auto.out) ∙ entries c.requires.tabled in record {
      list_same = t.auto.list ∙ n.list_same;
      multipliers_same = t.auto.multipliers ∙ n.multipliers_same;
      out_same = t.auto.out ∙ n.out_same;
      combined = table_turn a.field a.d (value_at a.field a.r) a.bounds.now a.pw.now a.tables.now (length a.pw.now) l.m c.part-table.result.now l.out t.new.out (omega arith) (omega arith) refl size n.combined c.part-table.ensures t.ensures;
    }

pub shape_of-out : goal.shape_of-out
shape_of-out c = c.loop-m.invariant.out_same ∙ c.fill.auto.out

pub returns : goal.returns
returns c =
    let a = c.args in
    let l = c.loop-m in
    all_tables a.field a.d (value_at a.field a.r) a.bounds.now a.pw.now a.tables.now (length a.pw.now) (length (elements_at a.field a.out.now)) l.m l.out (entries c.requires.tabled) (omega (arith, c.loop-m-test.false)) l.invariant.combined
