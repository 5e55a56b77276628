use Prim.Native.Nat.{◌-◌}
use native.Mathlib.Omega.{arith}
use mathlib.Core.Path.{◌≡◌, refl, ap, ◌∙◌}
use lib.ListN.{length, get_or}
use Rattle.definition.specs.Field.{spelling_of}
use Rattle.list_laws.specs.Lists.{part_length_lem}
use Rattle.spelling.specs.ByField.{elements_at}
use Rattle.spelling.specs.Words.{elements_even}
use Rattle.elements.specs.Meaning.{value_at}
use Rattle.combination.proofs.Cases.{filled_none}
use Rattle.combination.proofs.Parts.{all_parts, no_part, no_sum, part_turn, standing}
use Rattle.combination.proofs.polynomial.Goals as goal

pub loop-m-init : goal.loop-m-init
loop-m-init c =
    let a = c.args in
    let t = c.fill in
    let n = c.count-at in
    let size = elements_even (spelling_of a.field) t.new.out a.out.now t.auto.out ∙ c.requires.whole in
    record { place = omega (arith, n.ensures, no_sum a.field a.d (value_at a.field a.r) a.bounds.now a.f.now); scratch_same = refl; out_same = refl; combined = no_part a.field a.d (value_at a.field a.r) a.bounds.now a.f.now n.result t.new.out size (filled_none a.field a.out.now t.new.out t.ensures) }

pub overflow_cast-count : goal.overflow_cast-count
overflow_cast-count c = omega (arith, c.shared_slice_known-in-loop-m-1.given (c.loop-m.m - 1))

pub overflow_sub-at : goal.overflow_sub-at
overflow_sub-at c =
    let a = c.args in
    let l = c.loop-m in
    omega (arith, (standing a.field a.d (value_at a.field a.r) a.bounds.now a.f.now l.at l.m (c.requires) c.loop-m-test.true (omega arith) l.invariant.place).back)

pub overflow_sub-d : goal.overflow_sub-d
overflow_sub-d c =
    let a = c.args in
    let l = c.loop-m in
    omega (arith, (standing a.field a.d (value_at a.field a.r) a.bounds.now a.f.now l.at l.m (c.requires) c.loop-m-test.true (omega arith) l.invariant.place).few)

pub part-requires : goal.part-requires
part-requires c =
    let a = c.args in
    let l = c.loop-m in
    (standing a.field a.d (value_at a.field a.r) a.bounds.now a.f.now l.at l.m (c.requires) c.loop-m-test.true (omega arith) l.invariant.place).inside

pub add_part-requires : goal.add_part-requires
add_part-requires c =
    let a = c.args in
    let l = c.loop-m in
    let s = standing a.field a.d (value_at a.field a.r) a.bounds.now a.f.now l.at l.m (c.requires) c.loop-m-test.true (omega arith) l.invariant.place in
    let b = get_or a.bounds.now (l.m - 1) 0 in
    let wide : length (elements_at a.field c.part.result.now) ≡ b = ap length c.part.ensures ∙ part_length_lem (l.at - b) b (elements_at a.field a.f.now) s.inside in
    let first = elements_even (spelling_of a.field) l.scratch a.scratch.now l.invariant.scratch_same ∙ c.requires.room in
    let second = elements_even (spelling_of a.field) l.out a.out.now (l.invariant.out_same ∙ c.fill.auto.out) ∙ c.requires.whole in record { nonzero = (omega (arith, wide, s.some), (omega (arith, first, wide, s.few), omega (arith, c.requires.small))); out_len = omega (arith, first, second) }

pub loop-m-preserved : goal.loop-m-preserved
loop-m-preserved c =
    let a = c.args in
    let l = c.loop-m in
    let t = c.add_part in
    let n = l.invariant in
    let s = standing a.field a.d (value_at a.field a.r) a.bounds.now a.f.now l.at l.m (c.requires) c.loop-m-test.true (omega arith) n.place in
    let size = elements_even (spelling_of a.field) l.out a.out.now (n.out_same ∙ c.fill.auto.out) ∙ c.requires.whole in record {
      place = s.before;
      scratch_same = t.auto.scratch ∙ n.scratch_same;
      out_same = t.auto.out ∙ n.out_same;
      combined = part_turn a.field a.d (value_at a.field a.r) a.bounds.now a.f.now l.at l.m c.part.result.now l.out t.new.out s c.loop-m-test.true size n.combined c.part.ensures t.ensures;
    }

pub shape_of-out : goal.shape_of-out
shape_of-out c = c.loop-m.invariant.out_same ∙ c.fill.auto.out

pub returns : goal.returns
returns c =
    let a = c.args in
    let l = c.loop-m in
    all_parts a.field a.d (value_at a.field a.r) a.bounds.now a.f.now l.at l.m l.out (c.requires) (omega (arith, c.loop-m-test.false)) l.invariant.place l.invariant.combined
