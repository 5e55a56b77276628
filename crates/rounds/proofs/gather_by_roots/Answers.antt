use Prim.Native.Nat.{◌-◌}
use mathlib.Core.Path.{◌≡◌, ◌∙◌, refl, sym}
use native.Mathlib.Omega.{arith}
use lib.ListN.{length}
use Rattle.definition.specs.Field.{spelling_of}
use Rattle.definition.specs.Polynomial.{pair}
use Rattle.spelling.specs.ByField.{elements_at, field_at, laws_at}
use Rattle.spelling.specs.Words.{elements_even}
use Rattle.samples.specs.Answers.{kept_from, kept_clash, kept_none}
use Rattle.rounds.specs.SamplesIn.{numbered}
use Rattle.rounds.proofs.Shifts.{shifts_end, shifts_turn, shifts_clash, shifts_all, room_add}
use Rattle.rounds.proofs.gather_by_roots.Invariants.{sample_at}
use Rattle.rounds.proofs.gather_by_roots.Goals as goal

pub loop-i-init : goal.loop-i-init
loop-i-init c =
    let a = c.args in
    let n = c.count-from.ensures in
    (omega arith, (omega (arith, n), (omega (arith, n), (refl, (refl, (shifts_end (field_at a.field) (sample_at a.field a.pw.now a.roots.now a.oracle a.k a.r) a.shifts.now (elements_at a.field a.px.now) (elements_at a.field a.py.now) c.count-from.result (sym n), refl))))))

pub sample_at-s-requires : goal.sample_at-s-requires
sample_at-s-requires c =
    let p = c.requires in
    let n = c.loop-i.invariant in record { i_in_bounds = omega (arith, n.0, c.loop-i-test.true); k_in_bounds = p.k_in_bounds; fits = p.fits; below = (p.below.0, n.1.1.1.1.1.1 ∙ p.below.1) }

pub push-requires : goal.push-requires
push-requires c =
    let a = c.args in
    let l = c.loop-i in
    let n = l.invariant in
    let m = c.requires.py_len in
    let σ = spelling_of a.field in
    let same-x = elements_even σ l.px a.px.now n.1.1.1.0 in
    let same-y = elements_even σ l.py a.py.now n.1.1.1.1.0 in
    let same = elements_even σ a.py.now a.px.now m.0 in
    (omega (arith, c.loop-i-test.true, n.0, n.1.1.0, m.1.1), (omega (arith, n.1.0, same-x), same-y ∙ same ∙ sym same-x))

pub shape_of-values-in_default : goal.shape_of-values-in_default
shape_of-values-in_default c = c.sample_at-s.auto.values ∙ c.loop-i.invariant.1.1.1.1.1.1

pub shape_of-px-in_default : goal.shape_of-px-in_default
shape_of-px-in_default c = c.push.auto.xs ∙ c.loop-i.invariant.1.1.1.0

pub shape_of-py-in_default : goal.shape_of-py-in_default
shape_of-py-in_default c = c.push.auto.ys ∙ c.loop-i.invariant.1.1.1.1.0

pub returns-in_default : goal.returns-in_default
returns-in_default c =
    let a = c.args in
    let l = c.loop-i in
    let t = shifts_turn (field_at a.field) (sample_at a.field a.pw.now a.roots.now a.oracle a.k a.r) a.shifts.now (laws_at a.field) l.i c.loop-i-test.true l.invariant.0 l.invariant.1.1.1.1.1.0 c.sample_at-s.ensures c.push.ensures.ys_after in record { py_after = kept_none _ _ (shifts_clash (field_at a.field) (sample_at a.field a.pw.now a.roots.now a.oracle a.k a.r) a.shifts.now (pair (elements_at a.field a.outs.now) (elements_at a.field a.replies.now)) (l.i - 1) (kept_clash (elements_at a.field c.push.new.xs) (elements_at a.field c.push.new.ys) c.in_default.is t)); room = tt }

pub loop-i-preserved : goal.loop-i-preserved
loop-i-preserved c =
    let a = c.args in
    let l = c.loop-i in
    let n = l.invariant.1.1.1 in
    let u = c.push in
    let h = c.loop-i-test.true in
    let w = c.in-Some.ensures.room in (
      omega (arith, l.invariant.0, h),
      (
        omega (arith, w.1, l.invariant.1.0),
        (
          omega (arith, w.0, h, l.invariant.0, l.invariant.1.1.0),
          (
            u.auto.xs ∙ n.0,
            (
              u.auto.ys ∙ n.1.0,
              (
                kept_from (elements_at a.field u.new.xs) (elements_at a.field u.new.ys) refl (shifts_turn (field_at a.field) (sample_at a.field a.pw.now a.roots.now a.oracle a.k a.r) a.shifts.now (laws_at a.field) l.i h l.invariant.0 n.1.1.0 c.sample_at-s.ensures c.in-Some.ensures.ys_after),
                c.sample_at-s.auto.values ∙ n.1.1.1,
              ),
            ),
          ),
        ),
      ),
    )

pub push_all-requires : goal.push_all-requires
push_all-requires c =
    let a = c.args in
    let l = c.loop-i in
    let n = l.invariant in
    let m = c.requires.py_len in
    let σ = spelling_of a.field in
    let same-x = elements_even σ l.px a.px.now n.1.1.1.0 in
    let same-y = elements_even σ l.py a.py.now n.1.1.1.1.0 in
    let same = elements_even σ a.py.now a.px.now m.0 in record { ys_len = (m.1.0, same-y ∙ same ∙ sym same-x); from_in_bounds = (omega (arith, n.1.0, same-x), omega (arith, n.0, n.1.1.0, m.1.1)) }

pub shape_of-values : goal.shape_of-values
shape_of-values c = c.loop-i.invariant.1.1.1.1.1.1

pub shape_of-px : goal.shape_of-px
shape_of-px c = c.push_all.auto.px ∙ c.loop-i.invariant.1.1.1.0

pub shape_of-py : goal.shape_of-py
shape_of-py c = c.push_all.auto.py ∙ c.loop-i.invariant.1.1.1.1.0

pub returns : goal.returns
returns c =
    let a = c.args in
    let l = c.loop-i in
    let all = c.push_all in
    let z : l.i ≡ 0 = omega (arith, c.loop-i-test.false) in record { py_after = all.ensures.py_after (numbered (sample_at a.field a.pw.now a.roots.now a.oracle a.k a.r) 0 a.shifts.now) (shifts_all (field_at a.field) (sample_at a.field a.pw.now a.roots.now a.oracle a.k a.r) a.shifts.now l.i z l.invariant.1.1.1.1.1.0); room = room_add (length a.shifts.now) (length (elements_at a.field a.outs.now)) all.result (omega (arith, l.invariant.1.1.0), l.invariant.1.0) all.ensures.room }
