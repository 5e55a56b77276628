use Rattle.std.proofs.Common.{ℕ, ◌≡◌, ◌++◌, ◌-◌, ◌≤◌, ◌<◌, arith, sym, ap, ap₂, refl, length, drop, ◌∙◌}
use Rattle.definition.specs.Field.{spelling_of}
use Rattle.definition.specs.Polynomial.{pair}
use Rattle.spelling.specs.ByField.{ElementOf, field_at, elements_at, laws_at}
use Rattle.spelling.specs.Words.{elements_even}
use Rattle.samples.specs.Samples.{put, distinct_or_clash}
use Rattle.samples.specs.Answers.{kept_from, kept_clash, kept_none, kept_some}
use Rattle.samples.proofs.Steps.{walk_end, walk_turn, walk_clash}
use Rattle.samples.proofs.push_all.Goals as goal

pub loop-i-init : goal.loop-i-init
loop-i-init c =
    let a = c.args in
    let n : c.count-i.result ≡ length (elements_at a.field a.xs.now) = c.count-i.ensures in (
      omega (arith, n, c.requires.from_in_bounds),
      (
        omega arith,
        (
          omega (arith, n),
          λ ps h.
              h ∙ ap (distinct_or_clash (field_at a.field)) (walk_end (field_at a.field) (elements_at a.field a.xs.now) (elements_at a.field a.ys.now) ps)
              ∙ ap (λ (m : ℕ). distinct_or_clash (field_at a.field) (pair (drop m (elements_at a.field a.xs.now)) (drop m (elements_at a.field a.ys.now)) ++ ps)) (sym n),
        ),
      ),
    )

pub push-requires : goal.push-requires
push-requires c =
    let l = c.loop-i in
    let a = c.args in
    let px-even = elements_even (spelling_of a.field) l.px a.px.now l.auto.px in
    let py-even = elements_even (spelling_of a.field) l.py a.py.now l.auto.py in
    let n = l.invariant in
    (omega (arith, n.0, c.loop-i-test.true), (omega (arith, n.1.0, px-even, c.requires.from_in_bounds), py-even ∙ c.requires.ys_len.1 ∙ sym px-even))

pub returns-in_default : goal.returns-in_default
returns-in_default c =
    let l = c.loop-i in
    let a = c.args in
    let F = field_at a.field in
    let xs = elements_at a.field a.xs.now in
    let ys = elements_at a.field a.ys.now in
    let px = elements_at a.field c.push.new.xs in
    let py = elements_at a.field c.push.new.ys in
    let g = pair (drop l.k (elements_at a.field l.px)) (drop l.k (elements_at a.field l.py)) in
    let inside : l.i ≤ length xs = omega (arith, l.auto.i, c.count-i.ensures) in
    let put-now = c.push.ensures.ys_after ∙ ap₂ (λ (p v : ElementOf a.field). put F.equal (record { point = p; value = v }) g) c.get-x.ensures c.get-y.ensures in record {
      py_after = λ ps h. kept_none _ _ (walk_clash F xs ys ps (l.i - 1) c.requires.ys_len.0 (walk_turn F xs ys ps (laws_at a.field) l.i (omega (arith, c.loop-i-test.true)) inside c.requires.ys_len.0 (l.invariant.1.1.1 ps h) (kept_clash px py c.in_default.is put-now)));
      room = tt;
    }

pub loop-i-preserved : goal.loop-i-preserved
loop-i-preserved c =
    let l = c.loop-i in
    let a = c.args in
    let F = field_at a.field in
    let xs = elements_at a.field a.xs.now in
    let ys = elements_at a.field a.ys.now in
    let px = elements_at a.field c.push.new.xs in
    let py = elements_at a.field c.push.new.ys in
    let g = pair (drop l.k (elements_at a.field l.px)) (drop l.k (elements_at a.field l.py)) in
    let inside : l.i ≤ length xs = omega (arith, l.auto.i, c.count-i.ensures) in
    let some_left : 0 < l.i = omega (arith, c.loop-i-test.true) in
    let n = l.invariant in
    let w = c.in-Some.ensures.room in
    let put-now = c.in-Some.ensures.ys_after ∙ ap₂ (λ (p v : ElementOf a.field). put F.equal (record { point = p; value = v }) g) c.get-x.ensures c.get-y.ensures in (
      omega (arith, w, some_left, n.0),
      (
        omega (arith, w, n.1.0),
        (
          omega (arith, w, some_left, n.1.1.0, inside),
          λ ps h. kept_from px py refl (walk_turn F xs ys ps (laws_at a.field) l.i some_left inside c.requires.ys_len.0 (n.1.1.1 ps h) put-now),
        ),
      ),
    )

pub returns : goal.returns
returns c =
    let l = c.loop-i in
    let z : l.i ≡ 0 = omega arith in
    let n = l.invariant.1.1.1 in record { py_after = λ ps h. kept_some l.k _ _ (rw z at (n ps h)); room = (omega arith, omega arith) }
