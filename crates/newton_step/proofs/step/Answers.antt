use Rattle.std.proofs.Common.{ℕ, ◌+◌, ◌-◌, ◌≤◌, arith, sym, ap, ap₂, ◌∙◌, subst, length, take, length-take-le}
use Rattle.definition.specs.Polynomial.{evaluate}
use Rattle.arithmetic.specs.Parts.{fit, front_length}
use Rattle.newton_step.specs.Walked.{Added, Raised}
use Rattle.newton_step.proofs.Stepping.{few_more, through_next}
use Rattle.newton_step.proofs.Cases.{part_kept}
use Rattle.newton_step.proofs.step.Goals as goal

pub slice_bounds-value_by-end : goal.slice_bounds-value_by-end
slice_bounds-value_by-end g c =
    let A = g.A.Arithmetic in
    let a = c.args in
    omega (arith, c.words-n.ensures, fit A.width A.elements g.met.A.Arithmetic.counted (c.count.result - a.i + 1) a.room.now (omega (arith, c.count.ensures, c.requires.i_nonzero, c.requires.xs_in_bounds)))

pub slice_bounds-value_by-end-2 : goal.slice_bounds-value_by-end-2
slice_bounds-value_by-end-2 g c =
    let A = g.A.Arithmetic in
    let a = c.args in
    sym (length-take-le c.words-n.result a.room.now
    (omega (arith, c.words-n.ensures, fit A.width A.elements g.met.A.Arithmetic.counted (c.count.result - a.i + 1) a.room.now (omega (arith, c.count.ensures, c.requires.i_nonzero, c.requires.xs_in_bounds)))))

pub value_by-value-requires : goal.value_by-value-requires
value_by-value-requires g c =
    let A = g.A.Arithmetic in
    let a = c.args in
    let n = c.count.ensures in
    let enough : c.count.result - a.i + 1 ≤ length (A.elements a.room.now) = omega (arith, n, c.requires.i_nonzero, c.requires.xs_in_bounds) in
    let size = front_length A.width A.elements g.met.A.Arithmetic.counted g.met.A.Arithmetic.first (c.count.result - a.i + 1) a.room.now c.words-n.ensures enough in
    record {
      room_nonzero = (omega (arith, size), (omega (arith, size, n, c.requires.i_nonzero, c.requires.xs_in_bounds), omega (arith, size, n, c.requires.i_nonzero, c.requires.xs_in_bounds)));
      zero_from = few_more (A.over a.a) (A.laws a.a) (A.elements a.xs.now) (A.elements a.ys.now) (A.elements a.q.now) (A.elements a.v.now) a.i c.requires.through
          (A.elements (take c.words-n.result a.room.now)) (size ∙ ap (λ (k : ℕ). k - a.i + 1) n);
    }

pub shape_of-room : goal.shape_of-room
shape_of-room g c =
    let A = g.A.Arithmetic in
    let a = c.args in
    part_kept c.words-n.result c.value_by-value.new.room a.room.now
    (omega (arith, c.words-n.ensures, fit A.width A.elements g.met.A.Arithmetic.counted (c.count.result - a.i + 1) a.room.now (omega (arith, c.count.ensures, c.requires.i_nonzero, c.requires.xs_in_bounds))))
    c.value_by-value.auto.room

pub returns : goal.returns
returns g c =
    let A = g.A.Arithmetic in
    let F = A.over c.args.a in
    let a = c.args in
    let r = c.add_and_raise in
    let q = A.elements a.q.now in
    let v = A.elements a.v.now in
    let n = c.count.ensures in
    through_next F (A.laws a.a) (A.elements a.xs.now) (A.elements a.ys.now) q v (A.elements r.new.q) (A.elements r.new.v) a.i
    c.requires.i_nonzero.0 c.requires.i_nonzero.1.0 c.requires.i_nonzero.1.1.0 c.requires.xs_in_bounds.0 c.requires.xs_in_bounds.1.1.0 c.requires.through
    (c.get-2.ensures ∙ c.requires.i_value)
    (c.value_by-value.ensures ∙ ap (evaluate F q) c.get-x.ensures)
    (c.sub-difference.ensures ∙ ap (λ z. F.◌⊖◌ z (A.value c.value_by-value.result)) c.get.ensures)
    c.mul-s.ensures
    (c.sub.ensures ∙ ap₂ (λ y z. F.◌⊖◌ y z) c.zero.ensures c.get-x.ensures)
    (subst (λ (k : ℕ). Added F (A.value c.mul-s.result) q v (A.elements r.new.q) (k - a.i + 2)) n r.ensures.added)
    (subst (λ (k : ℕ). Raised F (A.value c.sub.result) v (A.elements r.new.v) (k - a.i + 2)) n r.ensures.raised)
