use Prim.Native.Nat.{ℕ, ◌-◌, ◌*◌}
use native.Mathlib.Omega.{arith}
use mathlib.Core.Path.{◌≡◌, sym, ap, ◌∙◌, subst}
use lib.ListN.{length, drop}
use Rattle.definition.specs.Polynomial.{evaluate}
use Rattle.correction.proofs.Folding.{chunk_values, fold_start, fold_turn, fold_end}
use Rattle.correction.proofs.Parts.{even, chunk_words, chunk}
use Rattle.correction.proofs.fold_in.Goals as goal

pub loop-j-init : goal.loop-j-init
loop-j-init g c =
    let A = g.A.Arithmetic in
    let F = A.over c.args.a in
    let a = c.args in
    let f = A.elements a.f.now in
    let out = A.elements a.out.now in
    subst (λ (m : ℕ). drop m out ≡ chunk_values F a.k (A.value a.r) (length out - m) (drop (m * a.k) f)) (sym c.count-j.ensures) (fold_start F f out a.k (A.value a.r))

-- the chunk lies inside f, and so each number on the way to it fits
pub overflow_mul-from-in-loop-j : goal.overflow_mul-from-in-loop-j
overflow_mul-from-in-loop-j g c =
    let A = g.A.Arithmetic in
    omega (arith, chunk_words A.elements A.width g.met.A.Arithmetic.counted c.words-width.ensures c.args.f.now c.loop-j.j c.args.k (omega arith) (omega (arith, c.count-j.ensures)) c.requires.1)

pub overflow_add-from : goal.overflow_add-from
overflow_add-from g c =
    let A = g.A.Arithmetic in
    omega (arith, chunk_words A.elements A.width g.met.A.Arithmetic.counted c.words-width.ensures c.args.f.now c.loop-j.j c.args.k (omega arith) (omega (arith, c.count-j.ensures)) c.requires.1)

pub offset_bounds-f-from : goal.offset_bounds-f-from
offset_bounds-f-from g c =
    let A = g.A.Arithmetic in
    omega (arith, chunk_words A.elements A.width g.met.A.Arithmetic.counted c.words-width.ensures c.args.f.now c.loop-j.j c.args.k (omega arith) (omega (arith, c.count-j.ensures)) c.requires.1)

pub slice_bounds-value_at-end : goal.slice_bounds-value_at-end
slice_bounds-value_at-end g c =
    let A = g.A.Arithmetic in
    chunk_words A.elements A.width g.met.A.Arithmetic.counted c.words-width.ensures c.args.f.now c.loop-j.j c.args.k (omega arith) (omega (arith, c.count-j.ensures)) c.requires.1

pub loop-j-preserved : goal.loop-j-preserved
loop-j-preserved g c =
    let A = g.A.Arithmetic in
    let M = g.met.A.Arithmetic in
    let F = A.over c.args.a in
    let a = c.args in
    let l = c.loop-j in
    ap (drop (l.j - 1)) c.put.ensures
    ∙ fold_turn F (A.elements a.f.now) (A.elements l.out) a.k (A.value a.r) (length (A.elements a.out.now)) l.j (omega arith) (omega (arith, c.count-j.ensures))
    (even A.elements A.width M.counted l.out a.out.now l.auto.out) l.invariant
    (c.value_at-value.ensures ∙ ap (λ v. evaluate F v (A.value a.r)) (chunk A.elements A.width M.counted M.first M.behind c.words-width.ensures a.f.now (l.j - 1) a.k))

pub returns : goal.returns
returns g c =
    let A = g.A.Arithmetic in
    let a = c.args in
    let l = c.loop-j in
    fold_end (A.over a.a) (A.elements a.f.now) (A.elements l.out) a.k (A.value a.r) (length (A.elements a.out.now)) l.j (omega arith) c.requires.0 c.requires.1 l.invariant
