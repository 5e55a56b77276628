use Rattle.std.proofs.Common.{ℕ, ◌≡◌, ◌+◌, ◌<◌, arith, refl, sym, subst, ◌∙◌, length}
use Rattle.list_laws.specs.Filled.{FilledOver, filled_first, filled_next}
use Rattle.differences.proofs.fill_elements.Goals as goal

pub loop-i-init : goal.loop-i-init
loop-i-init g c =
    let A = g.A.Arithmetic in
    (refl, filled_first (λ _. A.value c.args.c) (A.elements c.args.out.now))

pub put-requires : goal.put-requires
put-requires g c = omega (arith, c.count-i-end.ensures, c.loop-i.invariant.1.same)

pub loop-i-preserved : goal.loop-i-preserved
loop-i-preserved g c =
    let A = g.A.Arithmetic in
    let l = c.loop-i in
    let f = λ (m : ℕ). A.value c.args.c in
    let old = A.elements c.args.out.now in
    let inside : l.i < length old = omega (arith, c.count-i-end.ensures) in (
      c.put.auto.w ∙ l.invariant.0,
      subst (λ z. FilledOver (A.over c.args.a).𝟘 f old z (l.i + 1)) (sym c.put.ensures)
          (filled_next f old (A.elements l.out) l.i l.invariant.1 inside refl),
    )

pub returns : goal.returns
returns g c =
    let A = g.A.Arithmetic in
    let l = c.loop-i in
    let all : l.i ≡ length (A.elements c.args.out.now) = omega (arith, c.count-i-end.ensures) in
    subst (λ (m : ℕ). FilledOver (A.over c.args.a).𝟘 (λ _. A.value c.args.c) (A.elements c.args.out.now) (A.elements l.out) m) all l.invariant.1
