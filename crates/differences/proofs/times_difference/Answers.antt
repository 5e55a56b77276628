use Rattle.std.proofs.Common.{ℕ, ◌≡◌, ◌+◌, ◌<◌, arith, refl, sym, ap, ap₂, subst, ◌∙◌, length, le_refl}
use Rattle.list_laws.specs.Filled.{FilledOver, filled_first, filled_next}
use Rattle.differences.proofs.Differing.{times_at, difference_turn, negative_reduced}
use Rattle.differences.proofs.times_difference.Goals as goal

pub loop-i-init : goal.loop-i-init
loop-i-init g c =
    let A = g.A.Arithmetic in
    (refl, filled_first (times_at (A.over c.args.a) (A.elements c.args.xs.now) (A.elements c.args.out.now) c.args.j) (A.elements c.args.out.now))

pub get-y-requires : goal.get-y-requires
get-y-requires g c = omega (arith, c.loop-i.invariant.1.same, c.requires.j_in_bounds)

pub sum_times-requires : goal.sum_times-requires
sum_times-requires g c =
    let A = g.A.Arithmetic in
    let F = A.over c.args.a in
    let L = A.laws c.args.a in
    let l = c.loop-i in
    let y = c.get-y.ensures ∙ l.invariant.1.left l.i (le_refl l.i) in (
      negative_reduced F L (A.value c.get.result) (c.sub-d.ensures ∙ ap (λ v. F.◌⊖◌ v (A.value c.get.result)) c.zero.ensures),
      ap L.reduce y ∙ c.requires.by_index l.i (omega arith) ∙ sym y,
    )

pub put-requires : goal.put-requires
put-requires g c = omega (arith, c.loop-i.invariant.1.same, c.requires.j_in_bounds)

pub loop-i-preserved : goal.loop-i-preserved
loop-i-preserved g c =
    let A = g.A.Arithmetic in
    let F = A.over c.args.a in
    let l = c.loop-i in
    let xs = A.elements c.args.xs.now in
    let old = A.elements c.args.out.now in
    let f = times_at F xs old c.args.j in
    let t = l.invariant.1 in
    let inside : l.i < length old = omega (arith, c.requires.j_in_bounds) in
    let d = c.sub-d.ensures ∙ ap₂ (λ v w. F.◌⊖◌ v w) c.zero.ensures c.get.ensures in
    let r = c.sum_times.ensures ∙ ap₂ (λ v w. F.◌⊗◌ (F.◌⊕◌ v (A.value c.sub-d.result)) w) c.get-x.ensures c.get-y.ensures in (
      c.put.auto.w ∙ l.invariant.0,
      subst (λ z. FilledOver F.𝟘 f old z (l.i + 1)) (sym c.put.ensures)
          (filled_next f old (A.elements l.out) l.i t inside (difference_turn F xs (A.laws c.args.a) f old (A.elements l.out) l.i c.args.j t d r)),
    )

pub returns : goal.returns
returns g c =
    let A = g.A.Arithmetic in
    let F = A.over c.args.a in
    let l = c.loop-i in
    let all : l.i ≡ c.args.j = omega arith in
    subst (λ (m : ℕ). FilledOver F.𝟘 (times_at F (A.elements c.args.xs.now) (A.elements c.args.out.now) c.args.j) (A.elements c.args.out.now) (A.elements l.out) m) all l.invariant.1
