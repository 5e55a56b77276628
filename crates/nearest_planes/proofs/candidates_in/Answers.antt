use Prim.Native.Nat.{ℕ}
use native.Mathlib.Omega.{arith}
use mathlib.Core.Path.{◌≡◌, refl, sym, ap, ◌∙◌, subst}
use lib.ListN.{length}
use Rattle.decoder.specs.Answer.{polynomial_of}
use Rattle.candidate.specs.Tables.{Candidate, Sized}
use Rattle.nearest_planes.specs.Planes.{plane}
use Rattle.nearest_planes.proofs.Turns.{done_none, plane_next, plane_none}
use Rattle.nearest_planes.proofs.candidates_in.Goals as goal

pub loop-k-init : goal.loop-k-init
loop-k-init c =
    let a = c.args in
    record { one_same = refl; part_same = refl; out_same = refl; done = done_none a.field a.pw.now a.table.now (length a.part.now) a.out.now }

pub candidate-found-requires : goal.candidate-found-requires
candidate-found-requires c =
    let p = c.requires in
    (subst (λ (m : ℕ). Sized (length c.args.pw.now) m) (sym c.loop-k.invariant.part_same) p.0, c.cut.auto.out ∙ c.loop-k.invariant.one_same ∙ p.1.0)

pub returns-then-not-found : goal.returns-then-not-found
returns-then-not-found c =
    let a = c.args in
    let p = c.requires in
    let l = c.loop-k in
    let f = c.candidate-found in
    plane_none a.field a.pw.now a.table.now (length a.part.now) l.k f.new.out f.result
    (c.cut.ensures ∙ ap (λ (m : ℕ). plane l.k m a.table.now) (l.invariant.one_same ∙ p.1.0))
    (subst (λ (m : ℕ). Candidate a.field a.pw.now c.cut.new.out m (polynomial_of f.result f.new.out)) l.invariant.part_same f.ensures.candidate)
    l.out c.loop-k-test.true c.if-not-found.true

pub put-requires : goal.put-requires
put-requires c =
    let p = c.requires in
    let l = c.loop-k in (
      c.loop-k-test.true,
      (
        omega (arith, c.candidate-found.auto.out, l.invariant.part_same, l.invariant.out_same, p.1.1.1.0),
        omega (arith, l.invariant.out_same, p.1.1.1.0, p.0.fewer, p.1.1.0, p.1.1.1.1),
      ),
    )

pub loop-k-preserved : goal.loop-k-preserved
loop-k-preserved c =
    let a = c.args in
    let p = c.requires in
    let l = c.loop-k in
    let f = c.candidate-found in
    let q = c.put in
    let e : length f.new.out ≡ length a.part.now = f.auto.out ∙ l.invariant.part_same in
    let new = q.new.out in record {
      one_same = c.cut.auto.out ∙ l.invariant.one_same;
      part_same = e;
      out_same = q.auto.out ∙ l.invariant.out_same;
      done = plane_next a.field a.pw.now a.table.now (length a.part.now) l.k f.new.out f.result
          (c.cut.ensures ∙ ap (λ (m : ℕ). plane l.k m a.table.now) (l.invariant.one_same ∙ p.1.0))
          (subst (λ (m : ℕ). Candidate a.field a.pw.now c.cut.new.out m (polynomial_of f.result f.new.out)) l.invariant.part_same f.ensures.candidate)
          l.out new c.loop-k-test.true c.if-not-found.false f.ensures.of_elements
          (subst (λ (m : ℕ). plane l.k m new ≡ f.new.out) e q.ensures.out_after)
          (λ j u n. subst (λ (m : ℕ). plane j m new ≡ plane j m l.out) e (q.ensures.by_index j u n)) l.invariant.done;
    }

pub returns : goal.returns
returns c = λ j u. c.loop-k.invariant.done j (omega (arith, c.loop-k-test.false, u))
