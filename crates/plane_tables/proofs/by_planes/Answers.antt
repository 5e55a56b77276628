use Prim.Native.Nat.{ℕ, ◌*◌, ◌<◌}
use native.Mathlib.Omega.{arith}
use mathlib.Core.Path.{◌≡◌, refl, sym, ap, ◌∙◌, subst}
use lib.ListN.{length}
use Rattle.definition.specs.Field.{field_of, quads}
use Rattle.spelling.specs.Words.{quads_length}
use Rattle.definition.specs.Polynomial.{evaluate}
use Rattle.planes.specs.Planes.{strided_plane}
use Rattle.tables.specs.Halving.{Halves, Spaced, strided, point_at}
use Rattle.plane_tables.proofs.Laying.{planes_next, planes_all}
use Rattle.plane_tables.proofs.by_planes.Goals as goal

pub loop-c-init : goal.loop-c-init
loop-c-init c = record { plane_same = refl; out_same = refl; planes = λ e l. absurd (omega arith) }

pub table-requires : goal.table-requires
table-requires c =
    let l = c.loop-c in
    let a = c.args in
    let n : c.count-n.result ≡ length (quads a.f.now) = c.count-n.ensures in
    let m : length l.plane ≡ length a.plane.now = l.invariant.plane_same in record { from_lt_stride = (omega arith, omega (arith, n, quads_length a.f.now)); halves = (subst (λ (k : ℕ). Halves k (length l.plane)) (sym n) (subst (Halves (length (quads a.f.now))) (sym m) c.requires.halves.0), subst (λ (k : ℕ). Spaced a.at a.step k (length a.pw.now)) (sym m) c.requires.halves.1) }

pub put_plane-requires : goal.put_plane-requires
put_plane-requires c =
    let l = c.loop-c in
    (omega arith, l.invariant.out_same ∙ c.requires.out_len ∙ ap (λ (k : ℕ). 4 * k) (sym (c.table.auto.out ∙ l.invariant.plane_same)))

pub loop-c-preserved : goal.loop-c-preserved
loop-c-preserved c =
    let p = c.put_plane in
    let t = c.table in
    let l = c.loop-c in
    let a = c.args in
    let n : c.count-n.result ≡ length (quads a.f.now) = c.count-n.ensures in
    let less : l.c < 4 = omega arith in
    let m : length l.plane ≡ length a.plane.now = l.invariant.plane_same in
    let kept = t.auto.out ∙ m in
    let values = t.new.out in
    let whole = ap (λ (k : ℕ). strided a.f.now l.c 4 k) n ∙ strided_plane l.c a.f.now less in record {
      plane_same = kept;
      out_same = p.auto.out ∙ l.invariant.out_same;
      planes = planes_next a.f.now a.pw.now a.at a.step (length a.plane.now) l.c values l.out p.new.out kept
          (λ ω w j u. t.ensures ω w j (subst (λ (k : ℕ). j < k) (sym m) u) ∙ ap (λ cs. evaluate (field_of 2) cs (point_at a.pw.now a.at a.step j)) whole)
          p.ensures.by_index p.ensures.by_index_2 l.invariant.planes;
    }

pub returns : goal.returns
returns c =
    let l = c.loop-c in
    let a = c.args in
    planes_all a.f.now a.pw.now a.at a.step (length a.plane.now) l.c l.out (omega arith) (l.invariant.out_same ∙ c.requires.out_len) l.invariant.planes
