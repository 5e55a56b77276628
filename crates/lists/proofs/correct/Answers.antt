use Rattle.std.proofs.Common.{ℕ, suc, ◌≡◌, ◌-◌, ◌≤◌, arith, refl, sym, ap, subst, ◌∙◌, length, take, drop, length-drop, length-take-le}
use Rattle.definition.specs.Polynomial.{evaluate, geometric}
use Rattle.list_laws.specs.LentParts.{others, joined, others_long}
use Rattle.sums.specs.ZeroPadding.{ZeroFrom}
use Rattle.arithmetic.specs.Parts.{many, part_fit, part_of, joined_of}
use Rattle.lists.proofs.Interpolating.{correcting_is, full_part}
use Rattle.lists.proofs.correct.Goals as goal

pub part-requires : goal.part-requires
part-requires g c =
    let A = g.A.Arithmetic in
    part_fit A.width A.elements g.met.A.Arithmetic.counted c.args.from c.count.result c.args.xs.now c.words-at.ensures c.words-size.ensures (omega (arith, c.requires.from_in_bounds.0, c.count.ensures)) c.count.ensures

pub part-requires-2 : goal.part-requires-2
part-requires-2 g c =
    let A = g.A.Arithmetic in
    part_fit A.width A.elements g.met.A.Arithmetic.counted c.args.from c.count.result c.args.ys.now c.words-at.ensures c.words-size.ensures (omega (arith, c.requires.from_in_bounds.0, c.count.ensures)) (c.count.ensures ∙ sym c.requires.from_in_bounds.1.1)

pub interpolated-requires-clause-ys_len : goal.interpolated-requires-clause-ys_len
interpolated-requires-clause-ys_len g c =
    let A = g.A.Arithmetic in
    let M = g.met.A.Arithmetic in
    let F = A.over c.args.a in
    let a = c.args in
    let m = c.count in
    let e = m.result - a.from in
    let p = c.part in
    let r = c.part-2 in
    let xs = A.elements a.xs.now in
    let ys = A.elements a.ys.now in
    let px = full_part a.from xs (A.elements p.result.now) e (ap (λ (n : ℕ). n - a.from) (sym m.ensures))
    (part_of A.width A.elements M.first M.behind a.from e a.xs.now p.result.now c.words-at.ensures c.words-size.ensures p.ensures) in
    let py = full_part a.from ys (A.elements r.result.now) e (ap (λ (n : ℕ). n - a.from) (c.requires.from_in_bounds.1.1 ∙ sym m.ensures))
    (part_of A.width A.elements M.first M.behind a.from e a.ys.now r.result.now c.words-at.ensures c.words-size.ensures r.ensures) in
    let lx : length (A.elements p.result.now) ≡ length xs - a.from = ap length px ∙ length-drop a.from xs in
    let ly : length (A.elements r.result.now) ≡ length xs - a.from = ap length py ∙ length-drop a.from ys ∙ ap (λ (n : ℕ). n - a.from) c.requires.from_in_bounds.1.1 in
    let q = many A.width A.elements M.counted M.wide 66 a.ac.now c.requires.ac_len.0 in
    let half = c.words-half.result in
    let front : length (take half a.vg.now) ≡ half = length-take-le half a.vg.now (omega (arith, c.words-half.ensures, c.requires.ac_len)) in
    let v = many A.width A.elements M.counted M.wide 66 (take half a.vg.now) (front ∙ c.words-half.ensures) in
    (ly ∙ sym lx, (omega (arith, lx, q, c.requires.from_in_bounds.1.0), (q, v)))

pub growth-requires : goal.growth-requires
growth-requires g c =
    let A = g.A.Arithmetic in
    let M = g.met.A.Arithmetic in
    let a = c.args in
    let m = c.count in
    let i = c.interpolated in
    let half = c.words-half.result in
    let inside : half ≤ length a.vg.now = omega (arith, c.words-half.ensures, c.requires.ac_len) in
    let size = others_long a.vg.now i.new.v half inside i.auto.v in
    let all = many A.width A.elements M.counted M.wide 66 (others a.vg.now i.new.v half) (omega (arith, size, c.words-half.ensures, c.requires.ac_len)) in
    (omega (arith, all, m.ensures, c.requires.from_in_bounds), omega (arith, m.ensures, c.requires.from_in_bounds))

pub returns-clause-correcting_over : goal.returns-clause-correcting_over
returns-clause-correcting_over g c =
    let A = g.A.Arithmetic in
    let M = g.met.A.Arithmetic in
    let F = A.over c.args.a in
    let a = c.args in
    let m = c.count in
    let n = c.words_for-n in
    let e = m.result - a.from in
    let p = c.part in
    let r = c.part-2 in
    let i = c.interpolated in
    let w = c.growth in
    let xs = A.elements a.xs.now in
    let ys = A.elements a.ys.now in
    let half = c.words-half.result in
    let inside : half ≤ length a.vg.now = omega (arith, c.words-half.ensures, c.requires.ac_len) in
    let front = i.auto.v ∙ length-take-le half a.vg.now inside ∙ c.words-half.ensures in
    let ep = part_of A.width A.elements M.first M.behind a.from e a.xs.now p.result.now c.words-at.ensures c.words-size.ensures p.ensures ∙ ap (λ (k : ℕ). take (k - a.from) (drop a.from xs)) m.ensures in
    let er = part_of A.width A.elements M.first M.behind a.from e a.ys.now r.result.now c.words-at.ensures c.words-size.ensures r.ensures ∙ ap (λ (k : ℕ). take (k - a.from) (drop a.from ys)) m.ensures in
    let whole = ap A.elements (joined a.vg.now i.new.v half inside i.auto.v w.new.out refl refl) ∙ joined_of A.width A.elements M.first M.behind 66 i.new.v w.new.out front in
    correcting_is F (A.laws a.a) (A.value a.c) n.result a.from xs ys (A.elements p.result.now) (A.elements r.result.now) (A.elements i.new.q) _ (A.elements i.new.v) (A.elements w.new.out)
    c.requires.from_in_bounds.1.1 ep er whole (many A.width A.elements M.counted M.wide 66 i.new.v front) i.ensures
    (λ x. w.ensures.by_index x ∙ ap (λ (k : ℕ). evaluate F (geometric F (A.value a.c) (k - a.from)) x) m.ensures)
    (subst (λ (k : ℕ). ZeroFrom F (A.elements w.new.out) (suc (k - a.from))) m.ensures w.ensures.zero_from)
    (omega (arith, n.ensures.1, m.ensures)) n.ensures.0.1.0
