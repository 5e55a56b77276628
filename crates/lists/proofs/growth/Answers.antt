use Rattle.std.proofs.Common.{◌+◌, ◌≤◌, ◌<◌, arith, sym, subst, ◌∙◌, length, length-take-le}
use Rattle.list_laws.specs.Filled.{FilledOver}
use Rattle.arithmetic.specs.Parts.{fit, front_length}
use Rattle.lists.proofs.Interpolating.{filled_zeros}
use Rattle.lists.proofs.Parts.{growth_words}
use Rattle.lists.proofs.growth.Goals as goal

pub slice_bounds-powers-end : goal.slice_bounds-powers-end
slice_bounds-powers-end g c =
    let A = g.A.Arithmetic in
    let f = c.fill_elements in
    omega (arith, c.words-n.ensures, fit A.width A.elements g.met.A.Arithmetic.counted (c.args.e + 1) f.new.out (omega (arith, f.ensures.same, c.requires.0)))

pub slice_bounds-powers-end-2 : goal.slice_bounds-powers-end-2
slice_bounds-powers-end-2 g c =
    let A = g.A.Arithmetic in
    let f = c.fill_elements in
    sym (length-take-le c.words-n.result f.new.out
    (omega (arith, c.words-n.ensures, fit A.width A.elements g.met.A.Arithmetic.counted (c.args.e + 1) f.new.out (omega (arith, f.ensures.same, c.requires.0)))))

pub powers-requires : goal.powers-requires
powers-requires g c =
    let A = g.A.Arithmetic in
    let f = c.fill_elements in
    omega (arith, front_length A.width A.elements g.met.A.Arithmetic.counted g.met.A.Arithmetic.first (c.args.e + 1) f.new.out c.words-n.ensures (omega (arith, f.ensures.same, c.requires.0)))

pub returns : goal.returns
returns g c =
    let A = g.A.Arithmetic in
    let M = g.met.A.Arithmetic in
    let F = A.over c.args.a in
    let L = A.laws c.args.a in
    let a = c.args in
    let f = c.fill_elements in
    let p = c.powers in
    let old = A.elements a.out.now in
    let zeros = filled_zeros F L old (A.elements f.new.out) (subst (λ z. FilledOver F.𝟘 (λ _. z) old (A.elements f.new.out) (length old)) c.zero.ensures f.ensures) in
    let inside : a.e < length (A.elements f.new.out) = omega (arith, f.ensures.same, c.requires.0) in
    let long : c.words-n.result ≤ length f.new.out = omega (arith, c.words-n.ensures, fit A.width A.elements M.counted (a.e + 1) f.new.out (omega (arith, inside))) in
    let both = growth_words F L A.width A.elements M.first M.behind (A.value a.c) a.e p.new.out f.new.out inside zeros c.words-n.ensures
    (p.auto.out ∙ length-take-le c.words-n.result f.new.out long) p.ensures in
    record { by_index = both.0; zero_from = both.1 }
