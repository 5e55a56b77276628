use Prim.Native.Nat.{ℕ, ◌*◌}
use native.Mathlib.Omega.{arith}
use mathlib.Core.Path.{sym, ap, ◌∙◌}
use mathlib.Core.List.{◌++◌}
use lib.ListN.{length, take, drop}
use lib.Seq.{length_front, length-take-le}
use Rattle.list_laws.specs.Zeros.{zeros, length_zeros}
use Rattle.root_quotients.proofs.AtRoots.{halves_same}
use Rattle.spelling.specs.Words.{quads_fit, quads_many}
use Rattle.root_quotients.proofs.FourRoots.{at_roots_four_is}
use Rattle.root_quotients.proofs.FourWordsValuesAtRoots.at_roots.Goals as goal

pub residues-requires : goal.residues-requires
residues-requires c =
    let a = c.args in
    let size = length-take-le (4 * a.k) (zeros 64) (omega (arith, length_zeros 64, c.requires.rooted.few)) in
    let enough = quads_fit (a.k * length a.powers.now) a.f.now c.requires.powers_in_bounds.0 in
    (omega (arith, enough, ap (λ (n : ℕ). n * length a.powers.now) size), omega (arith, c.requires.rooted.short))

pub slice_bounds-by_planes-end-3 : goal.slice_bounds-by_planes-end-3
slice_bounds-by_planes-end-3 c =
    quads_fit c.args.k c.args.out.now c.requires.powers_in_bounds.1

pub slice_bounds-by_planes-end-4 : goal.slice_bounds-by_planes-end-4
slice_bounds-by_planes-end-4 c =
    sym (length-take-le (4 * c.args.k) c.args.out.now (quads_fit c.args.k c.args.out.now c.requires.powers_in_bounds.1))

pub by_planes-requires : goal.by_planes-requires
by_planes-requires c =
    let a = c.args in
    let d = c.residues in
    let plane = length-take-le a.k (zeros 16) (omega (arith, length_zeros 16, c.requires.rooted.few)) in
    let out = length-take-le (4 * a.k) a.out.now (quads_fit a.k a.out.now c.requires.powers_in_bounds.1) in
    let sums = quads_many a.k (take (4 * a.k) (d.new.out ++ drop (4 * a.k) (zeros 64))) (length-take-le (4 * a.k) (d.new.out ++ drop (4 * a.k) (zeros 64)) (omega (arith, length_zeros 64, c.requires.rooted.few, length_front (zeros 64) d.new.out (4 * a.k) d.auto.out))) in record { halves = (halves_same c.requires.rooted _ _ sums plane, (c.requires.rooted.spaced.0, ap (λ (n : ℕ). a.step * n) plane ∙ c.requires.rooted.spaced.1)); out_len = omega (arith, plane, out) }

pub returns : goal.returns
returns c =
    let a = c.args in
    let d = c.residues in
    let t = c.by_planes in
    let plane = length-take-le a.k (zeros 16) (omega (arith, length_zeros 16, c.requires.rooted.few)) in
    at_roots_four_is c.requires.rooted a.f.now (zeros 64) d.new.out a.out.now t.new.out c.requires.powers_in_bounds.0 (omega (arith, length_zeros 64, c.requires.rooted.few)) (quads_fit a.k a.out.now c.requires.powers_in_bounds.1)
    d.auto.out d.ensures t.auto.out (λ m l. t.ensures c.requires.rooted.ω c.requires.rooted.table m (omega (arith, plane, l)))
