use Prim.Native.Nat.{ℕ, ◌+◌, ◌-◌, ◌*◌, ◌/◌}
use native.Mathlib.Omega.{arith}
use mathlib.Core.Path.{sym, ap, ◌∙◌, subst}
use lib.ListN.{length, get_or, take, drop}
use Rattle.definition.specs.Field.{field_of}
use Rattle.definition.specs.Polynomial.{evaluate}
use Rattle.list_laws.specs.Zeros.{zeros, length_zeros}
use Rattle.root_quotients.specs.Rooted.{Rooted}
use Rattle.root_quotients.proofs.AtRoots.{at_count, many, numerators_are, second_half, second_half_many}
use Rattle.root_quotients.proofs.quotients_over.Goals as goal

pub at_roots-requires : goal.at_roots-requires
at_roots-requires g c =
    let A = g.A.Arithmetic in
    let L = g.met.A.Arithmetic in
    let a = c.args in
    let p = c.requires in
    let n = c.count-k.ensures in record {
      rooted = subst (λ (k : ℕ). Rooted (field_of (g.A.ValuesAtRoots.below a.a)) a.pw.now a.at a.step k a.powers.now) (sym n) p.rooted;
      powers_in_bounds = (
        omega (arith, ap (λ (k : ℕ). k * length a.powers.now) n, p.powers_len_bound, many A.elements A.width L.wide L.counted 66 a.ac.now p.ac_len.0),
        omega (arith, n, p.rooted.few, many A.elements A.width L.wide L.counted 16 (zeros g.row.N) (length_zeros g.row.N ∙ p.room)),
      );
    }

pub at_roots-requires-2 : goal.at_roots-requires-2
at_roots-requires-2 g c =
    let A = g.A.Arithmetic in
    let L = g.met.A.Arithmetic in
    let a = c.args in
    let p = c.requires in
    let n = c.count-k.ensures in record {
      rooted = subst (λ (k : ℕ). Rooted (field_of (g.A.ValuesAtRoots.below a.a)) a.pw.now a.at a.step k a.powers.now) (sym n) p.rooted;
      powers_in_bounds = (omega (arith, ap (λ (k : ℕ). k * length a.powers.now) n, p.powers_len_bound, many A.elements A.width L.wide L.counted 132 a.vg.now p.ac_len.1.0), omega (arith, n, p.ac_len.1.1));
    }

pub at_roots-requires-3 : goal.at_roots-requires-3
at_roots-requires-3 g c =
    let A = g.A.Arithmetic in
    let L = g.met.A.Arithmetic in
    let a = c.args in
    let p = c.requires in
    let n = c.count-k.ensures in record {
      rooted = subst (λ (k : ℕ). Rooted (field_of (g.A.ValuesAtRoots.below a.a)) a.pw.now a.at a.step k a.powers.now) (sym n) p.rooted;
      powers_in_bounds = (
        omega (arith, ap (λ (k : ℕ). k * length a.powers.now) n, p.powers_len_bound, second_half_many A.elements A.width L.wide L.counted L.first L.behind a.vg.now p.ac_len.1.0),
        omega (arith, n, p.rooted.few, many A.elements A.width L.wide L.counted 16 (zeros g.row.N) (length_zeros g.row.N ∙ p.room)),
      );
    }

pub numerators-requires : goal.numerators-requires
numerators-requires g c =
    let A = g.A.Arithmetic in
    let L = g.met.A.Arithmetic in
    let few = c.requires.rooted.few in
    let u = c.at_roots in
    let w = c.at_roots-3 in
    let eu = many A.elements A.width L.wide L.counted 16 u.new.out (u.auto.out ∙ length_zeros g.row.N ∙ c.requires.room) in
    let ew = many A.elements A.width L.wide L.counted 16 w.new.out (w.auto.out ∙ length_zeros g.row.N ∙ c.requires.room) in
    (omega (arith, eu, few), omega (arith, ew, few))

pub returns : goal.returns
returns g c =
    let A = g.A.Arithmetic in
    let L = g.met.A.Arithmetic in
    let a = c.args in
    let F = A.over a.a in
    let n = c.count-k in
    let u = c.at_roots in
    let v = c.at_roots-2 in
    let w = c.at_roots-3 in
    let t = c.numerators in
    let x = λ (m : ℕ). A.numbered (get_or a.pw.now (a.at + a.step * m) 0) in
    let k = length (A.elements a.tops.now) in
    let p = length a.powers.now in
    let words = k * p in
    let back = A.elements (take (length a.vg.now - length a.vg.now / 2) (drop (length a.vg.now / 2) a.vg.now)) in
    let ew = at_count F n.result k p x back (A.elements w.new.out) n.ensures w.ensures in record {
      by_index = numerators_are F words (A.elements a.ac.now) (A.elements a.vg.now) x (A.elements a.tops.now) (A.elements t.new.values) (A.elements u.new.out) (A.elements w.new.out)
          (omega (arith, c.requires.powers_len_bound, many A.elements A.width L.wide L.counted 132 a.vg.now c.requires.ac_len.1.0)) (at_count F n.result k p x (A.elements a.ac.now) (A.elements u.new.out) n.ensures u.ensures)
          (λ m l. ew m l ∙ ap (λ t. evaluate F (take words t) (x m)) (second_half A.elements A.width L.wide L.counted L.first L.behind a.vg.now c.requires.ac_len.1.0)) t.ensures;
      by_index_2 = at_count F n.result k p x (A.elements a.vg.now) (A.elements v.new.out) n.ensures v.ensures;
    }
