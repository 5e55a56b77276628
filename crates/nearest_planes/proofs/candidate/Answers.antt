use Prim.Native.Nat.{ℕ, ◌*◌}
use native.Mathlib.Omega.{arith}
use mathlib.Core.Path.{◌≡◌, sym, ◌∙◌, subst}
use lib.ListN.{length}
use Rattle.candidate.specs.Tables.{Candidate, Sized}
use Rattle.decoder.specs.Answer.{polynomial_of}
use Rattle.nearest_planes.proofs.Cases.{by_four, by_one, words_one, words_three}
use Rattle.nearest_planes.proofs.candidate.Goals as goal

-- `nearest_planes::candidate`: of four words plane by plane, of one word the decoder's.
pub candidates-requires : goal.candidates-requires
candidates-requires c =
    let a = c.args in
    let p = c.requires in
    let h : a.field ≡ 3 = omega (arith, c.if-field-eq3.true) in
    let entries : length a.table.now ≡ 4 * length a.pw.now = words_three a.field (length a.pw.now) (length a.table.now) h p.sized.1.0 in
    let long : length a.out.now ≡ 4 * a.d = words_three a.field a.d (length a.out.now) h p.sized.1.1 in
    (p.sized.0, (entries, (long, (omega (arith, entries, p.table_len_bound.0), omega (arith, long, p.table_len_bound.1)))))

pub returns-then-field-eq3 : goal.returns-then-field-eq3
returns-then-field-eq3 c =
    let a = c.args in
    let p = c.requires in
    let t = c.candidates in
    let h : a.field ≡ 3 = omega (arith, c.if-field-eq3.true) in
    by_four a.field a.pw.now a.table.now a.d t.result t.new.out h (words_three a.field (length a.pw.now) (length a.table.now) h p.sized.1.0)
    (t.auto.out ∙ words_three a.field a.d (length a.out.now) h p.sized.1.1) t.ensures

pub candidate-requires : goal.candidate-requires
candidate-requires c =
    let a = c.args in
    let p = c.requires in
    let h : a.field ≡ 3 → ⊥ = omega (arith, c.if-field-eq3.false) in
    (subst (Sized (length a.pw.now)) (sym (words_one a.field a.d (length a.out.now) h p.sized.1.1)) p.sized.0, words_one a.field (length a.pw.now) (length a.table.now) h p.sized.1.0)

pub returns : goal.returns
returns c =
    let a = c.args in
    let p = c.requires in
    let t = c.candidate in
    let h : a.field ≡ 3 → ⊥ = omega (arith, c.if-field-eq3.false) in
    let out = t.new.out in
    by_one a.field a.pw.now a.table.now a.d t.result out h (t.auto.out ∙ p.sized.1.1)
    (subst (λ (n : ℕ). Candidate a.field a.pw.now a.table.now n (polynomial_of t.result out)) (words_one a.field a.d (length a.out.now) h p.sized.1.1) t.ensures.candidate) t.ensures.of_elements
