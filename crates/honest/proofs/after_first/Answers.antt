use native.Mathlib.Omega.{arith}
use Prim.Native.Nat.{ℕ, ◌*◌, ◌/◌}
use mathlib.Core.Path.{◌∙◌, ap, refl, subst, sym}
use lib.ListN.{get_or, take, drop}
use lib.Seq.{length-take-le}
use Rattle.definition.specs.Field.{spelling_of}
use Rattle.definition.specs.Sheet.{sheet_of}
use Rattle.list_laws.specs.LentParts.{begun_long, joined, others_long}
use Rattle.list_laws.specs.Lists.{rest_all}
use Rattle.edition.specs.Meaning.{edition_of}
use Rattle.spelling.specs.Words.{elements_many}
use Rattle.honest_words.specs.Invariant.{CoinRunsFrom, fold_of}
use Rattle.honest_words.specs.Sizes.{numbers}
use Rattle.honest.proofs.Beginning.{first_fold, opening_is}
use Rattle.honest.proofs.after_first.Goals as goal

-- `honest::after_first` meets its contract. The fold of the polynomial, fold coin 0, and the words after it. Assumes nothing.
pub bounds-w-0 : goal.bounds-w-0
bounds-w-0 c =
    omega (arith, (numbers c.requires.invariant.0.place).twelve)

pub bounds-w-0-2 : goal.bounds-w-0-2
bounds-w-0-2 c =
    omega (arith, (numbers c.requires.invariant.0.place).twelve)

pub bounds-w-0-3 : goal.bounds-w-0-3
bounds-w-0-3 c =
    omega (arith, (numbers c.requires.invariant.0.place).twelve)

pub words-n-requires : goal.words-n-requires
words-n-requires c =
    let a = c.args in
    let p = c.requires in
    let k = c.fold_length-d in
    let q = first_fold p.invariant.0 p.invariant.1.0 p.invariant.1.1 (k.ensures ∙ ap (λ (m : ℕ). m / fold_of (sheet_of (edition_of a.e) a.w.now) 0) c.count-count.ensures) in
    omega (arith, q.few)

pub bounds-w-0-4 : goal.bounds-w-0-4
bounds-w-0-4 c =
    omega (arith, (numbers c.requires.invariant.0.place).twelve)

pub slice_bounds-fold-end : goal.slice_bounds-fold-end
slice_bounds-fold-end c =
    let a = c.args in
    let p = c.requires in
    let n = c.words-n in
    let k = c.fold_length-d in
    let q = first_fold p.invariant.0 p.invariant.1.0 p.invariant.1.1 (k.ensures ∙ ap (λ (m : ℕ). m / fold_of (sheet_of (edition_of a.e) a.w.now) 0) c.count-count.ensures) in
    omega (arith, n.ensures.0, q.within)

pub slice_bounds-fold-end-2 : goal.slice_bounds-fold-end-2
slice_bounds-fold-end-2 c =
    let a = c.args in
    let p = c.requires in
    let n = c.words-n in
    let k = c.fold_length-d in
    let q = first_fold p.invariant.0 p.invariant.1.0 p.invariant.1.1 (k.ensures ∙ ap (λ (m : ℕ). m / fold_of (sheet_of (edition_of a.e) a.w.now) 0) c.count-count.ensures) in
    sym (length-take-le n.result a.g.now (omega (arith, n.ensures.0, q.within)))

pub fold-requires : goal.fold-requires
fold-requires c =
    let a = c.args in
    let p = c.requires in
    let n = c.words-n in
    let k = c.fold_length-d in
    let q = first_fold p.invariant.0 p.invariant.1.0 p.invariant.1.1 (k.ensures ∙ ap (λ (m : ℕ). m / fold_of (sheet_of (edition_of a.e) a.w.now) 0) c.count-count.ensures) in
    (p.invariant.0.place, q.fold ∙ ap (λ (m : ℕ). fold_of (sheet_of (edition_of a.e) a.w.now) 0 * m) (sym (elements_many (spelling_of (get_or a.w.now 0 0)) k.result (take n.result a.g.now) (length-take-le n.result a.g.now (omega (arith, n.ensures.0, q.within)) ∙ n.ensures.0))))

pub slice_bounds-copy-end : goal.slice_bounds-copy-end
slice_bounds-copy-end c =
    let a = c.args in
    let p = c.requires in
    let u = c.words-width in
    sym (length-take-le u.result a.coins.now (omega (arith, u.ensures.0, p.w_in_bounds.0)))

pub slice_bounds-copy-end-2 : goal.slice_bounds-copy-end-2
slice_bounds-copy-end-2 c =
    let a = c.args in
    let p = c.requires in
    let u = c.words-width in
    omega (arith, u.ensures.0, p.w_in_bounds.1.1)

pub slice_bounds-copy-end-3 : goal.slice_bounds-copy-end-3
slice_bounds-copy-end-3 c =
    let a = c.args in
    let p = c.requires in
    let u = c.words-width in
    sym (length-take-le u.result a.out.now (omega (arith, u.ensures.0, p.w_in_bounds.1.1)))

pub copy-requires : goal.copy-requires
copy-requires c =
    let a = c.args in
    let p = c.requires in
    let u = c.words-width in
    length-take-le u.result a.out.now (omega (arith, u.ensures.0, p.w_in_bounds.1.1)) ∙ sym (length-take-le u.result a.coins.now (omega (arith, u.ensures.0, p.w_in_bounds.0)))

pub slice_bounds-rest-count : goal.slice_bounds-rest-count
slice_bounds-rest-count c =
    let a = c.args in
    let p = c.requires in
    let u = c.words-width in
    omega (arith, u.ensures.0, p.w_in_bounds.0)

pub slice_bounds-rest-start : goal.slice_bounds-rest-start
slice_bounds-rest-start c =
    let a = c.args in
    let p = c.requires in
    let u = c.words-width in
    omega (arith, u.ensures.0, p.w_in_bounds.0)

pub slice_bounds-rest-count-2 : goal.slice_bounds-rest-count-2
slice_bounds-rest-count-2 c =
    let a = c.args in
    let p = c.requires in
    let u = c.words-width in
    let y = c.copy in
    omega (arith, u.ensures.0, p.w_in_bounds.1.1, begun_long a.out.now y.new.out u.result (omega (arith, u.ensures.0, p.w_in_bounds.1.1)) y.auto.out)

pub slice_bounds-rest-start-2 : goal.slice_bounds-rest-start-2
slice_bounds-rest-start-2 c =
    let a = c.args in
    let p = c.requires in
    let u = c.words-width in
    let y = c.copy in
    omega (arith, u.ensures.0, p.w_in_bounds.1.1, begun_long a.out.now y.new.out u.result (omega (arith, u.ensures.0, p.w_in_bounds.1.1)) y.auto.out)

pub rest-requires : goal.rest-requires
rest-requires c =
    let a = c.args in
    let p = c.requires in
    let u = c.words-width in
    let n = c.words-n in
    let k = c.fold_length-d in
    let q = first_fold p.invariant.0 p.invariant.1.0 p.invariant.1.1 (k.ensures ∙ ap (λ (m : ℕ). m / fold_of (sheet_of (edition_of a.e) a.w.now) 0) c.count-count.ensures) in
    let y = c.copy in
    let v = c.fold in
    let h = sheet_of (edition_of a.e) a.w.now in
    let long = begun_long a.g.now v.new.out n.result (omega (arith, n.ensures.0, q.within)) v.auto.out in record {
      invariant = (p.invariant.0, (q.degree, omega (arith, long, q.within)));
      coin_runs_from = (
        subst (CoinRunsFrom h 0) (sym (rest_all u.result a.coins.now)) (subst (λ (m : ℕ). CoinRunsFrom h 0 (drop m a.coins.now)) (sym u.ensures.0) p.w_in_bounds.1.0),
        others_long a.out.now y.new.out u.result (omega (arith, u.ensures.0, p.w_in_bounds.1.1)) y.auto.out ∙ omega (arith, u.ensures.0, p.w_in_bounds.1.1),
      );
    }

pub returns : goal.returns
returns c =
    let a = c.args in
    let p = c.requires in
    let u = c.words-width in
    let n = c.words-n in
    let k = c.fold_length-d in
    let q = first_fold p.invariant.0 p.invariant.1.0 p.invariant.1.1 (k.ensures ∙ ap (λ (m : ℕ). m / fold_of (sheet_of (edition_of a.e) a.w.now) 0) c.count-count.ensures) in
    let y = c.copy in
    let v = c.fold in
    let r = c.at-r in
    let z = c.rest in
    joined a.out.now y.new.out u.result (omega (arith, u.ensures.0, p.w_in_bounds.1.1)) y.auto.out z.new.out {x = take u.result a.coins.now} {y = z.new.out} y.ensures refl
    ∙ opening_is (edition_of a.e) a.w.now a.f.now a.coins.now a.g.now v.new.out k.result n.result u.result r.result u.ensures.0 n.ensures.0 (omega (arith, u.ensures.0, p.w_in_bounds.0)) (omega (arith, n.ensures.0, q.within)) v.auto.out
    r.ensures v.ensures refl (rest_all u.result a.coins.now) z.ensures
