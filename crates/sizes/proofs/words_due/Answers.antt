use Prim.Native.Nat.{ℕ}
use native.Mathlib.Omega.{arith}
use mathlib.Core.Path.{◌≡◌, subst}
use lib.ListN.{get_or}
use Rattle.layouts.proofs.DueSizes.{words_most}
use Rattle.edition.specs.Meaning.{edition_of}
use Rattle.sizes.specs.Degrees.{DegreeAt}
use Rattle.sizes.proofs.DegreeLaws.{fewer_folds, passed_folds}
use Rattle.sizes.proofs.SizeLaws.{few, level_below, log_small, time_there, words_done, words_fit, words_start, words_turn}
use Rattle.sizes.proofs.words_due.Goals as goal

pub domain_size-requires : goal.domain_size-requires
domain_size-requires c = (omega arith, log_small (edition_of c.args.e) c.args.w.now c.requires.0 c.requires.1 _ c.size_log-log.ensures)

pub loop-i-init : goal.loop-i-init
loop-i-init c =
    words_start (edition_of c.args.e) c.args.w.now c.requires.0 c.requires.1 _ c.size_log-log.ensures c.sheet_words.ensures c.domain_size.ensures c.words.ensures.0

pub domain_size-requires-in-loop-i : goal.domain_size-requires-in-loop-i
domain_size-requires-in-loop-i c =
    let e = c.size_log-log.ensures in
    (level_below (edition_of c.args.e) c.args.w.now c.requires.0 c.requires.1 _ e _ (omega arith), log_small (edition_of c.args.e) c.args.w.now c.requires.0 c.requires.1 _ e)

pub bounds-w-i : goal.bounds-w-i
bounds-w-i c = time_there (edition_of c.args.e) c.args.w.now c.requires.0 c.requires.1 c.loop-i.i (omega arith)

pub round_words-due-requires : goal.round_words-due-requires
round_words-due-requires c =
    omega (arith, words_fit (edition_of c.args.e) c.args.w.now c.requires.0 c.requires.1 c.loop-i.invariant c.loop-i-test.true _ c.size_log-log.ensures c.domain_size-in-loop-i.ensures)

pub overflow_add-due-in-loop-i : goal.overflow_add-due-in-loop-i
overflow_add-due-in-loop-i c =
    omega (arith, c.round_words-due.ensures, words_fit (edition_of c.args.e) c.args.w.now c.requires.0 c.requires.1 c.loop-i.invariant c.loop-i-test.true _ c.size_log-log.ensures c.domain_size-in-loop-i.ensures)

pub next_degree-d-requires : goal.next_degree-d-requires
next_degree-d-requires c =
    let v = c.loop-i.invariant in
    let m = few (edition_of c.args.e) c.args.w.now c.requires.0 c.requires.1 in
    record { e_in_bounds = (c.requires.0, omega (arith, m)); folds = (fewer_folds _ (omega (arith, m)) (passed_folds (edition_of c.args.e) c.args.w.now c.requires.1), v.degree) }

pub loop-i-preserved : goal.loop-i-preserved
loop-i-preserved c =
    words_turn (edition_of c.args.e) c.args.w.now c.requires.0 c.requires.1 c.loop-i.invariant c.loop-i-test.true _ c.size_log-log.ensures c.domain_size-in-loop-i.ensures c.round_words-due.ensures c.next_degree-d.ensures

pub next_degree-requires : goal.next_degree-requires
next_degree-requires c =
    let m = few (edition_of c.args.e) c.args.w.now c.requires.0 c.requires.1 in
    let all : c.loop-i.i ≡ get_or c.args.w.now 4 0 = omega arith in
    record {
      e_in_bounds = (c.requires.0, omega (arith, m));
      folds = (fewer_folds _ (omega (arith, m)) (passed_folds (edition_of c.args.e) c.args.w.now c.requires.1), subst (λ (i : ℕ). DegreeAt (edition_of c.args.e) c.args.w.now i c.loop-i.d) all c.loop-i.invariant.degree);
    }

pub overflow_add-result : goal.overflow_add-result
overflow_add-result c =
    omega (arith, words_done (edition_of c.args.e) c.args.w.now c.requires.0 c.requires.1 c.loop-i.invariant (omega arith) c.next_degree.ensures c.words-2.ensures.0, words_most (edition_of c.args.e) c.args.w.now c.requires.0 c.requires.1)

pub bounds-w-rounds : goal.bounds-w-rounds
bounds-w-rounds c = time_there (edition_of c.args.e) c.args.w.now c.requires.0 c.requires.1 (get_or c.args.w.now 4 0) (omega arith)

pub overflow_add-result-3 : goal.overflow_add-result-3
overflow_add-result-3 c =
    omega (arith, words_done (edition_of c.args.e) c.args.w.now c.requires.0 c.requires.1 c.loop-i.invariant (omega arith) c.next_degree.ensures c.words-2.ensures.0, words_most (edition_of c.args.e) c.args.w.now c.requires.0 c.requires.1)

pub returns : goal.returns
returns c =
    let e = words_done (edition_of c.args.e) c.args.w.now c.requires.0 c.requires.1 c.loop-i.invariant (omega arith) c.next_degree.ensures c.words-2.ensures.0 in
    (e, omega (arith, e, words_most (edition_of c.args.e) c.args.w.now c.requires.0 c.requires.1))
