use Prim.Native.Nat.{ℕ, ◌+◌}
use mathlib.Core.Path.{refl, ap, ◌∙◌}
use native.Mathlib.Omega.{arith}
use Rattle.edition.specs.Meaning.{edition_of}
use Rattle.outcome.specs.Meaning.{place_of}
use Rattle.ranges.proofs.Turns.{start, few_elements, fits, in_words, opened, ended, there, bound_element, bound_index, turned, stopped, closed}
use Rattle.ranges.proofs.first_beyond.Goals as goal
use Rattle.ranges.proofs.first_beyond.Goals.{then-j-first, else-j-first}

pub bounds-w-0 : goal.bounds-w-0
bounds-w-0 c = omega (arith, c.requires.fine.twelve)

pub modulus-p-requires : goal.modulus-p-requires
modulus-p-requires c = tt

pub word-rounds-requires : goal.word-rounds-requires
word-rounds-requires c = omega (arith, c.requires.fine.twelve)

pub walk-init : goal.walk-init
walk-init c = (
  start c.args.alone (edition_of c.args.e) c.args.w.now c.args.words.now c.args.from c.requires.fine c.requires.w_in_bounds
      c.modulus-p.ensures (ap (λ (n : ℕ). n + 2) c.word-rounds.ensures.0),
  refl,
)

pub elements-requires : goal.elements-requires
elements-requires c = let s = c.walk.invariant.0 in (s.fine, omega (arith, s.all, c.walk-test.true))

pub words-first-requires : goal.words-first-requires
words-first-requires c = omega (arith, few_elements c.walk.invariant.0 c.walk-test.true, c.elements.ensures)

pub overflow_add-count : goal.overflow_add-count
overflow_add-count c =
    record { fits = omega (arith, fits c.walk.invariant.0 c.walk-test.true, in_words _ c.words-first.ensures.0 c.elements.ensures, c.indices.ensures) }

pub limit-below-requires : goal.limit-below-requires
limit-below-requires c = let s = c.walk.invariant.0 in (s.fine, omega (arith, s.all, c.walk-test.true))

pub loop-j-init : goal.loop-j-init
loop-j-init c =
    (opened c.walk.invariant.0 c.walk-test.true (in_words _ c.words-first.ensures.0 c.elements.ensures) c.indices.ensures c.limit-below.ensures (omega arith), c.walk.invariant.1)

pub word-requires : goal.word-requires
word-requires c = there c.loop-j.invariant.0 c.loop-j-test.true

pub overflow_add-at : goal.overflow_add-at
overflow_add-at c = record { fits = omega (arith, there c.loop-j.invariant.0 c.loop-j-test.true) }

pub loop-j-preserved : goal.loop-j-preserved
loop-j-preserved c =
    let l = c.loop-j.invariant.0 in
    let t = c.loop-j-test.true in
    (turned l t (elim c.if-j-first.branch [ then-j-first x ↦ bound_element l x.if-j-first.true x.bound-is | else-j-first x ↦ bound_index l t x.if-j-first.false x.bound-is ]) c.word.ensures.0 c.if-bound-word.false (omega arith), c.loop-j.invariant.1)

pub walk-preserved : goal.walk-preserved
walk-preserved c = (closed c.loop-j.invariant.0 c.loop-j-test.false (omega arith), c.loop-j.invariant.1)

pub returns-after-walk : goal.returns-after-walk
returns-after-walk c = ap place_of c.walk.invariant.1 ∙ ended c.walk.invariant.0 c.walk-test.false

pub returns-then-bound-word : goal.returns-then-bound-word
returns-then-bound-word c =
    let l = c.loop-j.invariant.0 in
    let t = c.loop-j-test.true in
    stopped l t (elim c.if-j-first.branch [ then-j-first x ↦ bound_element l x.if-j-first.true x.bound-is | else-j-first x ↦ bound_index l t x.if-j-first.false x.bound-is ]) c.word.ensures.0 c.if-bound-word.true
