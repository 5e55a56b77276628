use native.Mathlib.Omega.{arith}
use mathlib.Core.Path.{◌∙◌}
use Rattle.edition.specs.Meaning.{edition_of}
use Rattle.ranges.proofs.Counting.{counted_as, degree_over, divided_most, first_elements, round_elements, final_elements}
use Rattle.ranges.proofs.elements.Goals as goal

-- src/lib.rt:81:9
pub returns-then-alone : goal.returns-then-alone
returns-then-alone c = let a = c.args in counted_as (edition_of a.e) a.w.now a.round c.if-alone.true c.coin_elements.ensures

-- src/lib.rt:84:9
pub returns-then-round-eq0 : goal.returns-then-round-eq0
returns-then-round-eq0 c =
    let a = c.args in
    counted_as (edition_of a.e) a.w.now a.round c.if-alone.false (first_elements (edition_of a.e) a.w.now a.round c.if-round-eq0.true c.word.ensures.0)

-- src/lib.rt:87:16
pub overflow_add-result-then-round-word : goal.overflow_add-result-then-round-word
overflow_add-result-then-round-word c = omega (arith, divided_most c.word-then-round-word.result 2 c.args.round)

-- src/lib.rt:87:16
pub overflow_add-result-then-round-word-2 : goal.overflow_add-result-then-round-word-2
overflow_add-result-then-round-word-2 c = omega (arith, divided_most c.word-then-round-word.result 2 c.args.round)

-- src/lib.rt:87:9
pub returns-then-round-word : goal.returns-then-round-word
returns-then-round-word c =
    let a = c.args in
    counted_as (edition_of a.e) a.w.now a.round c.if-alone.false
    (round_elements (edition_of a.e) a.w.now a.round c.if-round-eq0.false c.word-2.ensures.0 c.if-round-word.true
    c.word-then-round-word.ensures.0 c.divide.ensures c.word-then-round-word-2.ensures.0)

-- src/lib.rt:89:5
pub degree-requires : goal.degree-requires
degree-requires c =
    let p = c.requires in
    (p.0.long, (omega (arith, p.0.most, p.1), record { folds = λ j l. p.0.folds j (omega (arith, p.1)) }))

-- src/lib.rt:76:1
pub returns : goal.returns
returns c =
    let a = c.args in
    counted_as (edition_of a.e) a.w.now a.round c.if-alone.false
    (final_elements (edition_of a.e) a.w.now a.round c.if-round-eq0.false c.word-2.ensures.0 c.if-round-word.false
    (c.degree.ensures ∙ degree_over (edition_of a.e) a.w.now a.round (omega (arith, c.requires.0.most, c.requires.1))))
