use native.Mathlib.Omega.{arith}
use Rattle.definition.specs.Sheet.{sheet_of}
use Rattle.edition.specs.Meaning.{edition_of}
use Rattle.level_words.specs.Words.{before_coin}
use Rattle.level_words.proofs.Ready.{round_small}
use Rattle.level_words.proofs.next_coin.Goals as goal

pub overflow_cast-s : goal.overflow_cast-s
overflow_cast-s c = omega (arith, c.shared_slice_known-2-1.given 5)

pub overflow_add-state : goal.overflow_add-state
overflow_add-state c =
    let a = c.args in
    let h = sheet_of (edition_of a.e) a.w.now in
    omega (arith, round_small (edition_of a.e) h a.w.now a.state c.requires, c.shared_slice_known-2-1.given 5)

pub overflow_add-state-2 : goal.overflow_add-state-2
overflow_add-state-2 c =
    let a = c.args in
    let h = sheet_of (edition_of a.e) a.w.now in
    omega (arith, round_small (edition_of a.e) h a.w.now a.state c.requires, c.shared_slice_known-2-1.given 5)

pub overflow_add-state-3 : goal.overflow_add-state-3
overflow_add-state-3 c =
    let a = c.args in
    let h = sheet_of (edition_of a.e) a.w.now in
    omega (arith, round_small (edition_of a.e) h a.w.now a.state c.requires, c.shared_slice_known-2-1.given 5)

pub words-requires : goal.words-requires
words-requires c =
    let a = c.args in
    let h = sheet_of (edition_of a.e) a.w.now in
    omega (arith, round_small (edition_of a.e) h a.w.now a.state c.requires, c.shared_slice_known-2-1.given 5)

pub overflow_add-result : goal.overflow_add-result
overflow_add-result c =
    let a = c.args in
    let h = sheet_of (edition_of a.e) a.w.now in
    omega (arith, round_small (edition_of a.e) h a.w.now a.state c.requires, before_coin h a.state _ c.requires.numbers.spelling c.requires.numbers.outs c.words.ensures.0)

pub returns : goal.returns
returns c =
    let a = c.args in
    let h = sheet_of (edition_of a.e) a.w.now in
    let e = before_coin h a.state _ c.requires.numbers.spelling c.requires.numbers.outs c.words.ensures.0 in
    (e, omega (arith, e, round_small (edition_of a.e) h a.w.now a.state c.requires))
