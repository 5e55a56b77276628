use native.Mathlib.Omega.{arith}
use Rattle.definition.specs.Sheet.{sheet_of}
use Rattle.edition.specs.Meaning.{edition_of}
use Rattle.level_words.specs.Words.{before_shifts}
use Rattle.level_words.proofs.Ready.{round_small, shifts_counted, shifts_read}
use Rattle.level_words.proofs.reads_after_round.Goals as goal

pub overflow_cast-s : goal.overflow_cast-s
overflow_cast-s c = omega (arith, c.shared_slice_known-2-1.given 5)

pub overflow_add-state : goal.overflow_add-state
overflow_add-state c =
    let a = c.args in
    let h = sheet_of (edition_of a.e) a.w.now in
    omega (arith, round_small (edition_of a.e) h a.w.now a.state c.requires.0, c.shared_slice_known-2-1.given 5)

pub overflow_add-state-2 : goal.overflow_add-state-2
overflow_add-state-2 c =
    let a = c.args in
    let h = sheet_of (edition_of a.e) a.w.now in
    omega (arith, round_small (edition_of a.e) h a.w.now a.state c.requires.0, c.shared_slice_known-2-1.given 5)

pub overflow_add-state-3 : goal.overflow_add-state-3
overflow_add-state-3 c =
    let a = c.args in
    let h = sheet_of (edition_of a.e) a.w.now in
    omega (arith, round_small (edition_of a.e) h a.w.now a.state c.requires.0, c.shared_slice_known-2-1.given 5)

pub words-requires : goal.words-requires
words-requires c =
    let a = c.args in
    let h = sheet_of (edition_of a.e) a.w.now in
    omega (arith, round_small (edition_of a.e) h a.w.now a.state c.requires.0, c.shared_slice_known-2-1.given 5)

pub overflow_add-state-4 : goal.overflow_add-state-4
overflow_add-state-4 c =
    let a = c.args in
    let h = sheet_of (edition_of a.e) a.w.now in
    omega (arith, round_small (edition_of a.e) h a.w.now a.state c.requires.0, before_shifts h a.state _ c.requires.0.numbers.spelling c.requires.0.numbers.outs c.words.ensures.0)

pub reads_after_coins-requires : goal.reads_after_coins-requires
reads_after_coins-requires c =
    let a = c.args in
    let h = sheet_of (edition_of a.e) a.w.now in
    let i = c.requires.0 in record { numbers = (i.numbers, c.requires.1); count_in_bounds = shifts_counted (edition_of a.e) h a.w.now a.state i (before_shifts h a.state _ i.numbers.spelling i.numbers.outs c.words.ensures.0) i.numbers.times }

pub returns : goal.returns
returns c =
    let a = c.args in
    let h = sheet_of (edition_of a.e) a.w.now in
    let i = c.requires.0 in
    shifts_read (edition_of a.e) h a.w.now a.state a.reads (before_shifts h a.state _ i.numbers.spelling i.numbers.outs c.words.ensures.0) i.numbers.times c.reads_after_coins.ensures
