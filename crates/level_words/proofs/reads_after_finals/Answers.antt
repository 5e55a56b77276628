use native.Mathlib.Omega.{arith}
use Rattle.definition.specs.Sheet.{sheet_of}
use Rattle.edition.specs.Meaning.{edition_of}
use mathlib.Core.Path.{◌∙◌}
use Rattle.level_words.proofs.Ready.{finals_counted, finals_read, finals_small, finals_there}
use Rattle.level_words.proofs.reads_after_finals.Goals as goal

pub words-requires : goal.words-requires
words-requires c =
    let a = c.args in
    let h = sheet_of (edition_of a.e) a.w.now in
    let i = c.requires.final_inside.0 in
    omega (arith, finals_small (edition_of a.e) h a.w.now a.state i a.count (c.fold.ensures.0 ∙ i.numbers.fold) c.requires.count_bound)

pub overflow_add-state : goal.overflow_add-state
overflow_add-state c =
    let a = c.args in
    let h = sheet_of (edition_of a.e) a.w.now in
    let i = c.requires.final_inside.0 in
    omega (arith, finals_there (edition_of a.e) h a.w.now a.state i a.count (c.fold.ensures.0 ∙ i.numbers.fold) c.requires.count_bound _ i.numbers.spelling c.words.ensures.0)

pub reads_after_coins-requires : goal.reads_after_coins-requires
reads_after_coins-requires c =
    let a = c.args in
    let h = sheet_of (edition_of a.e) a.w.now in
    let i = c.requires.final_inside.0 in record { numbers = (i.numbers, c.requires.final_inside.1); count_in_bounds = finals_counted (edition_of a.e) h a.w.now a.state i a.count (c.fold.ensures.0 ∙ i.numbers.fold) c.requires.count_bound _ i.numbers.spelling c.words.ensures.0 }

pub returns : goal.returns
returns c =
    let a = c.args in
    let h = sheet_of (edition_of a.e) a.w.now in
    let i = c.requires.final_inside.0 in
    finals_read (edition_of a.e) h a.w.now a.state i a.count (c.fold.ensures.0 ∙ i.numbers.fold) c.requires.count_bound _ i.numbers.spelling c.words.ensures.0 a.reads c.reads_after_coins.ensures
