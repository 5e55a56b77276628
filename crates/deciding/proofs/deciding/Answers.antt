use native.Mathlib.Omega.{arith}
use mathlib.Core.Path.{◌≡◌}
use lib.ListN.{get_or}
use Rattle.edition.specs.Meaning.{edition_of}
use Rattle.deciding.proofs.Ready.{four_points, four_words, one_words, sheet_fitting}
use Rattle.deciding.proofs.deciding.Goals as goal

-- `deciding::deciding` meets its contract. Assumes nothing.
pub bounds-w-0 : goal.bounds-w-0
bounds-w-0 c = let a = c.args in omega (arith, (sheet_fitting (edition_of a.e) a.w.now c.requires.w_value.0 c.requires.w_in_bounds).0)

pub decide_with-requires : goal.decide_with-requires
decide_with-requires c =
    let p = c.requires in
    let a = c.args in
    let three : get_or a.w.now 0 0 ≡ 3 = omega (arith, c.if-w-eq3.true) in
    let words = four_words (edition_of a.e) a.w.now in
    record { w_value = p.w_value; w_in_bounds = p.w_in_bounds; points = (four_points (edition_of a.e) a.w.now p.w_value.0 p.w_in_bounds three, omega arith); samples = (words 50 three, omega arith); places = (words 66 three, omega arith); double = (words 132 three, omega arith) }

pub bounds-w-1 : goal.bounds-w-1
bounds-w-1 c = let a = c.args in omega (arith, (sheet_fitting (edition_of a.e) a.w.now c.requires.w_value.0 c.requires.w_in_bounds).0)

pub decide_with-requires-then-w-le256 : goal.decide_with-requires-then-w-le256
decide_with-requires-then-w-le256 c =
    let p = c.requires in
    let a = c.args in
    let other = λ (h : get_or a.w.now 0 0 ≡ 3). c.if-w-eq3.false (omega (arith, h)) in
    let words = one_words (edition_of a.e) a.w.now in
    record { w_value = p.w_value; w_in_bounds = p.w_in_bounds; points = (omega (arith, c.if-w-le256.true), omega arith); samples = (words 50 other, omega arith); places = (words 66 other, omega arith); double = (words 132 other, omega arith) }

pub decide_with-requires-2 : goal.decide_with-requires-2
decide_with-requires-2 c =
    let p = c.requires in
    let a = c.args in
    let other = λ (h : get_or a.w.now 0 0 ≡ 3). c.if-w-eq3.false (omega (arith, h)) in
    let words = one_words (edition_of a.e) a.w.now in
    record { w_value = p.w_value; w_in_bounds = p.w_in_bounds; points = (omega (arith, (sheet_fitting (edition_of a.e) a.w.now p.w_value.0 p.w_in_bounds).1.most), omega arith); samples = (words 50 other, omega arith); places = (words 66 other, omega arith); double = (words 132 other, omega arith) }
