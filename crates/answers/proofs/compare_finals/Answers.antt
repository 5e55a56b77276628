use native.Mathlib.Omega.{arith}
use lib.ListN.{length}
use Rattle.answers.proofs.Sizes.{most, most_roots, room}
use Rattle.answers.proofs.compare_finals.Goals as goal

-- `answers::compare_finals` meets its contract. Assumes nothing.
pub overflow_mul-finals : goal.overflow_mul-finals
overflow_mul-finals c =
    let a = c.args in
    let s = c.requires in
    omega (arith, most_roots (length a.finals.now) a.k s.below.1 s.fits.few)

pub words-places-requires : goal.words-places-requires
words-places-requires c =
    let a = c.args in
    let s = c.requires in
    omega (arith, most_roots (length a.finals.now) a.k s.below.1 s.fits.few)

pub first_difference-requires : goal.first_difference-requires
first_difference-requires c =
    let a = c.args in
    let s = c.requires in
    let n = c.words-places in
    let w = room a.field (length a.finals.now) a.k 64 n.result s.fits.few (omega arith) n.ensures.0 c.if-places-le-FEW.true in record { ac_len = s.ac_len; fits = s.fits; below = s.below.0; k_in_bounds = (w.0, (w.0, omega (arith, s.below.1))); k_in_bounds_2 = w.1 }

pub returns-then-places-le-FEW : goal.returns-then-places-le-FEW
returns-then-places-le-FEW c = c.first_difference.ensures

pub first_difference-requires-then-places-le-MANY : goal.first_difference-requires-then-places-le-MANY
first_difference-requires-then-places-le-MANY c =
    let a = c.args in
    let s = c.requires in
    let n = c.words-places in
    let w = room a.field (length a.finals.now) a.k 768 n.result s.fits.few (omega arith) n.ensures.0 c.if-places-le-MANY.true in record { ac_len = s.ac_len; fits = s.fits; below = s.below.0; k_in_bounds = (w.0, (w.0, omega (arith, s.below.1))); k_in_bounds_2 = w.1 }

pub returns-then-places-le-MANY : goal.returns-then-places-le-MANY
returns-then-places-le-MANY c = c.first_difference-then-places-le-MANY.ensures

pub first_difference-requires-2 : goal.first_difference-requires-2
first_difference-requires-2 c =
    let a = c.args in
    let s = c.requires in
    let n = c.words-places in
    let w = room a.field (length a.finals.now) a.k 3072 n.result s.fits.few (omega arith) n.ensures.0 (most a.field (length a.finals.now) a.k n.result s.below.1 s.fits.few n.ensures.0) in record { ac_len = s.ac_len; fits = s.fits; below = s.below.0; k_in_bounds = (w.0, (w.0, omega (arith, s.below.1))); k_in_bounds_2 = w.1 }

pub returns : goal.returns
returns c = c.first_difference-2.ensures
