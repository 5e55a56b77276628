use native.Mathlib.Omega.{arith}
use lib.ListN.{length}
use Rattle.answers.proofs.Sizes.{most, most_roots, room}
use Rattle.answers.proofs.gather_round.Goals as goal

-- `answers::gather_round` meets its contract. Assumes nothing.
pub overflow_mul-shifts : goal.overflow_mul-shifts
overflow_mul-shifts c =
    let a = c.args in
    let s = c.requires in
    omega (arith, most_roots (length a.shifts.now) a.k s.below.1 s.fits.few)

pub words-places-requires : goal.words-places-requires
words-places-requires c =
    let a = c.args in
    let s = c.requires in
    omega (arith, most_roots (length a.shifts.now) a.k s.below.1 s.fits.few)

pub gather_samples-requires : goal.gather_samples-requires
gather_samples-requires c =
    let a = c.args in
    let s = c.requires in
    let n = c.words-places in
    let w = room a.field (length a.shifts.now) a.k 64 n.result s.fits.few (omega arith) n.ensures.0 c.if-places-le-FEW.true in record { ac_len = s.ac_len; fits = s.fits; below = s.below.0; py_len = s.py_len; k_in_bounds = (w.0, (w.0, omega (arith, s.below.1))); k_in_bounds_2 = w.1 }

pub shape_of-px-then-places-le-FEW : goal.shape_of-px-then-places-le-FEW
shape_of-px-then-places-le-FEW c = c.gather_samples.auto.px

pub shape_of-py-then-places-le-FEW : goal.shape_of-py-then-places-le-FEW
shape_of-py-then-places-le-FEW c = c.gather_samples.auto.py

pub returns-then-places-le-FEW : goal.returns-then-places-le-FEW
returns-then-places-le-FEW c = record { answered = c.gather_samples.ensures.answered; room = c.gather_samples.ensures.room }

pub gather_samples-requires-then-places-le-MANY : goal.gather_samples-requires-then-places-le-MANY
gather_samples-requires-then-places-le-MANY c =
    let a = c.args in
    let s = c.requires in
    let n = c.words-places in
    let w = room a.field (length a.shifts.now) a.k 768 n.result s.fits.few (omega arith) n.ensures.0 c.if-places-le-MANY.true in record { ac_len = s.ac_len; fits = s.fits; below = s.below.0; py_len = s.py_len; k_in_bounds = (w.0, (w.0, omega (arith, s.below.1))); k_in_bounds_2 = w.1 }

pub shape_of-px-then-places-le-MANY : goal.shape_of-px-then-places-le-MANY
shape_of-px-then-places-le-MANY c = c.gather_samples-then-places-le-MANY.auto.px

pub shape_of-py-then-places-le-MANY : goal.shape_of-py-then-places-le-MANY
shape_of-py-then-places-le-MANY c = c.gather_samples-then-places-le-MANY.auto.py

pub returns-then-places-le-MANY : goal.returns-then-places-le-MANY
returns-then-places-le-MANY c = record { answered = c.gather_samples-then-places-le-MANY.ensures.answered; room = c.gather_samples-then-places-le-MANY.ensures.room }

pub gather_samples-requires-2 : goal.gather_samples-requires-2
gather_samples-requires-2 c =
    let a = c.args in
    let s = c.requires in
    let n = c.words-places in
    let w = room a.field (length a.shifts.now) a.k 3072 n.result s.fits.few (omega arith) n.ensures.0 (most a.field (length a.shifts.now) a.k n.result s.below.1 s.fits.few n.ensures.0) in record { ac_len = s.ac_len; fits = s.fits; below = s.below.0; py_len = s.py_len; k_in_bounds = (w.0, (w.0, omega (arith, s.below.1))); k_in_bounds_2 = w.1 }

pub shape_of-px : goal.shape_of-px
shape_of-px c = c.gather_samples-2.auto.px

pub shape_of-py : goal.shape_of-py
shape_of-py c = c.gather_samples-2.auto.py

pub returns : goal.returns
returns c = record { answered = c.gather_samples-2.ensures.answered; room = c.gather_samples-2.ensures.room }
