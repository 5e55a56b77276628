use Prim.Native.Nat.{◌*◌, ◌≤◌, ◌<◌}
use native.Mathlib.Omega.{arith}
use mathlib.Core.Path.{sym}
use lib.ListN.{length}
use lib.Seq.{length-take-le}
use Rattle.definition.specs.Field.{spelling_of}
use Rattle.spelling.specs.ByField.{elements_at, field_at, points_at}
use Rattle.spelling.specs.Words.{elements_even}
use Rattle.fractions.specs.Values.{folded, root_in}
use Rattle.root_values.proofs.Ready.{divisible_words, front_fits, front_size, ready_first_words, ready_words}
use Rattle.root_values.proofs.prepare.Goals as goal

-- `root_values::prepare` meets its contract. Assumes nothing.

pub returns-then-oracle-eq0 : goal.returns-then-oracle-eq0
returns-then-oracle-eq0 c =
    let a = c.args in
    let t = c.all_tables in
    ready_first_words a.field a.pw.now a.table.now a.ac.now a.vg.now a.oracle a.k c.requires.fits a.js.now t.new.out c.if-oracle-eq0.true t.ensures

pub slice_bounds-divide-end : goal.slice_bounds-divide-end
slice_bounds-divide-end c =
    let a = c.args in
    let f = c.all_fractions in
    let n = c.words-n in
    let room : length a.js.now * a.k ≤ length (elements_at a.field f.new.bottoms) = omega (arith, elements_even (spelling_of a.field) f.new.bottoms a.bottoms.now f.auto.bottoms, c.requires.k_in_bounds.1.0) in
    omega (arith, front_fits a.field a.k a.js.now n.result n.ensures.0 f.new.bottoms room)

pub slice_bounds-divide-end-2 : goal.slice_bounds-divide-end-2
slice_bounds-divide-end-2 c =
    let a = c.args in
    let f = c.all_fractions in
    let n = c.words-n in
    let room : length a.js.now * a.k ≤ length (elements_at a.field f.new.bottoms) = omega (arith, elements_even (spelling_of a.field) f.new.bottoms a.bottoms.now f.auto.bottoms, c.requires.k_in_bounds.1.0) in
    sym (length-take-le n.result f.new.bottoms (front_fits a.field a.k a.js.now n.result n.ensures.0 f.new.bottoms room))

pub slice_bounds-divide-end-3 : goal.slice_bounds-divide-end-3
slice_bounds-divide-end-3 c =
    let a = c.args in
    let f = c.all_fractions in
    let n = c.words-n in
    let room : length a.js.now * a.k ≤ length (elements_at a.field f.new.tops) = omega (arith, elements_even (spelling_of a.field) f.new.tops a.tops.now f.auto.tops, c.requires.k_in_bounds.0) in
    omega (arith, front_fits a.field a.k a.js.now n.result n.ensures.0 f.new.tops room)

pub slice_bounds-divide-end-4 : goal.slice_bounds-divide-end-4
slice_bounds-divide-end-4 c =
    let a = c.args in
    let f = c.all_fractions in
    let n = c.words-n in
    let room : length a.js.now * a.k ≤ length (elements_at a.field f.new.tops) = omega (arith, elements_even (spelling_of a.field) f.new.tops a.tops.now f.auto.tops, c.requires.k_in_bounds.0) in
    sym (length-take-le n.result f.new.tops (front_fits a.field a.k a.js.now n.result n.ensures.0 f.new.tops room))

pub divide-requires : goal.divide-requires
divide-requires c =
    let a = c.args in
    let p = c.requires in
    let f = c.all_fractions in
    let n = c.words-n in
    let σ = spelling_of a.field in
    let room : length a.js.now * a.k ≤ length (elements_at a.field f.new.tops) = omega (arith, elements_even σ f.new.tops a.tops.now f.auto.tops, p.k_in_bounds.0) in
    let room' : length a.js.now * a.k ≤ length (elements_at a.field f.new.bottoms) = omega (arith, elements_even σ f.new.bottoms a.bottoms.now f.auto.bottoms, p.k_in_bounds.1.0) in
    let size = front_size a.field a.k a.js.now n.result n.ensures.0 f.new.tops room in
    let size' = front_size a.field a.k a.js.now n.result n.ensures.0 f.new.bottoms room' in
    let some : 0 < a.k = omega (arith, folded p.fits) in record { tops_in_bounds = omega (arith, size, size'); divisible = divisible_words a.field (root_in (field_at a.field) (points_at a.field a.pw.now) (elements_at a.field a.table.now) (elements_at a.field a.ac.now) (elements_at a.field a.vg.now) a.oracle) a.k a.js.now f.new.tops f.new.bottoms n.result n.ensures.0 f.ensures room room' some }

pub returns : goal.returns
returns c =
    let a = c.args in
    let p = c.requires in
    let f = c.all_fractions in
    let n = c.words-n in
    let σ = spelling_of a.field in
    let room : length a.js.now * a.k ≤ length (elements_at a.field f.new.tops) = omega (arith, elements_even σ f.new.tops a.tops.now f.auto.tops, p.k_in_bounds.0) in
    let room' : length a.js.now * a.k ≤ length (elements_at a.field f.new.bottoms) = omega (arith, elements_even σ f.new.bottoms a.bottoms.now f.auto.bottoms, p.k_in_bounds.1.0) in
    let d = c.divide in
    ready_words a.field (root_in (field_at a.field) (points_at a.field a.pw.now) (elements_at a.field a.table.now) (elements_at a.field a.ac.now) (elements_at a.field a.vg.now) a.oracle) a.k a.js.now f.new.tops f.new.bottoms n.result n.ensures.0 f.ensures room room' d.new.tops d.auto.tops d.ensures
