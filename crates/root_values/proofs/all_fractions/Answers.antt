use Prim.Native.Nat.{ℕ, ◌+◌, ◌*◌, ◌≤◌}
use native.Mathlib.Omega.{arith}
use mathlib.Core.Path.{refl, sym, ◌∙◌, subst}
use lib.ListN.{length, get_or}
use Rattle.definition.specs.Field.{spelling_of}
use Rattle.spelling.specs.ByField.{elements_at, field_at}
use Rattle.spelling.specs.Words.{elements_even}
use Rattle.fractions.specs.Values.{below_at, fits_for}
use Rattle.root_values.specs.Places.{places_for}
use Rattle.root_values.proofs.Parts.{part_elements, part_is, placed_words, places}
use Rattle.root_values.proofs.all_fractions.Invariants.{fractionAt}
use Rattle.root_values.proofs.all_fractions.Goals as goal

pub overflow_mul-at : goal.overflow_mul-at
overflow_mul-at c = omega (arith, (places c.args.field c.args.k c.args.js.now c.args.tops.now c.words-words.result c.words-words.ensures.0 c.requires.below.1.1.0 c.loop-coin.coin c.loop-coin-test.true))

pub overflow_add-at : goal.overflow_add-at
overflow_add-at c = omega (arith, (places c.args.field c.args.k c.args.js.now c.args.tops.now c.words-words.result c.words-words.ensures.0 c.requires.below.1.1.0 c.loop-coin.coin c.loop-coin-test.true))

pub offset_bounds-tops-at : goal.offset_bounds-tops-at
offset_bounds-tops-at c = omega (arith, (places c.args.field c.args.k c.args.js.now c.args.tops.now c.words-words.result c.words-words.ensures.0 c.requires.below.1.1.0 c.loop-coin.coin c.loop-coin-test.true))

pub slice_bounds-fractions-end : goal.slice_bounds-fractions-end
slice_bounds-fractions-end c = omega (arith, (places c.args.field c.args.k c.args.js.now c.args.tops.now c.words-words.result c.words-words.ensures.0 c.requires.below.1.1.0 c.loop-coin.coin c.loop-coin-test.true), c.loop-coin.auto.tops)

pub slice_bounds-fractions-end-in-loop-coin : goal.slice_bounds-fractions-end-in-loop-coin
slice_bounds-fractions-end-in-loop-coin c = omega (arith, (places c.args.field c.args.k c.args.js.now c.args.bottoms.now c.words-words.result c.words-words.ensures.0 c.requires.below.1.1.1 c.loop-coin.coin c.loop-coin-test.true), c.loop-coin.auto.bottoms)

pub fractions-requires : goal.fractions-requires
fractions-requires c =
    let a = c.args in
    let p = c.requires in
    let l = c.loop-coin in
    let n = c.words-words in
    let t = c.loop-coin-test.true in
    let σ = spelling_of a.field in
    let b = places a.field a.k a.js.now a.tops.now n.result n.ensures.0 p.below.1.1.0 l.coin t in
    let d = places a.field a.k a.js.now a.bottoms.now n.result n.ensures.0 p.below.1.1.1 l.coin t in
    let size = part_elements σ a.k n.result n.ensures.0 l.tops (l.coin * n.result) (omega (arith, b, l.auto.tops)) in
    let size' = part_elements σ a.k n.result n.ensures.0 l.bottoms (l.coin * n.result) (omega (arith, d, l.auto.bottoms)) in record { ac_len = p.ac_len; fits = fits_for size p.fits; j_lt_step = (below_at a.js.now p.below.0 l.coin t c.wide.ensures, (p.below.1.0, size' ∙ sym size)) }

pub loop-coin-preserved : goal.loop-coin-preserved
loop-coin-preserved c =
    let a = c.args in
    let p = c.requires in
    let l = c.loop-coin in
    let n = c.words-words in
    let t = c.loop-coin-test.true in
    let f = c.fractions in
    let σ = spelling_of a.field in
    let count = length a.js.now in
    let b = places a.field a.k a.js.now a.tops.now n.result n.ensures.0 p.below.1.1.0 l.coin t in
    let d = places a.field a.k a.js.now a.bottoms.now n.result n.ensures.0 p.below.1.1.1 l.coin t in
    let room : l.coin * n.result + n.result ≤ length l.tops = omega (arith, b, l.auto.tops) in
    let room' : l.coin * n.result + n.result ≤ length l.bottoms = omega (arith, d, l.auto.bottoms) in
    let inside : l.coin * a.k + a.k ≤ length (elements_at a.field l.tops) = omega (arith, places_for l.coin count a.k (length (elements_at a.field a.tops.now)) t refl p.below.1.1.0, elements_even σ l.tops a.tops.now l.auto.tops) in
    let inside' : l.coin * a.k + a.k ≤ length (elements_at a.field l.bottoms) = omega (arith, places_for l.coin count a.k (length (elements_at a.field a.bottoms.now)) t refl p.below.1.1.1, elements_even σ l.bottoms a.bottoms.now l.auto.bottoms) in
    let same = part_elements σ a.k n.result n.ensures.0 l.tops (l.coin * n.result) room in
    let tops = f.new.tops in
    let bottoms = f.new.bottoms in
    placed_words σ a.k n.result n.ensures.0 (fractionAt a.field a.pw.now a.table.now a.ac.now a.vg.now a.oracle) a.js.now l.coin l.tops l.bottoms tops bottoms inside inside'
    (f.auto.tops ∙ part_is l.tops (l.coin * n.result) n.result room) (f.auto.bottoms ∙ part_is l.bottoms (l.coin * n.result) n.result room') l.invariant
    (λ m u. subst (λ (j : ℕ). fractionAt a.field a.pw.now a.table.now a.ac.now a.vg.now a.oracle j m (get_or (elements_at a.field tops) m (field_at a.field).𝟘) (get_or (elements_at a.field bottoms) m (field_at a.field).𝟘)) c.wide.ensures (f.ensures m (omega (arith, u, same))))
