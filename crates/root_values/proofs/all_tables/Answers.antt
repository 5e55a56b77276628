use Prim.Native.Nat.{ℕ, ◌+◌, ◌*◌, ◌≤◌}
use native.Mathlib.Omega.{arith}
use mathlib.Core.Path.{refl, ◌∙◌, ap}
use lib.ListN.{length, get_or}
use Rattle.definition.specs.Field.{spelling_of}
use Rattle.spelling.specs.ByField.{elements_at, field_at}
use Rattle.spelling.specs.Words.{elements_even}
use Rattle.root_values.specs.Places.{places_for}
use Rattle.root_values.proofs.Parts.{part_elements, part_is, placed_words, places, table_at}
use Rattle.root_values.proofs.all_tables.Invariants.{value_at}
use Rattle.root_values.proofs.all_tables.Goals as goal

pub overflow_mul-from : goal.overflow_mul-from
overflow_mul-from c = omega (arith, places c.args.field c.args.k c.args.js.now c.args.out.now c.words-words.result c.words-words.ensures.0 c.requires.k_in_bounds.0 c.loop-coin.coin c.loop-coin-test.true)

pub overflow_add-from : goal.overflow_add-from
overflow_add-from c = omega (arith, places c.args.field c.args.k c.args.js.now c.args.out.now c.words-words.result c.words-words.ensures.0 c.requires.k_in_bounds.0 c.loop-coin.coin c.loop-coin-test.true)

pub offset_bounds-out-from : goal.offset_bounds-out-from
offset_bounds-out-from c = omega (arith, places c.args.field c.args.k c.args.js.now c.args.out.now c.words-words.result c.words-words.ensures.0 c.requires.k_in_bounds.0 c.loop-coin.coin c.loop-coin-test.true)

pub slice_bounds-gather-end : goal.slice_bounds-gather-end
slice_bounds-gather-end c = omega (arith, places c.args.field c.args.k c.args.js.now c.args.out.now c.words-words.result c.words-words.ensures.0 c.requires.k_in_bounds.0 c.loop-coin.coin c.loop-coin-test.true, c.loop-coin.auto.out)

pub gather-requires : goal.gather-requires
gather-requires c =
    let a = c.args in
    let l = c.loop-coin in
    let n = c.words-words in
    let b = places a.field a.k a.js.now a.out.now n.result n.ensures.0 c.requires.k_in_bounds.0 l.coin c.loop-coin-test.true in
    let size = part_elements (spelling_of a.field) a.k n.result n.ensures.0 l.out (l.coin * n.result) (omega (arith, b, l.auto.out)) in
    λ m u. table_at (a.step * m) c.wide.ensures (c.requires.by_index l.coin m c.loop-coin-test.true (omega (arith, u, size)))

pub loop-coin-preserved : goal.loop-coin-preserved
loop-coin-preserved c =
    let a = c.args in
    let l = c.loop-coin in
    let t = c.loop-coin-test.true in
    let n = c.words-words in
    let g = c.gather in
    let σ = spelling_of a.field in
    let b = places a.field a.k a.js.now a.out.now n.result n.ensures.0 c.requires.k_in_bounds.0 l.coin t in
    let room : l.coin * n.result + n.result ≤ length l.out = omega (arith, b, l.auto.out) in
    let inside : l.coin * a.k + a.k ≤ length (elements_at a.field l.out) = omega (arith, places_for l.coin (length a.js.now) a.k (length (elements_at a.field a.out.now)) t refl c.requires.k_in_bounds.0, elements_even σ l.out a.out.now l.auto.out) in
    let size = g.auto.values ∙ part_is l.out (l.coin * n.result) n.result room in
    let same = part_elements σ a.k n.result n.ensures.0 l.out (l.coin * n.result) room in
    placed_words σ a.k n.result n.ensures.0 (value_at a.field a.table.now a.step) a.js.now l.coin l.out l.out g.new.values g.new.values inside inside size size l.invariant
    (λ m u. g.ensures.passed m (omega (arith, u, same)) ∙ ap (λ (i : ℕ). get_or (elements_at a.field a.table.now) (i + a.step * m) (field_at a.field).𝟘) c.wide.ensures)
