use native.Mathlib.Omega.{arith}
use mathlib.Core.Path.{◌≡◌, refl, sym}
use Prim.Native.Nat.{ℕ, ◌+◌, ◌<◌}
use lib.ListN.{get_or}
use lib.Dec.{lit<}
use Rattle.hashing.specs.Sha256.{padded}
use Rattle.hash_laws.specs.Padding.{block_count, length_place, word_of, padded_in, padded_zero, high_word, low_word}
use Rattle.sha.proofs.word_at.Goals as goal

-- src/lib.rt:43:9
pub returns-then-at-n : goal.returns-then-at-n
returns-then-at-n c =
    let a = c.args in
    word_of a.m.now a.at c.requires.1 (sym (padded_in a.m.now a.at (omega arith))) (sym (padded_in a.m.now (a.at + 1) (omega arith)))
    (sym (padded_in a.m.now (a.at + 2) (omega arith))) (sym (padded_in a.m.now (a.at + 3) (omega arith))) (omega (arith, c.from_be_bytes.ensures))

-- src/lib.rt:48:13
pub returns-then-at-end : goal.returns-then-at-end
unfolding length_place
returns-then-at-end c =
    let a = c.args in
    let z : (k : ℕ) → k < 4 → 0 ≡ get_or (padded a.m.now) (a.at + k) 0 = λ k h. sym (padded_zero a.m.now (a.at + k) (omega arith) (omega arith)) in
    let z0 : 0 ≡ get_or (padded a.m.now) a.at 0 = sym (padded_zero a.m.now a.at (omega arith) (omega arith)) in
    word_of a.m.now a.at c.requires.1 z0 (z 1 (lit< tt)) (z 2 (lit< tt)) (z 3 (lit< tt)) refl

-- src/lib.rt:51:13
pub returns-then-at-end-2 : goal.returns-then-at-end-2
unfolding length_place
returns-then-at-end-2 c = let a = c.args in high_word a.m.now a.at (omega arith) refl

-- src/lib.rt:53:9
pub returns-then-n-at : goal.returns-then-n-at
unfolding length_place block_count
returns-then-n-at c = let a = c.args in low_word a.m.now a.at (omega arith) refl

-- src/lib.rt:37:1
pub returns : goal.returns
returns c =
    let a = c.args in
    word_of a.m.now a.at c.requires.1 c.byte_at-a.ensures c.byte_at-b.ensures
    c.byte_at-c.ensures c.byte_at-d.ensures (omega (arith, c.from_be_bytes-2.ensures))

pub overflow_add-at : goal.overflow_add-at
unfolding block_count
overflow_add-at c = omega arith

pub byte_at-a-requires : goal.byte_at-a-requires
unfolding length_place
byte_at-a-requires c = omega arith

pub byte_at-b-requires : goal.byte_at-b-requires
unfolding length_place
byte_at-b-requires c = omega arith

pub byte_at-c-requires : goal.byte_at-c-requires
unfolding length_place
byte_at-c-requires c = omega arith

pub byte_at-d-requires : goal.byte_at-d-requires
unfolding length_place
byte_at-d-requires c = omega arith
