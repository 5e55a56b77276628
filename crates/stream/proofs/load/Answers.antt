use Prim.Native.Nat.{ℕ, ◌+◌, ◌-◌, ◌*◌, ◌/◌, ◌≤◌, ◌<◌, min}
use native.Mathlib.Omega.{arith}
use mathlib.Core.Path.{◌≡◌, refl, sym, ap, ◌∙◌}
use mathlib.Core.Bool.{Bool, true, false, not}
use mathlib.Core.Logic.{⊎_elim}
use mathlib.Core.List.{List, [], ◌++◌}
use lib.ListN.{length, get_or, take}
use lib.Seq.{take-take}
use borrow.Author.Tests.{not-true, not-false}
use native.Mathlib.Nat.{eq-zero-or-pos, le_refl}
use Rattle.definition.specs.Block.{file_blocks, stream_of}
use Rattle.std.specs.Prelude.{Some, None}
use Rattle.outcome.specs.Meaning.{place_of}
use Rattle.list_laws.specs.Overwriting.{overwrite, overwrite_before, overwrite_front}
use Rattle.layouts.specs.FileWords.{block_words, block_words_length, blocks_count, stream_next}
use Rattle.stream.specs.Checks.{right_check, wrong_here, wrong_later, wrong_nowhere}
use Rattle.stream.specs.Loaded.{Loaded}
use Rattle.stream.proofs.load.Invariants.{Searching, Holding}
use Rattle.stream.proofs.load.Goals as goal

hold-none : (file : List ℕ) (most : ℕ) (words : List ℕ) → Holding file most 0 words
unfolding Holding
hold-none file most words = let z : 127 * min 0 most ≡ 0 = omega arith in rw z

module _ (file : List ℕ) (most b : ℕ) where
  found_here : (words : List ℕ) {r : Bool} → b < length file / 512 → r ≡ right_check b (get_or (file_blocks file) b []) → not r ≡ true → Searching file b
      → Loaded file most (Some b) words
  unfolding place_of Searching
  found_here words {r} h e t s =
      let n : b < length (file_blocks file) = omega (arith, blocks_count file) in
      record {
        checked = sym (wrong_here (file_blocks file) b n (sym e ∙ not-true r t)) ∙ s;
        front = λ q. let z : ◌≡◌ {A = ℕ} 0 1 = cc in absurd (omega arith);
      }

  search-on : {r : Bool} → b < length file / 512 → r ≡ right_check b (get_or (file_blocks file) b []) → not r ≡ false → Searching file b → Searching file (b + 1)
  unfolding Searching
  search-on {r} h e t s =
      let n : b < length (file_blocks file) = omega (arith, blocks_count file) in
      wrong_later (file_blocks file) b n (sym e ∙ not-false r t) ∙ s

  -- block b is stored behind those before it, or, from number most on, behind the first ones
  hold-more : (l : List ℕ) {o : List ℕ} {at : ℕ} → b < length file / 512 → 127 * min (length file / 512) (most + 1) ≤ length l → at ≡ 127 * min b most
      → o ≡ overwrite l at (block_words file b) → Holding file most b l → Holding file most (b + 1) o
  unfolding Holding
  hold-more l {o} {at} h n e q w = ⊎_elim (λ z. above (omega arith)) (λ z. below (omega arith)) (eq-zero-or-pos (most - b))
    where
      below : b < most → take (127 * min (b + 1) most) o ≡ take (127 * min (b + 1) most) (stream_of file)
      below k =
          let m : min b most ≡ b = omega arith in
          let j : 127 * b + length (block_words file b) ≡ 127 * (b + 1) = omega (arith, block_words_length file b h) in
          let i : min (b + 1) most ≡ b + 1 = omega arith in
          let f = overwrite_front l (127 * b) (block_words file b) (omega (arith, n)) in
          let g = ap (λ (y : List ℕ). y ++ block_words file b) (rw m at w) in
          rw (i, q, e, m) ((rw j at f) ∙ g ∙ stream_next file b h)

      above : most ≤ b → take (127 * min (b + 1) most) o ≡ take (127 * min (b + 1) most) (stream_of file)
      above k =
          let m : min (b + 1) most ≡ min b most = omega arith in
          rw m (rw (q, e) (overwrite_before l (127 * min b most) (block_words file b) (omega (arith, n)) (127 * min b most) (le_refl _) ∙ w))

-- all blocks read
all_right : (file : List ℕ) (most b : ℕ) (words : List ℕ) → b ≡ length file / 512 → Searching file b → Holding file most b words → Loaded file most None words
unfolding place_of Searching Holding
all_right file most b words e s w =
    record {
      checked = sym (wrong_nowhere (file_blocks file) b (omega (arith, blocks_count file))) ∙ s;
      front =
          λ q m h k.
          let t : 127 * m ≤ 127 * min b most = omega arith in
          sym (take-take (127 * m) (127 * min b most) words t) ∙ ap (take (127 * m)) w ∙ take-take (127 * m) (127 * min b most) (stream_of file) t;
    }

pub loop-b-init : goal.loop-b-init
unfolding Searching
loop-b-init c = let a = c.args in (refl, hold-none a.file.now a.most a.words.now)

pub returns-then-not-take_block : goal.returns-then-not-take_block
returns-then-not-take_block c =
    let l = c.loop-b in
    let a = c.args in
    let p = c.take_block in
    found_here a.file.now a.most l.b p.new.words (omega arith) p.ensures.value (ap not c.if-not-take_block.true) l.invariant.0

pub loop-b-preserved : goal.loop-b-preserved
loop-b-preserved c =
    let l = c.loop-b in
    let a = c.args in
    let p = c.take_block in
    let h : l.b < length a.file.now / 512 = omega arith in (
      search-on a.file.now a.most l.b h p.ensures.value (ap not c.if-not-take_block.false) l.invariant.0,
      hold-more a.file.now a.most l.b l.words h (omega (arith, l.auto.words, c.requires)) c.place-at.ensures p.ensures.words_after l.invariant.1,
    )

pub returns : goal.returns
returns c =
    let l = c.loop-b in
    let a = c.args in
    all_right a.file.now a.most l.b l.words (omega arith) l.invariant.0 l.invariant.1
