-- A word stored in the bytes of a file is that word set in the stream that the file holds.
use Rattle.std.specs.Prelude.{ℕ, ◌+◌, ◌-◌, ◌*◌, ◌/◌, ◌≤◌, ◌<◌, ◌≡◌, refl, ◌⊎◌, List, ◌++◌, take, set}
use Rattle.std.proofs.Common.{eq-zero-or-pos, ◌∙◌, inl, inr, ⊎_elim, append_assoc, get_or-set_other, get_or-set_same, length-take-le}
use native.Mathlib.Omega.{arith}
use Rattle.std.proofs.Math.Path.{sym, ap}
use Rattle.std.proofs.Math.ListN.{length, get_or, drop, length-append, length-set}
use Rattle.std.proofs.Math.Seq.{drop-append-add, drop-drop, drop_at, ext_get_or, take_at}
use Rattle.definition.specs.Block.{bytes_of, low_bytes, word_of, stream_of}
use Rattle.list_laws.specs.Lists.{drop_take}
use Rattle.list_laws.specs.Overwriting.{overwrite, overwrite_before, overwrite_length}
use Rattle.layouts.specs.FileWords.{word_at, stream_length, stream_at}

-- where word n of the stream stands in the file
abbrev pub word_place : ℕ → ℕ
word_place n = 4 * (n + n / 127)

bytes_four : (w : ℕ) → length (bytes_of w) ≡ 4
unfolding bytes_of low_bytes
bytes_four w = refl

word_back : (w : ℕ) → w < 4294967296 → word_of (bytes_of w) ≡ w
unfolding word_of bytes_of low_bytes
word_back w h = omega arith

module _ (l : List ℕ) (at w : ℕ) (fits : at + 4 ≤ length l) where
  front : length (take at l) ≡ at
  front = length-take-le at l (omega arith)

  -- the four bytes stored
  stored : take 4 (drop at (overwrite l at (bytes_of w))) ≡ bytes_of w
  unfolding overwrite
  stored =
      ap (take 4) (ap (drop at) (append_assoc (take at l) (bytes_of w) (drop (at + length (bytes_of w)) l)) ∙ drop_at (take at l) (bytes_of w ++ drop (at + length (bytes_of w)) l) at front)
      ∙ take_at (bytes_of w) (drop (at + length (bytes_of w)) l) 4 (bytes_four w)

  -- four bytes before, and four behind, stay
  before : (k : ℕ) → k + 4 ≤ at → take 4 (drop k (overwrite l at (bytes_of w))) ≡ take 4 (drop k l)
  before k h =
      sym (drop_take k 4 (overwrite l at (bytes_of w))) ∙ ap (drop k) (overwrite_before l at (bytes_of w) (omega arith) (k + 4) h) ∙ drop_take k 4 l

  behind : (k : ℕ) → at + 4 ≤ k → take 4 (drop k (overwrite l at (bytes_of w))) ≡ take 4 (drop k l)
  unfolding overwrite
  behind k h =
      let q = bytes_of w in
      let n : length (take at l ++ q) ≡ at + 4 = length-append (take at l) q ∙ omega (arith, front, bytes_four w) in
      let e : k ≡ length (take at l ++ q) + (k - (at + 4)) = omega arith in
      let f : at + length q + (k - (at + 4)) ≡ k = omega (arith, bytes_four w) in
      ap (take 4)
      (ap (λ (i : ℕ). drop i (take at l ++ q ++ drop (at + length q) l)) e
      ∙ drop-append-add (take at l ++ q) (drop (at + length q) l) (k - (at + 4))
      ∙ drop-drop (k - (at + 4)) (at + length q) l ∙ ap (λ (i : ℕ). drop i l) f)

apart : (n k : ℕ) → (n ≡ k) ⊎ ((k < n) ⊎ (n < k))
apart n k = ⊎_elim (λ a. ⊎_elim (λ b. inl (omega arith)) (λ b. inr (inl (omega arith))) (eq-zero-or-pos (n - k))) (λ a. inr (inr (omega arith))) (eq-zero-or-pos (k - n))

-- WORD n STORED IN THE FILE IS WORD n SET IN ITS STREAM.
module _ (file : List ℕ) (n w : ℕ) (inside : n < 127 * (length file / 512)) (word : w < 4294967296) where
  fits : word_place n + 4 ≤ length file
  fits = omega arith

  after : List ℕ
  after = overwrite file (word_place n) (bytes_of w)

  kept : length after ≡ length file
  unfolding after
  kept = overwrite_length file (word_place n) (bytes_of w) (omega (arith, fits, bytes_four w))

  at_each : (k : ℕ) → k < 127 * (length file / 512) → (n ≡ k) ⊎ ((k < n) ⊎ (n < k)) → word_at after (word_place k) ≡ get_or (set (stream_of file) n w) k 0
  unfolding after
  at_each k h (inl e) =
      let l : n < length (stream_of file) = omega (arith, stream_length file) in
      ap (λ (i : ℕ). word_at (overwrite file (word_place n) (bytes_of w)) (word_place i)) (sym e) ∙ ap word_of (stored file (word_place n) w fits) ∙ word_back w word
      ∙ sym (get_or-set_same (stream_of file) n w 0 l) ∙ ap (λ (i : ℕ). get_or (set (stream_of file) n w) i 0) e
  at_each k h (inr (inl b)) =
      ap word_of (before file (word_place n) w fits (word_place k) (omega arith)) ∙ sym (stream_at file k h)
      ∙ sym (get_or-set_other (stream_of file) n k w 0 (λ e. omega arith))
  at_each k h (inr (inr b)) =
      ap word_of (behind file (word_place n) w fits (word_place k) (omega arith)) ∙ sym (stream_at file k h)
      ∙ sym (get_or-set_other (stream_of file) n k w 0 (λ e. omega arith))

  pub put_set : stream_of (overwrite file (word_place n) (bytes_of w)) ≡ set (stream_of file) n w
  unfolding after
  put_set =
      let m : length (stream_of after) ≡ 127 * (length after / 512) = stream_length after in
      let b : length after / 512 ≡ length file / 512 = ap (λ (i : ℕ). i / 512) kept in
      let s : length (set (stream_of file) n w) ≡ length (stream_of file) = length-set (stream_of file) n w in
      ext_get_or 0 (stream_of after) (set (stream_of file) n w) (omega (arith, m, b, s, stream_length file))
      (λ k h. let i : k < 127 * (length file / 512) = omega (arith, m, b) in
      let j : k < 127 * (length after / 512) = omega (arith, m) in stream_at after k j ∙ at_each k i (apart n k))
