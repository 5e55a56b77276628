-- The words of a file and of the stream that it holds, by their numbers.
use Rattle.std.specs.Prelude.{ℕ, suc, ◌+◌, ◌-◌, ◌*◌, ◌/◌, ◌%◌, ◌≤◌, ◌<◌, ◌≡◌, get_or, take, drop}
use native.Mathlib.Omega.{arith}
use Rattle.std.proofs.Math.Path.{ap}
use Rattle.std.proofs.Common.{◌∙◌, drop-cons, get_or-drop}
use mathlib.Core.List.{List, [], ◌∷◌, ◌++◌, map}
use Rattle.std.proofs.Math.ListN.{length, length-map, get_or-map}
use Rattle.std.proofs.Math.Seq.{get_or-take, length-take-le}
use Rattle.definition.specs.Lists.{chunks}
use Rattle.definition.specs.Block.{file_blocks, stream_of, word_of}
use Rattle.list_laws.specs.All.{at_place}
use Rattle.list_laws.specs.Chunks.{Blocks, chunk_sizes, chunks_at, chunks_length, fronts_at, fronts_length, fronts_next}

-- the four bytes from number `at` on, as a word
abbrev pub word_at : List ℕ → ℕ → ℕ
word_at bytes at = word_of (take 4 (drop at bytes))

-- the words of block b, without its check word
unfoldable pub block_words : List ℕ → ℕ → List ℕ
block_words bytes b = take 127 (get_or (file_blocks bytes) b [])

-- the sum of the bytes, each times its weight
pub word_sum : (bytes : List ℕ) (at : ℕ) → at + 4 ≤ length bytes
    → get_or bytes at 0 + 256 * get_or bytes (at + 1) 0 + 65536 * get_or bytes (at + 2) 0 + 16777216 * get_or bytes (at + 3) 0 ≡ word_at bytes at
unfolding word_of
word_sum bytes at h =
    let e1 : at + 1 ≡ suc at = omega arith in
    let e2 : at + 2 ≡ suc (suc at) = omega arith in
    let e3 : at + 3 ≡ suc (suc (suc at)) = omega arith in
    let d0 : drop at bytes ≡ get_or bytes at 0 ∷ drop (suc at) bytes = drop-cons bytes at 0 (omega arith) in
    let d1 : drop (suc at) bytes ≡ get_or bytes (suc at) 0 ∷ drop (suc (suc at)) bytes = drop-cons bytes (suc at) 0 (omega arith) in
    let d2 : drop (suc (suc at)) bytes ≡ get_or bytes (suc (suc at)) 0 ∷ drop (suc (suc (suc at))) bytes = drop-cons bytes (suc (suc at)) 0 (omega arith) in
    let d3 : drop (suc (suc (suc at))) bytes ≡ get_or bytes (suc (suc (suc at))) 0 ∷ drop (suc (suc (suc (suc at)))) bytes =
    drop-cons bytes (suc (suc (suc at))) 0 (omega arith) in
    rw (e1, e2, e3, d0, d1, d2, d3) (omega arith)

module _ (bytes : List ℕ) where
  -- all words of a file, check words too
  unfoldable pub file_words : List ℕ
  file_words = map word_of (chunks (length bytes / 4) 4 bytes)

  pub words_length : length file_words ≡ length bytes / 4
  unfolding file_words
  words_length = length-map (chunks (length bytes / 4) 4 bytes) word_of ∙ chunks_length (length bytes / 4) 4 bytes

  words_at : (k : ℕ) → k < length bytes / 4 → get_or file_words k 0 ≡ word_at bytes (4 * k)
  unfolding file_words word_of
  words_at k h = get_or-map word_of (chunks (length bytes / 4) 4 bytes) k [] ∙ ap word_of (chunks_at (length bytes / 4) 4 bytes k h)

  pub blocks_count : length (file_blocks bytes) ≡ length bytes / 512
  unfolding file_blocks
  blocks_count = chunks_length (length bytes / 512) 128 _

  -- block b: its words are those of the file from number 128·b on
  pub block_is : (b : ℕ) → b < length bytes / 512 → get_or (file_blocks bytes) b [] ≡ take 128 (drop (128 * b) file_words)
  unfolding file_blocks file_words
  block_is b h = chunks_at (length bytes / 512) 128 _ b h

  pub blocks_full : Blocks (file_blocks bytes)
  unfolding file_blocks file_words
  blocks_full = chunk_sizes (length bytes / 512) 128 _ (omega (arith, words_length))

  -- word w of block b, its check word the last
  pub block_word_lem : (b w : ℕ) → b < length bytes / 512 → w < 128 → get_or (get_or (file_blocks bytes) b []) w 0 ≡ word_at bytes (512 * b + 4 * w)
  block_word_lem b w h l =
      let e : 4 * (128 * b + w) ≡ 512 * b + 4 * w = omega arith in
      ap (λ (x : List ℕ). get_or x w 0) (block_is b h)
      ∙ get_or-take 128 (drop (128 * b) file_words) w 0 l
      ∙ get_or-drop (128 * b) file_words w 0
      ∙ words_at (128 * b + w) (omega arith)
      ∙ ap (word_at bytes) e

  pub block_words_length : (b : ℕ) → b < length bytes / 512 → length (block_words bytes b) ≡ 127
  unfolding block_words
  block_words_length b h = length-take-le 127 (get_or (file_blocks bytes) b []) (omega (arith, at_place (λ x. length x ≡ 128) (file_blocks bytes) [] blocks_full b (omega (arith, blocks_count))))

  pub block_words_at : (b w : ℕ) → b < length bytes / 512 → w < 127 → get_or (block_words bytes b) w 0 ≡ word_at bytes (512 * b + 4 * w)
  unfolding block_words
  block_words_at b w h l = get_or-take 127 (get_or (file_blocks bytes) b []) w 0 l ∙ block_word_lem b w h (omega arith)

  -- the stream's length
  pub stream_length : length (stream_of bytes) ≡ 127 * (length bytes / 512)
  unfolding stream_of
  stream_length = fronts_length (file_blocks bytes) blocks_full ∙ omega (arith, blocks_count)

  -- the stream up to a block, and that block's words
  pub stream_next : (b : ℕ) → b < length bytes / 512
      → take (127 * b) (stream_of bytes) ++ block_words bytes b ≡ take (127 * (b + 1)) (stream_of bytes)
  unfolding stream_of block_words
  stream_next b h = fronts_next (file_blocks bytes) b blocks_full (omega (arith, blocks_count))

  -- word n of the stream
  pub stream_at : (n : ℕ) → n < 127 * (length bytes / 512) → get_or (stream_of bytes) n 0 ≡ word_at bytes (4 * (n + n / 127))
  unfolding stream_of
  stream_at n h =
      let e : 512 * (n / 127) + 4 * (n % 127) ≡ 4 * (n + n / 127) = omega arith in
      fronts_at (file_blocks bytes) n blocks_full (omega (arith, blocks_count))
      ∙ block_word_lem (n / 127) (n % 127) (omega arith) (omega arith)
      ∙ ap (word_at bytes) e
