-- Reading back the file of a word stream: its length, its checks, and the stream with its fill (01, The word stream and its blocks).
use Rattle.std.specs.Prelude.{ℕ, suc, ◌+◌, ◌-◌, ◌*◌, ◌/◌, ◌%◌, ◌<◌, Bool, false, ◌≡◌, take, replicate}
use Rattle.std.proofs.Common.{le_of_eq, mod-lt, arith, sym, ◌∙◌, lit<, length-append, take_at}
use mathlib.Core.List.{List, [], ◌∷◌, ◌++◌, map, flat_map}
use Rattle.std.proofs.Math.Path.{refl, ap}
use Rattle.std.proofs.Math.ListN.{length}
use Rattle.std.proofs.lemmas.List.{length-replicate}
use Rattle.definition.specs.Block.{block_count, blocks_of, bytes_of, check_word, file_blocks, file_of, low_bytes, blocks_with_checks, stream_of, weighted_sum, word_of, wrong_checks}
use Rattle.definition.specs.Lists.{chunks}
use Rattle.list_laws.specs.All.{All, all_append, all_replicate, everywhere}
use Rattle.list_laws.specs.Chunks.{all_chunks, chunk_sizes, chunks_joined, chunks_length, chunks_of}
use Rattle.list_laws.specs.Lists.{flat_map_append, flat_map_length}
use Rattle.layouts.specs.BlockTrip.{right_checks, checked_words, words_of_bytes}

-- a stream with its fill, and the fill's length
unfoldable pub fill_count : List ℕ → ℕ
fill_count w = 127 * block_count (length w) - length w

unfoldable pub filled : List ℕ → List ℕ
filled w = w ++ replicate (fill_count w) 0

pub filled_length : (w : List ℕ) → length (filled w) ≡ block_count (length w) * 127
unfolding filled fill_count block_count
filled_length w = length-append w _ ∙ rw length-replicate (omega arith)

-- a word has 32 bits
abbrev pub Word : ℕ → Type 0
Word w = w < 4294967296

check_small : (b : ℕ) (x : List ℕ) → Word (check_word b x)
unfolding check_word
check_small b x = let h : (weighted_sum 0 x + suc b) % 4294967291 < 4294967291 = mod-lt (weighted_sum 0 x + suc b) (lit< tt) in omega arith

checked_words_lem : (b : ℕ) (xs : List (List ℕ)) → All (All Word) xs → All Word (flat_map (λ x. x) (checked_words b xs))
unfolding flat_map checked_words
checked_words_lem b [] h = tt
checked_words_lem b (x ∷ xs) h =
    all_append Word (x ++ (check_word b x ∷ [])) _ (all_append Word x (check_word b x ∷ []) h.0 (check_small b x, tt)) (checked_words_lem (suc b) xs h.1)

checked_sizes : (b : ℕ) (xs : List (List ℕ)) → All (λ x. length x ≡ 127) xs → All (λ x. length x ≡ 128) (checked_words b xs)
unfolding checked_words
checked_sizes b [] h = tt
checked_sizes b (x ∷ xs) h = (length-append x (check_word b x ∷ []) ∙ omega (arith, h.0), checked_sizes (suc b) xs h.1)

checked_length : (b : ℕ) (xs : List (List ℕ)) → length (checked_words b xs) ≡ length xs
unfolding checked_words
checked_length b [] = refl
checked_length b (x ∷ xs) = ap suc (checked_length (suc b) xs)

-- the words of sealed blocks without their checks
unchecked_words : (b : ℕ) (xs : List (List ℕ)) → All (λ x. length x ≡ 127) xs → flat_map (take 127) (checked_words b xs) ≡ flat_map (λ x. x) xs
unfolding flat_map checked_words
unchecked_words b [] h = refl
unchecked_words b (x ∷ xs) h = λ i. take_at x (check_word b x ∷ []) 127 h.0 i ++ unchecked_words (suc b) xs h.1 i

-- the file's bytes are those of its words
pub checked_bytes : (b : ℕ) (xs : List (List ℕ)) → blocks_with_checks b xs ≡ flat_map bytes_of (flat_map (λ x. x) (checked_words b xs))
unfolding blocks_with_checks flat_map checked_words
checked_bytes b [] = refl
checked_bytes b (x ∷ xs) =
    ap (λ (t : List ℕ). flat_map bytes_of (x ++ (check_word b x ∷ [])) ++ t) (checked_bytes (suc b) xs)
    ∙ sym (flat_map_append bytes_of (x ++ (check_word b x ∷ [])) (flat_map (λ y. y) (checked_words (suc b) xs)))

pub bytes_length : (ws : List ℕ) → length (flat_map bytes_of ws) ≡ length ws * 4
unfolding bytes_of low_bytes
bytes_length ws = flat_map_length bytes_of 4 ws (everywhere ws (λ w. refl))

bytes_small : (ws : List ℕ) → All (λ x. x < 256) (flat_map bytes_of ws)
unfolding flat_map bytes_of low_bytes
bytes_small [] = tt
bytes_small (w ∷ ws) = (mod-lt _ (lit< tt), (mod-lt _ (lit< tt), (mod-lt _ (lit< tt), (mod-lt _ (lit< tt), bytes_small ws))))

module _ (w : List ℕ) where
  pub blocks_chunks : blocks_of w ≡ chunks (block_count (length w)) 127 (filled w)
  unfolding blocks_of filled fill_count
  blocks_chunks = refl

  pub block_sizes : All (λ x. length x ≡ 127) (blocks_of w)
  block_sizes = rw blocks_chunks (chunk_sizes (block_count (length w)) 127 (filled w) (le_of_eq (sym (filled_length w))))

  pub block_number : length (blocks_of w) ≡ block_count (length w)
  block_number = ap length blocks_chunks ∙ chunks_length (block_count (length w)) 127 (filled w)

  -- all 128 words of all blocks
  all_words : List ℕ
  all_words = flat_map (λ x. x) (checked_words 0 (blocks_of w))

  all_words_length : length all_words ≡ block_count (length w) * 128
  unfolding all_words
  all_words_length =
      flat_map_length (λ x. x) 128 (checked_words 0 (blocks_of w)) (checked_sizes 0 (blocks_of w) block_sizes)
      ∙ ap (λ (n : ℕ). n * 128) (checked_length 0 (blocks_of w) ∙ block_number)

  file_bytes : file_of w ≡ flat_map bytes_of all_words
  unfolding file_of all_words
  file_bytes = checked_bytes 0 (blocks_of w)

  -- the file's length
  pub file_length : length (file_of w) ≡ 512 * block_count (length w)
  file_length = ap length file_bytes ∙ bytes_length all_words ∙ omega (arith, all_words_length)

  filled_words : All Word w → All Word (filled w)
  unfolding filled
  filled_words h = all_append Word w _ h (all_replicate Word (fill_count w) 0 (lit< tt))

  -- reading the file gives its blocks
  file_blocks_lem : All Word w → file_blocks (file_of w) ≡ checked_words 0 (blocks_of w)
  unfolding file_blocks all_words
  file_blocks_lem h =
      (λ i. chunks (blocks i) 128 (map word_of (chunks (words i) 4 (file_bytes i))))
      ∙ ap (chunks (block_count (length w)) 128) (words_of_bytes all_words small)
      ∙ ap (λ (n : ℕ). chunks n 128 (flat_map (λ x. x) (checked_words 0 (blocks_of w)))) (sym (checked_length 0 (blocks_of w) ∙ block_number))
      ∙ chunks_of 128 (checked_words 0 (blocks_of w)) (checked_sizes 0 (blocks_of w) block_sizes)
    where
      blocks : length (file_of w) / 512 ≡ block_count (length w)
      blocks = omega (arith, file_length)

      words : length (file_of w) / 4 ≡ length all_words
      words = omega (arith, file_length, all_words_length)

      small : All Word (flat_map (λ x. x) (checked_words 0 (blocks_of w)))
      small = checked_words_lem 0 (blocks_of w) (rw blocks_chunks (all_chunks Word (block_count (length w)) 127 (filled w) (filled_words h)))

  -- the stream that the file holds: the words, and their fill
  pub file_stream : All Word w → stream_of (file_of w) ≡ filled w
  unfolding stream_of
  file_stream h =
      ap (flat_map (take 127)) (file_blocks_lem h) ∙ unchecked_words 0 (blocks_of w) block_sizes
      ∙ ap (flat_map (λ x. x)) blocks_chunks ∙ chunks_joined (block_count (length w)) 127 (filled w) (filled_length w)

  -- no check of the file is wrong
  pub file_checks : All Word w → All (λ (e : Bool). e ≡ false) (wrong_checks 0 (file_blocks (file_of w)))
  file_checks h = rw (file_blocks_lem h) (right_checks 0 (blocks_of w) block_sizes)

  -- the file is a list of bytes
  pub file_of_bytes : All (λ x. x < 256) (file_of w)
  file_of_bytes = rw file_bytes (bytes_small all_words)
