-- The padded message by its bytes, and its blocks by their words.
use Prim.Native.Nat.{ℕ, zero, suc, ◌+◌, ◌-◌, ◌*◌, ◌/◌, ◌%◌, ◌^◌, ◌≤◌, ◌<◌}
use Rattle.std.proofs.Common.{div-one, sym, ◌∙◌, length-append, length-drop, drop-cons, get_or-drop, get_or-take, length-take-le}
use native.Mathlib.Omega.{arith}
use Rattle.std.specs.Prelude.{◌≡◌, length, take, drop, replicate}
use Rattle.std.proofs.Math.Path.{refl, ap}
use mathlib.Core.List.{List, [], ◌∷◌, ◌++◌, map}
use Rattle.std.proofs.Math.ListN.{get_or, length-map, get_or-append, get_or-map}
use Rattle.std.proofs.lemmas.List.{length-replicate, get_or-replicate}
use Rattle.std.proofs.Math.Seq.{get_or-append-add, get_or-append_seam}
use Rattle.definition.specs.Lists.{chunks}
use Rattle.hashing.specs.Sha256.{big_bytes, zeros_due, padded, big_word, blocks_of}
use Rattle.list_laws.specs.Chunks.{chunks_length, chunks_at}

-- the number of blocks of a message's padded form, and where its length stands there
unfoldable pub block_count : ℕ → ℕ
block_count n = (n + 8) / 64 + 1

unfoldable pub length_place : ℕ → ℕ
length_place n = 64 * ((n + 8) / 64) + 56

zeros_place : (n : ℕ) → n + 1 + zeros_due n ≡ length_place n
unfolding zeros_due length_place
zeros_place n = omega arith

pub padded_length : (m : List ℕ) → length (padded m) ≡ 64 * block_count (length m)
unfolding padded block_count big_bytes length_place
padded_length m =
    let e : length (padded m) ≡ length m + (1 + (zeros_due (length m) + 8)) =
    length-append m _ ∙ simp (length-append, length-replicate) (omega arith) in
    omega (arith, e, zeros_place (length m))

module _ (m : List ℕ) where
  -- in the message; at its end; up to the length; in the length
  pub padded_in : (i : ℕ) → i < length m → get_or (padded m) i 0 ≡ get_or m i 0
  unfolding padded
  padded_in i h = get_or-append m _ 0 i h

  pub padded_end : (i : ℕ) → i ≡ length m → get_or (padded m) i 0 ≡ 128
  unfolding padded
  padded_end i e = ap (λ (k : ℕ). get_or (padded m) k 0) e ∙ get_or-append_seam m 128 _ 0

  past : (k : ℕ) → get_or (padded m) (length m + suc k) 0 ≡ get_or (replicate (zeros_due (length m)) 0 ++ big_bytes 8 (8 * length m)) k 0
  unfolding padded
  past k = get_or-append-add m _ (suc k) 0

  pub padded_zero : (i : ℕ) → length m < i → i < length_place (length m) → get_or (padded m) i 0 ≡ 0
  padded_zero i h l =
      let k = i - (length m + 1) in
      let e : i ≡ length m + suc k = omega arith in
      let b : k < zeros_due (length m) = omega (arith, zeros_place (length m)) in
      ap (λ (j : ℕ). get_or (padded m) j 0) e ∙ past k
      ∙ get_or-append (replicate (zeros_due (length m)) 0) (big_bytes 8 (8 * length m)) 0 k (rw length-replicate b)
      ∙ get_or-replicate (zeros_due (length m)) k 0 0 b

  pub padded_size : (j : ℕ) → get_or (padded m) (length_place (length m) + j) 0 ≡ get_or (big_bytes 8 (8 * length m)) j 0
  padded_size j =
      let z : List ℕ = replicate (zeros_due (length m)) 0 in
      let n : length z ≡ zeros_due (length m) = length-replicate (zeros_due (length m)) 0 in
      let e : length_place (length m) + j ≡ length m + suc (length z + j) = omega (arith, zeros_place (length m)) in
      ap (λ (k : ℕ). get_or (padded m) k 0) e ∙ past (length z + j) ∙ get_or-append-add z (big_bytes 8 (8 * length m)) j 0

-- the sum of the bytes, each times its weight
pub word_sum : (bytes : List ℕ) (at : ℕ) → at + 4 ≤ length bytes
    → 16777216 * get_or bytes at 0 + 65536 * get_or bytes (at + 1) 0 + 256 * get_or bytes (at + 2) 0 + get_or bytes (at + 3) 0 ≡ big_word 0 (take 4 (drop at bytes))
unfolding big_word
word_sum bytes at h =
    let e1 : at + 1 ≡ suc at = omega arith in
    let e2 : at + 2 ≡ suc (suc at) = omega arith in
    let e3 : at + 3 ≡ suc (suc (suc at)) = omega arith in
    let d0 : drop at bytes ≡ get_or bytes at 0 ∷ drop (suc at) bytes = drop-cons bytes at 0 (omega arith) in
    let d1 : drop (suc at) bytes ≡ get_or bytes (suc at) 0 ∷ drop (suc (suc at)) bytes = drop-cons bytes (suc at) 0 (omega arith) in
    let d2 : drop (suc (suc at)) bytes ≡ get_or bytes (suc (suc at)) 0 ∷ drop (suc (suc (suc at))) bytes = drop-cons bytes (suc (suc at)) 0 (omega arith) in
    let d3 : drop (suc (suc (suc at))) bytes ≡ get_or bytes (suc (suc (suc at))) 0 ∷ drop (suc (suc (suc (suc at)))) bytes =
    drop-cons bytes (suc (suc (suc at))) 0 (omega arith) in
    rw (e1, e2, e3, d0, d1, d2, d3) (omega arith)

-- the word of the padded message from byte `at` on, by its bytes
pub word_of : (m : List ℕ) (at : ℕ) {r a b c d : ℕ} → at + 4 ≤ 64 * block_count (length m)
    → a ≡ get_or (padded m) at 0 → b ≡ get_or (padded m) (at + 1) 0 → c ≡ get_or (padded m) (at + 2) 0 → d ≡ get_or (padded m) (at + 3) 0
    → r ≡ 16777216 * a + 65536 * b + 256 * c + d → r ≡ big_word 0 (take 4 (drop at (padded m)))
word_of m at h ea eb ec ed e = omega (arith, ea, eb, ec, ed, e, word_sum (padded m) at (omega (arith, padded_length m)))

-- the blocks
module _ (p : List ℕ) where
  words : List ℕ
  words = map (big_word 0) (chunks (length p / 4) 4 p)

  words_length : length words ≡ length p / 4
  unfolding words
  words_length = length-map (chunks (length p / 4) 4 p) (big_word 0) ∙ chunks_length (length p / 4) 4 p

  words_at : (k : ℕ) → k < length p / 4 → get_or words k 0 ≡ big_word 0 (take 4 (drop (4 * k) p))
  unfolding words big_word
  words_at k h = get_or-map (big_word 0) (chunks (length p / 4) 4 p) k [] ∙ ap (big_word 0) (chunks_at (length p / 4) 4 p k h)

  pub blocks_length : length (blocks_of p) ≡ length p / 64
  unfolding blocks_of
  blocks_length = chunks_length (length p / 64) 16 _

  block_is : (b : ℕ) → b < length p / 64 → get_or (blocks_of p) b [] ≡ take 16 (drop (16 * b) words)
  unfolding blocks_of words
  block_is b h = chunks_at (length p / 64) 16 _ b h

  pub block_length : (b : ℕ) → b < length p / 64 → length (get_or (blocks_of p) b []) ≡ 16
  block_length b h =
      let e : length (drop (16 * b) words) ≡ length words - 16 * b = length-drop (16 * b) words in
      ap length (block_is b h) ∙ length-take-le 16 (drop (16 * b) words) (omega (arith, e, words_length))

  pub block_at : (b t : ℕ) → b < length p / 64 → t < 16 → get_or (get_or (blocks_of p) b []) t 0 ≡ big_word 0 (take 4 (drop (64 * b + 4 * t) p))
  block_at b t h l =
      let e : 4 * (16 * b + t) ≡ 64 * b + 4 * t = omega arith in
      ap (λ (x : List ℕ). get_or x t 0) (block_is b h)
      ∙ get_or-take 16 (drop (16 * b) words) t 0 l
      ∙ get_or-drop (16 * b) words t 0
      ∙ words_at (16 * b + t) (omega arith)
      ∙ ap (λ (k : ℕ). big_word 0 (take 4 (drop k p))) e

-- the two words of the length in bits, without the product
joined_bytes : (x a b c q : ℕ) → a < 256 → b < 256 → c < 256 → x < 256 → (x + 256 * (a + 256 * (b + 256 * (c + 256 * q)))) % 4294967296 ≡ 16777216 * c + 65536 * b + 256 * a + x
joined_bytes x a b c q h₁ h₂ h₃ h₄ = omega arith

four_bytes : (x : ℕ) → 16777216 * (x / 16777216 % 256) + 65536 * (x / 65536 % 256) + 256 * (x / 256 % 256) + x % 256 ≡ x % 4294967296
four_bytes x =
    let b = x / 256 in
    let c = x / 65536 in
    let d = x / 16777216 in
    let p : x ≡ x % 256 + 256 * b = omega arith in
    let q : b ≡ b % 256 + 256 * c = omega arith in
    let r : c ≡ c % 256 + 256 * d = omega arith in
    let s : d ≡ d % 256 + 256 * (d / 256) = omega arith in
    let u : x ≡ x % 256 + 256 * (b % 256 + 256 * (c % 256 + 256 * (d % 256 + 256 * (d / 256)))) = omega (arith, p, q, r, s) in
    let t : (x % 256 + 256 * (b % 256 + 256 * (c % 256 + 256 * (d % 256 + 256 * (d / 256))))) % 4294967296 ≡ 16777216 * (d % 256) + 65536 * (c % 256) + 256 * (b % 256) + x % 256 =
    joined_bytes (x % 256) (b % 256) (c % 256) (d % 256) (d / 256) (omega arith) (omega arith) (omega arith) (omega arith) in
    sym (ap (λ (k : ℕ). k % 4294967296) u ∙ t)

-- the bytes of a number, above and below its low 32 bits
module _ (x : ℕ) where
  high_byte : (j : ℕ) → j < 4 → get_or (big_bytes 8 x) j 0 ≡ x / 4294967296 / 256 ^ (3 - j) % 256
  unfolding big_bytes
  high_byte zero h = omega arith
  high_byte (suc zero) h = omega arith
  high_byte (suc (suc zero)) h = omega arith
  high_byte (suc (suc (suc zero))) h = omega arith
  high_byte (suc (suc (suc (suc j)))) h = absurd (omega arith)

  low_byte : (j : ℕ) → j < 4 → get_or (big_bytes 8 x) (4 + j) 0 ≡ x / 256 ^ (3 - j) % 256
  unfolding big_bytes
  low_byte zero h = refl
  low_byte (suc zero) h = refl
  low_byte (suc (suc zero)) h = refl
  low_byte (suc (suc (suc zero))) h = refl
  low_byte (suc (suc (suc (suc j)))) h = absurd (omega arith)

module _ (m : List ℕ) (at : ℕ) where
  size_place : length_place (length m) + 8 ≡ 64 * block_count (length m)
  unfolding length_place block_count
  size_place = omega arith

  -- byte j of the length, of which the first stands at place `at`
  size_byte : (j k : ℕ) → length_place (length m) + k ≡ at + j → get_or (padded m) (at + j) 0 ≡ get_or (big_bytes 8 (8 * length m)) k 0
  size_byte j k e = ap (λ (i : ℕ). get_or (padded m) i 0) (sym e) ∙ padded_size m k

  pub high_word : at ≡ length_place (length m) → {r : ℕ} → r ≡ length m / 536870912 % 4294967296 → r ≡ big_word 0 (take 4 (drop at (padded m)))
  high_word p e =
      let x = 8 * length m in
      let y = x / 4294967296 in
      let z : y ≡ length m / 536870912 = omega arith in
      let o : at + 0 ≡ at = omega arith in
      word_of m at {a = y / 16777216 % 256} {b = y / 65536 % 256} {c = y / 256 % 256} {d = y % 256} (omega (arith, size_place))
      (sym (ap (λ (i : ℕ). get_or (padded m) i 0) (sym o) ∙ size_byte 0 0 (omega arith) ∙ high_byte x 0 (omega arith)))
      (sym (size_byte 1 1 (omega arith) ∙ high_byte x 1 (omega arith)))
      (sym (size_byte 2 2 (omega arith) ∙ high_byte x 2 (omega arith)))
      (sym (size_byte 3 3 (omega arith) ∙ high_byte x 3 (omega arith) ∙ ap (λ (i : ℕ). i % 256) (div-one y)))
      (e ∙ ap (λ (i : ℕ). i % 4294967296) (sym z) ∙ sym (four_bytes y))

  pub low_word : at ≡ length_place (length m) + 4 → {r : ℕ} → r ≡ length m % 536870912 * 8 → r ≡ big_word 0 (take 4 (drop at (padded m)))
  low_word p e =
      let x = 8 * length m in
      let z : x % 4294967296 ≡ length m % 536870912 * 8 = omega arith in
      let o : at + 0 ≡ at = omega arith in
      word_of m at {a = x / 16777216 % 256} {b = x / 65536 % 256} {c = x / 256 % 256} {d = x % 256} (omega (arith, size_place))
      (sym (ap (λ (i : ℕ). get_or (padded m) i 0) (sym o) ∙ size_byte 0 4 (omega arith) ∙ low_byte x 0 (omega arith)))
      (sym (size_byte 1 5 (omega arith) ∙ low_byte x 1 (omega arith)))
      (sym (size_byte 2 6 (omega arith) ∙ low_byte x 2 (omega arith)))
      (sym (size_byte 3 7 (omega arith) ∙ low_byte x 3 (omega arith) ∙ ap (λ (i : ℕ). i % 256) (div-one x)))
      (e ∙ sym z ∙ sym (four_bytes x))

-- the blocks of the padded message
module _ (m : List ℕ) where
  blocks_due : length (padded m) / 64 ≡ block_count (length m)
  blocks_due = omega (arith, padded_length m)

  pub message_blocks : length (blocks_of (padded m)) ≡ block_count (length m)
  message_blocks = blocks_length (padded m) ∙ blocks_due

  pub message_block_length : (b : ℕ) → b < block_count (length m) → length (get_or (blocks_of (padded m)) b []) ≡ 16
  message_block_length b h = block_length (padded m) b (omega (arith, blocks_due))

  pub message_word : (b t : ℕ) {v : ℕ} → b < block_count (length m) → t < 16 → v ≡ big_word 0 (take 4 (drop (64 * b + 4 * t) (padded m)))
      → v ≡ get_or (get_or (blocks_of (padded m)) b []) t 0
  message_word b t h l e = e ∙ sym (block_at (padded m) b t (omega (arith, blocks_due)) l)
