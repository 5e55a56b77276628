-- Writing a file: the blocks of a stream with their fill and their check words, as bytes.
use Rattle.std.specs.Prelude.{ℕ, zero, suc, ◌+◌, ◌*◌, ◌/◌, ◌%◌, ◌≤◌, ◌<◌, ◌≡◌, take, set, replicate}
use Rattle.std.proofs.Common.{add-one, sym, ◌∙◌, length-append, take_all}
use native.Mathlib.Omega.{arith}
use Rattle.std.proofs.Math.Path.{refl, ap}
use mathlib.Core.List.{List, [], ◌∷◌, ◌++◌, flat_map, append_assoc, append-nil}
use Rattle.std.proofs.Math.ListN.{length, get_or, drop}
use Rattle.std.proofs.Math.Seq.{get_or-drop, get_or-take, length-take-le, take-suc}
use Rattle.std.proofs.lemmas.List.Edits.{sets-eq}
use Rattle.definition.specs.Block.{block_count, blocks_of, bytes_of, check_word, file_of, low_bytes, blocks_with_checks}
use Rattle.layouts.specs.FileTrip.{block_number, block_sizes, blocks_chunks, bytes_length, fill_count, filled}
use Rattle.list_laws.specs.All.{at_place}
use Rattle.list_laws.specs.Chunks.{chunks_at}
use Rattle.list_laws.specs.Lists.{flat_map_append}
use Rattle.list_laws.specs.Overwriting.{overwrite, overwrite_join}

-- the bytes of block b of words x, its check word the last
unfoldable pub checked_block : ℕ → List ℕ → List ℕ
checked_block b x = flat_map bytes_of (x ++ (check_word b x ∷ []))

-- four stores one after the other leave the word's bytes in their places
pub word_stored : (l : List ℕ) (at v : ℕ) → at + 4 ≤ length l
    → set (set (set (set l at (v % 256)) (at + 1) (v / 256 % 256)) (at + 2) (v / 65536 % 256)) (at + 3) (v / 16777216 % 256) ≡ overwrite l at (bytes_of v)
unfolding bytes_of low_bytes overwrite
word_stored l at v h =
    let e1 : at + 1 ≡ suc at = omega arith in
    let e2 : at + 2 ≡ suc (suc at) = omega arith in
    let e3 : at + 3 ≡ suc (suc (suc at)) = omega arith in
    let f2 : v / 65536 ≡ v / 256 / 256 = omega arith in
    let f3 : v / 16777216 ≡ v / 256 / 256 / 256 = omega arith in
    rw (e1, e2, e3, f2, f3) (sets-eq (bytes_of v) l at h)

-- block b of a stream
unfoldable pub block_of : List ℕ → ℕ → List ℕ
block_of w b = get_or (blocks_of w) b []

-- fill reads as zeros, as what lies past the end does
zeros_at : (n i : ℕ) → ◌≡◌ {A = ℕ} (get_or (replicate n 0) i 0) 0
zeros_at zero i = refl
zeros_at (suc n) zero = refl
zeros_at (suc n) (suc i) = zeros_at n i

fill_at : (w : List ℕ) (k n : ℕ) → get_or (w ++ replicate k 0) n 0 ≡ get_or w n 0
fill_at [] k n = zeros_at k n ∙ sym (zeros_at 0 n)
fill_at (x ∷ w) k zero = refl
fill_at (x ∷ w) k (suc n) = fill_at w k n

bytes_one : (v : ℕ) → flat_map bytes_of (v ∷ []) ≡ bytes_of v
unfolding flat_map
bytes_one v = append-nil (bytes_of v)

module _ (w : List ℕ) where
  module _ (b : ℕ) (h : b < block_count (length w)) where
    block_is : block_of w b ≡ take 127 (drop (127 * b) (filled w))
    unfolding block_of
    block_is = ap (λ (xs : List (List ℕ)). get_or xs b []) (blocks_chunks w) ∙ chunks_at (block_count (length w)) 127 (filled w) b h

    pub block_of_length : length (block_of w b) ≡ 127
    unfolding block_of
    block_of_length = at_place (λ x. length x ≡ 127) (blocks_of w) [] (block_sizes w) b (omega (arith, block_number w))

    -- word i of the block is word 127·b + i of the stream, and zero past its end
    pub block_of_at : (i : ℕ) → i < 127 → get_or (block_of w b) i 0 ≡ get_or w (127 * b + i) 0
    unfolding filled
    block_of_at i l =
        ap (λ (x : List ℕ). get_or x i 0) block_is
        ∙ get_or-take 127 (drop (127 * b) (filled w)) i 0 l
        ∙ get_or-drop (127 * b) (filled w) i 0
        ∙ fill_at w (fill_count w) (127 * b + i)

-- the words of a block one after the other, as bytes from number `at` on: one more
pub bytes_next : (l : List ℕ) (at : ℕ) (x : List ℕ) (i : ℕ) {v : ℕ} {o p : List ℕ} → at ≤ length l → i < length x → v ≡ get_or x i 0
    → o ≡ overwrite l at (flat_map bytes_of (take i x)) → p ≡ overwrite o (at + 4 * i) (bytes_of v) → p ≡ overwrite l at (flat_map bytes_of (take (i + 1) x))
bytes_next l at x i {v} {o} {p} h b e s q =
    let n : length (flat_map bytes_of (take i x)) ≡ 4 * i = omega (arith, bytes_length (take i x), length-take-le i x (omega arith)) in
    let m : flat_map bytes_of (take (i + 1) x) ≡ flat_map bytes_of (take i x) ++ bytes_of (get_or x i 0) =
    rw (add-one, take-suc x i 0 b) (flat_map_append bytes_of (take i x) (get_or x i 0 ∷ []) ∙ ap (λ (y : List ℕ). flat_map bytes_of (take i x) ++ y) (bytes_one (get_or x i 0))) in
    let j = rw n at (overwrite_join l at (flat_map bytes_of (take i x)) h (bytes_of (get_or x i 0))) in
    q ∙ rw (s, e, m) j

-- and the check word after them
pub bytes_last : (l : List ℕ) (at b : ℕ) (x : List ℕ) {v : ℕ} {o p : List ℕ} → at ≤ length l → length x ≡ 127 → v ≡ check_word b x
    → o ≡ overwrite l at (flat_map bytes_of x) → p ≡ overwrite o (at + 508) (bytes_of v) → p ≡ overwrite l at (checked_block b x)
unfolding checked_block
bytes_last l at b x {v} {o} {p} h n e s q =
    let k : length (flat_map bytes_of x) ≡ 508 = omega (arith, bytes_length x, n) in
    let m : flat_map bytes_of (x ++ (check_word b x ∷ [])) ≡ flat_map bytes_of x ++ bytes_of (check_word b x) =
    flat_map_append bytes_of x (check_word b x ∷ []) ∙ ap (λ (y : List ℕ). flat_map bytes_of x ++ y) (bytes_one (check_word b x)) in
    let j = rw k at (overwrite_join l at (flat_map bytes_of x) h (bytes_of (check_word b x))) in
    q ∙ rw (s, e, m) j

pub checked_length : (b : ℕ) (x : List ℕ) → length x ≡ 127 → length (checked_block b x) ≡ 512
unfolding checked_block
checked_length b x n = bytes_length (x ++ (check_word b x ∷ [])) ∙ rw length-append (omega (arith, n))

checked_more : (b : ℕ) (xs : List (List ℕ)) (x : List ℕ) → blocks_with_checks b (xs ++ (x ∷ [])) ≡ blocks_with_checks b xs ++ checked_block (b + length xs) x
unfolding blocks_with_checks checked_block
checked_more b [] x = append-nil (checked_block b x) ∙ ap (λ (k : ℕ). checked_block k x) e
  where
    e : b ≡ b + 0
    e = omega arith
checked_more b (y ∷ xs) x =
    let e : suc b + length xs ≡ b + suc (length xs) = omega arith in
    ap (λ (t : List ℕ). checked_block b y ++ t) (checked_more (suc b) xs x ∙ ap (λ (k : ℕ). blocks_with_checks (suc b) xs ++ checked_block k x) e)
    ∙ sym (append_assoc (checked_block b y) (blocks_with_checks (suc b) xs) (checked_block (b + suc (length xs)) x))

-- the first k blocks, sealed
unfoldable pub checked_front : List ℕ → ℕ → List ℕ
checked_front w k = blocks_with_checks 0 (take k (blocks_of w))

module _ (w : List ℕ) where
  pub front_next : (k : ℕ) → k < block_count (length w) → checked_front w (k + 1) ≡ checked_front w k ++ checked_block k (block_of w k)
  unfolding checked_front block_of
  front_next k h =
      let n : k < length (blocks_of w) = omega (arith, block_number w) in
      let m : length (take k (blocks_of w)) ≡ k = length-take-le k (blocks_of w) (omega arith) in
      let e : 0 + length (take k (blocks_of w)) ≡ k = omega arith in
      rw (add-one, take-suc (blocks_of w) k [] n) (checked_more 0 (take k (blocks_of w)) (get_or (blocks_of w) k []) ∙ ap (λ (j : ℕ). blocks_with_checks 0 (take k (blocks_of w)) ++ checked_block j (get_or (blocks_of w) k [])) e)

  pub front_none : checked_front w 0 ≡ []
  unfolding checked_front blocks_with_checks
  front_none = refl

  pub front_length : (k : ℕ) → k ≤ block_count (length w) → length (checked_front w k) ≡ 512 * k
  front_length zero h = ap length front_none
  front_length (suc k) h =
      rw (← add-one k) (rw (front_next k (omega arith)) (length-append (checked_front w k) (checked_block k (block_of w k)) ∙ omega (arith, front_length k (omega arith), checked_length k (block_of w k) (block_of_length w k (omega arith)))))

  pub front_all : checked_front w (block_count (length w)) ≡ file_of w
  unfolding checked_front file_of
  front_all = ap (blocks_with_checks 0) (take_all (block_count (length w)) (blocks_of w) (omega (arith, block_number w)))

  -- the first k blocks written, and one more
  pub file_next : (l : List ℕ) (k : ℕ) {o p : List ℕ} → k < block_count (length w) → o ≡ overwrite l 0 (checked_front w k)
      → p ≡ overwrite o (512 * k) (checked_block k (block_of w k)) → p ≡ overwrite l 0 (checked_front w (k + 1))
  file_next l k {o} {p} h s q =
      let n : 0 + length (checked_front w k) ≡ 512 * k = omega (arith, front_length k (omega arith)) in
      let j = rw n at (overwrite_join l 0 (checked_front w k) (omega arith) (checked_block k (block_of w k))) in
      q ∙ rw (s, front_next k h) j

  pub file_whole : (l : List ℕ) → overwrite l 0 (file_of w) ≡ file_of w ++ drop (length (file_of w)) l
  unfolding overwrite
  file_whole l = let e : 0 + length (file_of w) ≡ length (file_of w) = omega arith in ap (λ (k : ℕ). file_of w ++ drop k l) e
