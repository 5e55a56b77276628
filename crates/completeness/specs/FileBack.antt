-- A file whose checks are right is the file of its own words: sealing the words that it holds, without their fill, gives its bytes back.
use Rattle.std.specs.Prelude.{ℕ, zero, suc, ◌+◌, ◌*◌, ◌/◌, ◌%◌, ◌<◌, Bool, false, ◌≡◌, refl, get_or, take}
use Rattle.std.proofs.Common.{arith, ◌∙◌, take-append-drop, drop_of_length-le, drop-cons, eqb-true}
use mathlib.Core.List.{List, [], ◌∷◌, ◌++◌, map, flat_map}
use Rattle.std.proofs.Math.Path.{sym, ap}
use Rattle.std.proofs.Math.ListN.{length, length-map}
use Rattle.std.proofs.Math.Seq.{length-take-le}
use Rattle.std.proofs.lemmas.Bool.{not-false}
use Rattle.definition.specs.Block.{block_count, blocks_of, bytes_of, check_word, file_blocks, file_of, low_bytes, stream_of, word_of, wrong_checks}
use Rattle.definition.specs.Lists.{chunks}
use Rattle.list_laws.specs.All.{All, all_map, all_of_map}
use Rattle.list_laws.specs.Chunks.{chunks_joined, chunks_length, chunks_of}
use Rattle.list_laws.specs.Lists.{flat_map_map}
use Rattle.layouts.specs.BlockTrip.{checked_words}
use Rattle.layouts.specs.FileTrip.{fill_count, filled, checked_bytes}
use Rattle.layouts.specs.FileWords.{blocks_full, file_words, words_length}

-- a word's lowest byte, and the rest
low : (a x : ℕ) → a < 256 → ((a + 256 * x) % 256 ≡ a) × ((a + 256 * x) / 256 ≡ x)
low a x h = (omega arith, omega arith)

-- the bytes of the words of bytes
bytes_of_words : (n : ℕ) (bytes : List ℕ) → length bytes ≡ 4 * n → All (λ x. x < 256) bytes → flat_map bytes_of (map word_of (chunks n 4 bytes)) ≡ bytes
unfolding chunks flat_map bytes_of low_bytes word_of
bytes_of_words zero [] e h = refl
bytes_of_words zero (x ∷ bytes) e h = absurd (omega arith)
bytes_of_words (suc n) [] e h = absurd (omega arith)
bytes_of_words (suc n) (a ∷ []) e h = absurd (omega arith)
bytes_of_words (suc n) (a ∷ b ∷ []) e h = absurd (omega arith)
bytes_of_words (suc n) (a ∷ b ∷ c ∷ []) e h = absurd (omega arith)
bytes_of_words (suc n) (a ∷ b ∷ c ∷ d ∷ bytes) e h =
    let w₃ = d + 256 * 0 in
    let w₂ = c + 256 * w₃ in
    let w₁ = b + 256 * w₂ in
    let q₀ = low a w₁ h.0 in
    let q₁ = low b w₂ h.1.0 in
    let q₂ = low c w₃ h.1.1.0 in
    let q₃ = low d 0 h.1.1.1.0 in
    let d₁ : (a + 256 * w₁) / 256 ≡ w₁ = q₀.1 in
    let d₂ : (a + 256 * w₁) / 256 / 256 ≡ w₂ = ap (λ (x : ℕ). x / 256) d₁ ∙ q₁.1 in
    let d₃ : (a + 256 * w₁) / 256 / 256 / 256 ≡ w₃ = ap (λ (x : ℕ). x / 256) d₂ ∙ q₂.1 in
    let e₀ : (a + 256 * w₁) % 256 ≡ a = q₀.0 in
    let e₁ : (a + 256 * w₁) / 256 % 256 ≡ b = ap (λ (x : ℕ). x % 256) d₁ ∙ q₁.0 in
    let e₂ : (a + 256 * w₁) / 256 / 256 % 256 ≡ c = ap (λ (x : ℕ). x % 256) d₂ ∙ q₂.0 in
    let e₃ : (a + 256 * w₁) / 256 / 256 / 256 % 256 ≡ d = ap (λ (x : ℕ). x % 256) d₃ ∙ q₃.0 in
    λ i. e₀ i ∷ e₁ i ∷ e₂ i ∷ e₃ i ∷ bytes_of_words n bytes (omega arith) h.1.1.1.1 i

-- a block of 128 words is 127 and one more
block_ends : (x : List ℕ) → length x ≡ 128 → take 127 x ++ (get_or x 127 0 ∷ []) ≡ x
block_ends x e =
    ap (λ (t : List ℕ). take 127 x ++ t) (sym (drop-cons x 127 0 (omega arith) ∙ ap (λ (t : List ℕ). get_or x 127 0 ∷ t) (drop_of_length-le x {i = 128} (omega arith)))) ∙ take-append-drop 127 x

-- blocks whose checks are right are those that sealing makes
checked_back : (b : ℕ) (xs : List (List ℕ)) → All (λ x. length x ≡ 128) xs → All (λ (e : Bool). e ≡ false) (wrong_checks b xs) → checked_words b (map (take 127) xs) ≡ xs
unfolding checked_words wrong_checks
checked_back b [] h r = refl
checked_back b (x ∷ xs) h r =
    let c : get_or x 127 0 ≡ check_word b (take 127 x) = eqb-true _ _ (not-false _ r.0) in
    λ i. (ap (λ (y : ℕ). take 127 x ++ (y ∷ [])) (sym c) ∙ block_ends x h.0) i ∷ checked_back (suc b) xs h.1 r.1 i

module _ (bytes : List ℕ) (n : ℕ) (size : length bytes ≡ 512 * n) (small : All (λ x. x < 256) bytes) (right : All (λ (e : Bool). e ≡ false) (wrong_checks 0 (file_blocks bytes))) where
  words : List ℕ
  words = file_words bytes

  words_count : length words ≡ n * 128
  unfolding words
  words_count = words_length bytes ∙ omega (arith, size)

  bytes_back : flat_map bytes_of words ≡ bytes
  unfolding words file_words
  bytes_back = bytes_of_words (length bytes / 4) bytes (omega (arith, size)) small

  blocks_are : file_blocks bytes ≡ chunks n 128 words
  unfolding file_blocks words file_words
  blocks_are = let e : length bytes / 512 ≡ n = omega (arith, size) in ap (λ (m : ℕ). chunks m 128 words) e

  -- where the stream is some words and their fill, the file is theirs
  pub file_back : (u : List ℕ) → stream_of bytes ≡ filled u → block_count (length u) ≡ n → file_of u ≡ bytes
  unfolding file_of blocks_of stream_of filled fill_count
  file_back u e count =
      let blocks = file_blocks bytes in
      let parts = map (take 127) blocks in
      let joined : flat_map (λ x. x) parts ≡ filled u = flat_map_map (λ (x : List ℕ). x) (take 127) blocks ∙ e in
      let number : length parts ≡ block_count (length u) = length-map blocks (take 127) ∙ ap length blocks_are ∙ chunks_length n 128 words ∙ sym count in
      let chunked : blocks_of u ≡ parts = (λ i. chunks (sym number i) 127 (sym joined i)) ∙ chunks_of 127 parts (all_of_map _ (take 127) blocks (all_map blocks (blocks_full bytes) (λ x e. length-take-le 127 x (omega (arith, e))))) in
      checked_bytes 0 (blocks_of u) ∙ ap (λ (x : List (List ℕ)). flat_map bytes_of (flat_map (λ y. y) (checked_words 0 x))) chunked
      ∙ ap (λ (x : List (List ℕ)). flat_map bytes_of (flat_map (λ y. y) x)) (checked_back 0 blocks (blocks_full bytes) right ∙ blocks_are)
      ∙ ap (flat_map bytes_of) (chunks_joined n 128 words words_count) ∙ bytes_back
