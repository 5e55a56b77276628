-- WHAT THE BUILDER WRITES FOR A PLACE LEADS TO THE ROOT THAT IT WRITES FOR THE TABLE.
use Prim.Native.Nat.{ℕ, zero, suc, ◌+◌, ◌-◌, ◌*◌, ◌/◌, ◌%◌, ◌^◌, ◌≤◌, ◌<◌}
use Rattle.std.proofs.Math.Nat.{mul-le-mul_left}
use Rattle.std.proofs.Common.{mul-suc, pow-suc, ◌∙◌, subst, ⊎_elim, length-drop, length-take-le}
use native.Mathlib.Omega.{arith}
use Rattle.std.specs.Prelude.{◌≡◌, refl, get_or, take}
use Rattle.std.proofs.Math.Path.{sym, ap}
use mathlib.Core.List.{List, [], ◌∷◌, ◌++◌, map, flat_map, append_assoc}
use Rattle.std.proofs.Math.ListN.{length, drop, replicate, length-append, length-map}
use Rattle.std.proofs.lemmas.List.{length-replicate}
use Rattle.std.proofs.Math.Seq.{take_at, drop_at}
use Rattle.definition.specs.Lists.{chunks}
use Rattle.definition.specs.Sheet.{Sheet, Level}
use Rattle.definition.specs.Block.{bytes_of, low_bytes, word_of}
use Rattle.hashing.specs.Sha256.{State, big_bytes, digest_of, hash_blocks, blocks_of, padded, initial, sha256}
use Rattle.hashing.specs.Tree.{leaf_of, node_of, root_of, path_of, climb}
use Rattle.hash_laws.specs.TreeLaws.{lt_or_le, left_path, right_path, path_length, path_leads}
use Rattle.list_laws.specs.Chunks.{chunks_at, chunks_length}
use Rattle.list_laws.specs.Lists.{get_d_map, part_length_lem}
use Rattle.openings.specs.Openings.{entry_words, hash_words, height_of, place_in, entry_in, nodes_in, bytes_in, words_in, reached_root, leaves_of, table_root, opening_of, opening_length}

-- A hash: its eight words give its bytes back.
pub record Hash (x : List ℕ) : Type 0 where
  pub trip : bytes_in (words_in x) ≡ x
  pub words : length (words_in x) ≡ 8

-- four bytes, through a word
low : (a r : ℕ) → a < 256 → (a + 256 * r) % 256 ≡ a
low a r h = omega arith

high : (a r : ℕ) → a < 256 → (a + 256 * r) / 256 ≡ r
high a r h = omega arith

four : (a b c d : ℕ) → a < 256 → b < 256 → c < 256 → d < 256 → bytes_of (word_of (a ∷ b ∷ c ∷ d ∷ [])) ≡ a ∷ b ∷ c ∷ d ∷ []
unfolding bytes_of low_bytes word_of
four a b c d ha hb hc hd =
    let w₃ = d + 256 * 0 in
    let w₂ = c + 256 * w₃ in
    let w₁ = b + 256 * w₂ in
    let h₁ : (a + 256 * w₁) / 256 ≡ w₁ = high a w₁ ha in
    let h₂ : (a + 256 * w₁) / 256 / 256 ≡ w₂ = ap (λ (n : ℕ). n / 256) h₁ ∙ high b w₂ hb in
    let h₃ : (a + 256 * w₁) / 256 / 256 / 256 ≡ w₃ = ap (λ (n : ℕ). n / 256) h₂ ∙ high c w₃ hc in
    let e₁ : (a + 256 * w₁) / 256 % 256 ≡ b = ap (λ (n : ℕ). n % 256) h₁ ∙ low b w₂ hb in
    let e₂ : (a + 256 * w₁) / 256 / 256 % 256 ≡ c = ap (λ (n : ℕ). n % 256) h₂ ∙ low c w₃ hc in
    let e₃ : (a + 256 * w₁) / 256 / 256 / 256 % 256 ≡ d = ap (λ (n : ℕ). n % 256) h₃ ∙ low d 0 hd in
    λ i. low a w₁ ha i ∷ e₁ i ∷ e₂ i ∷ e₃ i ∷ []

quad : (w : ℕ) → bytes_of (word_of (big_bytes 4 w)) ≡ big_bytes 4 w
unfolding big_bytes
quad w = four (w / 16777216 % 256) (w / 65536 % 256) (w / 256 % 256) (w / 1 % 256) (omega arith) (omega arith) (omega arith) (omega arith)

digest_trip : (s : State) → bytes_in (words_in (digest_of s)) ≡ digest_of s
unfolding bytes_in words_in digest_of big_bytes flat_map chunks bytes_of low_bytes word_of
digest_trip s =
    λ i. quad s.a i ++ (quad s.b i ++ (quad s.c i ++ (quad s.d i ++ (quad s.e i ++ (quad s.f i ++ (quad s.g i ++ (quad s.h i ++ [])))))))

pub eight : (x : List ℕ) → length (words_in x) ≡ 8
unfolding words_in chunks
eight x = refl

pub sha_hash : (m : List ℕ) → Hash (sha256 m)
unfolding sha256
sha_hash m = record { trip = digest_trip (hash_blocks initial (blocks_of (padded m))); words = eight (sha256 m) }

-- lists of hashes
abbrev pub Hashes : List (List ℕ) → Type 0
Hashes [] = Unit
Hashes (x ∷ xs) = Hash x × Hashes xs

hashes_take : (n : ℕ) (xs : List (List ℕ)) → Hashes xs → Hashes (take n xs)
hashes_take zero xs h = tt
hashes_take (suc n) [] h = tt
hashes_take (suc n) (x ∷ xs) h = (h.0, hashes_take n xs h.1)

hashes_drop : (n : ℕ) (xs : List (List ℕ)) → Hashes xs → Hashes (drop n xs)
hashes_drop zero xs h = h
hashes_drop (suc n) [] h = tt
hashes_drop (suc n) (x ∷ xs) h = hashes_drop n xs h.1

hashes_end : (xs : List (List ℕ)) (y : List ℕ) → Hashes xs → Hash y → Hashes (xs ++ (y ∷ []))
hashes_end [] y h k = (k, tt)
hashes_end (x ∷ xs) y h k = (h.0, hashes_end xs y h.1 k)

-- the root and the path's nodes are hashes
root_hash : (h : ℕ) (leaves : List (List ℕ)) → length leaves ≡ 2 ^ h → Hashes leaves → Hash (root_of h leaves)
unfolding root_of node_of
root_hash zero [] n k = absurd (omega arith)
root_hash zero (x ∷ xs) n k = k.0
root_hash (suc h) leaves n k = sha_hash (1 ∷ (root_of h (take (2 ^ h) leaves) ++ root_of h (drop (2 ^ h) leaves)))

module _ (h : ℕ) (leaves : List (List ℕ)) (n : length leaves ≡ 2 ^ suc h) where
  left_length : length (take (2 ^ h) leaves) ≡ 2 ^ h
  left_length = length-take-le (2 ^ h) leaves (omega (arith, pow-suc 2 h))

  right_length : length (drop (2 ^ h) leaves) ≡ 2 ^ h
  right_length = length-drop (2 ^ h) leaves ∙ omega (arith, pow-suc 2 h)

path_step : (h : ℕ) (leaves : List (List ℕ)) (j : ℕ) → length leaves ≡ 2 ^ suc h → Hashes leaves
    → Hashes (path_of h (take (2 ^ h) leaves) j) → Hashes (path_of h (drop (2 ^ h) leaves) (j - 2 ^ h)) → Hashes (path_of (suc h) leaves j)
path_step h leaves j n k a b =
    ⊎_elim
    (λ l. subst Hashes (sym (left_path h leaves j l)) (hashes_end (path_of h (take (2 ^ h) leaves) j) _ a (root_hash h (drop (2 ^ h) leaves) (right_length h leaves n) (hashes_drop (2 ^ h) leaves k))))
    (λ l. subst Hashes (sym (right_path h leaves j l)) (hashes_end (path_of h (drop (2 ^ h) leaves) (j - 2 ^ h)) _ b (root_hash h (take (2 ^ h) leaves) (left_length h leaves n) (hashes_take (2 ^ h) leaves k))))
    (lt_or_le j (2 ^ h))

path_hashes : (h : ℕ) (leaves : List (List ℕ)) (j : ℕ) → length leaves ≡ 2 ^ h → Hashes leaves → Hashes (path_of h leaves j)
unfolding path_of
path_hashes zero leaves j n k = tt
path_hashes (suc h) leaves j n k =
    path_step h leaves j n k (path_hashes h (take (2 ^ h) leaves) j (left_length h leaves n) (hashes_take (2 ^ h) leaves k))
    (path_hashes h (drop (2 ^ h) leaves) (j - 2 ^ h) (right_length h leaves n) (hashes_drop (2 ^ h) leaves k))

-- a path in words, with what stands behind it, gives the path back
nodes_trip : (p : List (List ℕ)) (z : List ℕ) → Hashes p → map bytes_in (chunks (length p) 8 (flat_map words_in p ++ z)) ≡ p
unfolding chunks flat_map
nodes_trip [] z k = refl
nodes_trip (x ∷ p) z k =
    let rest = flat_map words_in p ++ z in
    let e : words_in x ++ flat_map words_in p ++ z ≡ words_in x ++ rest = append_assoc (words_in x) (flat_map words_in p) z in
    let a : take 8 (words_in x ++ flat_map words_in p ++ z) ≡ words_in x = ap (take 8) e ∙ take_at (words_in x) rest 8 k.0.words in
    let b : drop 8 (words_in x ++ flat_map words_in p ++ z) ≡ rest = ap (drop 8) e ∙ drop_at (words_in x) rest 8 k.0.words in
    λ i. (ap bytes_in a ∙ k.0.trip) i ∷ (ap (λ (r : List ℕ). map bytes_in (chunks (length p) 8 r)) b ∙ nodes_trip p z k.1) i

leaves_hashes : (es : List (List ℕ)) → Hashes (map (λ e. leaf_of (bytes_in e)) es)
unfolding leaf_of
leaves_hashes [] = tt
leaves_hashes (e ∷ es) = (sha_hash (0 ∷ bytes_in e), leaves_hashes es)

pub nodes_length : (p : List (List ℕ)) → length (flat_map words_in p) ≡ hash_words * length p
unfolding flat_map
nodes_length [] = refl
nodes_length (x ∷ p) = length-append (words_in x) (flat_map words_in p) ∙ omega (arith, eight x, nodes_length p)

-- of a level's table, as words
module _ (h : Sheet) (l : Level) (table : List ℕ) (m : ℕ) (long : length table ≡ entry_words h * l.size) (inside : m < l.size) where
  entry : List ℕ
  entry = take (entry_words h) (drop (entry_words h * m) table)

  entry_long : length entry ≡ entry_words h
  unfolding entry
  entry_long =
      let a : entry_words h * m + entry_words h ≡ entry_words h * suc m = sym (mul-suc (entry_words h) m) in
      let b : entry_words h * suc m ≤ entry_words h * l.size = mul-le-mul_left (entry_words h) inside in
      part_length_lem (entry_words h * m) (entry_words h) table (omega (arith, a, b))

  pub entry_words_lem : length (take (entry_words h) (drop (entry_words h * m) table)) ≡ entry_words h
  unfolding entry
  entry_words_lem = entry_long

  nodes : List ℕ
  nodes = flat_map words_in (path_of (height_of h - l.number) (leaves_of h l table) m) ++ replicate (hash_words * l.number) 0

  pub opening_entry : entry_in h (opening_of h l table m) ≡ take (entry_words h) (drop (entry_words h * m) table)
  unfolding entry_in opening_of entry nodes
  opening_entry = take_at entry nodes (entry_words h) entry_long

  opening_nodes : nodes_in h (opening_of h l table m) ≡ nodes
  unfolding nodes_in opening_of entry nodes
  opening_nodes =
      let e : 2 + entry_words h ≡ suc (suc (entry_words h)) = omega arith in
      ap (λ (n : ℕ). drop n (l.number ∷ m ∷ (entry ++ nodes))) e ∙ drop_at entry nodes (entry_words h) entry_long

  pub opening_long : l.number ≤ height_of h → length (opening_of h l table m) ≡ opening_length h
  unfolding opening_of opening_length entry nodes
  opening_long k =
      let p = path_of (height_of h - l.number) (leaves_of h l table) m in
      let a : length (entry ++ nodes) ≡ length entry + length nodes = length-append entry nodes in
      let b : length nodes ≡ length (flat_map words_in p) + hash_words * l.number =
      length-append (flat_map words_in p) (replicate (hash_words * l.number) 0) ∙ ap (λ (n : ℕ). length (flat_map words_in p) + n) (length-replicate (hash_words * l.number) 0) in
      let c : length (flat_map words_in p) ≡ hash_words * (height_of h - l.number) = nodes_length p ∙ ap (λ (n : ℕ). hash_words * n) (path_length (height_of h - l.number) (leaves_of h l table) m) in
      omega (arith, a, b, c, entry_long)

module _ (h : Sheet) (l : Level) (table : List ℕ) (m : ℕ) (long : length table ≡ entry_words h * l.size) (inside : m < l.size) (tall : l.size ≡ 2 ^ (height_of h - l.number)) where
  height : ℕ
  height = height_of h - l.number

  leaves_count : length (leaves_of h l table) ≡ 2 ^ height
  unfolding leaves_of height
  leaves_count = length-map (chunks l.size (entry_words h) table) (λ e. leaf_of (bytes_in e)) ∙ chunks_length l.size (entry_words h) table ∙ tall

  leaf_is : get_or (leaves_of h l table) m [] ≡ leaf_of (bytes_in (entry h l table m long inside))
  unfolding leaves_of entry
  leaf_is =
      get_d_map (λ e. leaf_of (bytes_in e)) (chunks l.size (entry_words h) table) [] [] m (omega (arith, chunks_length l.size (entry_words h) table))
      ∙ ap (λ (e : List ℕ). leaf_of (bytes_in e)) (chunks_at l.size (entry_words h) table m inside)

  leaves_all : Hashes (leaves_of h l table)
  unfolding leaves_of
  leaves_all = leaves_hashes (chunks l.size (entry_words h) table)

  -- THE OPENING LEADS TO THE ROOT.
  pub opening_leads : reached_root h (opening_of h l table m) ≡ bytes_in (table_root h l table)
  unfolding reached_root table_root height nodes entry place_in opening_of
  opening_leads =
      let leaves = leaves_of h l table in
      let p = path_of height leaves m in
      let all : Hashes leaves = leaves_all in
      let a : map bytes_in (chunks height hash_words (nodes_in h (opening_of h l table m))) ≡ p =
      ap (λ (w : List ℕ). map bytes_in (chunks height hash_words w)) (opening_nodes h l table m long inside)
      ∙ ap (λ (c : ℕ). map bytes_in (chunks c hash_words (flat_map words_in p ++ replicate (hash_words * l.number) 0))) (sym (path_length height leaves m))
      ∙ nodes_trip p (replicate (hash_words * l.number) 0) (path_hashes height leaves m leaves_count all) in
      (λ i. climb (leaf_of (bytes_in (opening_entry h l table m long inside i))) m (a i))
      ∙ ap (λ (x : List ℕ). climb x m p) (sym leaf_is) ∙ path_leads height leaves m (omega (arith, tall))
      ∙ sym (root_hash height leaves leaves_count all).trip
