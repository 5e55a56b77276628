-- EACH WORD OF THE BUILDER'S STREAM IS IN RANGE: what refusal 5 asks, and that it has 32 bits.
use Rattle.std.specs.Prelude.{ℕ, zero, suc, ◌-◌, ◌/◌, ◌^◌, ◌≤◌, ◌<◌, Bool, true, false, cond, ◌≡◌, ltb, length, get_or, take, drop}
use Rattle.std.proofs.Common.{mod-lt, arith, lit<, length-take}
use mathlib.Core.List.{List, [], ◌∷◌, ◌++◌, map}
use Rattle.std.proofs.lemmas.Bool.{lt-leb}
use Rattle.definition.specs.Block.{word_of}
use Rattle.definition.specs.Field.{Spelling}
use Rattle.definition.specs.Lists.{chunks}
use Rattle.definition.specs.Sheet.{Sheet, Level, first_level, later_levels}
use Rattle.definition.specs.Layout.{Kind, limit}
use Rattle.definition.specs.Reading.{out_of_range}
use Rattle.hashing.specs.Sha256.{State, big_bytes, blocks_of, digest_of, hash_blocks, initial, padded, sha256}
use Rattle.hashing.specs.Tree.{leaf_of, node_of, root_of, path_of}
use Rattle.list_laws.specs.All.{All, all_append, all_drop, all_flat, all_of_map, all_take, everywhere}
use Rattle.layouts.specs.EachWord.{Each, each_join}
use Rattle.openings.specs.Openings.{entry_words, hash_words, any_word, height_of, beside_table, swap_rest, swap_tables, bytes_in, words_in, leaves_of, table_root}

-- ---- the bytes of a hash, and its words

abbrev pub Byte : ℕ → Type 0
Byte x = x < 256

abbrev pub Word : ℕ → Type 0
Word x = x < 4294967296

big_bytes_lem : (count x : ℕ) → All Byte (big_bytes count x)
unfolding big_bytes
big_bytes_lem zero x = tt
big_bytes_lem (suc count) x = (mod-lt (x / 256 ^ count) (lit< tt), big_bytes_lem count x)

digest_bytes : (s : State) → All Byte (digest_of s)
unfolding digest_of
digest_bytes s =
    let xs : List ℕ = s.a ∷ s.b ∷ s.c ∷ s.d ∷ s.e ∷ s.f ∷ s.g ∷ s.h ∷ [] in all_flat Byte (big_bytes 4) xs (everywhere xs (big_bytes_lem 4))

hash_bytes : (m : List ℕ) → All Byte (sha256 m)
unfolding sha256
hash_bytes m = digest_bytes (hash_blocks initial (blocks_of (padded m)))

word_small : (bs : List ℕ) → All Byte bs → length bs ≤ 4 → Word (word_of bs)
unfolding word_of
word_small [] h n = lit< tt
word_small (a ∷ []) h n = omega (arith, h.0)
word_small (a ∷ b ∷ []) h n = omega (arith, h.0, h.1.0)
word_small (a ∷ b ∷ c ∷ []) h n = omega (arith, h.0, h.1.0, h.1.1.0)
word_small (a ∷ b ∷ c ∷ d ∷ []) h n = omega (arith, h.0, h.1.0, h.1.1.0, h.1.1.1.0)
word_small (a ∷ b ∷ c ∷ d ∷ e ∷ bs) h n = absurd (omega arith)

chunks_small : (n : ℕ) (x : List ℕ) → All Byte x → All Word (map word_of (chunks n 4 x))
unfolding chunks
chunks_small zero x h = tt
chunks_small (suc n) x h = (word_small (take 4 x) (all_take Byte 4 x h) (omega (arith, length-take 4 x)), chunks_small n (drop 4 x) (all_drop Byte 4 x h))

pub words_small : (x : List ℕ) → All Byte x → All Word (words_in x)
unfolding words_in
words_small x h = chunks_small hash_words x h

-- the root and the path of leaves that are hashes
abbrev pub AllBytes : List (List ℕ) → Type 0
AllBytes xs = All (All Byte) xs

first_bytes : (xs : List (List ℕ)) → AllBytes xs → All Byte (get_or xs 0 [])
first_bytes [] h = tt
first_bytes (x ∷ xs) h = h.0

root_bytes : (h : ℕ) (leaves : List (List ℕ)) → AllBytes leaves → All Byte (root_of h leaves)
unfolding root_of node_of
root_bytes zero leaves k = first_bytes leaves k
root_bytes (suc h) leaves k = hash_bytes (1 ∷ (root_of h (take (2 ^ h) leaves) ++ root_of h (drop (2 ^ h) leaves)))

pick : (c : Bool) (x y : List (List ℕ)) → AllBytes x → AllBytes y → AllBytes (cond c x y)
pick true x y a b = a
pick false x y a b = b

pub path_bytes : (h : ℕ) (leaves : List (List ℕ)) (j : ℕ) → AllBytes leaves → AllBytes (path_of h leaves j)
unfolding path_of
path_bytes zero leaves j k = tt
path_bytes (suc h) leaves j k =
    pick (ltb j (2 ^ h)) _ _
    (all_append (All Byte) (path_of h (take (2 ^ h) leaves) j) _ (path_bytes h (take (2 ^ h) leaves) j (all_take (All Byte) (2 ^ h) leaves k)) (root_bytes h (drop (2 ^ h) leaves) (all_drop (All Byte) (2 ^ h) leaves k), tt))
    (all_append (All Byte) (path_of h (drop (2 ^ h) leaves) (j - 2 ^ h)) _ (path_bytes h (drop (2 ^ h) leaves) (j - 2 ^ h) (all_drop (All Byte) (2 ^ h) leaves k)) (root_bytes h (take (2 ^ h) leaves) (all_take (All Byte) (2 ^ h) leaves k), tt))

leaf_bytes : (e : List ℕ) → All Byte (leaf_of (bytes_in e))
unfolding leaf_of
leaf_bytes e = hash_bytes (0 ∷ bytes_in e)

pub leaves_bytes : (h : Sheet) (l : Level) (t : List ℕ) → AllBytes (leaves_of h l t)
unfolding leaves_of
leaves_bytes h l t =
    let es = chunks l.size (entry_words h) t in all_of_map (All Byte) (λ e. leaf_of (bytes_in e)) es (everywhere es leaf_bytes)

pub root_small : (h : Sheet) (l : Level) (t : List ℕ) → All Word (table_root h l t)
unfolding table_root
root_small h l t = words_small _ (root_bytes (height_of h - l.number) (leaves_of h l t) (leaves_bytes h l t))

-- ---- each word with its kind

-- in range, and of 32 bits
abbrev pub Fine : Sheet → Kind → ℕ → Type 0
Fine h k x = (out_of_range h k x ≡ false) × Word x

pub any_fine : (h : Sheet) (x : ℕ) → Word x → Fine h any_word x
unfolding out_of_range any_word limit
any_fine h x b = (lt-leb (2 ^ 32) x b, b)

each_take : {A : Type 0} (R : Kind → A → Type 0) (n : ℕ) (ks : List Kind) (w : List A) → Each R ks w → Each R (take n ks) (take n w)
each_take R zero ks w h = tt
each_take R (suc n) [] [] h = tt
each_take R (suc n) [] (x ∷ w) h = absurd h
each_take R (suc n) (k ∷ ks) [] h = absurd h
each_take R (suc n) (k ∷ ks) (x ∷ w) h = (h.0, each_take R n ks w h.1)

each_drop : {A : Type 0} (R : Kind → A → Type 0) (n : ℕ) (ks : List Kind) (w : List A) → Each R ks w → Each R (drop n ks) (drop n w)
each_drop R zero ks w h = h
each_drop R (suc n) [] [] h = tt
each_drop R (suc n) [] (x ∷ w) h = absurd h
each_drop R (suc n) (k ∷ ks) [] h = absurd h
each_drop R (suc n) (k ∷ ks) (x ∷ w) h = each_drop R n ks w h.1

-- tables replaced, with their kinds
module _ (R : Kind → ℕ → Type 0) (size : Level → ℕ) (f : Level → List Kind → List Kind) (g : Level → List ℕ → List ℕ) (new : (l : Level) (ks : List Kind) (w : List ℕ) → Each R (f l ks) (g l w)) where
  rest_each : (σ : Spelling) (s : ℕ) (b : Level) (ls : List Level) (ks : List Kind) (w : List ℕ) → Each R ks w → Each R (swap_rest size f σ s b ls ks) (swap_rest size g σ s b ls w)
  unfolding swap_rest
  rest_each σ s b [] ks w h = h
  rest_each σ s b (l ∷ ls) ks w h =
      let n = beside_table σ s b in
      let d = each_drop R (size l) ks w h in
      each_join R (f l (take (size l) ks)) _ (g l (take (size l) w)) _ (new l (take (size l) ks) (take (size l) w))
      (each_join R (take n (drop (size l) ks)) _ (take n (drop (size l) w)) _ (each_take R n (drop (size l) ks) (drop (size l) w) d)
      (rest_each σ s l ls (drop n (drop (size l) ks)) (drop n (drop (size l) w)) (each_drop R n (drop (size l) ks) (drop (size l) w) d)))

  pub swap_each : (h : Sheet) (ks : List Kind) (w : List ℕ) → Each R ks w → Each R (swap_tables size f h ks) (swap_tables size g h w)
  unfolding swap_tables
  swap_each h ks w e =
      let l = first_level h in
      let n = entry_words h in
      let d = each_drop R (size l) ks w e in
      each_join R (f l (take (size l) ks)) _ (g l (take (size l) w)) _ (new l (take (size l) ks) (take (size l) w))
      (each_join R (take n (drop (size l) ks)) _ (take n (drop (size l) w)) _ (each_take R n (drop (size l) ks) (drop (size l) w) d)
      (rest_each h.spelling h.out_coins l (later_levels h) (drop n (drop (size l) ks)) (drop n (drop (size l) w)) (each_drop R n (drop (size l) ks) (drop (size l) w) d)))
