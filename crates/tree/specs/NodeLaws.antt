-- Hashes are 32 bytes; a node's message and its bytes from words; the nodes of a path and the leaves of a table, one by one.
use Rattle.std.specs.Prelude.{ℕ, suc, ◌+◌, ◌-◌, ◌*◌, ◌/◌, ◌%◌, ◌^◌, ◌≤◌, ◌<◌, ◌≡◌, refl, set}
use Rattle.std.proofs.Common.{mul_assoc, mul_comm, pow-suc, add-one, arith, ◌∙◌, eq-eqb, ne_eqb, length-append, length-take, length-drop, drop-drop, drop_of_length-le, length-take-le, take_all, take-suc}
use Rattle.std.proofs.Math.Path.{sym, ap, ap₂}
use mathlib.Core.List.{List, [], ◌∷◌, ◌++◌, map, flat_map, append_assoc, append-nil}
use Rattle.std.proofs.Math.ListN.{length, get_or, take, drop, length-map, get_or-map}
use Rattle.std.proofs.Math.Seq.{drop-cons}
use borrow.Rule.Slice.PartMut.{put_mid}
use Rattle.std.proofs.lemmas.List.Edits.{sets-eq}
use Rattle.definition.specs.Lists.{chunks}
use Rattle.definition.specs.Block.{low_bytes, bytes_of}
use Rattle.hashing.specs.Sha256.{big_bytes, digest_of, sha256}
use Rattle.list_laws.specs.Chunks.{chunks_length, chunks_at}
use Rattle.hashing.specs.Tree.{leaf_of, node_of, root_of, parent_of, climb}
use Rattle.hash_laws.specs.TwoStoreys.{chunks_drop, chunks_front, chunks_take, map_drop, map_take, twice}
use Rattle.list_laws.specs.Overwriting.{overwrite, overwrite_front, overwrite_join}
use Rattle.tree.specs.Nodes.{leaves_of, nodes_of}

pub hash_length : (m : List ℕ) → length (sha256 m) ≡ 32
unfolding sha256 digest_of big_bytes flat_map
hash_length m = refl

pub node_length : (l r : List ℕ) → length (node_of l r) ≡ 32
unfolding node_of
node_length l r = hash_length (1 ∷ (l ++ r))

-- four stores one after the other leave the word's bytes in their places
pub word_stored : (l : List ℕ) (at v : ℕ) → at + 4 ≤ length l
    → set (set (set (set l at (v % 256)) (at + 1) (v / 256 % 256)) (at + 2) (v / 256 / 256 % 256)) (at + 3) (v / 256 / 256 / 256 % 256) ≡ overwrite l at (bytes_of v)
unfolding bytes_of low_bytes overwrite
word_stored l at v h =
    let e1 : at + 1 ≡ suc at = omega arith in
    let e2 : at + 2 ≡ suc (suc at) = omega arith in
    let e3 : at + 3 ≡ suc (suc (suc at)) = omega arith in
    rw (e1, e2, e3) (sets-eq (bytes_of v) l at h)

-- a node's message: 1, and the two children put behind it
pub message_put : (r a b : List ℕ) {o₁ o₂ : List ℕ} → length r ≡ 65 → take 1 r ≡ 1 ∷ [] → length a ≡ 32 → length b ≡ 32
    → o₁ ≡ overwrite r 1 a → o₂ ≡ overwrite o₁ 33 b → o₂ ≡ 1 ∷ (a ++ b)
unfolding overwrite
message_put r a b n t na nb e₁ e₂ =
    let k : 33 ≡ 1 + length a = omega arith in
    let z : length r ≤ 1 + length (a ++ b) = rw length-append (omega arith) in
    e₂ ∙ ap (λ (l : List ℕ). overwrite l 33 b) e₁ ∙ ap (λ (i : ℕ). overwrite (overwrite r 1 a) i b) k
    ∙ overwrite_join r 1 a (omega arith) b
    ∙ ap (λ (l : List ℕ). take 1 r ++ (a ++ b) ++ l) (drop_of_length-le r {i = 1 + length (a ++ b)} z)
    ∙ append-nil (take 1 r ++ (a ++ b)) ∙ ap (λ (l : List ℕ). l ++ (a ++ b)) t

bytes_join : (a c : List ℕ) → flat_map bytes_of (a ++ c) ≡ flat_map bytes_of a ++ flat_map bytes_of c
unfolding flat_map
bytes_join [] c = refl
bytes_join (x ∷ a) c = rw (bytes_join a c) (sym (append_assoc (bytes_of x) (flat_map bytes_of a) (flat_map bytes_of c)))

pub bytes_length : (a : List ℕ) → length (flat_map bytes_of a) ≡ 4 * length a
unfolding flat_map bytes_of low_bytes
bytes_length [] = refl
bytes_length (x ∷ a) = omega (arith, bytes_length a)

bytes_one : (v : ℕ) → flat_map bytes_of (v ∷ []) ≡ bytes_of v
unfolding flat_map
bytes_one v = append-nil (bytes_of v)

bytes_four : (v : ℕ) → length (bytes_of v) ≡ 4
unfolding bytes_of low_bytes
bytes_four v = refl

-- the words x as bytes from place `at` on: one word more
pub bytes_next : (l : List ℕ) (at : ℕ) (x : List ℕ) (i : ℕ) {v : ℕ} {o p : List ℕ} → at ≤ length l → i < length x → v ≡ get_or x i 0
    → o ≡ overwrite l at (flat_map bytes_of (take i x)) → p ≡ overwrite o (at + 4 * i) (bytes_of v) → p ≡ overwrite l at (flat_map bytes_of (take (i + 1) x))
bytes_next l at x i {v} b h e eo ep =
    let q = flat_map bytes_of (take i x) in
    let n : at + 4 * i ≡ at + length q = omega (arith, bytes_length (take i x), length-take-le i x (omega arith)) in
    let t : flat_map bytes_of (take (i + 1) x) ≡ q ++ bytes_of v =
    ap (λ (k : ℕ). flat_map bytes_of (take k x)) (add-one i) ∙ ap (flat_map bytes_of) (take-suc x i 0 h) ∙ bytes_join (take i x) (get_or x i 0 ∷ [])
    ∙ ap (λ (y : List ℕ). q ++ y) (bytes_one (get_or x i 0) ∙ ap bytes_of (sym e)) in
    ep ∙ ap (λ (y : List ℕ). overwrite y (at + 4 * i) (bytes_of v)) eo ∙ ap (λ (k : ℕ). overwrite (overwrite l at q) k (bytes_of v)) n
    ∙ overwrite_join l at q b (bytes_of v) ∙ ap (overwrite l at) (sym t)

pub bytes_all : (l x : List ℕ) (i : ℕ) {o : List ℕ} → length l ≡ 32 → length x ≡ 8 → 8 ≤ i → o ≡ overwrite l 0 (flat_map bytes_of (take i x)) → o ≡ flat_map bytes_of x
unfolding overwrite
bytes_all l x i n m h e =
    let q = flat_map bytes_of x in
    let z : length l ≤ 0 + length q = omega (arith, bytes_length x) in
    e ∙ ap (λ (y : List ℕ). overwrite l 0 (flat_map bytes_of y)) (take_all i x (omega arith))
    ∙ ap (λ (y : List ℕ). q ++ y) (drop_of_length-le l {i = 0 + length q} z) ∙ append-nil q

pub bytes_whole : (l x : List ℕ) {o : List ℕ} → length l ≡ 32 → length x ≡ 8 → o ≡ overwrite l 0 (flat_map bytes_of x) → o ≡ flat_map bytes_of x
bytes_whole l x n m e = bytes_all l x 8 n m (omega arith) (e ∙ ap (λ (y : List ℕ). overwrite l 0 (flat_map bytes_of y)) (sym (take_all 8 x (omega arith))))

-- the nodes of a path in words
module _ (w : List ℕ) where
  pub nodes_length : length (nodes_of w) ≡ length w / 8
  unfolding nodes_of
  nodes_length = length-map (chunks (length w / 8) 8 w) (flat_map bytes_of) ∙ chunks_length (length w / 8) 8 w

  pub nodes_at : (h : ℕ) → h < length w / 8 → get_or (nodes_of w) h [] ≡ flat_map bytes_of (take 8 (drop (8 * h) w))
  unfolding nodes_of flat_map
  nodes_at h l = get_or-map (flat_map bytes_of) (chunks (length w / 8) 8 w) h [] ∙ ap (flat_map bytes_of) (chunks_at (length w / 8) 8 w h l)

  -- one step more
  pub climb_next : (x : List ℕ) (j h : ℕ) {s y : List ℕ} → h < length w / 8 → s ≡ flat_map bytes_of (take 8 (drop (8 * h) w)) → y ≡ parent_of x j s
      → climb x j (drop h (nodes_of w)) ≡ climb y (j / 2) (drop (h + 1) (nodes_of w))
  unfolding climb
  climb_next x j h {s} {y} l es ey =
      let n : h < length (nodes_of w) = omega (arith, nodes_length) in
      let d : drop h (nodes_of w) ≡ get_or (nodes_of w) h [] ∷ drop (h + 1) (nodes_of w) =
      drop-cons (nodes_of w) h [] n ∙ ap (λ (k : ℕ). get_or (nodes_of w) h [] ∷ drop k (nodes_of w)) (sym (add-one h)) in
      ap (climb x j) d ∙ ap (λ (z : List ℕ). climb (parent_of x j z) (j / 2) (drop (h + 1) (nodes_of w))) (nodes_at h l ∙ sym es)
      ∙ ap (λ (z : List ℕ). climb z (j / 2) (drop (h + 1) (nodes_of w))) (sym ey)

  pub climb_done : (x : List ℕ) (j h : ℕ) → length w / 8 ≤ h → climb x j (drop h (nodes_of w)) ≡ x
  unfolding climb
  climb_done x j h l =
      let n : length (nodes_of w) ≤ h = omega (arith, nodes_length) in
      ap (climb x j) (drop_of_length-le (nodes_of w) {i = h} n)

-- a leaf's message: 0, and the entry's words as bytes behind it
pub message_words : (m x : List ℕ) {o : List ℕ} → take 1 m ≡ 0 ∷ [] → o ≡ overwrite m 1 (flat_map bytes_of x) → take (1 + 4 * length x) o ≡ 0 ∷ flat_map bytes_of x
message_words m x {o} t e =
    let q = flat_map bytes_of x in
    let b : 1 ≤ length m = omega (arith, ap length t, length-take 1 m) in
    let n : 1 + 4 * length x ≡ 1 + length q = omega (arith, bytes_length x) in
    ap (λ (k : ℕ). take k o) n ∙ ap (take (1 + length q)) e ∙ overwrite_front m 1 q b ∙ ap (λ (y : List ℕ). y ++ q) t

-- a part of a list written over
pub part_written : (a k : ℕ) (l q : List ℕ) → length q ≡ k → put_mid a k l q ≡ overwrite l a q
unfolding overwrite
part_written a k l q e =
    sym (append_assoc (take a l) q (drop k (drop a l))) ∙ ap (λ (y : List ℕ). take a l ++ q ++ y) (drop-drop k a l ∙ ap (λ (n : ℕ). drop (a + n) l) (sym e))

pub root_one : (t : List ℕ) (w : ℕ) {h : ℕ} {r : List ℕ} → h ≡ 0 → length t ≡ w * 2 ^ h → r ≡ leaf_of (flat_map bytes_of t) → r ≡ root_of h (leaves_of w h t)
unfolding root_of leaves_of chunks
root_one t w {h} e n er =
    let k : length t ≤ w = omega (arith, n, ap (λ (j : ℕ). w * 2 ^ j) e) in
    er ∙ ap (λ (y : List ℕ). leaf_of (flat_map bytes_of y)) (sym (take_all w t k)) ∙ ap (λ (j : ℕ). root_of j (leaves_of w j t)) (sym e)

-- the halves of a table
module _ (t : List ℕ) (w h : ℕ) (n : length t ≡ w * 2 ^ h) (l : 0 < h) where
  up : h ≡ suc (h - 1)
  up = omega arith

  half_is : length t / 2 ≡ w * 2 ^ (h - 1)
  half_is =
      let p : length t ≡ w * 2 ^ (h - 1) * 2 = n ∙ ap (λ (j : ℕ). w * 2 ^ j) up ∙ ap (λ (j : ℕ). w * j) (pow-suc 2 (h - 1)) ∙ sym (mul_assoc w (2 ^ (h - 1)) 2) in
      omega (arith, p)

  whole : length t ≡ w * 2 ^ (h - 1) + w * 2 ^ (h - 1)
  whole = n ∙ ap (λ (j : ℕ). w * 2 ^ j) up ∙ ap (λ (j : ℕ). w * j) (pow-suc 2 (h - 1)) ∙ sym (mul_assoc w (2 ^ (h - 1)) 2) ∙ omega arith

  upper : take (length t - length t / 2) (drop (length t / 2) t) ≡ drop (length t / 2) t
  upper =
      let d : length (drop (length t / 2) t) ≡ length t - length t / 2 = length-drop (length t / 2) t in
      take_all (length t - length t / 2) (drop (length t / 2) t) (omega arith)

  pub lower_length : length (take (length t / 2) t) ≡ w * 2 ^ (h - 1)
  lower_length = length-take-le (length t / 2) t (omega arith) ∙ half_is

  pub upper_length : length (take (length t - length t / 2) (drop (length t / 2) t)) ≡ w * 2 ^ (h - 1)
  upper_length = ap length upper ∙ length-drop (length t / 2) t ∙ omega (arith, half_is, whole)

  count : 2 ^ h ≡ 2 ^ (h - 1) + 2 ^ (h - 1)
  count = ap (λ (j : ℕ). 2 ^ j) up ∙ twice (h - 1)

  half_words : length t / 2 ≡ 2 ^ (h - 1) * w
  half_words = half_is ∙ mul_comm w (2 ^ (h - 1))

  leaves_lower : leaves_of w (h - 1) (take (length t / 2) t) ≡ take (2 ^ (h - 1)) (leaves_of w h t)
  unfolding leaves_of
  leaves_lower =
      ap (map (λ e. leaf_of (flat_map bytes_of e)))
      (ap (λ (k : ℕ). chunks (2 ^ (h - 1)) w (take k t)) half_words ∙ chunks_front (2 ^ (h - 1)) w t ∙ sym (ap (λ (k : ℕ). take (2 ^ (h - 1)) (chunks k w t)) count ∙ chunks_take (2 ^ (h - 1)) (2 ^ (h - 1)) w t))
      ∙ sym (map_take (λ e. leaf_of (flat_map bytes_of e)) (2 ^ (h - 1)) (chunks (2 ^ h) w t))

  leaves_upper : leaves_of w (h - 1) (drop (length t / 2) t) ≡ drop (2 ^ (h - 1)) (leaves_of w h t)
  unfolding leaves_of
  leaves_upper =
      ap (map (λ e. leaf_of (flat_map bytes_of e)))
      (ap (λ (k : ℕ). chunks (2 ^ (h - 1)) w (drop k t)) half_words ∙ sym (ap (λ (k : ℕ). drop (2 ^ (h - 1)) (chunks k w t)) count ∙ chunks_drop (2 ^ (h - 1)) (2 ^ (h - 1)) w t))
      ∙ sym (map_drop (λ e. leaf_of (flat_map bytes_of e)) (2 ^ (h - 1)) (chunks (2 ^ h) w t))

  pub root_halves : {a b r : List ℕ} → a ≡ root_of (h - 1) (leaves_of w (h - 1) (take (length t / 2) t))
      → b ≡ root_of (h - 1) (leaves_of w (h - 1) (take (length t - length t / 2) (drop (length t / 2) t))) → r ≡ node_of a b → r ≡ root_of h (leaves_of w h t)
  unfolding root_of
  root_halves {a} {b} ea eb er =
      let p : root_of (h - 1) (take (2 ^ (h - 1)) (leaves_of w h t)) ≡ a = sym (ea ∙ ap (root_of (h - 1)) leaves_lower) in
      let q : root_of (h - 1) (drop (2 ^ (h - 1)) (leaves_of w h t)) ≡ b = sym (eb ∙ ap (λ (x : List ℕ). root_of (h - 1) (leaves_of w (h - 1) x)) upper ∙ ap (root_of (h - 1)) leaves_upper) in
      er ∙ sym (ap (λ (k : ℕ). root_of k (leaves_of w h t)) up ∙ ap₂ node_of p q)

-- a parent, by the number's last digit
pub parent_even : (x : List ℕ) (j : ℕ) (s : List ℕ) → j % 2 ≡ 0 → node_of x s ≡ parent_of x j s
unfolding parent_of
parent_even x j s e = rw (eq-eqb (j % 2) 0 e)

pub parent_odd : (x : List ℕ) (j : ℕ) (s : List ℕ) → (j % 2 ≡ 0 → ⊥) → node_of s x ≡ parent_of x j s
unfolding parent_of
parent_odd x j s e = rw (ne_eqb (j % 2) 0 e)

-- a node's message by its parts, the children written over the places behind the 1
module _ (m a b : List ℕ) (n : length m ≡ 65) (t : take 1 m ≡ 1 ∷ []) (na : length a ≡ 32) (nb : length b ≡ 32) where
  pub message_parts : {x y : List ℕ} → x ≡ a → y ≡ b → put_mid 33 32 (put_mid 1 32 m x) y ≡ 1 ∷ (a ++ b)
  message_parts {x} {y} ex ey =
      message_put m a b n t na nb
      (part_written 1 32 m x (ap length ex ∙ na) ∙ ap (overwrite m 1) ex)
      (part_written 33 32 (put_mid 1 32 m x) y (ap length ey ∙ nb) ∙ ap (overwrite (put_mid 1 32 m x) 33) ey)

  pub parts_length : {x y : List ℕ} → x ≡ a → y ≡ b → 65 ≡ length (put_mid 33 32 (put_mid 1 32 m x) y)
  parts_length ex ey = omega (arith, ap length (message_parts ex ey), length-append a b)
