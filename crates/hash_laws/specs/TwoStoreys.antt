-- A tree in two storeys: a tree over the roots of subtrees of one height. So a path is that in the subtree and then that over the subtrees' roots,
-- and a builder need keep the roots of the subtrees alone.
use Prim.Native.Nat.{ℕ, zero, suc, ◌+◌, ◌-◌, ◌*◌, ◌/◌, ◌%◌, ◌^◌, ◌≤◌, ◌<◌}
use Rattle.std.proofs.Common.{add_comm, add-suc, mod-eq_of_lt, pow-suc, zero-add, suc-add, ◌∙◌, ⊎_elim, length-drop, pow-add, pow_pos, shr_lt, drop-drop, length-take-le, take_all}
use Rattle.std.proofs.Math.Nat.{add-mul-div_right, add-mul-mod_self_right, div-eq_of_lt, mul_comm, mul-le-mul_left}
use native.Mathlib.Omega.{arith}
use Rattle.std.specs.Prelude.{◌≡◌, length}
use Rattle.std.proofs.Math.Path.{refl, sym, ap}
use mathlib.Core.List.{List, [], ◌∷◌, ◌++◌, map, append_assoc, append-nil}
use Rattle.std.proofs.Math.ListN.{take, drop}
use Rattle.std.proofs.Math.Seq.{take-nil, take-take}
use Rattle.definition.specs.Lists.{chunks}
use Rattle.hashing.specs.Tree.{node_of, root_of, path_of}
use Rattle.hash_laws.specs.TreeLaws.{lt_or_le, left_path, right_path}

module _ {A : Type 0} where
  drop_take : (n m : ℕ) (l : List A) → drop n (take (n + m) l) ≡ take m (drop n l)
  drop_take zero m l = ap (λ (k : ℕ). take k l) (zero-add m)
  drop_take (suc n) m [] = ap (drop (suc n)) (take-nil (suc n + m)) ∙ sym (take-nil m)
  drop_take (suc n) m (x ∷ l) = ap (λ (k : ℕ). drop (suc n) (take k (x ∷ l))) (suc-add n m) ∙ drop_take n m l

  pub chunks_front : (n s : ℕ) (xs : List A) → chunks n s (take (n * s) xs) ≡ chunks n s xs
  unfolding chunks
  chunks_front zero s xs = refl
  chunks_front (suc n) s xs =
      let e : suc n * s ≡ s + n * s = omega arith in
      let a : take s (take (suc n * s) xs) ≡ take s xs = take-take s (suc n * s) xs (omega (arith, e)) in
      let b : drop s (take (suc n * s) xs) ≡ take (n * s) (drop s xs) = ap (λ (k : ℕ). drop s (take k xs)) e ∙ drop_take s (n * s) xs in
      λ i. a i ∷ (ap (chunks n s) b ∙ chunks_front n s (drop s xs)) i

  pub chunks_take : (n m s : ℕ) (xs : List A) → take n (chunks (n + m) s xs) ≡ chunks n s xs
  unfolding chunks
  chunks_take zero m s xs = refl
  chunks_take (suc n) m s xs = ap (λ (k : ℕ). take (suc n) (chunks k s xs)) (suc-add n m) ∙ ap (λ l. take s xs ∷ l) (chunks_take n m s (drop s xs))

  pub chunks_drop : (n m s : ℕ) (xs : List A) → drop n (chunks (n + m) s xs) ≡ chunks m s (drop (n * s) xs)
  unfolding chunks
  chunks_drop zero m s xs =
      let e : zero * s ≡ 0 = omega arith in
      ap (λ (k : ℕ). chunks k s xs) (zero-add m) ∙ ap (λ (k : ℕ). chunks m s (drop k xs)) (sym e)
  chunks_drop (suc n) m s xs =
      let e : s + n * s ≡ suc n * s = omega arith in
      ap (λ (k : ℕ). drop (suc n) (chunks k s xs)) (suc-add n m) ∙ chunks_drop n m s (drop s xs) ∙ ap (chunks m s) (drop-drop (n * s) s xs ∙ ap (λ (k : ℕ). drop k xs) e)

pub map_take : {A B : Type 0} (f : A → B) (n : ℕ) (l : List A) → take n (map f l) ≡ map f (take n l)
map_take f zero l = refl
map_take f (suc n) [] = refl
map_take f (suc n) (x ∷ l) = ap (λ t. f x ∷ t) (map_take f n l)

pub map_drop : {A B : Type 0} (f : A → B) (n : ℕ) (l : List A) → drop n (map f l) ≡ map f (drop n l)
map_drop f zero l = refl
map_drop f (suc n) [] = refl
map_drop f (suc n) (x ∷ l) = map_drop f n l

-- the roots of the 2^b subtrees of height a
unfoldable pub subtrees : ℕ → ℕ → List (List ℕ) → List (List (List ℕ))
subtrees a b leaves = chunks (2 ^ b) (2 ^ a) leaves

unfoldable pub subroots : ℕ → ℕ → List (List ℕ) → List (List ℕ)
subroots a b leaves = map (root_of a) (subtrees a b leaves)

pub twice : (b : ℕ) → 2 ^ suc b ≡ 2 ^ b + 2 ^ b
twice b = pow-suc 2 b ∙ omega arith

times : (a b : ℕ) → 2 ^ b * 2 ^ a ≡ 2 ^ (a + b)
times a b = sym (pow-add 2 b a) ∙ ap (λ (k : ℕ). 2 ^ k) (add_comm b a)

module _ (a b : ℕ) (leaves : List (List ℕ)) where
  subroots_left : take (2 ^ b) (subroots a (suc b) leaves) ≡ subroots a b (take (2 ^ (a + b)) leaves)
  unfolding subroots subtrees
  subroots_left =
      map_take (root_of a) (2 ^ b) (chunks (2 ^ suc b) (2 ^ a) leaves)
      ∙ ap (map (root_of a))
      (ap (λ (k : ℕ). take (2 ^ b) (chunks k (2 ^ a) leaves)) (twice b) ∙ chunks_take (2 ^ b) (2 ^ b) (2 ^ a) leaves
      ∙ sym (chunks_front (2 ^ b) (2 ^ a) leaves) ∙ ap (λ (k : ℕ). chunks (2 ^ b) (2 ^ a) (take k leaves)) (times a b))

  subroots_right : drop (2 ^ b) (subroots a (suc b) leaves) ≡ subroots a b (drop (2 ^ (a + b)) leaves)
  unfolding subroots subtrees
  subroots_right =
      map_drop (root_of a) (2 ^ b) (chunks (2 ^ suc b) (2 ^ a) leaves)
      ∙ ap (map (root_of a))
      (ap (λ (k : ℕ). drop (2 ^ b) (chunks k (2 ^ a) leaves)) (twice b) ∙ chunks_drop (2 ^ b) (2 ^ b) (2 ^ a) leaves
      ∙ ap (λ (k : ℕ). chunks (2 ^ b) (2 ^ a) (drop k leaves)) (times a b))

  module _ (n : length leaves ≡ 2 ^ (a + suc b)) where
    whole : length leaves ≡ 2 ^ (a + b) + 2 ^ (a + b)
    whole = n ∙ ap (λ (k : ℕ). 2 ^ k) (add-suc a b) ∙ twice (a + b)

    left_length : length (take (2 ^ (a + b)) leaves) ≡ 2 ^ (a + b)
    left_length = length-take-le (2 ^ (a + b)) leaves (omega (arith, whole))

    right_length : length (drop (2 ^ (a + b)) leaves) ≡ 2 ^ (a + b)
    right_length = length-drop (2 ^ (a + b)) leaves ∙ omega (arith, whole)

-- THE ROOT OVER THE ROOTS OF THE SUBTREES IS THE ROOT.
pub root_split : (a b : ℕ) (leaves : List (List ℕ)) → length leaves ≡ 2 ^ (a + b) → root_of (a + b) leaves ≡ root_of b (subroots a b leaves)
unfolding root_of subroots subtrees chunks
root_split a zero leaves n =
    let z : a + zero ≡ a = omega arith in
    ap (λ (k : ℕ). root_of k leaves) z ∙ sym (ap (root_of a) (take_all (2 ^ a) leaves (omega (arith, n, ap (λ (k : ℕ). 2 ^ k) z))))
root_split a (suc b) leaves n =
    ap (λ (k : ℕ). root_of k leaves) (add-suc a b)
    ∙ (λ i. node_of ((root_split a b (take (2 ^ (a + b)) leaves) (left_length a b leaves n) ∙ ap (root_of b) (sym (subroots_left a b leaves))) i)
    ((root_split a b (drop (2 ^ (a + b)) leaves) (right_length a b leaves n) ∙ ap (root_of b) (sym (subroots_right a b leaves))) i))

window : (s k n : ℕ) (l : List (List ℕ)) → k + s ≤ n → take s (drop k (take n l)) ≡ take s (drop k l)
window s k n l h = sym (drop_take k s (take n l)) ∙ ap (drop k) (take-take (k + s) n l h) ∙ drop_take k s l

-- the leaves of the subtree that leaf j is in
unfoldable pub subtree_of : ℕ → List (List ℕ) → ℕ → List (List ℕ)
subtree_of a leaves j = take (2 ^ a) (drop (2 ^ a * (j / 2 ^ a)) leaves)

module _ (a b : ℕ) (leaves : List (List ℕ)) (j : ℕ) where
  near : j < 2 ^ (a + b) → j / 2 ^ a < 2 ^ b
  near l = shr_lt b a (rw (add_comm b a) l)

  left_subtree : j < 2 ^ (a + b) → subtree_of a (take (2 ^ (a + b)) leaves) j ≡ subtree_of a leaves j
  unfolding subtree_of
  left_subtree l =
      let m : 2 ^ a * (j / 2 ^ a) + 2 ^ a ≡ 2 ^ a * suc (j / 2 ^ a) = omega arith in
      let u : 2 ^ a * suc (j / 2 ^ a) ≤ 2 ^ a * 2 ^ b = mul-le-mul_left (2 ^ a) (near l) in
      let t : 2 ^ a * 2 ^ b ≡ 2 ^ (a + b) = mul_comm (2 ^ a) (2 ^ b) ∙ times a b in
      window (2 ^ a) (2 ^ a * (j / 2 ^ a)) (2 ^ (a + b)) leaves (omega (arith, m, u, t))

  module _ (g : 2 ^ (a + b) ≤ j) where
    split : j ≡ (j - 2 ^ (a + b)) + 2 ^ b * 2 ^ a
    split = omega (arith, times a b)

    far : j / 2 ^ a ≡ (j - 2 ^ (a + b)) / 2 ^ a + 2 ^ b
    far = ap (λ (k : ℕ). k / 2 ^ a) split ∙ add-mul-div_right (j - 2 ^ (a + b)) (2 ^ b) (pow_pos a)

    same_rest : (j - 2 ^ (a + b)) % 2 ^ a ≡ j % 2 ^ a
    same_rest = sym (ap (λ (k : ℕ). k % 2 ^ a) split ∙ add-mul-mod_self_right (j - 2 ^ (a + b)) (2 ^ b) (2 ^ a))

    right_subtree : subtree_of a (drop (2 ^ (a + b)) leaves) (j - 2 ^ (a + b)) ≡ subtree_of a leaves j
    unfolding subtree_of
    right_subtree =
        let i = (j - 2 ^ (a + b)) / 2 ^ a in
        let t : 2 ^ a * 2 ^ b ≡ 2 ^ (a + b) = mul_comm (2 ^ a) (2 ^ b) ∙ times a b in
        let m : 2 ^ (a + b) + 2 ^ a * i ≡ 2 ^ a * (i + 2 ^ b) = omega (arith, t) in
        ap (take (2 ^ a)) (drop-drop (2 ^ a * i) (2 ^ (a + b)) leaves ∙ ap (λ (k : ℕ). drop k leaves) (m ∙ ap (λ (k : ℕ). 2 ^ a * k) (sym far)))

module _ (a b : ℕ) (leaves : List (List ℕ)) (j : ℕ) (n : length leaves ≡ 2 ^ (a + suc b)) where
  up : List (List ℕ)
  up = subroots a (suc b) leaves

  low_step : j < 2 ^ (a + b)
      → path_of (a + b) (take (2 ^ (a + b)) leaves) j ≡ path_of a (subtree_of a (take (2 ^ (a + b)) leaves) j) (j % 2 ^ a) ++ path_of b (subroots a b (take (2 ^ (a + b)) leaves)) (j / 2 ^ a)
      → path_of (suc (a + b)) leaves j ≡ path_of a (subtree_of a leaves j) (j % 2 ^ a) ++ path_of (suc b) up (j / 2 ^ a)
  unfolding up
  low_step l ih =
      let p = path_of a (subtree_of a leaves j) (j % 2 ^ a) in
      let r = root_of (a + b) (drop (2 ^ (a + b)) leaves) in
      left_path (a + b) leaves j l
      ∙ ap (λ x. x ++ (r ∷ [])) (ih ∙ ap (λ x. path_of a x (j % 2 ^ a) ++ path_of b (subroots a b (take (2 ^ (a + b)) leaves)) (j / 2 ^ a)) (left_subtree a b leaves j l))
      ∙ append_assoc p (path_of b (subroots a b (take (2 ^ (a + b)) leaves)) (j / 2 ^ a)) (r ∷ [])
      ∙ ap (λ x. p ++ x)
      ((λ i. path_of b (sym (subroots_left a b leaves) i) (j / 2 ^ a)
      ++ ((root_split a b (drop (2 ^ (a + b)) leaves) (right_length a b leaves n) ∙ ap (root_of b) (sym (subroots_right a b leaves))) i ∷ []))
      ∙ sym (left_path b up (j / 2 ^ a) (near a b leaves j l)))

  high_step : (g : 2 ^ (a + b) ≤ j)
      → path_of (a + b) (drop (2 ^ (a + b)) leaves) (j - 2 ^ (a + b))
      ≡ path_of a (subtree_of a (drop (2 ^ (a + b)) leaves) (j - 2 ^ (a + b))) ((j - 2 ^ (a + b)) % 2 ^ a) ++ path_of b (subroots a b (drop (2 ^ (a + b)) leaves)) ((j - 2 ^ (a + b)) / 2 ^ a)
      → path_of (suc (a + b)) leaves j ≡ path_of a (subtree_of a leaves j) (j % 2 ^ a) ++ path_of (suc b) up (j / 2 ^ a)
  unfolding up
  high_step g ih =
      let p = path_of a (subtree_of a leaves j) (j % 2 ^ a) in
      let i = (j - 2 ^ (a + b)) / 2 ^ a in
      let r = root_of (a + b) (take (2 ^ (a + b)) leaves) in
      let q : i ≡ j / 2 ^ a - 2 ^ b = omega (arith, far a b leaves j g) in
      let h : 2 ^ b ≤ j / 2 ^ a = omega (arith, far a b leaves j g) in
      right_path (a + b) leaves j g
      ∙ ap (λ x. x ++ (r ∷ [])) (ih ∙ (λ k. path_of a (right_subtree a b leaves j g k) (same_rest a b leaves j g k) ++ path_of b (subroots a b (drop (2 ^ (a + b)) leaves)) i))
      ∙ append_assoc p (path_of b (subroots a b (drop (2 ^ (a + b)) leaves)) i) (r ∷ [])
      ∙ ap (λ x. p ++ x)
      ((λ k. path_of b (sym (subroots_right a b leaves) k) (q k)
      ++ ((root_split a b (take (2 ^ (a + b)) leaves) (left_length a b leaves n) ∙ ap (root_of b) (sym (subroots_left a b leaves))) k ∷ []))
      ∙ sym (right_path b up (j / 2 ^ a) h))

-- A PATH IS THAT IN THE SUBTREE, THEN THAT OVER THE ROOTS OF THE SUBTREES.
pub path_split : (a b : ℕ) (leaves : List (List ℕ)) (j : ℕ) → length leaves ≡ 2 ^ (a + b) → j < 2 ^ (a + b)
    → path_of (a + b) leaves j ≡ path_of a (subtree_of a leaves j) (j % 2 ^ a) ++ path_of b (subroots a b leaves) (j / 2 ^ a)
unfolding path_of subtree_of subroots up
path_split a zero leaves j n l =
    let z : a + zero ≡ a = omega arith in
    let k : j < 2 ^ a = omega (arith, l, ap (λ (i : ℕ). 2 ^ i) z) in
    let d : 2 ^ a * (j / 2 ^ a) ≡ 0 = ap (λ (i : ℕ). 2 ^ a * i) (div-eq_of_lt k) ∙ omega arith in
    ap (λ (i : ℕ). path_of i leaves j) z
    ∙ (λ i. path_of a (sym (ap (λ (m : ℕ). take (2 ^ a) (drop m leaves)) d ∙ take_all (2 ^ a) leaves (omega (arith, n, ap (λ (i : ℕ). 2 ^ i) z))) i) (sym (mod-eq_of_lt k) i))
    ∙ sym (append-nil (path_of a (take (2 ^ a) (drop (2 ^ a * (j / 2 ^ a)) leaves)) (j % 2 ^ a)))
path_split a (suc b) leaves j n l =
    ap (λ (k : ℕ). path_of k leaves j) (add-suc a b)
    ∙ ⊎_elim (λ k. low_step a b leaves j n k (path_split a b (take (2 ^ (a + b)) leaves) j (left_length a b leaves n) k))
    (λ g. high_step a b leaves j n g (path_split a b (drop (2 ^ (a + b)) leaves) (j - 2 ^ (a + b)) (right_length a b leaves n) (omega (arith, n, whole a b leaves n))))
    (lt_or_le j (2 ^ (a + b)))
