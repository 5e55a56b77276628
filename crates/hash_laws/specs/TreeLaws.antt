-- The path of an entry leads to the table's root.
use Rattle.std.specs.Prelude.{ℕ, zero, suc, ◌+◌, ◌-◌, ◌*◌, ◌/◌, ◌^◌, ◌≤◌, ◌<◌, ◌≡◌, refl, ◌⊎◌, List, [], ◌∷◌, ◌++◌, get_or, take, drop}
use Rattle.std.proofs.Common.{pow-suc, div-one, eq-zero-or-pos, arith, sym, ◌∙◌, inl, inr, ⊎_elim, length-append, shr-shr, get_or-take, get_or-drop, lt-ltb, le-ltb}
use Rattle.std.proofs.Math.Nat.{div-eq_of_lt}
use Rattle.std.proofs.Math.Path.{ap}
use Rattle.std.proofs.Math.Arith.{lt-one}
use Rattle.std.specs.Int.Bits.{block_half, block_odd}
use Rattle.std.proofs.Math.ListN.{length}
use Rattle.std.proofs.Math.Pow.{high}
use Rattle.hashing.specs.Tree.{node_of, root_of, path_of, parent_of, climb}

pub lt_or_le : (i h : ℕ) → (i < h) ⊎ (h ≤ i)
lt_or_le i h = ⊎_elim (λ z. inr (omega arith)) (λ z. inl (omega arith)) (eq-zero-or-pos (h - i))

-- the path of a leaf in the left half, and in the right
module _ (h : ℕ) (leaves : List (List ℕ)) (j : ℕ) where
  pub left_path : j < 2 ^ h → path_of (suc h) leaves j ≡ path_of h (take (2 ^ h) leaves) j ++ (root_of h (drop (2 ^ h) leaves) ∷ [])
  unfolding path_of
  left_path l = rw (lt-ltb j (2 ^ h) l)

  pub right_path : 2 ^ h ≤ j → path_of (suc h) leaves j ≡ path_of h (drop (2 ^ h) leaves) (j - 2 ^ h) ++ (root_of h (take (2 ^ h) leaves) ∷ [])
  unfolding path_of
  right_path l = rw (le-ltb j (2 ^ h) l)

  longer : length (path_of h (take (2 ^ h) leaves) j) ≡ h → length (path_of h (drop (2 ^ h) leaves) (j - 2 ^ h)) ≡ h → length (path_of (suc h) leaves j) ≡ suc h
  longer a b =
      ⊎_elim
      (λ l. ap length (left_path l) ∙ length-append (path_of h (take (2 ^ h) leaves) j) (root_of h (drop (2 ^ h) leaves) ∷ []) ∙ omega (arith, a))
      (λ l. ap length (right_path l) ∙ length-append (path_of h (drop (2 ^ h) leaves) (j - 2 ^ h)) (root_of h (take (2 ^ h) leaves) ∷ []) ∙ omega (arith, b))
      (lt_or_le j (2 ^ h))

pub path_length : (h : ℕ) (leaves : List (List ℕ)) (j : ℕ) → length (path_of h leaves j) ≡ h
unfolding path_of
path_length zero leaves j = refl
path_length (suc h) leaves j = longer h leaves j (path_length h (take (2 ^ h) leaves) j) (path_length h (drop (2 ^ h) leaves) (j - 2 ^ h))

-- a path's last step
pub climb_end : (x : List ℕ) (j : ℕ) (p : List (List ℕ)) (s : List ℕ) → climb x j (p ++ (s ∷ [])) ≡ parent_of (climb x j p) (j / 2 ^ length p) s
unfolding climb
climb_end x j [] s = ap (λ (n : ℕ). parent_of x n s) (sym (div-one j))
climb_end x j (t ∷ p) s =
    let e : 1 + length p ≡ suc (length p) = omega arith in
    climb_end (parent_of x j t) (j / 2) p s
    ∙ ap (λ (n : ℕ). parent_of (climb (parent_of x j t) (j / 2) p) n s) (shr-shr j 1 (length p) ∙ ap (λ (n : ℕ). j / 2 ^ n) e)

-- only the low digits of the number count
pub climb_low : (x : List ℕ) (i q : ℕ) (p : List (List ℕ)) → climb x (q * 2 ^ length p + i) p ≡ climb x i p
unfolding climb parent_of
climb_low x i q [] = refl
climb_low x i q (t ∷ p) =
    rw (block_odd q (length p) i, block_half q (length p) i) (climb_low (parent_of x i t) (i / 2) q p)

-- the last step, at the two ends of a parent
module _ (x : List ℕ) (i : ℕ) (p : List (List ℕ)) (s : List ℕ) where
  climb_left : i < 2 ^ length p → climb x i (p ++ (s ∷ [])) ≡ node_of (climb x i p) s
  unfolding parent_of
  climb_left l = climb_end x i p s ∙ ap (λ (n : ℕ). parent_of (climb x i p) n s) (div-eq_of_lt l)

  climb_right : i < 2 ^ length p → climb x (1 * 2 ^ length p + i) (p ++ (s ∷ [])) ≡ node_of s (climb x i p)
  unfolding parent_of
  climb_right l =
      climb_end x (1 * 2 ^ length p + i) p s
      ∙ ap (λ (n : ℕ). parent_of (climb x (1 * 2 ^ length p + i) p) n s) (high 1 (length p) l)
      ∙ ap (node_of s) (climb_low x i 1 p)

in_left : (h : ℕ) (leaves : List (List ℕ)) (j : ℕ)
    → (j < 2 ^ h → climb (get_or (take (2 ^ h) leaves) j []) j (path_of h (take (2 ^ h) leaves) j) ≡ root_of h (take (2 ^ h) leaves))
    → j < 2 ^ h → climb (get_or leaves j []) j (path_of (suc h) leaves j) ≡ root_of (suc h) leaves
unfolding root_of
in_left h leaves j ih l =
    let p = path_of h (take (2 ^ h) leaves) j in
    let n : length p ≡ h = path_length h (take (2 ^ h) leaves) j in
    let b : j < 2 ^ length p = rw n l in
    ap (climb (get_or leaves j []) j) (left_path h leaves j l)
    ∙ climb_left (get_or leaves j []) j p (root_of h (drop (2 ^ h) leaves)) b
    ∙ ap (λ (x : List ℕ). node_of (climb x j p) (root_of h (drop (2 ^ h) leaves))) (sym (get_or-take (2 ^ h) leaves j [] l))
    ∙ ap (λ (x : List ℕ). node_of x (root_of h (drop (2 ^ h) leaves))) (ih l)

in_right : (h : ℕ) (leaves : List (List ℕ)) (j : ℕ) → j < 2 ^ suc h
    → (j - 2 ^ h < 2 ^ h → climb (get_or (drop (2 ^ h) leaves) (j - 2 ^ h) []) (j - 2 ^ h) (path_of h (drop (2 ^ h) leaves) (j - 2 ^ h)) ≡ root_of h (drop (2 ^ h) leaves))
    → 2 ^ h ≤ j → climb (get_or leaves j []) j (path_of (suc h) leaves j) ≡ root_of (suc h) leaves
unfolding root_of
in_right h leaves j r ih l =
    let i = j - 2 ^ h in
    let p = path_of h (drop (2 ^ h) leaves) i in
    let n : length p ≡ h = path_length h (drop (2 ^ h) leaves) i in
    let b : i < 2 ^ h = omega (arith, pow-suc 2 h) in
    let c : i < 2 ^ length p = rw n b in
    let e : j ≡ 1 * 2 ^ length p + i = rw n (omega arith) in
    let f : 2 ^ h + i ≡ j = omega arith in
    ap (climb (get_or leaves j []) j) (right_path h leaves j l)
    ∙ ap (λ (m : ℕ). climb (get_or leaves j []) m (p ++ (root_of h (take (2 ^ h) leaves) ∷ []))) e
    ∙ climb_right (get_or leaves j []) i p (root_of h (take (2 ^ h) leaves)) c
    ∙ ap (λ (x : List ℕ). node_of (root_of h (take (2 ^ h) leaves)) (climb x i p)) (sym (get_or-drop (2 ^ h) leaves i [] ∙ ap (λ (m : ℕ). get_or leaves m []) f))
    ∙ ap (node_of (root_of h (take (2 ^ h) leaves))) (ih b)

-- THE PATH OF EACH LEAF LEADS TO THE ROOT.
pub path_leads : (h : ℕ) (leaves : List (List ℕ)) (j : ℕ) → j < 2 ^ h → climb (get_or leaves j []) j (path_of h leaves j) ≡ root_of h leaves
unfolding path_of root_of climb
path_leads zero leaves j l = ap (λ (n : ℕ). get_or leaves n []) (lt-one l)
path_leads (suc h) leaves j l =
    ⊎_elim (in_left h leaves j (path_leads h (take (2 ^ h) leaves) j)) (in_right h leaves j l (path_leads h (drop (2 ^ h) leaves) (j - 2 ^ h))) (lt_or_le j (2 ^ h))
