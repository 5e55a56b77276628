-- A sheet of either edition, laid over the places before a stream's body: laws over plain lists.
use Rattle.std.specs.Prelude.{ℕ, ◌+◌, ◌-◌, ◌≤◌, ◌<◌, List, [], ◌∷◌, ◌++◌, ◌≡◌, take, set, replicate}
use Rattle.std.proofs.Math.Decide.{dec_lt}
use native.Mathlib.Omega.{arith}
use Rattle.std.proofs.Common.{append_assoc, sym, ◌∙◌, length-drop, length-take, drop_at, take-add}
use Rattle.std.proofs.Math.Path.{ap}
use Rattle.std.proofs.Math.ListN.{length, get_or, drop, length-append, get_or-append}
use Rattle.std.proofs.lemmas.List.{get_or-replicate, length-replicate}
use Rattle.std.proofs.Math.Seq.{get_or-append-add, get_or-drop, get_or-take, length-take-le, paste}
use Rattle.definition.specs.Convert.{spread}
use Rattle.list_laws.specs.Overwriting.{overwrite, overwrite_before, overwrite_join, overwrite_store}

-- ---- a copy within a list

-- the words from number `from` on are laid over those from number `to` on
pub copied : (l : List ℕ) (from to count : ℕ) → from + count ≤ length l → paste l to (drop from l) count ≡ overwrite l to (take count (drop from l))
unfolding overwrite
copied l from to count inside =
    let long : length (take count (drop from l)) ≡ count = length-take-le count (drop from l) (simp length-drop (omega arith)) in
    rw long

-- a word past what was put there, or before it, stays
module _ (l : List ℕ) (at : ℕ) (q : List ℕ) (inside : at ≤ length l) where
  past : (n : ℕ) → at + length q ≤ n → get_or (overwrite l at q) n 0 ≡ get_or l n 0
  unfolding overwrite
  past n h =
      let m = at + length q in
      let long : length (take at l ++ q) ≡ m = simp (length-append, length-take) (omega arith) in
      let e : n ≡ length (take at l ++ q) + (n - m) = omega (arith, long) in
      let f : m + (n - m) ≡ n = omega arith in
      ap (λ (x : ℕ). get_or (take at l ++ q ++ drop m l) x 0) e ∙ get_or-append-add (take at l ++ q) (drop m l) (n - m) 0 ∙ get_or-drop m l (n - m) 0 ∙ ap (λ (x : ℕ). get_or l x 0) f

  before : (n : ℕ) → n < at → get_or (overwrite l at q) n 0 ≡ get_or l n 0
  unfolding overwrite
  before n h =
      let long : length (take at l) ≡ at = length-take-le at l inside in
      get_or-append (take at l ++ q) _ 0 n (simp length-append (omega arith)) ∙ get_or-append (take at l) q 0 n (omega arith) ∙ get_or-take at l n 0 h

-- the word to copy next, where i words are copied down, or up past all of them
pub next_word : (l : List ℕ) (from to count i : ℕ) → from + count ≤ length l → to + count ≤ length l → (from < to → from + count ≤ to) → i < count →
    get_or (overwrite l to (take i (take count (drop from l)))) (from + i) 0 ≡ get_or (take count (drop from l)) i 0
next_word l from to count i a b apart h = go (dec_lt from to)
  where
    q : List ℕ
    q = take i (take count (drop from l))

    long : length q ≡ i
    long = length-take-le i (take count (drop from l)) (simp (length-take, length-drop) (omega arith))

    here : get_or l (from + i) 0 ≡ get_or (take count (drop from l)) i 0
    here = sym (get_or-take count (drop from l) i 0 h ∙ get_or-drop from l i 0)

    go : Dec (from < to) → get_or (overwrite l to q) (from + i) 0 ≡ get_or (take count (drop from l)) i 0
    go (yes up) = let e = apart up in before l to q (omega arith) (from + i) (omega arith) ∙ here
    go (no down) = past l to q (omega arith) (from + i) (omega (arith, long)) ∙ here

-- ---- the sheet of edition 2

-- k_1 to k_5, of words 4 and 3
unfoldable pub later_folds : ℕ → ℕ → List ℕ
later_folds m k = take 5 (replicate m k ++ replicate 5 0)

pub later_long : (m k : ℕ) → length (later_folds m k) ≡ 5
unfolding later_folds
later_long m k = length-take-le 5 (replicate m k ++ replicate 5 0) (simp (length-append, length-replicate) (omega arith))

pub later_used : (m k j : ℕ) → j < 5 → j < m → k ≡ get_or (later_folds m k) j 0
unfolding later_folds
later_used m k j l h =
    sym (get_or-take 5 (replicate m k ++ replicate 5 0) j 0 l ∙ get_or-append (replicate m k) (replicate 5 0) 0 j (simp length-replicate (omega arith)) ∙ get_or-replicate m j k 0 h)

pub later_unused : (m k j : ℕ) → j < 5 → m ≤ j → 0 ≡ get_or (later_folds m k) j 0
unfolding later_folds
later_unused m k j l h =
    let e : j ≡ length (replicate m k) + (j - m) = omega (arith, length-replicate m k) in
    sym (get_or-take 5 (replicate m k ++ replicate 5 0) j 0 l ∙ ap (λ (n : ℕ). get_or (replicate m k ++ replicate 5 0) n 0) e
    ∙ get_or-append-add (replicate m k) (replicate 5 0) (j - m) 0 ∙ get_or-replicate 5 (j - m) 0 0 (omega arith))

-- words 0 to 11 copied down from place 6, then k_1 to k_5, then the edition's number
pub spread_laid : (l : List ℕ) {l₁ l₂ : List ℕ} → 18 ≤ length l → l₁ ≡ overwrite l 0 (take 12 (drop 6 l)) → l₂ ≡ overwrite l₁ 12 (later_folds (get_or l₁ 4 0) (get_or l₁ 3 0)) →
    set l₂ 17 2 ≡ spread (drop 6 l) ++ drop 18 l
unfolding overwrite spread later_folds
spread_laid l {l₁} {l₂} long e f =
    let w = drop 6 l in
    let q = take 12 w in
    let p = later_folds (get_or w 4 0) (get_or w 3 0) in
    let n : length q ≡ 12 = length-take-le 12 w (simp length-drop (omega arith)) in
    let at : (j : ℕ) → j < 12 → get_or l₁ j 0 ≡ get_or w j 0 = λ j h. ap (λ (x : List ℕ). get_or x j 0) e ∙ get_or-append q _ 0 j (omega arith) ∙ get_or-take 12 w j 0 h in
    let twelve : 12 ≡ 0 + length q = omega (arith, n) in
    let both : l₂ ≡ overwrite l 0 (q ++ p) =
    f ∙ (λ i. overwrite (e i) (twelve i) (later_folds (at 4 (omega arith) i) (at 3 (omega arith) i))) ∙ overwrite_join l 0 q (omega arith) p in
    let m : length (q ++ p) ≡ 17 = length-append q p ∙ (λ i. n i + later_long (get_or w 4 0) (get_or w 3 0) i) in
    let seventeen : 17 ≡ 0 + length (q ++ p) = omega (arith, m) in
    let whole : 0 + length ((q ++ p) ++ (2 ∷ [])) ≡ 18 = omega (arith, length-append (q ++ p) (2 ∷ []), m) in
    (λ i. set (both i) (seventeen i) 2) ∙ overwrite_store l 0 (q ++ p) (omega arith) 2 (omega (arith, m))
    ∙ (λ i. append_assoc q p (2 ∷ []) i ++ drop (whole i) l)

-- ---- the sheet of edition 1

-- words 6 to 11 copied up to place 12, then words 0 to 5 to place 6
pub cut_laid : (l : List ℕ) {l₁ l₂ : List ℕ} → 18 ≤ length l → l₁ ≡ overwrite l 12 (take 6 (drop 6 l)) → l₂ ≡ overwrite l₁ 6 (take 6 (drop 0 l₁)) →
    drop 6 l₂ ≡ take 12 l ++ drop 18 l
unfolding overwrite
cut_laid l {l₁} {l₂} long e f =
    let a = take 6 (drop 6 l) in
    let na : length a ≡ 6 = length-take-le 6 (drop 6 l) (simp length-drop (omega arith)) in
    let first : take 6 l₁ ≡ take 6 l = ap (take 6) e ∙ overwrite_before l 12 a (omega arith) 6 (omega arith) in
    let nf : length (take 6 l₁) ≡ 6 = ap length first ∙ length-take-le 6 l (omega arith) in
    let later : drop 12 l₁ ≡ a ++ drop 18 l =
    ap (drop 12) (e ∙ append_assoc (take 12 l) a _) ∙ drop_at (take 12 l) _ 12 (length-take-le 12 l (omega arith)) ∙ ap (λ (n : ℕ). a ++ drop n l) (ap (λ (n : ℕ). 12 + n) na) in
    ap (drop 6) (f ∙ append_assoc (take 6 l₁) (take 6 l₁) _) ∙ drop_at (take 6 l₁) _ 6 nf ∙ ap (λ (n : ℕ). take 6 l₁ ++ drop n l₁) (ap (λ (n : ℕ). 6 + n) nf)
    ∙ (λ i. first i ++ later i) ∙ sym (append_assoc (take 6 l) a (drop 18 l)) ∙ ap (λ (x : List ℕ). x ++ drop 18 l) (sym (take-add 6 6 l))
