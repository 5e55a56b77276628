-- The words of elements as the loops of the correction see them. Assumes nothing.
use Prim.Native.Nat.{ℕ, ◌+◌, ◌-◌, ◌*◌, ◌/◌, ◌≤◌, ◌<◌}
use native.Mathlib.Omega.{arith}
use native.Mathlib.Nat.{mul_comm, mul-le-mul_right, div-mul-le_self, mul-add}
use mathlib.Core.Path.{◌≡◌, sym, ap, ◌∙◌}
use mathlib.Core.List.{List}
use lib.ListN.{length, take, drop}
use Rattle.correction.proofs.Folding.{chunk_inside}

module _ {E : Type 0} (elements : List ℕ → List E) (width : ℕ) (counted : (w : List ℕ) → length w / width ≡ length (elements w)) where
  pub even : (v w : List ℕ) → length v ≡ length w → length (elements v) ≡ length (elements w)
  even v w e = sym (counted v) ∙ ap (λ (n : ℕ). n / width) e ∙ counted w

  -- the words of the first n elements are there
  pub words_inside : {u : ℕ} → u ≡ width → (w : List ℕ) (n : ℕ) → n ≤ length (elements w) → u * n ≤ length w
  words_inside e w n h =
      let whole : length w / width * width ≤ length w = div-mul-le_self (length w) width in
      let few : n ≤ length w / width = omega (arith, counted w) in
      rw (e, mul_comm width n) (omega (arith, mul-le-mul_right width few))

  -- and those of chunk j - 1, of k elements
  pub chunk_words : {u : ℕ} → u ≡ width → (w : List ℕ) (j k : ℕ) {n : ℕ} → 0 < j → j ≤ n → length (elements w) ≡ k * n → u * ((j - 1) * k) + u * k ≤ length w
  chunk_words {u} e w j k {n} h l m =
      omega (arith, words_inside e w ((j - 1) * k + k) (chunk_inside j k n (length (elements w)) h l m), mul-add u ((j - 1) * k) k)

  module _ (first : (n : ℕ) (w : List ℕ) → elements (take (width * n) w) ≡ take n (elements w)) where
    pub first_part : {u : ℕ} → u ≡ width → (n : ℕ) (w : List ℕ) → elements (take (u * n) w) ≡ take n (elements w)
    first_part e n w = ap (λ (v : ℕ). elements (take (v * n) w)) e ∙ first n w

    -- chunk i
    pub chunk : (behind : (n : ℕ) (w : List ℕ) → elements (drop (width * n) w) ≡ drop n (elements w)) → {u : ℕ} → u ≡ width → (w : List ℕ) (i k : ℕ) →
        elements (take (u * (i * k) + u * k - u * (i * k)) (drop (u * (i * k)) w)) ≡ take (i * k + k - i * k) (drop (i * k) (elements w))
    chunk behind {u} e w i k =
        let m : u * (i * k) + u * k - u * (i * k) ≡ u * k = omega arith in
        let s : i * k + k - i * k ≡ k = omega arith in
        ap (λ (n : ℕ). elements (take n (drop (u * (i * k)) w))) m ∙ first_part e k (drop (u * (i * k)) w)
        ∙ ap (λ (v : ℕ). take k (elements (drop (v * (i * k)) w))) e ∙ ap (take k) (behind (i * k) w) ∙ ap (λ (n : ℕ). take n (drop (i * k) (elements w))) (sym s)
