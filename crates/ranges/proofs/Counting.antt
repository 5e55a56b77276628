-- The counts of a round, as the code works them out.
use Prim.Native.Nat.{ℕ, zero, suc, ◌+◌, ◌-◌, ◌*◌, ◌/◌, ◌≤◌, ◌<◌}
use native.Mathlib.Nat.{div-le_self}
use native.Mathlib.Numerals.{add-one}
use native.Mathlib.Omega.{arith}
use mathlib.Core.Path.{◌≡◌, refl, sym, ap, ◌∙◌}
use mathlib.Core.Bool.{Bool, true, false}
use mathlib.Core.List.{List}
use lib.ListN.{get_or, take}
use Rattle.definition.specs.Lists.{product_of}
use Rattle.definition.specs.Sheet.{Edition, fold_words}
use Rattle.edition.specs.Places
use borrow.Author.Tests.{lt-ltb, le-ltb}
use Rattle.ranges.specs.Rounds.{degree_at, divided, element_count, index_count, index_limit}

pub divided_none : (x b : ℕ) → x ≡ divided x b 0
unfolding divided
divided_none x b = refl

pub divided_next : {q : ℕ} (x b n : ℕ) → q ≡ divided x b n → q / b ≡ divided x b (n + 1)
unfolding divided
divided_next x b n e = rw (add-one n) (ap (λ (y : ℕ). y / b) e)

pub divided_most : (x b n : ℕ) → divided x b n ≤ x
unfolding divided
divided_most x b zero = omega arith
divided_most x b (suc n) = omega (arith, divided_most x b n, div-le_self (divided x b n) b)

-- d0 over the first folding numbers, divided by one after the other
pub degree_over : (ed : Edition) (w : List ℕ) (i : ℕ) → i ≤ 6 → get_or w 2 0 / product_of (take i (fold_words ed w)) ≡ degree_at ed w i
unfolding degree_at
degree_over ed w zero l = sym (Places.degree_none ed w)
degree_over ed w (suc i) l =
    ap (λ (n : ℕ). get_or w 2 0 / product_of (take n (fold_words ed w))) (sym (add-one i))
    ∙ sym (Places.degree_next ed w i {d = degree_at ed w i} (omega arith) (sym (degree_over ed w i (omega arith))) refl)

module _ (ed : Edition) (w : List ℕ) where
  -- round 0
  pub first_elements : {n : ℕ} (round : ℕ) → round ≡ 0 → n ≡ get_or w 1 0 → n + 1 ≡ element_count false ed w round
  unfolding element_count
  first_elements round z e = rw (z, e)

  pub no_indices : (round : ℕ) → round ≡ 0 → 0 ≡ index_count w round
  unfolding index_count
  no_indices round z = rw z

  pub no_limit : (round : ℕ) → round ≡ 0 → 0 ≡ index_limit ed w round
  unfolding index_limit
  no_limit round z = rw z

  -- a round from 1 to M
  pub round_elements : {m x n s : ℕ} (round : ℕ) → (round ≡ 0 → ⊥) → m ≡ get_or w 4 0 → round ≤ m → x ≡ get_or w 1 0 → n ≡ divided x 2 round → s ≡ get_or w 5 0 →
      n + 2 * s + 2 ≡ element_count false ed w round
  unfolding element_count
  round_elements zero h em l ex en es = absurd (h refl)
  round_elements (suc i) h em l ex en es = rw (lt-ltb i (get_or w 4 0) (rw em at l), en, ex, es)

  -- round M + 1
  pub final_elements : {m d : ℕ} (round : ℕ) → (round ≡ 0 → ⊥) → m ≡ get_or w 4 0 → m < round → d ≡ degree_at ed w round → d ≡ element_count false ed w round
  unfolding element_count
  final_elements zero h em l e = absurd (h refl)
  final_elements (suc i) h em l e = rw (le-ltb i (get_or w 4 0) (omega arith)) e

  -- the coins of these rounds
  pub first_coin : (round : ℕ) → round ≡ 0 → 1 ≡ element_count true ed w round
  unfolding element_count
  first_coin round z = rw z

  pub round_coins_lem : {m s : ℕ} (round : ℕ) → (round ≡ 0 → ⊥) → m ≡ get_or w 4 0 → round ≤ m → s ≡ get_or w 5 0 → s + 2 ≡ element_count true ed w round
  unfolding element_count
  round_coins_lem zero h em l es = absurd (h refl)
  round_coins_lem (suc i) h em l es = rw (lt-ltb i (get_or w 4 0) (rw em at l), es)

  pub final_coins : {m : ℕ} (round : ℕ) → (round ≡ 0 → ⊥) → m ≡ get_or w 4 0 → m < round → 0 ≡ element_count true ed w round
  unfolding element_count
  final_coins zero h em l = absurd (h refl)
  final_coins (suc i) h em l = rw (le-ltb i (get_or w 4 0) (omega arith))

  -- which of the two is counted
  pub counted_as : {alone b : Bool} {n : ℕ} (round : ℕ) → alone ≡ b → n ≡ element_count b ed w round → n ≡ element_count alone ed w round
  counted_as round e h = rw e h

  -- any round but round 0
  pub some_indices : {t : ℕ} (round : ℕ) → (round ≡ 0 → ⊥) → t ≡ get_or w (5 + round) 0 → t ≡ index_count w round
  unfolding index_count
  some_indices zero h e = absurd (h refl)
  some_indices (suc i) h e = let here : 5 + suc i ≡ 6 + i = omega arith in e ∙ ap (λ (j : ℕ). get_or w j 0) here

  pub some_limit : {x n k : ℕ} (round : ℕ) → (round ≡ 0 → ⊥) → x ≡ get_or w 1 0 → n ≡ divided x 2 (round - 1) → k ≡ get_or (fold_words ed w) (round - 1) 0 → n / k ≡ index_limit ed w round
  unfolding index_limit
  some_limit zero h ex en ek = absurd (h refl)
  some_limit (suc i) h ex en ek = let here : suc i - 1 ≡ i = omega arith in rw (en, ex, ek, here)
