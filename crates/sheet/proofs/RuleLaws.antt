-- The rules of the sheet, as the code tests them, over plain numbers and lists. Assumes nothing.
use Prim.Native.Nat.{ℕ, zero, suc, ◌+◌, ◌-◌, ◌*◌, ◌/◌, ◌^◌, ◌≤◌, ◌<◌}
use native.Mathlib.Numerals.{add-one}
use native.Mathlib.Omega.{arith}
use mathlib.Core.Path.{◌≡◌, refl, sym, ap, ◌∙◌}
use mathlib.Core.Bool.{Bool, true, false, not, cond, ◌&&◌}
use mathlib.Core.List.{List}
use lib.Count.{ones}
use lib.Dec.{eqb, ltb, leb}
use lib.ListN.{get_or, take}
use lib.Pow.{pow_mono, pow-lt}
use borrow.Author.Tests.{leb-true, leb-false, ltb-false, le-leb, lt-leb, lt-ltb, le-ltb, eq-eqb, ne_eqb, not-true, not-false}
use Rattle.algebra.specs.ModularArithmetic.{pow_pow}
use Rattle.list_laws.specs.Booleans.{and_true}
use Rattle.layouts.specs.SheetRules.{between_true}
use Rattle.definition.specs.Field.{prime_of, spelling_of}
use Rattle.definition.specs.Lists.{product_of}
use Rattle.definition.specs.Sheet.{Edition, between, degree_rule, edition1, edition2, fold_words, largest_size, out_coins_rule, power_of_two, repetitions_rule, rounds_rule}
use Rattle.edition.specs.declared.Edition as code
use Rattle.edition.specs.declared.Edition.TheVariants.{One, Two}
use Rattle.edition.specs.Meaning.{edition_of}
use Rattle.sizes.specs.OneBit.{power_one_bit}
use Rattle.sizes.specs.Degrees.{DegreeAt}

-- what a call's answer b says of the test t that it stands for, where the code asks for `not b`
pub failed : {b t : Bool} → b ≡ t → not b ≡ true → t ≡ false
failed {b} e h = sym e ∙ not-true b h

pub held : {b t : Bool} → b ≡ t → not b ≡ false → t ≡ true
held {b} e h = sym e ∙ not-false b h

-- the field of number 2 and above
pub other_prime : (field : ℕ) → (field ≡ 0 → ⊥) → (field ≡ 1 → ⊥) → 2013265920 ≡ prime_of field - 1
unfolding prime_of
other_prime zero h k = absurd (h refl)
other_prime (suc zero) h k = absurd (k refl)
other_prime (suc (suc field)) h k = refl

-- the largest n0 by the field's number
pub largest_of_three : (field : ℕ) → field ≡ 3 → 1024 ≡ largest_size (spelling_of field)
unfolding spelling_of largest_size
largest_of_three field e = rw (eq-eqb field 3 e)

pub largest_of_one : (field : ℕ) → (field ≡ 3 → ⊥) → 4096 ≡ largest_size (spelling_of field)
unfolding spelling_of largest_size
largest_of_one field e = rw (ne_eqb field 3 e)

pub up_to : (n : ℕ) {b : Bool} {x y : ℕ} → b ≡ between 4 x n → x ≡ y → b ≡ between 4 y n
up_to n e q = e ∙ ap (λ (m : ℕ). between 4 m n) q

-- what the rules of d0 and s leave
pub degree_one_bit : (w : List ℕ) → degree_rule w ≡ true → ones (get_or w 2 0) ≡ 1
unfolding degree_rule
degree_one_bit w e = power_one_bit (get_or w 2 0) (and_true (power_of_two (get_or w 2 0)) _ e).0

pub out_coins_small : (w : List ℕ) → out_coins_rule w ≡ true → get_or w 5 0 ≤ 2
unfolding out_coins_rule
out_coins_small w e = (between_true 1 2 (get_or w 5 0) e).1

-- powers are compared by their logarithms
compare_logs : (x y : ℕ) → leb x y ≡ leb (2 ^ x) (2 ^ y)
compare_logs x y = go (leb x y) refl
  where
    go : (b : Bool) → leb x y ≡ b → b ≡ leb (2 ^ x) (2 ^ y)
    go true e = sym (le-leb (2 ^ x) (2 ^ y) (pow_mono (leb-true x y e)))
    go false e = sym (lt-leb (2 ^ x) (2 ^ y) (pow-lt (leb-false x y e)))

-- M: too many rounds, and up to 5 rounds in either edition
pub too_many_rounds : (ed : Edition) (w : List ℕ) → 5 < get_or w 4 0 → false ≡ rounds_rule ed w
unfolding rounds_rule
too_many_rounds edition1 w h = simp (lt-leb (get_or w 4 0) 5 h)
too_many_rounds edition2 w h = simp (lt-leb (get_or w 4 0) 5 h)

pub rounds_by_logs : (e : code.Edition) (w : List ℕ) (a b : ℕ) → e ≡ One → get_or w 4 0 ≤ 5 → get_or w 3 0 ≡ 2 ^ a → get_or w 2 0 ≡ 2 ^ b →
    leb (a * (get_or w 4 0 + 1)) b ≡ rounds_rule (edition_of e) w
unfolding rounds_rule edition_of
rounds_by_logs e w a b q h ek ed =
    let m = get_or w 4 0 in
    let ep : 2 ^ (a * (m + 1)) ≡ get_or w 3 0 ^ suc m = ap (λ (x : ℕ). 2 ^ (a * x)) (add-one m) ∙ sym (pow_pow 2 a (suc m)) ∙ ap (λ (x : ℕ). x ^ suc m) (sym ek) in
    compare_logs (a * (m + 1)) b ∙ (λ i. leb (ep i) (sym ed i)) ∙ sym (rw q (simp (le-leb m 5 h)))

pub rounds_in_two : (e : code.Edition) (w : List ℕ) → e ≡ Two → get_or w 4 0 ≤ 5 → true ≡ rounds_rule (edition_of e) w
unfolding rounds_rule edition_of
rounds_in_two e w q h = sym (rw q (le-leb (get_or w 4 0) 5 h))

-- t_i: past M, out of 1 to 48, at M, before M
module _ (ed : Edition) (w : List ℕ) (i : ℕ) where
  pub past_last : get_or w 4 0 < i → eqb (get_or w (6 + i) 0) 0 ≡ repetitions_rule ed w i
  unfolding repetitions_rule
  past_last h = simp (le-ltb i (get_or w 4 0) (omega arith), ne_eqb i (get_or w 4 0) (λ e. omega arith))

  pub at_last : i ≡ get_or w 4 0 → between 1 48 (get_or w (6 + i) 0) ≡ true → true ≡ repetitions_rule ed w i
  unfolding repetitions_rule
  at_last e h = simp (le-ltb i (get_or w 4 0) (omega arith), eq-eqb i (get_or w 4 0) e, h)

  pub before_last : (next : ℕ) → i ≤ get_or w 4 0 → (i ≡ get_or w 4 0 → ⊥) → between 1 48 (get_or w (6 + i) 0) ≡ true → DegreeAt ed w (i + 1) next →
      ltb (get_or w (6 + i) 0 + get_or w 5 0) next ≡ repetitions_rule ed w i
  unfolding repetitions_rule
  before_last next l n h d =
      let less : i < get_or w 4 0 = omega arith in
      let e : next ≡ get_or w 2 0 / product_of (take (suc i) (fold_words ed w)) =
      d.degree (omega arith) ∙ ap (λ (x : ℕ). get_or w 2 0 / product_of (take x (fold_words ed w))) (add-one i) in
      ap (ltb (get_or w (6 + i) 0 + get_or w 5 0)) e ∙ simp (lt-ltb i (get_or w 4 0) less, h)

  pub out_of_range_lem : i ≤ get_or w 4 0 → between 1 48 (get_or w (6 + i) 0) ≡ false → false ≡ repetitions_rule ed w i
  unfolding repetitions_rule
  out_of_range_lem l h = go (ltb i (get_or w 4 0)) refl
    where
      go : (b : Bool) → ltb i (get_or w 4 0) ≡ b → false ≡ cond b
          (between 1 48 (get_or w (6 + i) 0) && ltb (get_or w (6 + i) 0 + get_or w 5 0) (get_or w 2 0 / product_of (take (suc i) (fold_words ed w))))
          (cond (eqb i (get_or w 4 0)) (between 1 48 (get_or w (6 + i) 0)) (eqb (get_or w (6 + i) 0) 0))
      go true e = simp h
      go false e = let z : i ≡ get_or w 4 0 = omega (arith, ltb-false i (get_or w 4 0) e) in simp (eq-eqb i (get_or w 4 0) z, h)
