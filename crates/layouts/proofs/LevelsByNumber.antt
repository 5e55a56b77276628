-- Level i by its number is the level that the sheet's list of levels has there.
use Prim.Native.Nat.{ℕ, zero, suc, ◌+◌, ◌*◌, ◌/◌, ◌^◌, ◌<◌}
use Rattle.std.proofs.Math.Nat
use Rattle.std.proofs.Math.Nat.{div-one, div-div-eq-div-mul, pow-zero}
use Rattle.std.proofs.Common.{pow-suc, arith, ap, ◌∙◌, drop_of_length-le}
use Rattle.std.specs.Prelude.{List, [], ◌∷◌, map, ◌≡◌, length, take, drop}
use Rattle.std.proofs.Math.Path.{refl, sym}
use Rattle.std.proofs.Math.ListN.{get_or}
use Rattle.std.proofs.Math.Seq.{drop-cons}
use Rattle.definition.specs.Lists.{product_of, range}
use Rattle.definition.specs.Sheet.{Level, Sheet, first_level, later_levels, levels_from}
use Rattle.list_laws.specs.Lists.{tail_drop}
use Rattle.layouts.specs.LawfulSheets.{Paired}
use Rattle.layouts.specs.Levels.{degree_of, level_of, rounds_of}

pub halved : (n i : ℕ) → n / 2 ^ i / 2 ≡ n / 2 ^ suc i
halved n i = div-div-eq-div-mul n (2 ^ i) 2 ∙ ap (λ (x : ℕ). n / x) (sym (pow-suc 2 i))

pub undivided : (n : ℕ) → n / 2 ^ 0 ≡ n
undivided n = ap (λ (x : ℕ). n / x) (pow-zero 2) ∙ div-one n

-- the product of one number more
pub product_next : (i : ℕ) (l : List ℕ) → i < length l → product_of (take (suc i) l) ≡ product_of (take i l) * get_or l i 0
unfolding product_of
product_next i [] h = absurd (omega arith)
product_next zero (x ∷ l) h = Nat.mul_comm x 1
product_next (suc i) (x ∷ l) h = ap (λ (y : ℕ). x * y) (product_next i l (omega arith)) ∙ sym (Nat.mul_assoc x (product_of (take i l)) (get_or l i 0))

module _ (h : Sheet) where
  pub folded : (i : ℕ) → i < length h.folds → degree_of h i / get_or h.folds i 0 ≡ degree_of h (suc i)
  folded i l = div-div-eq-div-mul h.degree (product_of (take i h.folds)) (get_or h.folds i 0) ∙ ap (λ (x : ℕ). h.degree / x) (sym (product_next i h.folds l))

  pub undivided_degree : degree_of h 0 ≡ h.degree
  unfolding product_of
  undivided_degree = div-one h.degree

  -- m levels from number i on
  levels_from_lem : (m i n d : ℕ) → Paired h → i + m ≡ length h.folds → n ≡ h.size / 2 ^ i → d ≡ degree_of h i →
      levels_from i n d (drop i h.folds) (drop i h.repetitions) ≡ map (level_of h) (range i m)
  unfolding levels_from range
  levels_from_lem zero i n d p e en ed = rw (drop_of_length-le h.folds {i = i} (omega arith))
  levels_from_lem (suc m) i n d p e en ed =
      rw (drop-cons h.folds i 0 (omega arith), drop-cons h.repetitions i 0 (omega (arith, p.same)))
      (λ x. record { number = i; size = en x; degree = ed x; fold = get_or h.folds i 0; repetitions = get_or h.repetitions i 0 }
      ∷ levels_from_lem m (suc i) (n / 2) (d / get_or h.folds i 0) p (omega arith)
      (ap (λ (y : ℕ). y / 2) en ∙ halved h.size i) (ap (λ (y : ℕ). y / get_or h.folds i 0) ed ∙ folded i (omega arith)) x)

  pub level_first : first_level h ≡ level_of h 0
  unfolding first_level
  level_first = λ x. record {
    number = 0;
    size = sym (undivided h.size) x;
    degree = sym undivided_degree x;
    fold = get_or h.folds 0 0;
    repetitions = get_or h.repetitions 0 0;
  }

  pub levels_later : Paired h → later_levels h ≡ map (level_of h) (range 1 (rounds_of h))
  unfolding later_levels
  levels_later p =
      rw (tail_drop 0 h.folds, tail_drop 0 h.repetitions)
      (levels_from_lem (rounds_of h) 1 (h.size / 2) (h.degree / get_or h.folds 0 0) p (omega (arith, p.some)) refl
      (ap (λ (x : ℕ). x / get_or h.folds 0 0) (sym undivided_degree) ∙ folded 0 (omega (arith, p.some))))

  -- what holds of the levels by number holds of the levels as the sheet lists them
  pub as_listed : (P : Level → List Level → Type 0) → Paired h → P (level_of h 0) (map (level_of h) (range 1 (rounds_of h))) → P (first_level h) (later_levels h)
  as_listed P l p = rw (level_first, levels_later l) p
