-- A SHEET WITHOUT A FAULT, IN NUMBERS: the exponents of n0, d0 and of each folding number, what the rules leave room for, and how a level follows the one before. It
-- holds no lemma and no proof.
use Rattle.std.specs.Prelude.{ℕ, suc, ◌+◌, ◌-◌, ◌%◌, ◌^◌, ◌≤◌, ◌<◌, ◌≡◌, length, map}
use mathlib.Core.List.{List, [], ◌∷◌}
use Rattle.std.proofs.Math.ListN.{get_or}
use Rattle.definition.specs.Field.{word_count}
use Rattle.definition.specs.Sheet.{Level, Sheet}
use Rattle.layouts.specs.Levels.{degree_of, rounds_of, total}
use Rattle.layouts.specs.SheetRules.{powers_of}

-- a sheet has as many repetition numbers as folding numbers, and some
pub record Paired (h : Sheet) : Type 0 where
  pub some : suc (rounds_of h) ≡ length h.folds
  pub same : length h.repetitions ≡ length h.folds

pub record Lawful (h : Sheet) : Type 0 where
  pub a : ℕ
  pub b : ℕ
  pub cs : List ℕ
  pub size : h.size ≡ 2 ^ suc a
  pub small : h.size ≤ 4096
  pub words : word_count h.spelling h.size ≤ 4096
  pub divides : (h.prime - 1) % h.size ≡ 0
  pub degree : h.degree ≡ 2 ^ b
  pub below : b < suc a
  pub folds : h.folds ≡ powers_of cs
  pub room : total (map suc cs) ≤ b
  pub most : length h.folds ≤ 6
  pub paired : Paired h
  pub outs : h.out_coins ≤ 2
  pub few : (i : ℕ) → i < rounds_of h → get_or h.repetitions i 0 + h.out_coins < degree_of h (suc i)
  pub times : (i : ℕ) → i ≤ rounds_of h → get_or h.repetitions i 0 ≤ 48
  pub once : (i : ℕ) → i ≤ rounds_of h → 1 ≤ get_or h.repetitions i 0

-- from level b to the next level l, with s out coins: fewer points than the next degree bound; l has a number before it; the folding number is even
pub record Step (s : ℕ) (b l : Level) : Type 0 where
  pub few : s + b.repetitions < l.degree
  pub before : ℕ
  pub number : l.number ≡ suc before
  pub half : ℕ
  pub even : b.fold ≡ half + half

-- of all levels
abbrev pub Steps : ℕ → Level → List Level → Type 0
Steps s b [] = Unit {0}
Steps s b (l ∷ ls) = Step s b l × Steps s l ls
