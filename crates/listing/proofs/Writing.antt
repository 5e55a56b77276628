-- Texts written one after the other: the points of a line, a line, the lines.
use Prim.Native.Nat.{ℕ, suc, ◌+◌, ◌-◌, ◌*◌, ◌/◌, ◌^◌, ◌≤◌, ◌<◌}
use native.Mathlib.Nat.{pow-suc}
use native.Mathlib.Omega.{arith}
use mathlib.Core.List.{List, [], ◌∷◌, ◌++◌, append_assoc, append-nil, flat_map}
use mathlib.Core.Path.{◌≡◌, sym, ap, ◌∙◌}
use lib.ListN.{length, get_or}
use lib.Pow.{pow_mono, pow_pos}
use Rattle.definition.specs.Lists.{range}
use Rattle.listing.specs.Listing.{head_text, point_text, points_line}
use Rattle.listing.specs.Table.{line_at, lines_from, points_from}

-- a text written behind another; what is left is the text that follows it
pub written_next : (before piece rest : List ℕ) {left after whole : List ℕ} → after ≡ before ++ piece → left ≡ piece ++ rest → before ++ left ≡ whole → after ++ rest ≡ whole
written_next before piece rest a e w = ap (λ (xs : List ℕ). xs ++ rest) a ∙ append_assoc before piece rest ∙ ap (λ (xs : List ℕ). before ++ xs) (sym e) ∙ w

-- nothing is left
pub written_all : {after left whole : List ℕ} → left ≡ [] → after ++ left ≡ whole → after ≡ whole
written_all {after} e w = sym (append-nil after) ∙ ap (λ (xs : List ℕ). after ++ xs) (sym e) ∙ w

module _ (pw : List ℕ) where
  pub points_next : (scale j count : ℕ) → j < count →
      flat_map point_text (points_from pw scale j (count - j)) ≡ point_text (get_or pw (scale * j) 0) ++ flat_map point_text (points_from pw scale (j + 1) (count - (j + 1)))
  unfolding points_from flat_map range
  points_next scale j count h =
      let s : count - j ≡ suc (count - (j + 1)) = omega arith in
      let t : j + 1 ≡ suc j = omega arith in
      rw (s, t)

  pub points_none : (scale j count : ℕ) → count ≤ j → flat_map point_text (points_from pw scale j (count - j)) ≡ []
  unfolding points_from flat_map range
  points_none scale j count h = let s : count - j ≡ 0 = omega arith in rw s

  pub lines_next : (i scale rounds : ℕ) → i ≤ rounds → scale ≡ 2 ^ i → lines_from pw i (rounds + 1 - i) ≡ line_at pw i scale ++ lines_from pw (i + 1) (rounds + 1 - (i + 1))
  unfolding lines_from flat_map range
  lines_next i scale rounds h e =
      let s : rounds + 1 - i ≡ suc (rounds + 1 - (i + 1)) = omega arith in
      let t : i + 1 ≡ suc i = omega arith in
      rw (s, t, e)

  pub lines_none : (i rounds : ℕ) → rounds < i → lines_from pw i (rounds + 1 - i) ≡ []
  unfolding lines_from flat_map range
  lines_none i rounds h = let s : rounds + 1 - i ≡ 0 = omega arith in rw s

  pub line_written : (i scale : ℕ) (before : List ℕ) {a b c : List ℕ} → a ≡ before ++ head_text i → b ≡ a ++ flat_map point_text (points_from pw scale 0 (length pw / scale)) →
      c ≡ b ++ (10 ∷ []) → c ≡ before ++ line_at pw i scale
  unfolding line_at points_line
  line_written i scale before p q r = r ∙ rw (q, p) (simp append_assoc)

-- the scale of domain i, 2^i
pub scale_next : (i scale : ℕ) → scale ≡ 2 ^ i → scale * 2 ≡ 2 ^ (i + 1)
scale_next i scale e = let t : suc i ≡ i + 1 = omega arith in ap (λ (n : ℕ). n * 2) e ∙ sym (pow-suc 2 i) ∙ ap (λ (n : ℕ). 2 ^ n) t

pub scale_small : (i scale : ℕ) → i ≤ 5 → scale ≡ 2 ^ i → (0 < scale) × (scale ≤ 32)
scale_small i scale h e = (omega (arith, e, pow_pos i), omega (arith, e, pow_mono h))
