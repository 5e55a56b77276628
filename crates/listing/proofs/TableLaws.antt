-- The lines from the table are those of the definition: point j of domain i is point 2^i·j of domain 0.
use Prim.Native.Nat.{ℕ, zero, suc, ◌+◌, ◌*◌, ◌/◌, ◌^◌, ◌≤◌, ◌<◌}
use lib.Pow.{pow_pos}
use native.Mathlib.Omega.{arith}
use mathlib.Core.List.{List, ◌∷◌, ◌++◌, flat_map, map}
use mathlib.Core.Path.{◌≡◌, refl, sym, ap, ◌∙◌}
use lib.ListN.{length, get_or}
use Rattle.list_laws.specs.All.{all_range, map_all}
use Rattle.layouts.proofs.Lawful.{lawful, rounds_word}
use Rattle.layouts.proofs.LevelsByNumber.{as_listed}
use Rattle.layouts.specs.Levels.{level_of, rounds_of}
use Rattle.definition.specs.Domain.{domain, point}
use Rattle.definition.specs.Field.{field_of, prime_field}
use Rattle.definition.specs.Lists.{range}
use Rattle.definition.specs.Reading.{sheet_test}
use Rattle.definition.specs.Sheet.{Edition, Level, first_level, later_levels, root_of_unity, sheet_length, sheet_of}
use Rattle.definition.specs.Verdict.{accepted}
use Rattle.domain.specs.Points.{place_below, point_at_lem}
use Rattle.domain.specs.Powers.{Powers}
use Rattle.listing.specs.Listing.{domain_line, domains_text, kept_text, points_line}
use Rattle.listing.specs.Table.{line_at, lines_from, points_from}

-- the points of a level's domain stand at every 2^i-th place
pub domain_points : (field ω : ℕ) (l : Level) (pw : List ℕ) → Powers field ω pw → l.size ≡ length pw / 2 ^ l.number →
    points_from pw (2 ^ l.number) 0 (length pw / 2 ^ l.number) ≡ domain (field_of field) ω l
unfolding points_from domain field_of prime_field
domain_points field ω l pw p e =
    let scale = 2 ^ l.number in
    map_all (λ j. j < length pw / scale) (λ j. get_or pw (scale * j) 0) (point (field_of field) ω l) (range 0 (length pw / scale))
    (all_range (λ j. j < length pw / scale) 0 (length pw / scale) (λ j _ u. omega arith))
    (λ j u. point_at_lem (field_of field) ω l pw scale j p refl (place_below (length pw) scale j (pow_pos l.number) u))
    ∙ ap (λ (m : ℕ). map (point (field_of field) ω l) (range 0 m)) (sym e)

module _ (ed : Edition) (w pw : List ℕ) (p : Powers (get_or w 0 0) (root_of_unity (sheet_of ed w)) pw) (size : length pw ≡ get_or w 1 0) where
  line_is : (i : ℕ) → line_at pw i (2 ^ i) ≡ domain_line (sheet_of ed w) (level_of (sheet_of ed w) i)
  unfolding line_at domain_line sheet_of field_of
  line_is i =
      let h = sheet_of ed w in
      ap (points_line i) (domain_points (get_or w 0 0) (root_of_unity h) (level_of h i) pw p (ap (λ (n : ℕ). n / 2 ^ i) (sym size)))

  lines_are : (count i : ℕ) → lines_from pw i count ≡ flat_map (domain_line (sheet_of ed w)) (map (level_of (sheet_of ed w)) (range i count))
  unfolding lines_from flat_map range
  lines_are zero i = refl
  lines_are (suc count) i = λ t. line_is i t ++ lines_are count (suc i) t

  -- those of a sheet that passes, i from 0 to M
  lines_of_sheet : sheet_length ed ≤ length w → sheet_test ed w ≡ accepted →
      lines_from pw 0 (get_or w 4 0 + 1) ≡ flat_map (domain_line (sheet_of ed w)) (first_level (sheet_of ed w) ∷ later_levels (sheet_of ed w))
  unfolding range
  lines_of_sheet long passed =
      let h = sheet_of ed w in
      let all : get_or w 4 0 + 1 ≡ suc (rounds_of h) = omega (arith, rounds_word ed w long passed) in
      as_listed h (λ first later. lines_from pw 0 (get_or w 4 0 + 1) ≡ flat_map (domain_line h) (first ∷ later)) (lawful ed w long passed).paired
      (ap (lines_from pw 0) all ∙ lines_are (suc (rounds_of h)) 0)

  pub text_of_sheet : sheet_length ed ≤ length w → sheet_test ed w ≡ accepted → {first text : List ℕ} → first ≡ kept_text → text ≡ first ++ lines_from pw 0 (get_or w 4 0 + 1) →
      text ≡ domains_text (sheet_of ed w)
  unfolding domains_text
  text_of_sheet long passed f t = t ∙ (λ x. f x ++ lines_of_sheet long passed x)
