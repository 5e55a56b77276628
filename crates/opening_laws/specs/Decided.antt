-- A STREAM THAT HOLDS THE ROOTS OF A FULL STREAM'S TABLES AND THE OPENINGS OF ITS PLACES DUE: 18 and 17 pass, and it is decided as the full stream is.
use Rattle.std.specs.Prelude.{ℕ, ◌≤◌, ◌≡◌, refl, length, get_or, take, drop}
use Rattle.std.proofs.Common.{arith, ◌∙◌}
use mathlib.Core.List.{List, [], ◌∷◌, map, zip_with}
use Rattle.std.proofs.Math.Path.{sym, ap, ap₂}
use Rattle.definition.specs.Field.{Element, field_in, number_in, word_count}
use Rattle.definition.specs.Sheet.{Sheet, Level, first_level, later_levels, root_of_unity}
use Rattle.definition.specs.Transcript.{Transcript}
use Rattle.definition.specs.Layout.{read_transcript}
use Rattle.definition.specs.Verdict.{accepted, refuse_at}
use Rattle.definition.specs.Deciding.{Place, counted, decide}
use Rattle.list_laws.specs.All.{All, all_map, all_of_map}
use Rattle.layouts.specs.Tests.{at_none}
use Rattle.openings.specs.Openings.{swap_tables, tables_in, table_words, root_words, openings_in, shut_body, opened_table, opened_body, opened_transcript, place_in, due, due_rest, places_test, first_other, bytes_in, reached_root, paths_test, roots_in, decided_opened, table_root, opening_at}
use Rattle.opening_laws.specs.Exactly.{Reaches, paths_exactly}
use Rattle.opening_laws.specs.Swaps.{need, swap_twice, tables_count, zip_at}
use Rattle.opening_laws.specs.Paths.{eight, opening_leads}
use Rattle.opening_laws.specs.Opened.{Fits, opened_alike, opened_decided, due_alike}
use Rattle.opening_laws.specs.Lookups.{no_other}
use Rattle.opening_laws.specs.Placed.{PlacedAt, Good, Laid, due_good, good_opening, good_place, level_fits, new_table, new_fits, rest_fits}

-- the root of a table has eight words
pub root_long : (h : Sheet) (l : Level) (t : List ℕ) → length (table_root h l t) ≡ root_words l
unfolding table_root root_words
root_long h l t = eight _

module _ (h : Sheet) (body : List ℕ) (long : need (table_words h) h ≤ length body)
    (placed : PlacedAt h (tables_in (table_words h) h body) 0 (first_level h) (take (word_count h.spelling h.size) body))
    (laid : Laid h (tables_in (table_words h) h body) 1 h.out_coins (first_level h) (later_levels h) (drop (word_count h.spelling 1) (drop (word_count h.spelling h.size) body))) where
  abbrev tables : List (List ℕ)
  tables = tables_in (table_words h) h body

  abbrev full : Transcript (Element h.spelling)
  full = read_transcript h.spelling h body

  abbrev D : List Place
  D = due h full

  pub all_good : All (Good h tables) D
  unfolding due read_transcript
  all_good = due_good h tables 0 h.out_coins (first_level h) (take (word_count h.spelling h.size) body) (later_levels h) _ placed laid

  fitted : Fits h (new_table h tables D all_good) (new_fits h tables D all_good) body long
  unfolding Fits due read_transcript
  fitted = (
    level_fits h tables D all_good 0 (first_level h) (take (word_count h.spelling h.size) body) full.rest placed (λ p a. a),
    rest_fits h tables D all_good 1 h.out_coins (first_level h) (later_levels h) _ laid (λ p a. a),
  )

  -- a stream x with the roots and the openings
  module _ (x : List ℕ) (shut : shut_body h x ≡ swap_tables (table_words h) (table_root h) h body) (given : openings_in h x ≡ map (opening_at h tables) D)
      (roots : roots_in h x ≡ zip_with (table_root h) (first_level h ∷ later_levels h) tables) where
    opened_is : opened_body h x ≡ swap_tables (table_words h) (λ l _. new_table h tables D all_good l) h body
    unfolding opened_body new_table
    opened_is =
        ap₂ (λ (os : List (List ℕ)) (b : List ℕ). swap_tables root_words (λ l _. opened_table h os l) h b) given shut
        ∙ swap_twice (table_words h) root_words (table_root h) (λ l _. opened_table h (map (opening_at h tables) D) l) (root_long h) h body long

    -- 8, 9 AND THE READS: as of the full stream
    pub built_decided : decided_opened h x ≡ counted (decide (field_in h.spelling h.prime) (number_in h.spelling (root_of_unity h)) (first_level h) full)
    unfolding decided_opened opened_transcript
    built_decided =
        ap (λ (b : List ℕ). counted (decide (field_in h.spelling h.prime) (number_in h.spelling (root_of_unity h)) (first_level h) (read_transcript h.spelling h b))) opened_is
        ∙ ap counted (opened_decided h (new_table h tables D all_good) (new_fits h tables D all_good) body long fitted)

    same_due : due h (opened_transcript h x) ≡ D
    unfolding opened_transcript due
    same_due =
        ap (λ (b : List ℕ). due_rest (first_level h) (read_transcript h.spelling h b).rest) opened_is
        ∙ sym (due_alike (field_in h.spelling h.prime) (number_in h.spelling (root_of_unity h)) (first_level h) _ _
        (opened_alike h (new_table h tables D all_good) (new_fits h tables D all_good) body long fitted))

    -- 18
    places_back : (ps : List Place) → All (Good h tables) ps → map place_in (map (opening_at h tables) ps) ≡ ps
    places_back [] g = refl
    places_back (p ∷ ps) g = ap₂ {C = List Place} (λ a r. a ∷ r) (good_place h tables p g.0) (places_back ps g.1)

    pub built_places : places_test h (opened_transcript h x) (openings_in h x) ≡ accepted
    unfolding places_test
    built_places =
        ap₂ (λ (d : List Place) (os : List (List ℕ)). refuse_at 18 (first_other 0 d (map place_in os))) same_due given
        ∙ ap (λ (ps : List Place). refuse_at 18 (first_other 0 D ps)) (places_back D all_good) ∙ at_none 18 _ (no_other 0 D)

    -- 17
    reaches : (p : Place) → Good h tables p → Reaches h (zip_with (table_root h) (first_level h ∷ later_levels h) tables) (opening_at h tables p)
    reaches p g =
        let a = g.at in
        let r : get_or (zip_with (table_root h) (first_level h ∷ later_levels h) tables) p.table [] ≡ table_root h g.l g.t =
        zip_at (table_root h) (first_level h ∷ later_levels h) tables (first_level h) [] [] p.table a.within (omega (arith, a.within, tables_count (table_words h) h body))
        ∙ ap₂ (table_root h) a.level a.table in
        ap (reached_root h) (good_opening h tables p g) ∙ opening_leads h g.l g.t p.number a.long g.inside a.tall ∙ ap bytes_in (sym r)
        ∙ ap (λ (q : Place). bytes_in (get_or (zip_with (table_root h) (first_level h ∷ later_levels h) tables) q.table [])) (sym (good_place h tables p g))

    pub built_paths : paths_test h (roots_in h x) (openings_in h x) ≡ accepted
    built_paths =
        ap₂ (paths_test h) roots given
        ∙ (paths_exactly h (zip_with (table_root h) (first_level h ∷ later_levels h) tables) (map (opening_at h tables) D)).1
        (all_of_map (Reaches h (zip_with (table_root h) (first_level h ∷ later_levels h) tables)) (opening_at h tables) D (all_map D all_good reaches))
