-- WHEN AN OPENING FILE IS ACCEPTED (02, CR 13): one that passes 1 to 6 and 18, exactly when all paths reach their roots and deciding accepts with the opened entries.
use Rattle.std.specs.Prelude.{ℕ, Bool, true, false, not, List, [], ◌∷◌, map, ◌↔◌, ◌≡◌, refl, eqb, get_or}
use Rattle.std.proofs.Common.{true≢false, sym, ap, ap₂, eq-eqb, eqb-true}
use Rattle.std.proofs.lemmas.Bool.{not-false}
use Rattle.definition.specs.Block.{stream_of}
use Rattle.definition.specs.Sheet.{edition1, Sheet, sheet_of}
use Rattle.definition.specs.Verdict.{accepted, ◌then◌, then_verdict}
use Rattle.definition.specs.Deciding.{out_tests}
use Rattle.list_laws.specs.All.{All, all_in_map, all_map, all_of_map}
use Rattle.list_laws.specs.Booleans.{and_true}
use Rattle.layouts.specs.Tests.{all_false, at_none, none_true, then_passes, verdict_passes}
use Rattle.openings.specs.Openings.{sheet_words, opening_layout, openings_in, place_in, bytes_in, reading_openings, opened_transcript, places_test, same_words, reached_root, misses_root, paths_test, roots_in, opening_tests, decided_opened, deciding_openings, verify_openings}

-- lists of words compared
same_gives : (xs ys : List ℕ) → same_words xs ys ≡ true → xs ≡ ys
unfolding same_words
same_gives [] [] e = refl
same_gives [] (y ∷ ys) e = absurd (true≢false (sym e))
same_gives (x ∷ xs) [] e = absurd (true≢false (sym e))
same_gives (x ∷ xs) (y ∷ ys) e =
    let both = and_true (eqb x y) (same_words xs ys) e in
    ap₂ {C = List ℕ} (λ a r. a ∷ r) (eqb-true x y both.0) (same_gives xs ys both.1)

pub same_words_lem : (xs : List ℕ) → same_words xs xs ≡ true
unfolding same_words
same_words_lem [] = refl
same_words_lem (x ∷ xs) = rw (eq-eqb x x refl) (same_words_lem xs)

-- a path reaches its root
abbrev pub Reaches : Sheet → List (List ℕ) → List ℕ → Type 0
Reaches h roots o = reached_root h o ≡ bytes_in (get_or roots (place_in o).table [])

reaches_gives : (h : Sheet) (roots : List (List ℕ)) (o : List ℕ) → misses_root h roots o ≡ false → Reaches h roots o
unfolding misses_root
reaches_gives h roots o e =
    same_gives (reached_root h o) (bytes_in (get_or roots (place_in o).table [])) (not-false (same_words (reached_root h o) (bytes_in (get_or roots (place_in o).table []))) e)

pub reaches_hits : (h : Sheet) (roots : List (List ℕ)) (o : List ℕ) → Reaches h roots o → misses_root h roots o ≡ false
unfolding misses_root
reaches_hits h roots o e = rw e (ap not (same_words_lem (bytes_in (get_or roots (place_in o).table []))))

-- all of them
pub paths_exactly : (h : Sheet) (roots os : List (List ℕ)) → (paths_test h roots os ≡ accepted) ↔ All (Reaches h roots) os
unfolding paths_test
paths_exactly h roots os = (
  λ e. all_map os (all_in_map (λ (b : Bool). b ≡ false) (misses_root h roots) os (all_false 17 0 (map (misses_root h roots) os) e)) (reaches_gives h roots),
  λ a. at_none 17 _ (none_true 0 (map (misses_root h roots) os) (all_of_map (λ (b : Bool). b ≡ false) (misses_root h roots) os (all_map os a (reaches_hits h roots)))),
)

-- ACCEPTED EXACTLY.
module _ (bytes : List ℕ) where
  -- deciding accepts with the opened entries: no out coin is refused by 7 or 14, and 8 and 9 find no fault
  abbrev pub AcceptedOpened : Type 0
  AcceptedOpened =
      (out_tests (sheet_of edition1 (stream_of bytes)) sheet_words (opening_layout (sheet_of edition1 (stream_of bytes))) (stream_of bytes) ≡ accepted)
      × ((decided_opened (sheet_of edition1 (stream_of bytes)) (stream_of bytes)).outcome ≡ accepted)

  pub opening_accepted_exactly : reading_openings bytes ≡ accepted
      → places_test (sheet_of edition1 (stream_of bytes)) (opened_transcript (sheet_of edition1 (stream_of bytes)) (stream_of bytes)) (openings_in (sheet_of edition1 (stream_of bytes)) (stream_of bytes)) ≡ accepted
      → ((verify_openings bytes).outcome ≡ accepted)
      ↔ (All (Reaches (sheet_of edition1 (stream_of bytes)) (roots_in (sheet_of edition1 (stream_of bytes)) (stream_of bytes))) (openings_in (sheet_of edition1 (stream_of bytes)) (stream_of bytes))
      × AcceptedOpened)
  unfolding verify_openings deciding_openings opening_tests then_verdict ◌then◌
  opening_accepted_exactly r p =
      let w = stream_of bytes in
      let h = sheet_of edition1 w in
      let paths = paths_exactly h (roots_in h w) (openings_in h w) in (
        λ e.
            let a = verdict_passes (reading_openings bytes) (deciding_openings w) e in
            let b = verdict_passes (opening_tests h w) (decided_opened h w) a.1 in
            let c = then_passes (out_tests h sheet_words (opening_layout h) w) (places_test h (opened_transcript h w) (openings_in h w) then paths_test h (roots_in h w) (openings_in h w)) b.0 in
            let d = then_passes (places_test h (opened_transcript h w) (openings_in h w)) (paths_test h (roots_in h w) (openings_in h w)) c.1 in
            (paths.0 d.1, (c.0, b.1)),
        λ q. rw (r, q.1.0, p, paths.1 q.0) q.1.1,
      )
