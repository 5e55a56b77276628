-- Tests 8 and 9 by number, of any stream that holds the words due: what they find is a round with two pairs that do not agree, and a final index at which
-- the final polynomial differs from the fold.
use Rattle.std.specs.Prelude.{ℕ, ◌+◌, ◌≤◌, ◌<◌, Bool, true, false, not, ◌≡◌, List, get_or}
use Rattle.std.proofs.Common.{zero-add, arith, ap, ◌∙◌}
use Rattle.std.proofs.Math.Path.{sym, subst}
use Rattle.std.proofs.Math.ListN.{length, length-map}
use Rattle.definition.specs.Deciding.{differences}
use Rattle.definition.specs.Domain.{fold_at, shift_point}
use Rattle.definition.specs.Field.{Element, Field, number_in}
use Rattle.definition.specs.Lists.{range}
use Rattle.definition.specs.Polynomial.{Sample, clash, evaluate}
use Rattle.definition.specs.Sheet.{Edition, Sheet}
use Rattle.list_laws.specs.Lists.{get_d_map, get_d_map_range, range_length}
use Rattle.algebra.specs.Laws.{FieldLaws}
use Rattle.layouts.specs.Levels.{level_of, rounds_of, sheet_field, sheet_root}
use Rattle.completeness.specs.DecidedByNumber.{clashes, final_tests}
use Rattle.completeness.specs.Faults.{ClashFault, FinalFault, due_of, finals, fold, function_in, pairs_in, part_element, part_elements, part_length, part_word, part_words, words}
use Rattle.completeness.specs.Numbered.{final}
use Rattle.completeness.specs.PairsByNumber.{part_length_lem, part_word_lem}
use Rattle.completeness.specs.TestsByNumber.{clash_found, clash_there, element_differ, element_differs}

-- the tests find such faults at places from `start` on, and all of them
abbrev pub Finds : (ℕ → Type 0) → ℕ → List Bool → Type 0
Finds Fault start bs =
    ((j : ℕ) → j < length bs → get_or bs j false ≡ true → Fault (start + j)) × ((q : ℕ) → Fault q → (j : ℕ) × (q ≡ start + j) × (j < length bs) × (get_or bs j false ≡ true))

module _ (ed : Edition) (h : Sheet) (v : List ℕ) (L : FieldLaws (sheet_field h)) (full : due_of ed h ≤ length v) where
  abbrev F : Field (Element h.spelling)
  F = sheet_field h

  abbrev M : ℕ
  M = rounds_of h

  abbrev no_pair : Sample (Element h.spelling)
  no_pair = record { point = number_in h.spelling 0; value = number_in h.spelling 0 }

  pub clash_finds : Finds (ClashFault ed h v) 1 (clashes ed h v 0 (rounds_of h))
  clash_finds = (
    λ j l e. let u : j < M = omega (arith, many) in
        let r = clash_found F L (sheet_root h) no_pair (pairs_in ed h v j) (sym (at j u) ∙ e) in
        (j, u, omega arith, (r.0, r.1, r.2, r.3, λ g. r.4.1 (g r.4.0))),
    λ q p. let r = p.3 in
        (p.0, omega (arith, p.2), omega (arith, p.1, many), at p.0 p.1 ∙ clash_there F L (sheet_root h) no_pair (pairs_in ed h v p.0) r.0 r.1 r.2 r.3 r.4),
  )
    where
      many : length (clashes ed h v 0 M) ≡ M
      many = length-map (range 0 M) _ ∙ range_length 0 M

      at : (j : ℕ) → j < M → get_or (clashes ed h v 0 M) j false ≡ clash F (pairs_in ed h v j)
      at j l = get_d_map_range (λ i. clash F (pairs_in ed h v i)) false 0 M j l ∙ ap (λ (i : ℕ). clash F (pairs_in ed h v i)) (zero-add j)

  -- at final index y
  abbrev differs_at : ℕ → Bool
  differs_at y =
      not ((sheet_field h).equal (evaluate (sheet_field h) (part_elements ed h v (words final)) (shift_point (sheet_field h) (sheet_root h) (level_of h (rounds_of h)) y))
      (fold_at (sheet_field h) (sheet_root h) (level_of h (rounds_of h)) (function_in ed h v (rounds_of h)).value (part_element ed h v (fold (rounds_of h)) 0) y))

  pub final_finds : Finds (FinalFault ed h v) 0 (final_tests ed h v)
  unfolding differences
  final_finds = (
    λ j l e. let u : j < part_length h finals = omega (arith, many) in subst (FinalFault ed h v) (sym (zero-add j)) (u, element_differ F L _ _ (sym (at j u) ∙ e)),
    λ q p. (q, sym (zero-add q), omega (arith, p.0, many), at q p.0 ∙ element_differs F L _ _ p.1),
  )
    where
      many : length (final_tests ed h v) ≡ part_length h finals
      many = length-map (part_words ed h v finals) _ ∙ part_length_lem ed h v full finals tt

      at : (j : ℕ) → j < part_length h finals → get_or (final_tests ed h v) j false ≡ differs_at (part_word ed h v finals j)
      at j l = get_d_map differs_at (part_words ed h v finals) 0 false j (omega (arith, part_length_lem ed h v full finals tt)) ∙ ap differs_at (part_word_lem ed h v full finals j l)
