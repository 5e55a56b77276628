-- Nothing is divided by 0 (02, CR 3), whatever the tables, replies and final coefficients of a file are: where its coins pass refusals 5 and 7, all that deciding
-- divides by has an inverse.
use Rattle.std.specs.Prelude.{ℕ, suc, ◌≤◌, ◌<◌, ◌≡◌, replicate}
use Rattle.std.proofs.Math.Nat
use Rattle.std.proofs.Common.{arith, sym, ◌∙◌}
use mathlib.Core.List.{List, [], ◌∷◌, ◌++◌, flat_map, map, zip_with, map-map}
use Rattle.std.proofs.Math.Option.{some}
use Rattle.std.proofs.Math.Path.{ap, subst}
use Rattle.std.proofs.Math.ListN.{length, take, drop, length-drop, length-take}
use Rattle.std.proofs.lemmas.List.{length-replicate}
use Rattle.definition.specs.Block.{file_of, stream_of}
use Rattle.definition.specs.Deciding.{answers, deciding, next_function, out_in_domain, out_test, out_tests}
use Rattle.definition.specs.Domain.{domain, point, root_numbers, shift_point}
use Rattle.definition.specs.Field.{Element, Field, Spelling, begun_by, word_count}
use Rattle.definition.specs.Layout.{Kind, coin, index, later_count, layout, limit, message, out_layout, read_rest, read_transcript, rest_layout, round_coins, round_layout, words_due}
use Rattle.definition.specs.Lists.{range}
use Rattle.definition.specs.Polynomial.{Sample, distinct, evaluate, pair, points, vanishing}
use Rattle.definition.specs.Prover.{honest_stream}
use Rattle.definition.specs.Reading.{out_of_range, range_test, reading, sheet_test}
use Rattle.definition.specs.Sheet.{Edition, Level, Sheet, final_count, first_level, later_levels, sheet_length, sheet_of, shift_count}
use Rattle.definition.specs.Transcript.{Rest, Round, final, round}
use Rattle.definition.specs.Verdict.{Verdict, accepted}
use Rattle.definition.specs.Verify.{verify_in}
use Rattle.list_laws.specs.All.{All, all_append, all_flat, all_in_map, all_left, all_map, all_of_map, all_range, all_right, everywhere}
use Rattle.list_laws.specs.Booleans.{some≢none}
use Rattle.list_laws.specs.Lists.{regroup}
use Rattle.algebra.specs.Different.{Apart, Differ}
use Rattle.algebra.specs.Divisors.{vanishing_differs}
use Rattle.algebra.specs.Interpolation.{all_of_points}
use Rattle.algebra.specs.Laws.{FieldLaws}
use Rattle.algebra.specs.RingLaws.{reduce_power}
use Rattle.layouts.specs.EachWord.{Each, Front, InRange, Outside, each_length, front_at, front_false, front_run, in_range, outs_begun}
use Rattle.layouts.proofs.LayoutFacts.{later_length, outs_length}
use Rattle.layouts.specs.KindsAfter.{later_layout}
use Rattle.layouts.specs.LevelSizes.{Chain, chain_head}
use Rattle.layouts.specs.Levels.{rounds_of, sheet_field, sheet_root, words_for}
use Rattle.layouts.specs.Passed.{passed}
use Rattle.layouts.specs.LawfulSheets.{Steps}
use Rattle.layouts.specs.Spellings.{begun_drop, begun_length}
use Rattle.layouts.specs.Tests.{at_passes, then_passes, verdict_passes}
use Rattle.completeness.proofs.Completeness.{completeness, sheet_ready}
use Rattle.completeness.specs.DecidingAccepts.{AdmissibleRound, Foldable}
use Rattle.completeness.specs.DistinctPoints.{all_distinct, distinct_apart}
use Rattle.completeness.proofs.Domains.{foldable}
use Rattle.completeness.proofs.AdmissibleCoins.{admissible_round}
use Rattle.completeness.specs.Numbered.{Allowed, Nonzero, deciding_divisors, divisors, fold_divisors, rest_divisors, samples_at}
use Rattle.completeness.specs.Ready.{Ready, ready, sheet_laws}
use Rattle.completeness.proofs.RunByNumber as run

pub all_pair : {A : Type 0} (P : A → Type 0) (xs ys : List A) → All P xs → All (λ (p : Sample A). P p.point) (pair xs ys)
unfolding pair zip_with
all_pair P [] ys h = tt
all_pair P (x ∷ xs) [] h = tt
all_pair P (x ∷ xs) (y ∷ ys) h = (h.0, all_pair P xs ys h.1)

-- an element has an inverse
abbrev pub Found : {A : Type 0} → Field A → A → Type 0
Found {A} F x = (u : A) × (F.inverse x ≡ some u)

module _ {A : Type 0} (F : Field A) (L : FieldLaws F) (ω : A) where
  vanishing_found : (xs : List A) (x : A) → All (λ a. Differ F x a) xs → Found F (evaluate F (vanishing F xs) x)
  vanishing_found xs x h = (_, L.inverse_found _ (vanishing_differs F L xs x h))

  -- interpolation through different points
  pub divisors_found : (ps : List (Sample A)) → Apart F (points ps) → All (Found F) (divisors F ps)
  unfolding divisors points
  divisors_found [] h = tt
  divisors_found (p ∷ ps) h = (vanishing_found (points ps) p.point h.0, divisors_found ps h.1)

  -- the fold at each of some shift indices
  folds_found : (b : Level) → Foldable F ω b → (f : ℕ → A) (js : List ℕ) → All (λ j. j < shift_count b) js → All (Found F) (flat_map (fold_divisors F ω b f) js)
  unfolding points
  folds_found b ok f js h =
      all_flat (Found F) (fold_divisors F ω b f) js (all_map js h (λ j l.
      divisors_found (map (λ m. record { point = point F ω b m; value = f m }) (root_numbers b j))
      (subst (Apart F) (sym (map-map {B = Sample A} (λ p. p.point) (λ m. record { point = point F ω b m; value = f m }) (root_numbers b j))) (ok.roots_apart j l))))

  -- a round after level b, with any function, fold coin, table and replies: the points of its samples are different, and a point off its coins is off them
  module _ (b : Level) (f : ℕ → A) (r : A) (ρ : Round A) where
    pub samples_apart : All (λ x. L.reduce x ≡ x) ρ.coins.outs → Apart F (points (distinct F (answers F ω b f r ρ)))
    unfolding answers shift_point
    samples_apart elements =
        distinct_apart F L (answers F ω b f r ρ)
        (all_append _ (pair ρ.coins.outs ρ.replies) _ (all_pair (λ x. L.reduce x ≡ x) ρ.coins.outs ρ.replies elements)
        (all_of_map {B = Sample A} (λ p. L.reduce p.point ≡ p.point) _ ρ.coins.shifts (everywhere ρ.coins.shifts (λ j. reduce_power F L (point F ω b j) b.fold))))

    pub samples_off : (x : A) → All (λ a. Differ F x a) (ρ.coins.outs ++ map (shift_point F ω b) ρ.coins.shifts) → All (λ a. Differ F x a) (points (distinct F (answers F ω b f r ρ)))
    unfolding answers
    samples_off x h =
        let outs = all_left (λ a. Differ F x a) ρ.coins.outs (map (shift_point F ω b) ρ.coins.shifts) h in
        let shifts = all_right (λ a. Differ F x a) ρ.coins.outs (map (shift_point F ω b) ρ.coins.shifts) h in
        all_of_points (λ a. Differ F x a) (distinct F (answers F ω b f r ρ))
        (all_distinct F (λ (p : Sample A). Differ F x p.point) (answers F ω b f r ρ)
        (all_append _ (pair ρ.coins.outs ρ.replies) _ (all_pair _ ρ.coins.outs ρ.replies outs)
        (all_of_map {B = Sample A} (λ p. Differ F x p.point) _ ρ.coins.shifts (all_in_map (λ a. Differ F x a) (shift_point F ω b) ρ.coins.shifts shifts))))

    -- the quotient at each point of the round's domain
    quotient_found : AdmissibleRound F L ω b ρ.coins → All (Found F) (map (evaluate F (vanishing F (points (distinct F (answers F ω b f r ρ))))) (domain F ω ρ.coins.level))
    unfolding domain
    quotient_found admissible =
        let l = ρ.coins.level in
        all_of_map (Found F) _ (map (point F ω l) (range 0 l.size))
        (all_of_map _ (point F ω l) (range 0 l.size) (all_range _ 0 l.size
        (λ m low high. vanishing_found _ (point F ω l m) (samples_off (point F ω l m) (admissible.off m (subst (λ (n : ℕ). m < n) (Nat.zero-add l.size) high))))))

    -- the round, and what is found of the rest
    round_found : AdmissibleRound F L ω b ρ.coins → Foldable F ω b → (rest : Rest A) →
        All (Found F) (rest_divisors F ω ρ.coins.level (next_function F ω (distinct F (answers F ω b f r ρ)) ρ).value ρ.coins.fold rest) →
        All (Found F) (rest_divisors F ω b f r (round ρ rest))
    unfolding rest_divisors
    round_found admissible ok rest h =
        let g = distinct F (answers F ω b f r ρ) in
        let folds = flat_map (fold_divisors F ω b f) ρ.coins.shifts in
        let values = map (evaluate F (vanishing F (points g))) (domain F ω ρ.coins.level) in
        let others = rest_divisors F ω ρ.coins.level (next_function F ω g ρ).value ρ.coins.fold rest in
        all_append (Found F) folds (divisors F g ++ (values ++ others)) (folds_found b ok f ρ.coins.shifts admissible.indices)
        (all_append (Found F) (divisors F g) (values ++ others) (divisors_found g (samples_apart admissible.elements))
        (all_append (Found F) values others (quotient_found admissible) h))

  -- What follows a fold coin is fair, whatever its messages are: a function folds at each level, the coins of each round are fair, and the final indices are in range.
  abbrev pub FairRest : Level → Rest A → Type 0
  FairRest b (final coefficients js) = Foldable F ω b × All (λ j. j < shift_count b) js
  FairRest b (round ρ rest) = Foldable F ω b × AdmissibleRound F L ω b ρ.coins × FairRest ρ.coins.level rest

  rest_found : (b : Level) (rest : Rest A) → FairRest b rest → (f : ℕ → A) (r : A) → All (Found F) (rest_divisors F ω b f r rest)
  unfolding rest_divisors
  rest_found b (final coefficients js) fair f r = folds_found b fair.0 f js fair.1
  rest_found b (round ρ rest) fair f r =
      round_found b f r ρ fair.1 fair.0 rest (rest_found ρ.coins.level rest fair.2 (next_function F ω (distinct F (answers F ω b f r ρ)) ρ).value ρ.coins.fold)

-- ---- the words of a stream

-- the first words of a layout in range, and what they begin off the domains
module _ (h : Sheet) (q : Ready h) where
  abbrev σ : Spelling
  σ = h.spelling

  abbrev F : Field (Element h.spelling)
  F = sheet_field h

  abbrev ω : Element h.spelling
  ω = sheet_root h

  level_folds : (b : Level) (ls : List Level) → Chain (suc q.e) b ls → Foldable F ω b
  level_folds b ls ch = foldable F q.laws ω q.signs q.e q.root b (chain_head (suc q.e) b ls ch)

  rest_fair : (s : ℕ) (b : Level) (ls : List Level) (w : List ℕ) → Chain (suc q.e) b ls → Steps s b ls → Front (InRange h) (rest_layout h.spelling s b ls) w →
      Front (Outside h) (rest_layout h.spelling s b ls) (begun_by h.spelling w) → FairRest F q.laws ω b (read_rest h.spelling s b ls w)
  unfolding rest_layout round_layout round_coins read_rest limit
  rest_fair s b [] w ch st p o =
      let n = word_count σ (final_count b) in
      let js = take b.repetitions (drop n w) in
      let indices = front_run (InRange h) b.repetitions (index (shift_count b)) (drop n w) (front_at (InRange h) n (replicate n message) _ w (length-replicate n message) p).1 in
      (level_folds b [] ch, all_map js indices (λ j k. in_range h (index (shift_count b)) j k))
  rest_fair s b (l ∷ ls) w ch st p o =
      let later = later_layout σ b in
      let n = word_count σ l.size in
      let m = word_count σ s in
      let k = later_count σ b in
      let w₁ = drop n w in
      let w₂ = drop m w₁ in
      let w₃ = drop m w₂ in
      let kinds = regroup (replicate n message) (out_layout σ s l) (replicate m message) later (rest_layout σ s l ls) in
      let parts = subst (λ (ks : List Kind). Front (InRange h) ks w) kinds p in
      let table = front_at (InRange h) n (replicate n message) _ w (length-replicate n message) parts in
      let outs = front_at (InRange h) m (out_layout σ s l) _ w₁ (outs_length σ s l) table.1 in
      let replies = front_at (InRange h) m (replicate m message) _ w₂ (length-replicate m message) outs.1 in
      let rest = front_at (InRange h) k later (rest_layout σ s l ls) w₃ (later_length σ b) replies.1 in
      let b₀ = begun_by σ w in
      let places = subst (λ (ks : List Kind). Front (Outside h) ks b₀) kinds o in
      let table' = front_at (Outside h) n (replicate n message) _ b₀ (length-replicate n message) places in
      let outs' = front_at (Outside h) m (out_layout σ s l) _ (drop n b₀) (outs_length σ s l) table'.1 in
      let replies' = front_at (Outside h) m (replicate m message) _ (drop m (drop n b₀)) (length-replicate m message) outs'.1 in
      let rest' = front_at (Outside h) k later (rest_layout σ s l ls) (drop m (drop m (drop n b₀))) (later_length σ b) replies'.1 in
      let e₁ = begun_drop σ n w in
      let e₂ = ap (drop m) e₁ ∙ begun_drop σ m w₁ in
      let e₃ = ap (drop m) e₂ ∙ begun_drop σ m w₂ in
      let e₄ = ap (drop k) e₃ ∙ begun_drop σ k w₃ in
      let long : m ≤ length w₁ = omega (arith, each_length (InRange h) (out_layout σ s l) (take m w₁) outs.0, outs_length σ s l, length-take m w₁, Nat.min-le_right m (length w₁)) in
      let away = outs_begun σ (Outside h) s l w₁ long (subst (λ (xs : List (Element h.spelling)). Each (Outside h) (out_layout σ s l) (take m xs)) e₁ outs'.0) in (
        level_folds b (l ∷ ls) ch,
        admissible_round h q.laws q.signs q.e q.root s b l (take m w₁) (take k w₃) ch.1 (chain_head (suc q.e) l ls ch.2) st.0 outs.0 away rest.0,
        rest_fair s l ls (drop k w₃) ch.2 st.1 rest.1 (subst (Front (Outside h) (rest_layout σ s l ls)) e₄ rest'.1),
      )

-- a stream that passes refusals 3, 5 and 7, with all words due
module _ (ed : Edition) (w : List ℕ) (sheet : sheet_test ed w ≡ accepted) (due : words_due ed (sheet_of ed w) ≤ length w)
    (range : range_test (sheet_of ed w) (sheet_length ed) (layout (sheet_of ed w)) w ≡ accepted) (outside : out_test (sheet_of ed w) (sheet_length ed) (layout (sheet_of ed w)) w ≡ accepted) where
  pub stream_ready : Ready (sheet_of ed w)
  unfolding words_due
  stream_ready = ready ed w (omega (arith, due)) sheet

  pub stream_fair : FairRest (sheet_field (sheet_of ed w)) stream_ready.laws (sheet_root (sheet_of ed w)) (first_level (sheet_of ed w))
      (read_transcript (sheet_of ed w).spelling (sheet_of ed w) (drop (sheet_length ed) w)).rest
  unfolding words_due range_test out_test layout read_transcript
  stream_fair =
      let h = sheet_of ed w in
      let σ = h.spelling in
      let n = sheet_length ed in
      let q = stream_ready in
      let rest = rest_layout σ h.out_coins (first_level h) (later_levels h) in
      let a = words_for h h.size in
      let c = words_for h 1 in
      let v = drop n w in
      let words = front_false (out_of_range h) n (layout h) v (omega (arith, due, length-drop n w)) (at_passes 5 _ range) in
      let begun = front_false (out_in_domain σ h) n (layout h) (begun_by σ v) (omega (arith, due, length-drop n w, begun_length σ v)) (at_passes 7 _ outside) in
      let after = (front_at (InRange h) c (replicate c coin) rest (drop a v) (length-replicate c coin) (front_at (InRange h) a (replicate a message) (replicate c coin ++ rest) v (length-replicate a message) words).1).1 in
      let after' = (front_at (Outside h) c (replicate c coin) rest (drop a (begun_by σ v)) (length-replicate c coin)
      (front_at (Outside h) a (replicate a message) (replicate c coin ++ rest) (begun_by σ v) (length-replicate a message) begun).1).1 in
      rest_fair h q h.out_coins (first_level h) (later_levels h) (drop c (drop a v)) q.chain q.steps after
      (subst (Front (Outside h) rest) (ap (drop c) (begun_drop σ a v) ∙ begun_drop σ c (drop a v)) after')

  stream_found : All (Found (sheet_field (sheet_of ed w))) (deciding_divisors ed w)
  unfolding deciding_divisors
  stream_found = rest_found (sheet_field (sheet_of ed w)) stream_ready.laws (sheet_root (sheet_of ed w)) (first_level (sheet_of ed w)) _ stream_fair _ _

-- what has an inverse differs from 0
found_nonzero : {A : Type 0} (F : Field A) (L : FieldLaws F) (x : A) → Found F x → F.◌⊕◌ x F.𝟘 ≡ F.𝟘 → ⊥
found_nonzero F L x found z = some≢none found.0 (sym found.1 ∙ L.inverse_none x (sym (L.add_zero x) ∙ z))

-- every file that passes reading and refusal 7
pub file_divisors : (ed : Edition) (bytes : List ℕ) → reading ed bytes ≡ accepted →
    out_test (sheet_of ed (stream_of bytes)) (sheet_length ed) (layout (sheet_of ed (stream_of bytes))) (stream_of bytes) ≡ accepted →
    All (Nonzero (sheet_of ed (stream_of bytes))) (deciding_divisors ed (stream_of bytes))
file_divisors ed bytes read outside =
    let p = passed ed bytes read in
    all_map (deciding_divisors ed (stream_of bytes)) (stream_found ed (stream_of bytes) p.sheet p.due p.range outside) (λ x u. found_nonzero (sheet_field (sheet_of ed (stream_of bytes))) (sheet_laws ed (stream_of bytes)) x u)

-- every honest run: its file, and the prover's own interpolation
module _ {ed : Edition} {w f coins : List ℕ} (ok : Allowed ed w f coins) where
  abbrev file : List ℕ
  file = file_of (honest_stream ed w f coins)

  -- the file passes reading and refusal 7
  pub honest_passes : (reading ed file ≡ accepted) × (out_test (sheet_of ed (stream_of file)) (sheet_length ed) (layout (sheet_of ed (stream_of file))) (stream_of file) ≡ accepted)
  unfolding verify_in deciding out_tests
  honest_passes =
      let read = verdict_passes (reading ed file) (deciding ed (stream_of file)) (ap (λ (v : Verdict). v.outcome) (completeness ed w f coins ok)) in
      (read.0, (then_passes _ _ (verdict_passes (out_tests (sheet_of ed (stream_of file)) (sheet_length ed) (layout (sheet_of ed (stream_of file))) (stream_of file)) _ read.1).0).0)

  pub honest_divisors : All (Nonzero (sheet_of ed (stream_of file))) (deciding_divisors ed (stream_of file))
  honest_divisors = file_divisors ed file honest_passes.0 honest_passes.1

  pub prover_divisors : (i : ℕ) → i < rounds_of (sheet_of ed w) → All (Nonzero (sheet_of ed w)) (divisors (sheet_field (sheet_of ed w)) (samples_at (sheet_of ed w) f coins (suc i)))
  prover_divisors i l =
      let h = sheet_of ed w in
      let F = sheet_field h in
      all_map (divisors F (samples_at h f coins (suc i))) (divisors_found F (sheet_ready ok).laws (sheet_root h) (samples_at h f coins (suc i)) (run.samples_apart ok i l)) (λ x u. found_nonzero F (sheet_ready ok).laws x u)
