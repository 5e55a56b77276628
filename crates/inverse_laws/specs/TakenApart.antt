-- THE INVERSE'S ANSWER TAKEN APART (02, CR 3): the definition's text of interpolation, fold, quotient, verify and prove, in which each inverse that is asked for
-- is taken apart where it is answered. Where one inverse is none, so is the whole; there is no other none, and nothing stands for an inverse that is not there.
-- Each definition has the name of the definition's, with Found behind it. It holds no lemma and no proof.
use Rattle.std.specs.Prelude.{ℕ, Bool, cond, not, List, [], ◌∷◌, ◌++◌, map, length, get_or, drop}
use Rattle.std.proofs.Math.Option.{Option, none, some}
use Rattle.definition.specs.Block.{block_count, file_of, stream_of}
use Rattle.definition.specs.Deciding.{Decision, Function, Place, counted, out_tests, own_place, places_of, treated}
use Rattle.definition.specs.Domain.{point, root_numbers, shift_point}
use Rattle.definition.specs.Field.{Field, elements_in, field_in, number_in, where_found}
use Rattle.definition.specs.Layout.{layout, read_coins, read_transcript, words_due}
use Rattle.definition.specs.Lists.{first_true}
use Rattle.definition.specs.Polynomial.{Sample, add_poly, clash, distinct, evaluate, fold_poly, geometric, mul_poly, pair, points, quotient, scale, sub_poly, vanishing}
use Rattle.definition.specs.Prove.{Result, done, prove_tests, refusal, sheet_length_test}
use Rattle.definition.specs.Prover.{honest_answers, honest_round, table_of}
use Rattle.definition.specs.Reading.{reading, sheet_test}
use Rattle.definition.specs.Sheet.{Edition, Level, first_level, root_of_unity, sheet_length, sheet_of}
use Rattle.definition.specs.Transcript.{Coins, Rest, Round, RoundCoins, Transcript, final, round, transcript_words}
use Rattle.definition.specs.Verdict.{Outcome, Verdict, ◌then◌, accepted, refuse_at, refused}

-- what is answered of a value that is found; `where_found` makes a value of it
unfoldable pub and_then : {A B : Type 0} → Option A → (A → Option B) → Option B
and_then none f = none
and_then (some x) f = f x

-- the values of all answers, or none where one is none
unfoldable pub all_found : {A : Type 0} → List (Option A) → Option (List A)
all_found [] = some []
all_found (o ∷ os) = and_then o (λ x. where_found (λ xs. x ∷ xs) (all_found os))

-- THE THREE THAT DIVIDE: interpolation, the quotient at a point, and the fold.
module _ {A : Type 0} (F : Field A) where
  infixl 65 ◌⊖◌
  infixl 70 ◌⊗◌
  open F use {◌⊖◌, ◌⊗◌, inverse}

  unfoldable pub interpolate_found : List (Sample A) → Option (List A)
  interpolate_found [] = some []
  interpolate_found (s ∷ samples) =
      and_then (interpolate_found samples) (λ q.
      let v = vanishing F (points samples) in
      and_then (inverse (evaluate F v s.point)) (λ i.
      some (add_poly F q (scale F ((s.value ⊖ evaluate F q s.point) ⊗ i) v))))

  unfoldable pub corrected_value_found : List (Sample A) → A → A → A → Option A
  corrected_value_found g c x y =
      and_then (interpolate_found g) (λ q.
      and_then (inverse (evaluate F (vanishing F (points g)) x)) (λ i.
      some ((y ⊖ evaluate F q x) ⊗ i ⊗ evaluate F (geometric F c (length g)) x)))

  -- the prover's corrected polynomial: its quotient divides by no element, its interpolation does
  unfoldable pub corrected_poly_found : List (Sample A) → A → List A → Option (List A)
  corrected_poly_found g c f = where_found (λ q. mul_poly F (quotient F (sub_poly F f q) (points g)) (geometric F c (length g))) (interpolate_found g)

module _ {A : Type 0} (F : Field A) (ω : A) where
  open F use {𝟘, equal}

  -- The function that is folded is asked for its value at each root, which may be none.
  unfoldable pub fold_at_found : Level → (ℕ → Option A) → A → ℕ → Option A
  fold_at_found l f r j =
      and_then (all_found (map (λ m. where_found (λ y. record { point = point F ω l m; value = y }) (f m)) (root_numbers l j))) (λ samples.
      where_found (λ q. evaluate F q r) (interpolate_found F samples))

  -- VERIFY. G_i's list, f_0 and f_i
  unfoldable pub answers_found : Level → (ℕ → Option A) → A → Round A → Option (List (Sample A))
  answers_found b f r ρ =
      where_found (λ folds. pair ρ.coins.outs ρ.replies ++ folds)
      (all_found (map (λ j. where_found (λ y. record { point = shift_point F ω b j; value = y }) (fold_at_found b f r j)) ρ.coins.shifts))

  unfoldable pub table_function_found : Level → List A → Function (Option A)
  table_function_found l table = record { value = λ j. some (get_or table j 𝟘); places = own_place l }

  unfoldable pub next_function_found : List (Sample A) → Round A → Function (Option A)
  next_function_found g ρ = record {
    value = λ j. corrected_value_found F g ρ.coins.combination (point F ω ρ.coins.level j) (get_or ρ.table j 𝟘);
    places = own_place ρ.coins.level;
  }

  unfoldable pub differences_found : Level → (ℕ → Option A) → A → List A → List ℕ → Option (List Bool)
  differences_found b f r coefficients js =
      all_found (map (λ j. where_found (λ y. not (equal (evaluate F coefficients (shift_point F ω b j)) y)) (fold_at_found b f r j)) js)

  unfoldable pub decide_final_found : Level → Function (Option A) → A → List Place → List A → List ℕ → Option Decision
  decide_final_found b f r used coefficients js =
      and_then (differences_found b f.value r coefficients js) (λ differ.
      let fault = first_true 0 differ in
      some (record { outcome = refuse_at 9 fault; used = used ++ places_of b f.places (treated js fault) }))

  unfoldable pub decide_rest_found : Level → Function (Option A) → A → List Place → Rest A → Option Decision
  decide_rest_found b f r used (final coefficients js) = decide_final_found b f r used coefficients js
  decide_rest_found b f r used (round ρ rest) =
      and_then (answers_found b f.value r ρ) (λ g.
      let now = used ++ places_of b f.places ρ.coins.shifts in
      let clashed : Decision = record { outcome = refused 8 ρ.coins.level.number; used = now } in
      let next = decide_rest_found ρ.coins.level (next_function_found (distinct F g) ρ) ρ.coins.fold now rest in
      cond (clash F g) (some clashed) next)

  unfoldable pub decide_found : Level → Transcript A → Option Decision
  decide_found first τ = decide_rest_found first (table_function_found first τ.table) τ.fold [] τ.rest

  -- PROVE. The corrected polynomial f_i, the messages after a fold coin, and the transcript
  unfoldable pub next_poly_found : Level → List A → RoundCoins A → Option (List A)
  next_poly_found b g c = corrected_poly_found F (distinct F (honest_answers F ω b g c)) c.combination g

  unfoldable pub honest_rest_found : Level → List A → A → List (RoundCoins A) → List ℕ → Option (Rest A)
  honest_rest_found b f r [] js = some (final (fold_poly F b.fold r f) js)
  honest_rest_found b f r (c ∷ cs) js =
      let g = fold_poly F b.fold r f in
      and_then (next_poly_found b g c) (λ next.
      where_found (round (honest_round F ω g c)) (honest_rest_found c.level next c.fold cs js))

  unfoldable pub honest_found : Level → List A → Coins A → Option (Transcript A)
  honest_found first f c =
      where_found (λ rest. record { table = table_of F ω first f; fold = c.fold; rest = rest }) (honest_rest_found first f c.fold c.rounds c.finals)

-- with no read so far: the refusal, or what follows
unfoldable pub then_verdict_found : Outcome → Option Verdict → Option Verdict
then_verdict_found accepted next = next
then_verdict_found (refused number place) next = some (record { outcome = refused number place; reads = 0 })

unfoldable pub deciding_found : Edition → List ℕ → Option Verdict
deciding_found e w =
    let h = sheet_of e w in
    let σ = h.spelling in
    then_verdict_found (out_tests h (sheet_length e) (layout h) w)
    (where_found counted (decide_found (field_in σ h.prime) (number_in σ (root_of_unity h)) (first_level h) (read_transcript σ h (drop (sheet_length e) w))))

unfoldable pub verify_found : Edition → List ℕ → Option Verdict
verify_found e bytes = then_verdict_found (reading e bytes) (deciding_found e (stream_of bytes))

unfoldable pub honest_stream_found : Edition → List ℕ → List ℕ → List ℕ → Option (List ℕ)
honest_stream_found e w f coins =
    let h = sheet_of e w in
    let σ = h.spelling in
    where_found (λ τ. w ++ transcript_words σ τ)
    (honest_found (field_in σ h.prime) (number_in σ (root_of_unity h)) (first_level h) (elements_in σ f) (read_coins σ h coins))

-- refused: the output as before, and no inverse is asked for; done: the part written, if it is found, and after it the output as before
unfoldable pub finish_found : Outcome → ℕ → Option (List ℕ) → List ℕ → Option Result
finish_found accepted count found output = where_found (λ written. record { answer = done count; output = written ++ drop (length written) output }) found
finish_found (refused number place) count found output = some (record { answer = refusal number place; output = output })

unfoldable pub prove_found : Edition → List ℕ → List ℕ → List ℕ → List ℕ → Option Result
prove_found e w f coins output =
    finish_found (sheet_length_test e w then sheet_test e w then prove_tests e (sheet_of e w) f coins output)
    (block_count (words_due e (sheet_of e w))) (where_found file_of (honest_stream_found e w f coins)) output
