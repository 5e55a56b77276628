-- WHAT DECIDING DEPENDS ON, over any field: two transcripts with the same coins and messages, whose tables agree at each place that a coin leads to, are decided alike.
-- Function values are read from tables by number, so that an entry not reached plays no part.
use Rattle.std.specs.Prelude.{ℕ, ◌≡◌, get_or}
use Rattle.std.proofs.Math.Bool.{not, cond}
use mathlib.Core.List.{List, [], ◌++◌}
use Rattle.std.proofs.Math.Path.{refl, ap, ap₂}
use Rattle.std.proofs.Common.{◌∙◌}
use Rattle.definition.specs.Field.{Field}
use Rattle.definition.specs.Lists.{first_true}
use Rattle.definition.specs.Sheet.{Level}
use Rattle.definition.specs.Polynomial.{Sample, pair, evaluate, interpolate, clash, distinct, corrected_value}
use Rattle.definition.specs.Domain.{point, shift_point, fold_at, root_numbers}
use Rattle.definition.specs.Transcript.{RoundCoins, Round, Rest, final, round, Transcript}
use Rattle.definition.specs.Verdict.{refused, refuse_at}
use Rattle.definition.specs.Deciding.{Place, Function, Decision, places_of, treated, answers, table_function, next_function, differences, decide_final, decide_rest, decide}
use Rattle.list_laws.specs.All.{All, all_map, map_all}

module _ {A : Type 0} (F : Field A) (ω : A) where
  open F use {𝟘, equal}

  -- two functions agree at the roots of each index
  abbrev pub AgreeAt : Level → (ℕ → A) → (ℕ → A) → List ℕ → Type 0
  AgreeAt b f g js = All (λ j. All (λ m. f m ≡ g m) (root_numbers b j)) js

  -- the indices of the coins that come next
  unfoldable pub indices : Rest A → List ℕ
  indices (final coefficients js) = js
  indices (round ρ rest) = ρ.coins.shifts

  -- two rests that differ at most in entries that no coin leads to
  unfoldable pub Alike : Rest A → Rest A → Type 0
  Alike (final c js) (final d ks) = (c ≡ d) × (js ≡ ks)
  Alike (final c js) (round ρ y) = ⊥
  Alike (round ρ x) (final d ks) = ⊥
  Alike (round ρ x) (round π y) =
      (ρ.coins ≡ π.coins) × ((ρ.replies ≡ π.replies)
      × (AgreeAt ρ.coins.level (λ m. get_or ρ.table m 𝟘) (λ m. get_or π.table m 𝟘) (indices x) × Alike x y))

  module _ (b : Level) (f g : ℕ → A) (r : A) where
    fold_same : (j : ℕ) → All (λ m. f m ≡ g m) (root_numbers b j) → fold_at F ω b f r j ≡ fold_at F ω b g r j
    unfolding fold_at
    fold_same j h =
        ap (λ (ps : List (Sample A)). evaluate F (interpolate F ps) r)
        (map_all (λ m. f m ≡ g m) (λ m. record { point = point F ω b m; value = f m }) (λ m. record { point = point F ω b m; value = g m }) (root_numbers b j) h
        (λ m e. ap (λ (v : A). record { point = point F ω b m; value = v }) e))

    answers_same : (ρ : Round A) → AgreeAt b f g ρ.coins.shifts → answers F ω b f r ρ ≡ answers F ω b g r ρ
    unfolding answers
    answers_same ρ h =
        ap (λ (ps : List (Sample A)). pair ρ.coins.outs ρ.replies ++ ps)
        (map_all (λ j. All (λ m. f m ≡ g m) (root_numbers b j)) (λ j. record { point = shift_point F ω b j; value = fold_at F ω b f r j })
        (λ j. record { point = shift_point F ω b j; value = fold_at F ω b g r j }) ρ.coins.shifts h
        (λ j e. ap (λ (v : A). record { point = shift_point F ω b j; value = v }) (fold_same j e)))

    differences_same : (c : List A) (js : List ℕ) → AgreeAt b f g js → differences F ω b f r c js ≡ differences F ω b g r c js
    unfolding differences
    differences_same c js h =
        map_all (λ j. All (λ m. f m ≡ g m) (root_numbers b j)) (λ j. not (equal (evaluate F c (shift_point F ω b j)) (fold_at F ω b f r j)))
        (λ j. not (equal (evaluate F c (shift_point F ω b j)) (fold_at F ω b g r j))) js h
        (λ j e. ap (λ (v : A). not (equal (evaluate F c (shift_point F ω b j)) v)) (fold_same j e))

  final_same_lem : (b : Level) (f g : Function A) (r : A) (used : List Place) (c : List A) (js : List ℕ) → f.places ≡ g.places → AgreeAt b f.value g.value js
      → decide_final F ω b f r used c js ≡ decide_final F ω b g r used c js
  unfolding decide_final
  final_same_lem b f g r used c js p h =
      λ i. let fault = first_true 0 (differences_same b f.value g.value r c js h i) in
      record { outcome = refuse_at 9 fault; used = used ++ places_of b (p i) (treated js fault) }

  -- DECIDED ALIKE, from a level on
  pub rest_alike : (b : Level) (f g : Function A) (r : A) (used : List Place) (x y : Rest A) → f.places ≡ g.places → AgreeAt b f.value g.value (indices x)
      → Alike x y → decide_rest F ω b f r used x ≡ decide_rest F ω b g r used y
  unfolding decide_rest indices Alike answers next_function
  rest_alike b f g r used (final c js) (final d ks) p h a =
      final_same_lem b f g r used c js p h ∙ ap₂ (decide_final F ω b g r used) a.0 a.1
  rest_alike b f g r used (final c js) (round π y) p h a = absurd a
  rest_alike b f g r used (round ρ x) (final d ks) p h a = absurd a
  rest_alike b f g r used (round ρ x) (round π y) p h a =
      let next : List (Sample A) → List Place → Decision =
      λ s now. decide_rest F ω ρ.coins.level (next_function F ω (distinct F s) ρ) ρ.coins.fold now x in
      let other : List (Sample A) → List Place → Decision =
      λ s now. decide_rest F ω π.coins.level (next_function F ω (distinct F s) π) π.coins.fold now y in
      let e : (s : List (Sample A)) (now : List Place) → next s now ≡ other s now =
      λ s now.
      let mixed : RoundCoins A → Round A = λ c. record { coins = c; table = π.table; replies = π.replies } in
      rest_alike ρ.coins.level (next_function F ω (distinct F s) ρ) (next_function F ω (distinct F s) (mixed ρ.coins)) ρ.coins.fold now x y refl
      (all_map (indices x) a.1.1.0 (λ j. λ k. all_map (root_numbers ρ.coins.level j) k
      (λ m v. ap (corrected_value F (distinct F s) ρ.coins.combination (point F ω ρ.coins.level m)) v)))
      a.1.1.1
      ∙ ap (λ (c : RoundCoins A). decide_rest F ω c.level (next_function F ω (distinct F s) (mixed c)) c.fold now y) a.0 in
      let q : answers F ω b f.value r ρ ≡ answers F ω b g.value r π =
      answers_same b f.value g.value r ρ h ∙ ap₂ (λ (c : RoundCoins A) (o : List A). answers F ω b g.value r (record { coins = c; table = π.table; replies = o })) a.0 a.1.0 in
      let u : used ++ places_of b f.places ρ.coins.shifts ≡ used ++ places_of b g.places π.coins.shifts =
      λ i. used ++ places_of b (p i) (a.0 i).shifts in
      (λ i. cond (clash F (q i)) (record { outcome = refused 8 (a.0 i).level.number; used = u i }) (next (q i) (u i)))
      ∙ ap (cond (clash F (answers F ω b g.value r π)) (record { outcome = refused 8 π.coins.level.number; used = used ++ places_of b g.places π.coins.shifts }))
      (e (answers F ω b g.value r π) (used ++ places_of b g.places π.coins.shifts))

  -- of whole transcripts
  pub decide_alike : (b : Level) (σ τ : Transcript A) → AgreeAt b (λ m. get_or σ.table m 𝟘) (λ m. get_or τ.table m 𝟘) (indices σ.rest) → σ.fold ≡ τ.fold
      → Alike σ.rest τ.rest → decide F ω b σ ≡ decide F ω b τ
  unfolding decide table_function
  decide_alike b σ τ h e a =
      rest_alike b (table_function F ω b σ.table) (table_function F ω b τ.table) σ.fold [] σ.rest τ.rest refl h a
      ∙ ap (λ (r : A). decide_rest F ω b (table_function F ω b τ.table) r [] τ.rest) e
