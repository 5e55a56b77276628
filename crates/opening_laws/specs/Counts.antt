-- AS MANY PLACES DUE AS READS: of an accepted decision, over any field. So a builder knows the number of openings before it writes any.
use Prim.Native.Nat.{ℕ, zero, suc, ◌+◌, ◌*◌, ◌/◌, ◌≤◌, ◌<◌}
use Rattle.std.proofs.Math.Decide.{dec_lt}
use Rattle.std.proofs.Common.{mul_comm, mul-le-mul_left, mul-suc, ◌∙◌, eq-eqb, eqb-true, ne_eqb}
use Rattle.std.proofs.Math.Nat.{zero-add}
use native.Mathlib.Omega.{arith}
use Rattle.std.specs.Prelude.{Bool, cond, ◌&&◌, ◌≡◌, replicate}
use Rattle.std.proofs.Math.Bool.{true, false, ◌||◌}
use mathlib.Core.List.{List, [], ◌∷◌, ◌++◌, map, flat_map}
use Rattle.std.proofs.Math.Path.{refl, sym, ap, ap₂, subst}
use Rattle.std.proofs.Math.Dec.{eqb}
use Rattle.std.proofs.Math.ListN.{length, take, drop, length-append}
use Rattle.std.proofs.lemmas.List.{length-replicate}
use Rattle.std.proofs.Math.Seq.{drop-drop}
use Rattle.definition.specs.Lists.{different, first_true, member, range}
use Rattle.definition.specs.Field.{Field, Spelling, word_count}
use Rattle.definition.specs.Sheet.{Level, final_count, shift_count}
use Rattle.definition.specs.Layout.{Kind, message, index, later_count, limit, out_layout, read_rest, rest_layout, round_coins, round_layout}
use Rattle.definition.specs.Polynomial.{clash, distinct}
use Rattle.definition.specs.Domain.{root_numbers}
use Rattle.definition.specs.Transcript.{Rest, final, round, Transcript}
use Rattle.definition.specs.Verdict.{accepted, refused}
use Rattle.definition.specs.Deciding.{Place, Function, Decision, own_place, coin_places, places_of, same_place, reads_of, treated, answers, table_function, next_function, differences, decide_final, decide_rest, decide}
use Rattle.list_laws.specs.All.{All, all_append, all_flat, all_map, all_of_map, all_range, all_take, everywhere}
use Rattle.list_laws.specs.Lists.{drop_take}
use Rattle.list_laws.specs.Members.{add_all}
use Rattle.layouts.specs.EachWord.{Each, each_append_at, each_later, each_replicate}
use Rattle.layouts.proofs.LayoutFacts.{outs_length, round_length}
use Rattle.layouts.specs.LevelSizes.{Chain, Sized}
use Rattle.layouts.specs.Tests.{at_passes}
use Rattle.openings.specs.Openings.{reached, due_at, due_rest}
use Rattle.opening_laws.specs.Lawfully.{Numbered}

-- ---- numbers chosen from a range
module _ {A : Type 0} (f : ℕ → A) where
  abbrev chosen : (ℕ → Bool) → ℕ → ℕ → List A
  chosen t from n = flat_map (λ m. cond (t m) (f m ∷ []) []) (range from n)

  one : Bool → ℕ → List A
  one b m = cond b (f m ∷ []) []

  one_length : (b : Bool) (m k : ℕ) → length (one b m) ≡ length (one b k)
  unfolding one
  one_length true m k = refl
  one_length false m k = refl

  chosen_next : (t : ℕ → Bool) (from n : ℕ) → length (chosen t from (suc n)) ≡ length (one (t from) from) + length (chosen t (suc from) n)
  unfolding range one flat_map
  chosen_next t from n = length-append (one (t from) from) (chosen t (suc from) n)

  same_count : (t u : ℕ → Bool) (from n : ℕ) → ((m : ℕ) → from ≤ m → t m ≡ u m) → length (chosen t from n) ≡ length (chosen u from n)
  unfolding range flat_map
  same_count t u from zero e = refl
  same_count t u from (suc n) e =
      chosen_next t from n ∙ ap₂ ◌+◌ (ap (λ (b : Bool). length (one b from)) (e from (omega arith))) (same_count t u (suc from) n (λ m l. e m (omega arith)))
      ∙ sym (chosen_next u from n)

  one_more : (t u : ℕ → Bool) (x from n : ℕ) → from ≤ x → x < from + n → t x ≡ true → u x ≡ false → ((m : ℕ) → (m ≡ x → ⊥) → t m ≡ u m)
      → length (chosen t from n) ≡ suc (length (chosen u from n))
  unfolding range one
  one_more t u x from zero l b p q e = absurd (omega arith)
  one_more t u x from (suc n) l b p q e = go (dec_lt from x) (λ k j. one_more t u x (suc from) n k j p q e)
    where
      go : Dec (from < x) → (suc from ≤ x → x < suc from + n → length (chosen t (suc from) n) ≡ suc (length (chosen u (suc from) n))) → length (chosen t from (suc n)) ≡ suc (length (chosen u from (suc n)))
      go (yes k) ih =
          let r : length (one (t from) from) ≡ length (one (u from) from) = ap (λ (c : Bool). length (one c from)) (e from (λ z. omega (arith, z))) in
          omega (arith, chosen_next t from n, chosen_next u from n, r, ih (omega arith) (omega arith))
      go (no k) ih =
          let z : from ≡ x = omega arith in
          let a : length (one (t from) from) ≡ 1 = ap (λ (c : Bool). length (one c from)) (ap t z ∙ p) in
          let d : length (one (u from) from) ≡ 0 = ap (λ (c : Bool). length (one c from)) (ap u z ∙ q) in
          omega (arith, chosen_next t from n, chosen_next u from n, a, d, same_count t u (suc from) n (λ m h. e m (λ y. omega (arith, y))))

  none_chosen : (from n : ℕ) → length (chosen (λ _. false) from n) ≡ 0
  unfolding range flat_map
  none_chosen from zero = refl
  none_chosen from (suc n) = none_chosen (suc from) n

  -- as many as there are different numbers in a list, all of them below n
  pub chosen_different : (n : ℕ) (ms : List ℕ) → All (λ m. m < n) ms → length (chosen (λ m. member eqb m ms) 0 n) ≡ length (different eqb ms)
  unfolding member different
  chosen_different n [] h = none_chosen 0 n
  chosen_different n (x ∷ xs) h = go (member eqb x xs) refl (chosen_different n xs h.1)
    where
      go : (b : Bool) → member eqb x xs ≡ b → length (chosen (λ m. member eqb m xs) 0 n) ≡ length (different eqb xs)
          → length (chosen (λ m. eqb m x || member eqb m xs) 0 n) ≡ length (cond b (different eqb xs) (x ∷ different eqb xs))
      go true e r = same_count (λ m. eqb m x || member eqb m xs) (λ m. member eqb m xs) 0 n (λ m l. at m (eqb m x) refl) ∙ r
        where
          at : (m : ℕ) (b : Bool) → eqb m x ≡ b → (b || member eqb m xs) ≡ member eqb m xs
          at m true q = sym (ap (λ (k : ℕ). member eqb k xs) (eqb-true m x q) ∙ e)
          at m false q = refl
      go false e r =
          one_more (λ m. eqb m x || member eqb m xs) (λ m. member eqb m xs) x 0 n (omega arith) (omega (arith, h.0)) (ap (λ (b : Bool). b || member eqb x xs) (eq-eqb x x refl)) e
          (λ m k. ap (λ (b : Bool). b || member eqb m xs) (ne_eqb m x k))
          ∙ ap suc r

-- ---- one level
place : Level → ℕ → Place
place b m = record { table = b.number; number = m }

module _ (b : Level) where
  own_map : (ms : List ℕ) → flat_map (own_place b) ms ≡ map (place b) ms
  unfolding own_place place flat_map
  own_map [] = refl
  own_map (m ∷ ms) = ap (λ (r : List Place). place b m ∷ r) (own_map ms)

  map_joined : (xs ys : List ℕ) → map (place b) xs ++ map (place b) ys ≡ map (place b) (xs ++ ys)
  map_joined [] ys = refl
  map_joined (x ∷ xs) ys = ap (λ (r : List Place). place b x ∷ r) (map_joined xs ys)

  places_are : (js : List ℕ) → places_of b (own_place b) js ≡ map (place b) (flat_map (root_numbers b) js)
  unfolding places_of coin_places flat_map
  places_are [] = refl
  places_are (j ∷ js) = ap₂ ◌++◌ (own_map (root_numbers b j)) (places_are js) ∙ map_joined (root_numbers b j) (flat_map (root_numbers b) js)

  member_same : (x : ℕ) (ms : List ℕ) → member same_place (place b x) (map (place b) ms) ≡ member eqb x ms
  unfolding member same_place place
  member_same x [] = refl
  member_same x (m ∷ ms) = ap₂ ◌||◌ (ap (λ (c : Bool). c && eqb x m) (eq-eqb b.number b.number refl)) (member_same x ms)

  different_same : (ms : List ℕ) → length (different same_place (map (place b) ms)) ≡ length (different eqb ms)
  unfolding different
  different_same [] = refl
  different_same (m ∷ ms) = go (member eqb m ms) (member_same m ms) (different_same ms)
    where
      go : (c : Bool) → member same_place (place b m) (map (place b) ms) ≡ c → length (different same_place (map (place b) ms)) ≡ length (different eqb ms)
          → length (cond (member same_place (place b m) (map (place b) ms)) (different same_place (map (place b) ms)) (place b m ∷ different same_place (map (place b) ms)))
          ≡ length (cond c (different eqb ms) (m ∷ different eqb ms))
      go true e r = rw e r
      go false e r = rw e (ap suc r)

  -- the roots of the indices are numbers of points
  abbrev pub Inside : List ℕ → Type 0
  Inside js = All (λ m. m < b.size) (flat_map (root_numbers b) js)

  pub level_count : (js : List ℕ) → Inside js → reads_of (places_of b (own_place b) js) ≡ length (due_at b js)
  unfolding reads_of due_at reached place
  level_count js h =
      ap (λ (ps : List Place). length (different same_place ps)) (places_are js) ∙ different_same (flat_map (root_numbers b) js)
      ∙ sym (chosen_different (place b) b.size (flat_map (root_numbers b) js) h)

  -- places of lower tables are none of these
  other_table : (p : Place) (ms : List ℕ) → p.table < b.number → member same_place p (map (place b) ms) ≡ false
  unfolding member same_place place
  other_table p [] l = refl
  other_table p (m ∷ ms) l = ap₂ ◌||◌ (ap (λ (c : Bool). c && eqb p.number m) (ne_eqb p.table b.number (λ e. omega (arith, e)))) (other_table p ms l)

  pub more_reads : (used : List Place) (js : List ℕ) → All (λ p. p.table < b.number) used → Inside js
      → reads_of (used ++ places_of b (own_place b) js) ≡ reads_of used + length (due_at b js)
  unfolding reads_of
  more_reads used js l h =
      let q = places_of b (own_place b) js in
      add_all same_place used q (all_map used l (λ p k. ap (member same_place p) (places_are js) ∙ other_table p (flat_map (root_numbers b) js) k))
      ∙ ap (λ (n : ℕ). length (different same_place used) + n) (level_count js h)

  own_table : (n : ℕ) → b.number < n → (js : List ℕ) → All (λ p. p.table < n) (places_of b (own_place b) js)
  unfolding place
  own_table n l js =
      subst (All (λ p. p.table < n)) (sym (places_are js)) (all_of_map (λ (p : Place). p.table < n) (place b) (flat_map (root_numbers b) js) (everywhere (flat_map (root_numbers b) js) (λ m. l)))

-- ---- from a level on
module _ {A : Type 0} where
  -- each level has a higher number than the one before, and its indices lead to points of its own
  unfoldable pub Rising : Level → Rest A → Type 0
  Rising b (final c js) = Inside b js
  Rising b (round ρ rest) = Inside b ρ.coins.shifts × ((b.number < ρ.coins.level.number) × Rising ρ.coins.level rest)

refused_not : (n q : ℕ) → refused n q ≡ accepted → ⊥
refused_not n q e = let z : ◌≡◌ {A = ℕ} 0 1 = cc in omega (arith, z)

choose : (c : Bool) (x y : Decision) (n : ℕ) → (x.outcome ≡ accepted → ⊥) → (y.outcome ≡ accepted → reads_of y.used ≡ n) → (cond c x y).outcome ≡ accepted
    → reads_of (cond c x y).used ≡ n
choose true x y n f g e = absurd (f e)
choose false x y n f g e = g e

module _ {A : Type 0} (F : Field A) (ω : A) where
  pub rest_count : (b : Level) (f : Function A) (r : A) (used : List Place) (x : Rest A) → f.places ≡ own_place b → All (λ p. p.table < b.number) used → Rising b x
      → (decide_rest F ω b f r used x).outcome ≡ accepted → reads_of (decide_rest F ω b f r used x).used ≡ reads_of used + length (due_rest b x)
  unfolding decide_rest decide_final Rising due_rest treated next_function
  rest_count b f r used (final c js) own low h e =
      let fault = first_true 0 (differences F ω b f.value r c js) in
      (λ i. reads_of (used ++ places_of b (own i) (treated js (at_passes 9 fault e i)))) ∙ more_reads b used js low h
  rest_count b f r used (round ρ x) own low h e =
      let l = ρ.coins.level in
      let g = answers F ω b f.value r ρ in
      let now = used ++ places_of b f.places ρ.coins.shifts in
      let now-is : now ≡ used ++ places_of b (own_place b) ρ.coins.shifts = λ i. used ++ places_of b (own i) ρ.coins.shifts in
      let lower : All (λ p. p.table < l.number) now =
      all_append (λ p. p.table < l.number) used (places_of b f.places ρ.coins.shifts) (all_map used low (λ p k. omega (arith, k, h.1.0)))
      (subst (λ (q : ℕ → List Place). All (λ p. p.table < l.number) (places_of b q ρ.coins.shifts)) (sym own) (own_table b l.number h.1.0 ρ.coins.shifts)) in
      let here : reads_of now ≡ reads_of used + length (due_at b ρ.coins.shifts) = ap reads_of now-is ∙ more_reads b used ρ.coins.shifts low h.0 in
      choose (clash F g) (record { outcome = refused 8 l.number; used = now }) (decide_rest F ω l (next_function F ω (distinct F g) ρ) ρ.coins.fold now x)
      (reads_of used + length (due_at b ρ.coins.shifts ++ due_rest l x)) (λ z. refused_not 8 l.number z)
      (λ z. rest_count l (next_function F ω (distinct F g) ρ) ρ.coins.fold now x refl lower h.1.1 z
      ∙ omega (arith, here, length-append (due_at b ρ.coins.shifts) (due_rest l x)))
      e

  -- OF AN ACCEPTED TRANSCRIPT: as many reads as places due
  pub reads_due : (b : Level) (τ : Transcript A) → Rising b τ.rest → (decide F ω b τ).outcome ≡ accepted → reads_of (decide F ω b τ).used ≡ length (due_rest b τ.rest)
  unfolding decide table_function reads_of different
  reads_due b τ h e =
      let q : length (different same_place []) + length (due_rest b τ.rest) ≡ length (due_rest b τ.rest) = zero-add (length (due_rest b τ.rest)) in
      rest_count b (table_function F ω b τ.table) τ.fold [] τ.rest refl tt h e ∙ q

-- ---- the transcript that words in range hold
inside_of : (a : ℕ) (b : Level) (js : List ℕ) → Sized a b → All (λ j. j < shift_count b) js → Inside b js
unfolding root_numbers shift_count
inside_of a b js z h =
    let c = b.size / b.fold in
    all_flat (λ m. m < b.size) (root_numbers b) js
    (all_map js h (λ j k. all_of_map (λ m. m < b.size) (λ m. j + m * c) (range 0 b.fold)
    (all_range (λ m. j + m * c < b.size) 0 b.fold
    (λ m l u. let v : m < b.fold = omega (arith, u) in omega (arith, k, mul-le-mul_left c v, mul-suc c m, mul_comm m c, z.folds)))))

module _ (p : ℕ) (σ : Spelling) (a s : ℕ) where
  abbrev Below : Kind → ℕ → Type 0
  Below k x = x < limit p k

  shifts_below : (b l : Level) (w : List ℕ) → Each Below (round_layout σ s b l) (take (word_count σ l.size + (word_count σ s + (word_count σ s + later_count σ b))) w)
      → All (λ j. j < shift_count b) (drop (word_count σ 2) (take (later_count σ b) (drop (word_count σ s) (drop (word_count σ s) (drop (word_count σ l.size) w)))))
  unfolding round_layout limit
  shifts_below b l w h =
      let t = word_count σ l.size in
      let o = word_count σ s in
      let r = later_count σ b in
      let x = take (t + (o + (o + r))) w in
      let q₁ = each_append_at Below t (replicate t message) _ x (length-replicate t message) h in
      let q₂ = each_append_at Below o (out_layout σ s l) _ (drop t x) (outs_length σ s l) q₁.1 in
      let q₃ = each_append_at Below o (replicate o message) _ (drop o (drop t x)) (length-replicate o message) q₂.1 in
      let v : drop o (drop o (drop t x)) ≡ take r (drop o (drop o (drop t w))) =
      ap (λ (y : List ℕ). drop o (drop o y)) (drop_take t (o + (o + r)) w) ∙ ap (drop o) (drop_take o (o + r) (drop t w)) ∙ drop_take o r (drop o (drop t w)) in
      subst (λ (y : List ℕ). All (λ j. j < shift_count b) (drop (word_count σ 2) y)) v
      (each_later Below (word_count σ 2) b.repetitions (shift_count b) (drop o (drop o (drop t x))) q₃.1).1

  pub rest_rising : (i : ℕ) (b : Level) (ls : List Level) (w : List ℕ) → Chain a b ls → b.number ≡ i → Numbered (suc i) ls → Each Below (rest_layout σ s b ls) w → Rising b (read_rest σ s b ls w)
  unfolding Rising read_rest rest_layout Numbered limit round_coins
  rest_rising i b [] w c e n h =
      let m = word_count σ (final_count b) in
      let q = each_append_at Below m (replicate m message) _ w (length-replicate m message) h in
      inside_of a b (take b.repetitions (drop m w)) c (all_take (λ j. j < shift_count b) b.repetitions (drop m w) (each_replicate Below b.repetitions (index (shift_count b)) (drop m w) q.1).1)
  rest_rising i b (l ∷ ls) w c e n h =
      let t = word_count σ l.size in
      let o = word_count σ s in
      let r = later_count σ b in
      let q = each_append_at Below (t + (o + (o + r))) (round_layout σ s b l) (rest_layout σ s l ls) w (round_length σ s b l) h in
      let v : drop r (drop o (drop o (drop t w))) ≡ drop (t + (o + (o + r))) w =
      drop-drop r o (drop o (drop t w)) ∙ drop-drop (o + r) o (drop t w) ∙ drop-drop (o + (o + r)) t w in (
        inside_of a b _ c.0 (shifts_below b l w q.0),
        (omega (arith, e, n.0), rest_rising (suc i) l ls (drop r (drop o (drop o (drop t w)))) c.2 n.0 n.1 (subst (Each Below (rest_layout σ s l ls)) (sym v) q.1)),
      )
