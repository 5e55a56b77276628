-- A batch decided as a plain run: its first function is a table of its own, the combined one, and only the places of level 0 are others. In any field with the laws.
use Prim.Native.Nat.{ℕ, zero, suc, ◌+◌, ◌-◌, ◌*◌, ◌≤◌, ◌<◌}
use Rattle.std.proofs.Math.Decide.{dec_lt}
use Rattle.std.proofs.Common.{mul_comm, mul-one, zero-add, arith, ◌∙◌, subst, ne_eqb}
use Rattle.std.specs.Prelude.{Bool, true, false, cond, ◌&&◌, ◌≡◌, eqb, length}
use mathlib.Core.List.{List, [], ◌∷◌, ◌++◌, flat_map, map, append_assoc, append-nil}
use Rattle.std.proofs.Math.Path.{refl, sym, ap}
use Rattle.std.proofs.Math.ListN.{get_or, length-map, get_or-eq_default}
use Rattle.batch_definition.specs.Batch.{Batch, batch_function, combine_at, decide_batch, table_numbers}
use Rattle.definition.specs.Deciding.{Decision, Function, Place, answers, coin_places, decide, decide_final, decide_rest, differences, next_function, own_place, places_of, reads_of, same_place, table_function, treated}
use Rattle.definition.specs.Domain.{point, root_numbers}
use Rattle.definition.specs.Field.{Field, power}
use Rattle.definition.specs.Lists.{different, first_true, member, range}
use Rattle.definition.specs.Polynomial.{clash, distinct, evaluate, geometric}
use Rattle.definition.specs.Sheet.{Level}
use Rattle.definition.specs.Transcript.{Rest, Transcript, final, round}
use Rattle.definition.specs.Verdict.{Outcome, refuse_at, refused}
use Rattle.algebra.specs.Laws.{FieldLaws}
use Rattle.algebra.specs.RingLaws.{zero_mul}
use Rattle.list_laws.specs.All.{All, all_append, all_flat, all_map, all_of_map, all_range, everywhere}
use Rattle.list_laws.specs.Lists.{get_d_map_range, range_length}
use Rattle.list_laws.specs.Members.{absent, add_all, flat_different}
use Rattle.completeness.specs.Openings.{in_tables, own_table, places_different, places_flat, places_shared}

-- a round's number, which is that of its table
abbrev pub Round_number : ℕ → Type 0
Round_number n = (1 ≤ n) × (n ≤ 5)

-- every round of a run has one
abbrev pub Numbered : {A : Type 0} → Rest A → Type 0
Numbered (final cs js) = Unit {0}
Numbered (round ρ rest) = Round_number ρ.coins.level.number × Numbered rest

abbrev pub InRounds : Place → Type 0
InRounds p = Round_number p.table

-- what the first level's indices are: without a round all places are theirs, else they are the shift indices of the first round
abbrev pub FirstIndices : {A : Type 0} → Rest A → List ℕ → List Place → Type 0
FirstIndices (final cs js) indices later = later ≡ []
FirstIndices (round ρ rest) indices later = indices ≡ ρ.coins.shifts

module _ {A : Type 0} (F : Field A) (ω : A) where
  own_in : (b : Level) (js : List ℕ) → Round_number b.number → All InRounds (places_of b (own_place b) js)
  own_in b js h = all_map (places_of b (own_place b) js) (own_table b js) (λ p e. subst Round_number (sym e) h)

  used_in : (rest : Rest A) (b : Level) (v : ℕ → A) (r : A) (used : List Place) → Round_number b.number → Numbered rest → All InRounds used →
      All InRounds (decide_rest F ω b (record { value = v; places = own_place b }) r used rest).used
  unfolding decide_rest decide_final next_function
  used_in (final cs js) b v r used h k u = all_append InRounds used _ u (own_in b _ h)
  used_in (round ρ rest) b v r used h k u =
      go (clash F (answers F ω b v r ρ)) _ (all_append InRounds used _ u (own_in b ρ.coins.shifts h)) (λ q. used_in rest ρ.coins.level _ ρ.coins.fold (used ++ places_of b (own_place b) ρ.coins.shifts) k.0 k.1 q)
    where
      now : List Place
      now = used ++ places_of b (own_place b) ρ.coins.shifts

      go : (c : Bool) (d : Decision) → All InRounds now → (All InRounds now → All InRounds d.used) → All InRounds (cond c (record { outcome = refused 8 ρ.coins.level.number; used = now }) d).used
      go true d q e = q
      go false d q e = e q

  -- the places used so far stand in front, and nothing else depends on them
  pub from_used : (rest : Rest A) (b : Level) (f : Function A) (r : A) (used : List Place) →
      decide_rest F ω b f r used rest ≡ record { outcome = (decide_rest F ω b f r [] rest).outcome; used = used ++ (decide_rest F ω b f r [] rest).used }
  unfolding decide_rest decide_final
  from_used (final cs js) b f r used = refl
  from_used (round ρ rest) b f r used = go (clash F (answers F ω b f.value r ρ)) (from_used rest ρ.coins.level (next_function F ω (distinct F (answers F ω b f.value r ρ)) ρ) ρ.coins.fold)
    where
      here : List Place
      here = places_of b f.places ρ.coins.shifts

      clashed : List Place → Decision
      clashed u = record { outcome = refused 8 ρ.coins.level.number; used = u }

      after : List Place → Decision
      after u = decide_rest F ω ρ.coins.level (next_function F ω (distinct F (answers F ω b f.value r ρ)) ρ) ρ.coins.fold u rest

      go : (c : Bool) → ((u : List Place) → after u ≡ record { outcome = (after []).outcome; used = u ++ (after []).used }) → cond c (clashed (used ++ places_of b f.places ρ.coins.shifts)) (after (used ++ places_of b f.places ρ.coins.shifts))
          ≡ record {
            outcome = (cond c (clashed (places_of b f.places ρ.coins.shifts)) (after (places_of b f.places ρ.coins.shifts))).outcome;
            used = used ++ (cond c (clashed (places_of b f.places ρ.coins.shifts)) (after (places_of b f.places ρ.coins.shifts))).used;
          }
      go true k = refl
      go false k =
          k (used ++ here)
          ∙ (λ i. record { outcome = (after []).outcome; used = append_assoc used here (after []).used i })
          ∙ sym (ap (λ (d : Decision). record { outcome = d.outcome; used = used ++ d.used }) (k here))

  -- What deciding comes to, by the indices of its first level that are treated and the places of the levels after it.
  pub record Split (b : Level) (v : ℕ → A) (r : A) (rest : Rest A) : Type 0 where
    pub outcome : Outcome
    pub indices : List ℕ
    pub later : List Place
    pub first : FirstIndices rest indices later
    pub later_in : Numbered rest → All InRounds later
    pub is : (places : ℕ → List Place) → decide_rest F ω b (record { value = v; places = places }) r [] rest ≡ record { outcome = outcome; used = places_of b places indices ++ later }

  pub split : (rest : Rest A) (b : Level) (v : ℕ → A) (r : A) → Split b v r rest
  unfolding decide_rest decide_final next_function
  split (final cs js) b v r =
      let o = first_true 0 (differences F ω b v r cs js) in
      record { outcome = refuse_at 9 o; indices = treated js o; later = []; first = refl; later_in = λ k. tt; is = λ places i. record { outcome = refuse_at 9 o; used = sym (append-nil (places_of b places (treated js o))) i } }
  split (round ρ rest) b v r = go (clash F (answers F ω b v r ρ)) refl
    where
      after : List Place → Decision
      after u = decide_rest F ω ρ.coins.level (next_function F ω (distinct F (answers F ω b v r ρ)) ρ) ρ.coins.fold u rest

      go : (c : Bool) → clash F (answers F ω b v r ρ) ≡ c → Split b v r (round ρ rest)
      go true e = record {
        outcome = refused 8 ρ.coins.level.number;
        indices = ρ.coins.shifts;
        later = [];
        first = refl;
        later_in = λ k. tt;
        is = λ places. ap (λ (c : Bool). cond c (record { outcome = refused 8 ρ.coins.level.number; used = places_of b places ρ.coins.shifts }) (after (places_of b places ρ.coins.shifts))) e
            ∙ (λ i. record { outcome = refused 8 ρ.coins.level.number; used = sym (append-nil (places_of b places ρ.coins.shifts)) i });
      }
      go false e = record {
        outcome = (after []).outcome;
        indices = ρ.coins.shifts;
        later = (after []).used;
        first = refl;
        later_in = λ k. used_in rest ρ.coins.level _ ρ.coins.fold [] k.0 k.1 tt;
        is = λ places. ap (λ (c : Bool). cond c (record { outcome = refused 8 ρ.coins.level.number; used = places_of b places ρ.coins.shifts }) (after (places_of b places ρ.coins.shifts))) e
            ∙ from_used rest ρ.coins.level (next_function F ω (distinct F (answers F ω b v r ρ)) ρ) ρ.coins.fold (places_of b places ρ.coins.shifts);
      }

-- the reads of indices in several tables, by those in the level's own
pub tables_times : (b : Level) (ts js : List ℕ) → reads_of (places_of b (in_tables ts) js) ≡ reads_of (places_of b (own_place b) js) * length (different eqb ts)
unfolding reads_of own_place different member
tables_times b ts js = flat ts ∙ ap (λ (n : ℕ). n * length (different eqb ts)) (sym (flat (b.number ∷ []) ∙ mul-one (length (different eqb (flat_map (root_numbers b) js)))))
  where
    flat : (us : List ℕ) → length (different same_place (places_of b (in_tables us) js)) ≡ length (different eqb (flat_map (root_numbers b) js)) * length (different eqb us)
    flat us =
        ap (λ (ps : List Place). length (different same_place ps)) (places_flat b (in_tables us) js)
        ∙ flat_different eqb same_place (in_tables us) (λ x. Unit {0}) (λ x z p q. places_shared us x z) (length (different eqb us)) (places_different us) (flat_map (root_numbers b) js) (everywhere (flat_map (root_numbers b) js) (λ x. tt))

-- ---- the first function as a table

module _ {A : Type 0} (F : Field A) (L : FieldLaws F) (ω : A) where
  infixl 65 ◌⊕◌
  infixl 70 ◌⊗◌
  open F use {𝟘, ◌⊕◌, ◌⊗◌}
  open L use {mul-zero, add_zero, reduce_zero}

  -- values 0 combine to 0
  combine_zero : (d n : ℕ) (r x : A) (bs : List ℕ) (ys : List A) → All (λ y. y ≡ 𝟘) ys → combine_at F d n r x bs ys ≡ 𝟘
  unfolding combine_at
  combine_zero d n r x [] ys h = refl
  combine_zero d n r x (b ∷ bs) [] h = refl
  combine_zero d n r x (b ∷ bs) (y ∷ ys) h =
      (λ i. power F r n ⊗ (h.0 i ⊗ evaluate F (geometric F r (d - b)) x) ⊕ combine_zero d (n + suc (d - b)) r x bs ys h.1 i)
      ∙ ap (λ (t : A). power F r n ⊗ t ⊕ 𝟘) (zero_mul F L (evaluate F (geometric F r (d - b)) x)) ∙ ap (λ (t : A). t ⊕ 𝟘) (mul-zero (power F r n)) ∙ add_zero 𝟘 ∙ reduce_zero

  -- a batch whose tables have n0 entries each
  module _ (first : Level) (β : Batch A) (sizes : All (λ t. length t ≡ first.size) β.tables) where
    unfoldable pub combined : List A
    combined = map (batch_function F ω first β).value (range 0 first.size)

    -- the plain transcript with the combined table
    abbrev pub plain : Transcript A
    plain = record { table = combined; fold = β.fold; rest = β.rest }

    combined_length : length combined ≡ first.size
    unfolding combined
    combined_length = length-map (range 0 first.size) _ ∙ range_length 0 first.size

    past_zero : (j : ℕ) → first.size ≤ j → (ts : List (List A)) → All (λ t. length t ≡ first.size) ts → All (λ y. y ≡ 𝟘) (map (λ t. get_or t j 𝟘) ts)
    past_zero j l [] h = tt
    past_zero j l (t ∷ ts) h = (get_or-eq_default t 𝟘 {n = j} (omega (arith, h.0)), past_zero j l ts h.1)

    pub same_values : (batch_function F ω first β).value ≡ (table_function F ω first combined).value
    unfolding table_function batch_function combined
    same_values = λ i j. at j (dec_lt j first.size) i
      where
        at : (j : ℕ) → Dec (j < first.size) → (batch_function F ω first β).value j ≡ get_or combined j 𝟘
        at j (yes l) = sym (get_d_map_range (batch_function F ω first β).value 𝟘 0 first.size j l ∙ ap (batch_function F ω first β).value (zero-add j))
        at j (no l) =
            combine_zero first.degree 0 β.combination (point F ω first j) β.bounds _ (past_zero j (omega arith) β.tables sizes)
            ∙ sym (get_or-eq_default combined 𝟘 {n = j} (omega (arith, combined_length)))

    -- BOTH COME TO THE SAME, but for the places of the first level: the batch has one in each of its tables.
    pub as_plain : (s : Split F ω first (table_function F ω first combined).value β.fold β.rest) →
        (decide F ω first plain ≡ record { outcome = s.outcome; used = places_of first (own_place first) s.indices ++ s.later })
        × (decide_batch F ω first β ≡ record { outcome = s.outcome; used = places_of first (in_tables (table_numbers (length β.tables))) s.indices ++ s.later })
    unfolding decide decide_batch table_function batch_function
    as_plain s = (
      s.is (own_place first),
      (λ i. decide_rest F ω first (record { value = same_values i; places = in_tables (table_numbers (length β.tables)) }) β.fold [] β.rest) ∙ s.is (in_tables (table_numbers (length β.tables))),
    )

-- ---- the reads of both

-- places of the first level and of the rounds have none in common
apart_reads : (ps later : List Place) → All (λ p. Round_number p.table → ⊥) ps → All InRounds later → reads_of (ps ++ later) ≡ reads_of ps + reads_of later
unfolding reads_of same_place
apart_reads ps later h k =
    add_all same_place ps later (all_map ps h (λ p d. absent same_place p later (all_map later k (λ q e.
    ap (λ (t : Bool). t && eqb p.number q.number) (ne_eqb p.table q.table (λ s. d (subst Round_number (sym s) e)))))))

range_different : (from n : ℕ) → length (different eqb (range from n)) ≡ n
unfolding different range
range_different from zero = refl
range_different from (suc n) =
    rw (absent eqb from (range (suc from) n) (all_range (λ y. eqb from y ≡ false) (suc from) n (λ m l u. ne_eqb from m (λ e. omega arith)))) (ap suc (range_different (suc from) n))

in_places : (b : Level) (js : List ℕ) (N : ℕ) → All (λ p. Round_number p.table → ⊥) (places_of b (in_tables (range 6 N)) js)
unfolding places_of coin_places
in_places b js N =
    all_flat _ (coin_places b (in_tables (range 6 N))) js (everywhere js (λ j. all_flat _ (in_tables (range 6 N)) (root_numbers b j) (everywhere (root_numbers b j) (λ n.
    all_of_map _ _ (range 6 N) (all_range _ 6 N (λ m l u k. omega (arith, l, k.1)))))))

-- With N tables in place of one, the first level's reads count N times.
pub times_reads : (b : Level) (js : List ℕ) (later : List Place) (N : ℕ) → b.number ≡ 0 → All InRounds later →
    reads_of (places_of b (in_tables (table_numbers N)) js ++ later) + reads_of (places_of b (own_place b) js) ≡ reads_of (places_of b (own_place b) js ++ later) + N * reads_of (places_of b (own_place b) js)
unfolding table_numbers
times_reads b js later N zeroth h =
    let R = reads_of (places_of b (own_place b) js) in
    omega (
      arith,
      apart_reads (places_of b (in_tables (table_numbers N)) js) later batch_apart h,
      apart_reads (places_of b (own_place b) js) later own_apart h,
      tables_times b (table_numbers N) js,
      range_different 6 N,
      ap (λ (n : ℕ). R * n) (range_different 6 N),
      mul_comm R N,
    )
  where
    own_apart : All (λ p. Round_number p.table → ⊥) (places_of b (own_place b) js)
    own_apart = all_map (places_of b (own_place b) js) (own_table b js) (λ p e k. omega (arith, e, k.0))

    batch_apart : All (λ p. Round_number p.table → ⊥) (places_of b (in_tables (range 6 N)) js)
    batch_apart = in_places b js N
