-- No table entry shows in the device before its coin: two buffers that are the same but for tables, and there at the places of the coins treated so far, leave equal
-- devices.
use Prim.Native.Nat.{ℕ, zero, suc, ◌+◌, ◌≤◌, ◌<◌}
use Rattle.std.proofs.Common.{add_assoc, ◌∙◌}
use native.Mathlib.Omega.{arith}
use Rattle.std.specs.Prelude.{Bool, ◌≡◌, take}
use Rattle.std.proofs.Math.Bool.{true, false, cond}
use mathlib.Core.List.{List, map}
use Rattle.std.proofs.Math.Option.{Option, none, some}
use Rattle.std.proofs.Math.Path.{refl, sym, ap, subst}
use Rattle.std.proofs.Math.Dec.{ltb}
use Rattle.std.proofs.Math.ListN.{length, get_or, drop}
use Rattle.std.proofs.Math.Seq.{drop-drop}
use borrow.Author.Tests.{eq-eqb, lt-ltb, ltb-true}
use Rattle.definition.specs.Block.{stream_of}
use Rattle.device_definition.specs.Coinwise.{index_count, next_fold, places_of_coin, settled}
use Rattle.definition.specs.Deciding.{out_tests, own_place, table_function}
use Rattle.device_definition.specs.Device.{Device, Phase, began, buffer_test, busy, busy_test, command, done, ended, ended_by, folds_of, full_test, idle, is_busy, start, start_by, start_tests, step_by, tick, tick_by, tick_in, treat, treat_in, treated_one, write, write_tests, written}
use Rattle.definition.specs.Field.{Element, Field, Spelling, elements_in, field_in, number_in, word_count}
use Rattle.definition.specs.Layout.{layout, read_rest, read_transcript}
use Rattle.definition.specs.Lists.{range}
use Rattle.definition.specs.Reading.{reading}
use Rattle.definition.specs.Sheet.{Level, Sheet, edition1, first_level, root_of_unity, sheet_length, sheet_of}
use Rattle.definition.specs.Transcript.{Rest, Transcript, final, round}
use Rattle.definition.specs.Verdict.{Outcome, accepted, refuse_if, refused, ◌then◌}
use Rattle.list_laws.specs.All.{All}
use Rattle.algebra.specs.FieldIn.{zero_in}
use Rattle.layouts.specs.Levels.{level_of, out_coin_count, round_count, round_start, rounds_of, sheet_field, sheet_root, words_for}
use Rattle.layouts.proofs.LevelsByNumber.{level_first, levels_later}
use Rattle.layouts.specs.LawfulSheets.{Paired}
use Rattle.layouts.specs.Spellings.{read_drop}
use Rattle.layouts.specs.Tests.{then_passes}
use Rattle.completeness.specs.DecidedByNumber.{rest_final, rest_round, rest_after}
use Rattle.completeness.proofs.Dependence.{Beside, same_entry}
use Rattle.completeness.specs.Faults as faults
use Rattle.completeness.specs.Faults.{SameOutside, fold, part_element, part_elements, part_length, part_start, part_words, sheet_in, words}
use Rattle.completeness.specs.Numbered.{count_of, start_of, table}
use Rattle.completeness.proofs.SameVerdict.{Ordered, beside, ordered, out_same, sheet_same}
use Rattle.coinwise.specs.Local.{next_local, settled_local, with_tables}
use Rattle.device_laws.specs.Coins.{few_coins}
use Rattle.device_laws.specs.Events.{SameEntry, SameForCoins, after_start, ticked}
use Rattle.device_laws.specs.FoldPlaces.{folds_count, room_for, room_kept}
use Rattle.device_laws.proofs.Histories.{no_words}

-- ---- the transcript of a stream by number

module _ (h : Sheet) (long : Paired h) (w : List ℕ) where
  -- the tables of a stream, by their numbers
  abbrev pub tables_of : ℕ → List (Element h.spelling)
  tables_of i = part_elements edition1 h w (words (table i))

  abbrev pub transcript_in : Transcript (Element h.spelling)
  transcript_in = record { table = tables_of 0; fold = part_element edition1 h w (fold 0) 0; rest = rest_after edition1 h w 0 (rounds_of h) }

  pub transcript_is : read_transcript h.spelling h (drop (sheet_length edition1) w) ≡ transcript_in
  unfolding read_transcript first_level part_words part_start part_length start_of count_of round_start round_count
  transcript_is =
      let σ = h.spelling in
      let n = words_for h (level_of h 0).size in
      (λ x. record {
        table = elements_in σ (take (words_for h (level_first h x).size) (drop 12 w));
        fold = get_or (elements_in σ (drop (words_for h (level_first h x).size) (drop 12 w))) 0 (number_in σ 0);
        rest = read_rest σ (out_coin_count h) (level_first h x) (levels_later h long x) (drop (words_for h 1) (drop (words_for h (level_first h x).size) (drop 12 w)));
      })
      ∙ (λ x. record {
        table = elements_in σ (take n (drop 12 w));
        fold = (ap (λ (l : List ℕ). get_or (elements_in σ l) 0 (number_in σ 0)) (drop-drop n 12 w) ∙ read_drop σ w (12 + n) 0) x;
        rest = read_rest σ (out_coin_count h) (level_of h 0) (map (level_of h) (range 1 (rounds_of h)))
            ((ap (drop (words_for h 1)) (drop-drop n 12 w) ∙ drop-drop (words_for h 1) (12 + n) w ∙ ap (λ (m : ℕ). drop m w) (add_assoc 12 n (words_for h 1))) x);
      })

-- ---- two streams beside each other are one rest with the tables of each

module _ (h : Sheet) (v w : List ℕ) (near : Beside edition1 h v w) where
  abbrev tv : ℕ → List (Element h.spelling)
  tv i = part_elements edition1 h v (words (table i))

  abbrev tw : ℕ → List (Element h.spelling)
  tw i = part_elements edition1 h w (words (table i))

  own_tables : (m i : ℕ) → i + m ≡ rounds_of h → with_tables tv (rest_after edition1 h v i m) ≡ rest_after edition1 h v i m
  unfolding with_tables
  own_tables zero i e =
      let q : i ≡ rounds_of h = omega arith in
      subst (λ (j : ℕ). with_tables tv (rest_after edition1 h v j 0) ≡ rest_after edition1 h v j 0) (sym q)
      (ap (with_tables tv) (rest_final edition1 h v) ∙ sym (rest_final edition1 h v))
  own_tables (suc m) i e =
      ap (with_tables tv) (rest_round edition1 h v i m) ∙ ap (round (faults.round_in edition1 h v i)) (own_tables m (suc i) (omega arith)) ∙ sym (rest_round edition1 h v i m)

  other_tables : (m i : ℕ) → i + m ≡ rounds_of h → with_tables tw (rest_after edition1 h v i m) ≡ rest_after edition1 h w i m
  unfolding with_tables
  other_tables zero i e =
      let q : i ≡ rounds_of h = omega arith in
      subst (λ (j : ℕ). with_tables tw (rest_after edition1 h v j 0) ≡ rest_after edition1 h w j 0) (sym q)
      (ap (with_tables tw) (rest_final edition1 h v) ∙ (λ t. final (near.final_same t) (near.finals_same t)) ∙ sym (rest_final edition1 h w))
  other_tables (suc m) i e =
      let l : i < rounds_of h = omega arith in
      ap (with_tables tw) (rest_round edition1 h v i m)
      ∙ (λ t. round (record {
        coins = record {
          level = level_of h (suc i);
          outs = near.outs_same i l t;
          combination = near.combination_same i l t;
          fold = near.fold_same_case (suc i) l t;
          shifts = near.shifts_same i l t;
        };
        table = tw (suc i);
        replies = near.replies_same i l t;
      }) (other_tables m (suc i) (omega arith) t))
      ∙ sym (rest_round edition1 h w i m)

-- ---- one tick on two transcripts

module _ (h : Sheet) (v w : List ℕ) (r : Element h.spelling) (rest : Rest (Element h.spelling)) where
  abbrev tables : List ℕ → ℕ → List (Element h.spelling)
  tables u i = part_elements edition1 h u (words (table i))

  abbrev with : List ℕ → Transcript (Element h.spelling)
  with u = record { table = tables u 0; fold = r; rest = with_tables (tables u) rest }

  abbrev σ : Spelling
  σ = h.spelling

  abbrev F : Field (Element h.spelling)
  F = sheet_field h

  abbrev ω : Element h.spelling
  ω = sheet_root h

  abbrev b : Level
  b = first_level h

  entries : (l : Level) (j : ℕ) → All (SameEntry h v w) (own_place l j) → get_or (tables v l.number) j F.𝟘 ≡ get_or (tables w l.number) j F.𝟘
  unfolding own_place part_words part_length count_of
  entries l j k =
      subst (λ (o : Element h.spelling). get_or (tables v l.number) j o ≡ get_or (tables w l.number) j o) (sym (zero_in h.spelling h.prime))
      (same_entry h.spelling v w (level_of h l.number).size (part_start edition1 h (words (table l.number))) j k.0)

  count_tables : (T : ℕ → List (Element h.spelling)) (x : Rest (Element h.spelling)) → index_count (with_tables T x) ≡ index_count x
  unfolding index_count with_tables
  count_tables T (final cs js) = refl
  count_tables T (round ρ x) = ap (λ (n : ℕ). length ρ.coins.shifts + n) (count_tables T x)

  treat_same : (d : Device) → word_count h.spelling d.treated ≤ length d.folds → All (SameEntry h v w) (places_of_coin b (own_place b) d.treated rest) →
      treat_in h.spelling h (with v) d ≡ treat_in h.spelling h (with w) d
  unfolding treat_in table_function first_level
  treat_same d room places =
      let vs = folds_of σ d in
      let here : All (SameEntry h v w) (places_of_coin b (own_place b) (length vs) rest) =
      subst (λ (n : ℕ). All (SameEntry h v w) (places_of_coin b (own_place b) n rest)) (sym (folds_count σ d room)) places in
      let e =
      next_local F ω (SameEntry h v w) (tables v) (tables w) entries rest b (own_place b) (λ j. get_or (tables v 0) j F.𝟘) (λ j. get_or (tables w 0) j F.𝟘) r vs (λ j k. entries b j k) here in
      let next = treated_one σ d (next_fold F ω b (λ j. get_or (tables w 0) j F.𝟘) r vs (with_tables (tables w) rest)) in
      (λ i. ended_by (treated_one σ d (e i)) (settled F ω b (folds_of σ (treated_one σ d (e i))) (with_tables (tables v) rest)))
      ∙ ap (ended_by next) (settled_local F ω (SameEntry h v w) (tables v) (tables w) entries rest b (folds_of σ next))

  -- where there is a next coin
  treat_alike : (d : Device) → length d.folds ≡ 1152 → index_count rest ≤ 288 →
      (d.treated < index_count rest → All (SameEntry h v w) (places_of_coin b (own_place b) d.treated rest)) →
      treat h.spelling h (with v) d ≡ treat h.spelling h (with w) d
  unfolding treat
  treat_alike d room few places = rw (count_tables (tables v) rest, count_tables (tables w) rest) (go (ltb d.treated (index_count rest)) refl)
    where
      go : (c : Bool) → ltb d.treated (index_count rest) ≡ c → cond c (treat_in σ h (with v) d) d ≡ cond c (treat_in σ h (with w) d) d
      go true e = let l = ltb-true d.treated (index_count rest) e in treat_same d (omega (arith, room_for σ d.treated (omega (arith, l, few)), room)) (places l)
      go false e = refl

-- ---- what a call keeps

ended_keeps : (d : Device) (o : Option Outcome) → ((ended_by d o).taken ≡ d.taken) × ((ended_by d o).folds ≡ d.folds) × ((ended_by d o).treated ≡ d.treated)
unfolding ended_by ended
ended_keeps d none = (refl, refl, refl)
ended_keeps d (some o) = (refl, refl, refl)

-- a device after a tick: the same bytes taken, all places that there were, and no fewer coins treated
pub record Later (d e : Device) : Type 0 where
  pub bytes : e.taken ≡ d.taken
  pub places : length d.folds ≡ 1152 → length e.folds ≡ 1152
  pub coins : d.treated ≤ e.treated

module _ (σ : Spelling) (h : Sheet) (τ : Transcript (Element σ)) (d : Device) where
  -- the device with the next fold
  abbrev next : Device
  next =
      let F = field_in σ h.prime in
      let ω = number_in σ (root_of_unity h) in
      treated_one σ d (next_fold F ω (first_level h) (table_function F ω (first_level h) τ.table).value τ.fold (folds_of σ d) τ.rest)

  keeps : ((treat_in σ h τ d).taken ≡ next.taken) × ((treat_in σ h τ d).folds ≡ next.folds) × ((treat_in σ h τ d).treated ≡ next.treated)
  unfolding treat_in
  keeps = ended_keeps next (settled (field_in σ h.prime) (number_in σ (root_of_unity h)) (first_level h) (folds_of σ next) τ.rest)

  treat_counts : (treat_in σ h τ d).treated ≡ suc d.treated
  unfolding treated_one
  treat_counts = keeps.2

  treat_keeps : d.treated < 288 → Later d (treat_in σ h τ d)
  unfolding treated_one
  treat_keeps l = record {
    bytes = keeps.0;
    places = λ room. ap length keeps.1 ∙ room_kept σ d _ (omega (arith, room_for σ (suc d.treated) l, room)) ∙ room;
    coins = omega (arith, keeps.2);
  }

  treat_next : d.treated < index_count τ.rest → treat σ h τ d ≡ treat_in σ h τ d
  unfolding treat
  treat_next l = rw (lt-ltb d.treated (index_count τ.rest) l)

passes : (x : List ℕ) → start_tests x ≡ accepted → reading edition1 x ≡ accepted
unfolding start_tests
passes x e = (then_passes (reading edition1 x) _ e).0

pub tick_keeps : (p : Phase) (d : Device) (bytes : List ℕ) → Later d (tick_in p d bytes)
unfolding tick_in tick_by treat ended
tick_keeps idle d bytes = record { bytes = refl; places = λ room. room; coins = omega arith }
tick_keeps busy d bytes = by_outcome (start_tests bytes) refl
  where
    w : List ℕ
    w = stream_of bytes

    h : Sheet
    h = sheet_of edition1 (stream_of bytes)

    τ : Transcript (Element (sheet_of edition1 (stream_of bytes)).spelling)
    τ = read_transcript (sheet_of edition1 (stream_of bytes)).spelling (sheet_of edition1 (stream_of bytes)) (drop 12 (stream_of bytes))

    by_coin : index_count τ.rest ≤ 288 → (c : Bool) → ltb d.treated (index_count τ.rest) ≡ c → Later d (cond c (treat_in h.spelling h τ d) d)
    by_coin few true e = let l = ltb-true d.treated (index_count τ.rest) e in treat_keeps h.spelling h τ d (omega (arith, l, few))
    by_coin few false e = record { bytes = refl; places = λ room. room; coins = omega arith }

    by_outcome : (o : Outcome) → start_tests bytes ≡ o → Later d (tick_by d w o)
    by_outcome accepted e = by_coin (few_coins edition1 bytes (passes bytes e)) (ltb d.treated (index_count τ.rest)) refl
    by_outcome (refused n q) e = record { bytes = refl; places = λ room. room; coins = omega arith }
tick_keeps (done o) d bytes = record { bytes = refl; places = λ room. room; coins = omega arith }

start_keeps : (d : Device) (o : Outcome) → ((start_by d o).taken ≡ d.taken) × (length (start_by d o).folds ≡ 1152)
unfolding start_by began ended
start_keeps d accepted = (refl, no_words)
start_keeps d (refused number place) = (refl, no_words)

-- a start of a device that is not busy, and a tick, with a buffer of the right length
pub start_does : (d : Device) (buffer : List ℕ) → is_busy d.phase ≡ false → length buffer ≡ 65536 → (write 0 1 d buffer).device ≡ start d (take d.taken buffer)
unfolding write write_tests buffer_test busy_test full_test refuse_if ◌then◌ step_by written command
start_does d buffer free long = rw (eq-eqb (length buffer) 65536 long, free)

pub tick_does : (d : Device) (buffer : List ℕ) → length buffer ≡ 65536 → (tick d buffer).device ≡ tick_in d.phase d (take d.taken buffer)
unfolding tick buffer_test refuse_if step_by
tick_does d buffer long = rw (eq-eqb (length buffer) 65536 long)

-- ---- two buffers

module _ (d : Device) (X Y : List ℕ) (free : is_busy d.phase ≡ false) (long-x : length X ≡ 65536) (long-y : length Y ≡ 65536)
    (rx : reading edition1 (take d.taken X) ≡ accepted) (ry : reading edition1 (take d.taken Y) ≡ accepted)
    (same : SameOutside edition1 (sheet_in edition1 (take d.taken X)) (stream_of (take d.taken X)) (stream_of (take d.taken Y))) where
  abbrev x : List ℕ
  x = take d.taken X

  abbrev y : List ℕ
  y = take d.taken Y

  abbrev v : List ℕ
  v = stream_of (take d.taken X)

  abbrev w' : List ℕ
  w' = stream_of (take d.taken Y)

  abbrev h : Sheet
  h = sheet_of edition1 (stream_of (take d.taken X))

  ov : Ordered edition1 v
  ov = ordered edition1 x rx

  ow : Ordered edition1 w'
  ow = ordered edition1 y ry

  near : Beside edition1 h v w'
  near = beside edition1 v w' ov ow same

  sheets : h ≡ sheet_of edition1 w'
  sheets = sheet_same edition1 v w' ov ow same

  -- the tests of a start
  tests_same : start_tests x ≡ start_tests y
  unfolding start_tests
  tests_same =
      (λ i. (rx ∙ sym ry) i then out_tests h 12 (layout h) v) ∙ ap (λ (o : Outcome). reading edition1 y then o) (out_same edition1 v w' ov ow same)
      ∙ ap (λ (g : Sheet). reading edition1 y then out_tests g 12 (layout g) w') sheets

  -- what follows fold coin 0 in the first
  abbrev rest : Rest (Element (sheet_of edition1 (stream_of (take d.taken X))).spelling)
  rest = rest_after edition1 h v 0 (rounds_of h)

  abbrev r : Element (sheet_of edition1 (stream_of (take d.taken X))).spelling
  r = part_element edition1 h v (fold 0) 0

  first_is : read_transcript h.spelling h (drop 12 v) ≡ with h v w' r rest v
  first_is = transcript_is h ov.long v ∙ (λ i. record { table = tables_of h ov.long v 0; fold = r; rest = sym (own_tables h v w' near (rounds_of h) 0 (omega arith)) i })

  second_is : read_transcript h.spelling h (drop 12 w') ≡ with h v w' r rest w'
  second_is = transcript_is h ov.long w'
      ∙ (λ i. record { table = tables_of h ov.long w' 0; fold = sym (near.fold_same_case 0 (omega arith)) i; rest = sym (other_tables h v w' near (rounds_of h) 0 (omega arith)) i })

  rest_is : (read_transcript h.spelling h (drop 12 v)).rest ≡ rest
  rest_is = ap (λ (t : Transcript (Element h.spelling)). t.rest) (transcript_is h ov.long v)

  -- one tick
  tick_same : (p : Phase) (e : Device) → length e.folds ≡ 1152 → SameForCoins h v w' (tick_in p e x).treated → tick_in p e x ≡ tick_in p e y
  unfolding tick_in tick_by
  tick_same idle e room k = refl
  tick_same busy e room k = by_outcome (start_tests x) refl
    where
      one_more : start_tests x ≡ accepted → e.treated < index_count (read_transcript h.spelling h (drop 12 v)).rest → (tick_in busy e x).treated ≡ suc e.treated
      one_more q l = rw (q, treat_next h.spelling h (read_transcript h.spelling h (drop 12 v)) e l) (treat_counts h.spelling h (read_transcript h.spelling h (drop 12 v)) e)

      places : start_tests x ≡ accepted → e.treated < index_count rest → All (SameEntry h v w') (places_of_coin (first_level h) (own_place (first_level h)) e.treated rest)
      places q l =
          let l' = subst (λ (t : Rest (Element h.spelling)). e.treated < index_count t) (sym rest_is) l in
          subst (λ (t : Rest (Element h.spelling)). All (SameEntry h v w') (places_of_coin (first_level h) (own_place (first_level h)) e.treated t)) rest_is (k e.treated (omega (arith, one_more q l')))

      by_outcome : (o : Outcome) → start_tests x ≡ o → tick_by e v (start_tests x) ≡ tick_by e w' (start_tests y)
      by_outcome accepted q =
          (λ i. tick_by e v (q i))
          ∙ ap (λ (t : Transcript (Element h.spelling)). treat h.spelling h t e) first_is
          ∙ treat_alike h v w' r rest e room (subst (λ (t : Rest (Element h.spelling)). index_count t ≤ 288) rest_is (few_coins edition1 x rx)) (places q)
          ∙ ap (λ (t : Transcript (Element h.spelling)). treat h.spelling h t e) (sym second_is)
          ∙ ap (λ (g : Sheet). treat g.spelling g (read_transcript g.spelling g (drop 12 w')) e) sheets
          ∙ (λ i. tick_by e w' ((sym q ∙ tests_same) i))
      by_outcome (refused n m) q = (λ i. tick_by e v (q i)) ∙ (λ i. tick_by e w' ((sym q ∙ tests_same) i))
  tick_same (done o) e room k = refl

  -- the device after n ticks has the bytes and the places that it had
  kept : (n : ℕ) → ((after_start n d X).taken ≡ d.taken) × (length (after_start n d X).folds ≡ 1152)
  unfolding after_start ticked start
  kept zero = rw (start_does d X free long-x) (start_keeps d (start_tests x))
  kept (suc n) =
      let k = kept n in
      let e = after_start n d X in
      let t = tick_keeps e.phase e (take e.taken X) in
      rw (tick_does (ticked n (write 0 1 d X).device X) X long-x) (t.bytes ∙ k.0, t.places k.1)

  pub quiet : (n : ℕ) → SameForCoins h v w' (after_start n d X).treated → after_start n d X ≡ after_start n d Y
  unfolding after_start ticked start
  quiet zero k = start_does d X free long-x ∙ ap (start_by d) tests_same ∙ sym (start_does d Y free long-y)
  quiet (suc n) k =
      let e = after_start n d X in
      let t : (tick e X).device ≡ tick_in e.phase e x = tick_does e X long-x ∙ ap (λ (m : ℕ). tick_in e.phase e (take m X)) (kept n).0 in
      let u : (tick e Y).device ≡ tick_in e.phase e y = tick_does e Y long-y ∙ ap (λ (m : ℕ). tick_in e.phase e (take m Y)) (kept n).0 in
      let more = (tick_keeps e.phase e x).coins in
      let coins : (tick e X).device.treated ≡ (tick_in e.phase e x).treated = ap (λ (z : Device). z.treated) t in
      t ∙ tick_same e.phase e (kept n).1 (λ m l. k m (omega (arith, coins, l))) ∙ sym u
      ∙ ap (λ (z : Device). (tick z Y).device) (quiet n (λ m l. k m (omega (arith, coins, more, l))))
