-- One step of the definition's deciding from a place: a clash, a round and what follows it, and the final comparison.
use Prim.Native.Nat.{ℕ, suc, ◌+◌, ◌/◌, ◌<◌}
use native.Mathlib.Numerals.{add-one}
use native.Mathlib.Omega.{arith}
use mathlib.Core.Path.{◌≡◌, refl, sym, ap, ◌∙◌, subst}
use mathlib.Core.Bool.{true, false, not}
use mathlib.Core.List.{List, ◌++◌}
use mathlib.Core.Option.{Option, none, some}
use lib.ListN.{length, get_or, take, drop, length-map}
use Rattle.list_laws.specs.All.{All, all_places, all_take}
use Rattle.list_laws.specs.Lists.{part_length_lem}
use Rattle.layouts.specs.Levels.{rounds_of, sheet_field, sheet_root, words_for}
use Rattle.spelling.specs.Words.{elements_many}
use Rattle.definition.specs.Deciding as definition
use Rattle.definition.specs.Deciding.{Function, Place, answers, counted, decide_final, decide_rest, differences, own_place, places_of, reads_of, treated}
use Rattle.definition.specs.Domain.{fold_at, shift_point}
use Rattle.definition.specs.Field.{Element, Field, elements_in, number_in}
use Rattle.definition.specs.Lists.{first_true}
use Rattle.definition.specs.Polynomial.{Sample, clash, distinct, evaluate, pair}
use Rattle.definition.specs.Sheet.{Level, Sheet, shift_count}
use Rattle.definition.specs.Transcript.{Rest, Round, round}
use Rattle.definition.specs.Verdict.{Verdict, accepted, refuse_at, refused}
use Rattle.list_laws.specs.First.{first_below}
use Rattle.samples.specs.SampleLaws.{none_clash, some_distinct}
use Rattle.fractions.specs.declared.Oracle as oracle
use Rattle.rounds.specs.NextRound.{represents_next}
use Rattle.fractions.specs.Values.{Clear, Fits}
use Rattle.level_words.specs.declared.State.{State}
use Rattle.decide_rounds.proofs.ReadsGrow.{reads_grow, tables_grow}
use Rattle.decide_rounds.proofs.Inside.{final_there, finals_below, indices_below, words_there}
use Rattle.level_words.specs.Words.{rest_end, rest_next}
use Rattle.level_words.specs.State.{coefficients_of, current_fold, current_level, current_repetitions, current_table, finals_of, next_fold, next_fold_coin, next_oracle, next_round, next_shifts, next_size, next_state, reads_after, rest_of}
use Rattle.round_words.specs.Handed.{Differing, NextCorrecting, NextSamples, sheet_points}
use Rattle.decide_rounds.specs.Kinds.{outs_from}
use Rattle.decide_rounds.specs.Invariant.{Decided, Invariant, Represented, RepresentsIn}

-- ---- the definition's steps

module _ {A : Type 0} (F : Field A) (ω : A) (b : Level) (f : Function A) (r : A) (used : List Place) (ρ : Round A) (rest : Rest A) where
  round_clash : clash F (answers F ω b f.value r ρ) ≡ true →
      decide_rest F ω b f r used (round ρ rest)
      ≡ record { outcome = refused 8 ρ.coins.level.number; used = used ++ places_of b f.places ρ.coins.shifts }
  unfolding decide_rest
  round_clash e = rw e

  round_on : clash F (answers F ω b f.value r ρ) ≡ false →
      decide_rest F ω b f r used (round ρ rest)
      ≡ decide_rest F ω ρ.coins.level (definition.next_function F ω (distinct F (answers F ω b f.value r ρ)) ρ) ρ.coins.fold (used ++ places_of b f.places ρ.coins.shifts) rest
  unfolding decide_rest
  round_on e = rw e

next_places : {A : Type 0} (F : Field A) (ω : A) (g : List (Sample A)) (ρ : Round A) →
    record { value = (definition.next_function F ω g ρ).value; places = own_place ρ.coins.level } ≡ definition.next_function F ω g ρ
unfolding definition.next_function
next_places F ω g ρ = refl

-- ---- a round from a place

module _ (h : Sheet) (w pw ac vg : List ℕ) (st : State) (reads : ℕ) (r : Element h.spelling) (oracle : oracle.Oracle) (ok : Invariant h w (length pw) (length ac) (length vg) st oracle) (more : st.level < rounds_of h) where
  reads_after_lem : (used : List Place) → All (λ p. p.table < st.level) used → reads ≡ reads_of used →
      reads_after h st reads (next_shifts h w st) ≡ reads_of (used ++ places_of (current_level h st) (own_place (current_level h st)) (next_shifts h w st))
  reads_after_lem used before e =
      reads_grow h st used before reads (next_shifts h w st) e (all_places _ (next_shifts h w st) 0 (indices_below h w st ok.place more))

  pub clash_step : NextSamples h w pw ac vg st r oracle none → Decided h w pw ac vg st reads r oracle (record { outcome = refused 8 (next_state h st).level; reads = reads_after h st reads (next_shifts h w st) })
  unfolding next_round current_level counted
  clash_step a = λ ω f used sv e before.
      let F = sheet_field h in
      let b = current_level h st in
      let ρ = next_round h w st in
      let fn : Function (Element h.spelling) = record { value = f; places = own_place b } in
      let c = none_clash F (answers F ω b f r ρ) (a ω b f ρ refl refl refl sv) in
      sym (ap counted (ap (decide_rest F ω b fn r used) (rest_next h w st ok.place.sheet.law.paired more) ∙ round_clash F ω b fn r used ρ (rest_of h w (next_state h st)) c)
      ∙ (λ i. record { outcome = refused 8 (next_state h st).level; reads = sym (reads_after_lem used before e) i }))

  represents_after : (px py : List (Element h.spelling)) (pa pv : List ℕ) (j words : ℕ) (ω : Element h.spelling) (f : ℕ → Element h.spelling) → Invariant h w (length pw) (length pa) (length pv) (next_state h st) (next_oracle h st oracle.scale words) →
      NextSamples h w pw ac vg st r oracle (some (pair (drop j px) (drop j py))) → 0 < words →
      NextCorrecting h w st (pair (drop j px) (drop j py)) words pa pv → RepresentsIn h ω f w pw ac vg st oracle →
      RepresentsIn h ω (definition.next_function (sheet_field h) ω (distinct (sheet_field h) (answers (sheet_field h) ω (current_level h st) f r (next_round h w st))) (next_round h w st)).value
      w pw pa pv (next_state h st) (next_oracle h st oracle.scale words)
  unfolding next_round current_level next_state next_oracle current_table shift_count
  represents_after px py pa pv j words ω f next a more-words given sv =
      let F = sheet_field h in
      let b = current_level h st in
      let ρ = next_round h w st in
      let e = a ω b f ρ refl refl refl sv in
      let g = (some_distinct F (answers F ω b f r ρ) (pair (drop j px) (drop j py)) e).1 in
      let there = words_there h w st ok.place more in
      let n = elements_many h.spelling (next_size st) (take (words_for h (next_size st)) (drop st.at w)) (part_length_lem st.at (words_for h (next_size st)) w (omega (arith, there))) in
      represents_next F ω ρ (sheet_points h pw) (elements_in h.spelling pa) (elements_in h.spelling pv) (next_oracle h st oracle.scale words) more-words
      (subst (λ t. NextCorrecting h w st t words pa pv) g given)
      sv.powers next.scale (next_fold h st) refl refl
      (subst (λ (m : ℕ). Fits m (length ρ.table) (next_oracle h st oracle.scale words) (next_fold h st)) (sym (length-map pw (number_in h.spelling)))
      (subst (λ (m : ℕ). Fits (length pw) m (next_oracle h st oracle.scale words) (next_fold h st)) (sym n) next.inside.fits))

  module _ (px py : List (Element h.spelling)) (pa pv : List ℕ) (j words : ℕ) (next : Invariant h w (length pw) (length pa) (length pv) (next_state h st) (next_oracle h st oracle.scale words))
      (a : NextSamples h w pw ac vg st r oracle (some (pair (drop j px) (drop j py)))) (more-words : 0 < words)
      (given : NextCorrecting h w st (pair (drop j px) (drop j py)) words pa pv) where
    pub represented_next : Represented h w pw ac vg st oracle → Clear (get_or w 0 0) pw (next_state h st).size pv (next_oracle h st oracle.scale words) →
        outs_from h w (next_state h st) ≡ none → Represented h w pw pa pv (next_state h st) (next_oracle h st oracle.scale words)
    represented_next s clear outside = record {
      f = _;
      represents = represents_after px py pa pv j words (sheet_root h) s.f next a more-words given s.represents;
      clear = clear;
      outside = outside;
    }

    pub next_step : {v : Verdict} → Decided h w pw pa pv (next_state h st) (reads_after h st reads (next_shifts h w st)) (next_fold_coin h w st) (next_oracle h st oracle.scale words) v →
        Decided h w pw ac vg st reads r oracle v
    unfolding next_round current_level next_state
    next_step d = λ ω f used sv e before.
        let F = sheet_field h in
        let b = current_level h st in
        let ρ = next_round h w st in
        let fn : Function (Element h.spelling) = record { value = f; places = own_place b } in
        let g = distinct F (answers F ω b f r ρ) in
        let now = used ++ places_of b (own_place b) (next_shifts h w st) in
        let c = some_distinct F (answers F ω b f r ρ) (pair (drop j px) (drop j py)) (a ω b f ρ refl refl refl sv) in
        d ω (definition.next_function F ω g ρ).value now (represents_after px py pa pv j words ω f next a more-words given sv) (reads_after_lem used before e)
        (tables_grow h st used before (next_shifts h w st))
        ∙ ap (λ (fn' : Function (Element h.spelling)). counted (decide_rest F ω (current_level h (next_state h st)) fn' (next_fold_coin h w st) now (rest_of h w (next_state h st)))) (next_places F ω g ρ)
        ∙ sym (ap counted (ap (decide_rest F ω b fn r used) (rest_next h w st ok.place.sheet.law.paired more)
        ∙ round_on F ω b fn r used ρ (rest_of h w (next_state h st)) c.0))

-- ---- the final comparison from a place

module _ (h : Sheet) (w pw ac vg : List ℕ) (st : State) (reads : ℕ) (r : Element h.spelling) (oracle : oracle.Oracle) (ok : Invariant h w (length pw) (length ac) (length vg) st oracle) (end : st.level ≡ rounds_of h) where
  finals_length : length (finals_of h w st) ≡ current_repetitions h st
  unfolding finals_of
  finals_length = part_length_lem _ (current_repetitions h st) w (final_there h w st ok.place end)

  -- the place of a difference is that of a final index
  pub place_few : (place : ℕ) → Differing h w pw ac vg st r oracle (some place) →
      Represented h w pw ac vg st oracle → place < current_repetitions h st
  unfolding differences
  place_few place a s =
      let F = sheet_field h in
      let b = current_level h st in
      omega (
        arith,
        finals_length,
        first_below 0 (differences F (sheet_root h) b s.f r (elements_in h.spelling (coefficients_of h w st)) (finals_of h w st)) place (sym (a (sheet_root h) b s.f s.represents)),
        length-map (finals_of h w st) (λ j. not (F.equal (evaluate F (elements_in h.spelling (coefficients_of h w st)) (shift_point F (sheet_root h) b j)) (fold_at F (sheet_root h) b s.f r j))),
      )

  finals_all : All (λ j. j < st.size / current_fold h st) (finals_of h w st)
  finals_all = all_places _ (finals_of h w st) 0 (finals_below h w st ok.place end)

  -- the final comparison, where the place of the first difference is known
  compared : (ω : Element h.spelling) (f : ℕ → Element h.spelling) (used : List Place) (fault : Option ℕ) →
      fault ≡ first_true 0 (differences (sheet_field h) ω (current_level h st) f r (elements_in h.spelling (coefficients_of h w st)) (finals_of h w st)) →
      decide_rest (sheet_field h) ω (current_level h st) (record { value = f; places = own_place (current_level h st) }) r used (rest_of h w st)
      ≡ record { outcome = refuse_at 9 fault; used = used ++ places_of (current_level h st) (own_place (current_level h st)) (treated (finals_of h w st) fault) }
  unfolding decide_rest decide_final
  compared ω f used fault z =
      let b = current_level h st in
      let fn : Function (Element h.spelling) = record { value = f; places = own_place b } in
      ap (decide_rest (sheet_field h) ω b fn r used) (rest_end h w st ok.place.sheet.law.paired end)
      ∙ (λ i. record { outcome = refuse_at 9 (sym z i); used = used ++ places_of b (own_place b) (treated (finals_of h w st) (sym z i)) })

  -- all final coins are treated, or those up to and with the failing one
  pub same_step : Differing h w pw ac vg st r oracle none →
      Decided h w pw ac vg st reads r oracle (record { outcome = accepted; reads = reads_after h st reads (finals_of h w st) })
  unfolding counted refuse_at treated
  same_step a = λ ω f used sv e before.
      (λ i. record { outcome = accepted; reads = reads_grow h st used before reads (finals_of h w st) e finals_all i })
      ∙ sym (ap counted (compared ω f used none (a ω (current_level h st) f sv)))

  pub differ_step : (place : ℕ) → Differing h w pw ac vg st r oracle (some place) →
      Decided h w pw ac vg st reads r oracle (record { outcome = refused 9 place; reads = reads_after h st reads (take (place + 1) (finals_of h w st)) })
  unfolding counted refuse_at treated
  differ_step place a = λ ω f used sv e before.
      let js = finals_of h w st in
      let many = ap (λ (n : ℕ). reads_after h st reads (take n js)) (add-one place) in
      let all = all_take (λ j. j < st.size / current_fold h st) (suc place) js finals_all in
      (λ i. record { outcome = refused 9 place; reads = (many ∙ reads_grow h st used before reads (take (suc place) js) e all) i })
      ∙ sym (ap counted (compared ω f used (some place) (a ω (current_level h st) f sv)))
