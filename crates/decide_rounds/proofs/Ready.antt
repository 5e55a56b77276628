-- What the functions hand to each other, over plain numbers and lists: what a call requires, and what it gives, in the words of the stream.
use Prim.Native.Nat.{ℕ, ◌+◌, ◌*◌, ◌≤◌, ◌<◌}
use native.Mathlib.Omega.{arith}
use mathlib.Core.Path.{◌≡◌, refl, sym, ap, ◌∙◌, subst}
use mathlib.Core.List.{List}
use mathlib.Core.Option.{none, some}
use lib.ListN.{length, get_or, take, drop}
use lib.Seq.{take_all}
use Rattle.layouts.specs.Levels.{rounds_of, sheet_field, words_for}
use Rattle.layouts.specs.Spellings.{read_length}
use Rattle.definition.specs.Field.{Element, elements_in}
use Rattle.definition.specs.Polynomial.{pair}
use Rattle.definition.specs.Sheet.{Edition, Sheet, sheet_of}
use Rattle.definition.specs.Verdict.{Verdict, accepted, refused}
use Rattle.std.specs.Prelude.{Some, None}
use Rattle.outcome.specs.Meaning.{Found, place_of}
use Rattle.lists.specs.Correcting.{Columned}
use Rattle.std.specs.Prelude.{Some, None}
use Rattle.samples.specs.Samples.{Gathered, Room, kept}
use Rattle.samples.specs.Answers.{kept_clash, kept_from}
use Rattle.fractions.specs.declared.Oracle.{Oracle}
use Rattle.level_words.specs.declared.State.{State}
use Rattle.algebra.specs.Different.{Apart}
use Rattle.algebra.specs.RootsOfUnity.{minus_one}
use Rattle.spelling.specs.ByField.{laws_at}
use Rattle.completeness.specs.Ready.{sheet_laws}
use Rattle.fractions.specs.Values.{Clear}
use Rattle.rounds.specs.RoundLaws.{signs_at}
use Rattle.decide_rounds.proofs.Divisors.{clear_next, outside_next, samples_apart}
use Rattle.decide_rounds.proofs.Inside.{few_coins, invariant_next, words_there}
use Rattle.level_words.specs.Reads.{reads_most}
use Rattle.list_laws.specs.Lists.{part_length_lem}
use Rattle.decide_rounds.proofs.Steps.{clash_step, differ_step, next_step, place_few, represented_next, same_step}
use Rattle.level_words.specs.State.{current_fold, current_repetitions, finals_of, next_degree, next_fold, next_fold_coin, next_oracle, next_shifts, next_state, reads_after, shifts_at}
use Rattle.level_words.specs.Inside.{FinalInside}
use Rattle.round_words.specs.Handed.{Differing, NextCorrecting, NextSamples}
use Rattle.decide_rounds.specs.Invariant.{Decided, Invariant, Represented}

pub not_last : (level last word : ℕ) → word ≡ last → level ≤ last → (level ≡ word → ⊥) → level < last
not_last level last word e h d = omega arith

-- ---- answers

pub room_in : (g : Gathered) (j : ℕ) → g ≡ Some j → Room 50 50 g → j ≤ 50
room_in g j e r = let q = subst (Room 50 50) e r in q.1

-- ---- the final comparison

finals_whole : (ed : Edition) (h : Sheet) (w : List ℕ) (st : State) → FinalInside ed h w st → {t : ℕ} → t ≡ current_repetitions h st → take t (finals_of h w st) ≡ finals_of h w st
unfolding finals_of
finals_whole ed h w st i {t} et =
    let long = part_length_lem (st.at + words_for h (next_degree h st)) (current_repetitions h st) w i.there in
    take_all t (take (current_repetitions h st) (drop (st.at + words_for h (next_degree h st)) w)) (omega (arith, et, long))

module _ (h : Sheet) (w pw ac vg : List ℕ) (st : State) (reads : ℕ) (r : Element h.spelling) (oracle : Oracle) (ok : Invariant h w (length pw) (length ac) (length vg) st oracle) (end : st.level ≡ rounds_of h)
    (f : Found) (a : Differing h w pw ac vg st r oracle (place_of f)) where
  differing_at : {i : ℕ} → f ≡ Some i → Differing h w pw ac vg st r oracle (some i)
  unfolding place_of
  differing_at e = λ ω b g sv. ap place_of (sym e) ∙ a ω b g sv

  differing_nowhere : f ≡ None → Differing h w pw ac vg st r oracle none
  unfolding place_of
  differing_nowhere e = λ ω b g sv. ap place_of (sym e) ∙ a ω b g sv

  pub place_ready : {i : ℕ} → f ≡ Some i → Represented h w pw ac vg st oracle → i < current_repetitions h st
  place_ready {i} e s = place_few h w pw ac vg st reads r oracle ok end i (differing_at e) s

  pub differ_ready : {i now : ℕ} → f ≡ Some i → now ≡ reads_after h st reads (take (i + 1) (finals_of h w st)) → Decided h w pw ac vg st reads r oracle (record { outcome = refused 9 i; reads = now })
  differ_ready {i} e en =
      subst (λ (n : ℕ). Decided h w pw ac vg st reads r oracle (record { outcome = refused 9 i; reads = n })) (sym en)
      (differ_step h w pw ac vg st reads r oracle ok end i (differing_at e))

  pub same_ready : (ed : Edition) → FinalInside ed h w st → {t now : ℕ} → t ≡ current_repetitions h st → f ≡ None → now ≡ reads_after h st reads (take t (finals_of h w st)) →
      Decided h w pw ac vg st reads r oracle (record { outcome = accepted; reads = now })
  same_ready ed inside et e en =
      subst (λ (n : ℕ). Decided h w pw ac vg st reads r oracle (record { outcome = accepted; reads = n })) (sym (en ∙ ap (reads_after h st reads) (finals_whole ed h w st inside et)))
      (same_step h w pw ac vg st reads r oracle ok end (differing_nowhere e))

-- ---- from a place to the next

pub level_next : (h : Sheet) (st next : State) → next ≡ next_state h st → next.level ≡ st.level + 1
unfolding next_state
level_next h st next e = ap (λ (x : State). x.level) e

-- -1 and 1 differ in the sheet's field
sheet_signs : (ed : Edition) (w : List ℕ) → minus_one (sheet_field (sheet_of ed w)) ≡ (sheet_field (sheet_of ed w)).𝟙 → ⊥
unfolding sheet_of
sheet_signs ed w = signs_at (get_or w 0 0)

module _ (ed : Edition) (w pw ac vg : List ℕ) (st : State) (reads : ℕ) (r : Element (sheet_of ed w).spelling) (oracle : Oracle)
    (ok : Invariant (sheet_of ed w) w (length pw) (length ac) (length vg) st oracle) (more : st.level < rounds_of (sheet_of ed w)) (next : State) (en : next ≡ next_state (sheet_of ed w) st) (g : Gathered) where
  abbrev h : Sheet
  h = sheet_of ed w

  -- what words spell
  abbrev read : List ℕ → List (Element (sheet_of ed w).spelling)
  read v = elements_in (sheet_of ed w).spelling v

  pub clash_ready : (px py : List ℕ) (now : ℕ) → now ≡ reads_after h st reads (next_shifts h w st) → g ≡ None → NextSamples h w pw ac vg st r oracle (kept g (read px) (read py)) →
      Decided h w pw ac vg st reads r oracle (record { outcome = refused 8 next.level; reads = now })
  clash_ready px py now ew e a =
      subst (λ (x : State). Decided h w pw ac vg st reads r oracle (record { outcome = refused 8 x.level; reads = now })) (sym en)
      (subst (λ (n : ℕ). Decided h w pw ac vg st reads r oracle (record { outcome = refused 8 (next_state h st).level; reads = n })) (sym ew)
      (clash_step h w pw ac vg st reads r oracle ok more (subst (NextSamples h w pw ac vg st r oracle) (sym (kept_clash (read px) (read py) e refl)) a)))

  -- and there are not too many reads to count
  pub most_next : (now : ℕ) → now ≡ reads_after h st reads (next_shifts h w st) → reads ≤ 768 * st.level → now ≤ 768 * next.level
  unfolding reads_after next_shifts
  most_next now ew few =
      let js = take (current_repetitions h st) (drop (shifts_at h st) w) in
      let long = part_length_lem (shifts_at h st) (current_repetitions h st) w (words_there h w st ok.place more) in
      let small = (ok.place.sheet.folds st.level ok.place.level).small in
      omega (arith, ew, few, level_next h st next en, reads_most js (current_fold h st) (omega (arith, long, few_coins h w st ok.place)) small)

  module _ (px py : List ℕ) (lx : length px ≡ words_for h 50) (ly : length py ≡ words_for h 50) (j : ℕ) (ej : g ≡ Some j) (a : NextSamples h w pw ac vg st r oracle (kept g (read px) (read py)))
      (s : Represented h w pw ac vg st oracle) where
    found : NextSamples h w pw ac vg st r oracle (some (pair (drop j (read px)) (drop j (read py))))
    found = subst (NextSamples h w pw ac vg st r oracle) (sym (kept_from (read px) (read py) ej refl)) a

    even : length (read py) ≡ length (read px)
    even = read_length h.spelling 50 py ly ∙ sym (read_length h.spelling 50 px lx)

    -- the points of the samples are different
    pub apart_ready : Apart (sheet_field (sheet_of ed w)) (drop j (read px))
    apart_ready = samples_apart h (sheet_laws ed w) (sheet_signs ed w) w pw ac vg st oracle ok more s r (read px) (read py) j even found

    module _ (words : ℕ) (oracle' : Oracle) (eh : oracle' ≡ next_oracle h st oracle.scale words) (pa pv : List ℕ) (la : length pa ≡ words_for h 66) (lv : length pv ≡ words_for h 132)
        (few : Columned (next_fold h st) words) (given : NextCorrecting h w st (pair (drop j (read px)) (drop j (read py))) words pa pv) where
      after : Invariant h w (length pw) (length pa) (length pv) (next_state h st) (next_oracle h st oracle.scale words)
      after = invariant_next h w st oracle ok more (length pa) (length pv) words la lv few

      clear : Clear (get_or w 0 0) pw (next_state h st).size pv (next_oracle h st oracle.scale words)
      unfolding sheet_of
      clear = clear_next h (laws_at (get_or w 0 0)) (sheet_signs ed w) w pw ac vg st oracle ok more s r (read px) (read py) j even found words pa pv after given

      represented : Represented h w pw pa pv (next_state h st) (next_oracle h st oracle.scale words)
      represented =
          represented_next h w pw ac vg st reads r oracle ok more (read px) (read py) pa pv j words after found few.0 given s clear
          (outside_next h (sheet_laws ed w) (sheet_signs ed w) w pw ac vg st oracle ok more s)

      pub next_ready : Invariant h w (length pw) (length pa) (length pv) next oracle' × Represented h w pw pa pv next oracle'
      next_ready = (
        subst (λ (x : State). Invariant h w (length pw) (length pa) (length pv) x oracle') (sym en)
            (subst (Invariant h w (length pw) (length pa) (length pv) (next_state h st)) (sym eh) after),
        subst (λ (x : State). Represented h w pw pa pv x oracle') (sym en) (subst (Represented h w pw pa pv (next_state h st)) (sym eh) represented),
      )

      pub next_decided : {v : Verdict} {now : ℕ} {r' : Element (sheet_of ed w).spelling} → now ≡ reads_after h st reads (next_shifts h w st) → r' ≡ next_fold_coin h w st →
          Decided h w pw pa pv next now r' oracle' v → Decided h w pw ac vg st reads r oracle v
      next_decided {v} {now} {r'} ew er d =
          next_step h w pw ac vg st reads r oracle ok more (read px) (read py) pa pv j words after found few.0 given
          (subst (λ (n : ℕ). Decided h w pw pa pv (next_state h st) n (next_fold_coin h w st) (next_oracle h st oracle.scale words) v) ew
          (subst (λ y. Decided h w pw pa pv (next_state h st) now y (next_oracle h st oracle.scale words) v) er
          (subst (λ (x : Oracle). Decided h w pw pa pv (next_state h st) now r' x v) eh (subst (λ (x : State). Decided h w pw pa pv x now r' oracle' v) en d))))
