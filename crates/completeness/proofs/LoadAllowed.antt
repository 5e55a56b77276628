-- The load (02, CR 2 and 6): whatever the generator holds, a run draws an allowed order. So verify accepts its honest file, and every line of a load with a seed other than
-- 0 begins with `accepted`.
use Prim.Native.Nat.{ℕ, zero, suc, ◌+◌, ◌-◌, ◌%◌, ◌^◌, ◌≤◌, ◌<◌}
use Rattle.std.proofs.Common.{mod-lt, arith, true≢false, sym, ap, ◌∙◌, length-append, pow_mono}
use Rattle.std.specs.Prelude.{Bool, not, cond, ◌&&◌, ◌≡◌, eqb, leb, length, get_or, take, replicate}
use Rattle.std.proofs.Math.Bool.{true, false}
use mathlib.Core.List.{List, [], ◌∷◌, ◌++◌, append-nil, map, zip_with, map-id}
use Rattle.std.proofs.Math.Option.{Option, none, some}
use Rattle.std.proofs.Math.Path.{refl, subst}
use Rattle.std.proofs.lemmas.List.{length-map, length-replicate}
use borrow.Author.Tests.{lt-leb, leb-true, leb-false, ltb-true, eq-eqb, ne_eqb}
use Rattle.std.proofs.Math.Decide.{dec_lt}
use Rattle.definition.specs.Deciding.{out_before, out_in_domain, out_repeated, repeated_outs, same_as}
use Rattle.definition.specs.Field.{Spelling, begun_by, field_in, known_field, number_in, one, prime_field, spelling_of, word_count}
use Rattle.definition.specs.Layout.{Kind, coin, coin_kinds, index, layout, limit, message, out}
use Rattle.definition.specs.Line.{decimal, decimal_within, line_of, outcome_text}
use Rattle.definition.specs.Lists.{first_true, member, range}
use Rattle.definition.specs.Load.{step, draw_below, permits, candidates, permitted, worked_sheet, draw_words, draw_sheet, not_allowed, undrawn, draw_out, draw_kind, draw_kinds, draw_input, drawn_inputs, verdict_on, load_runs, load_lines}
use Rattle.definition.specs.Prove.{coefficients_test, coin_domain_test, coin_equal_test, coins_test, input_range_test, sheet_length_test}
use Rattle.definition.specs.Reading.{out_of_range, sheet_test}
use Rattle.definition.specs.Sheet.{Level, Sheet, between, degree_rule, edition1, field_rule, fold_rule, folding_number, largest_size, later_rules, out_coins_rule, power_of_two, rounds_rule, sheet_of, sheet_rules, size_rule}
use Rattle.definition.specs.Verdict.{Verdict, accepted, refuse_at}
use Rattle.list_laws.specs.All.{All, all_replicate, at_place}
use Rattle.list_laws.specs.Booleans.{and_true, or_false, or_left, or_right}
use Rattle.list_laws.specs.Members.{member_append, range_member}
use Rattle.layouts.specs.EachWord.{Each, each_join, each_length, each_map, each_none}
use Rattle.layouts.proofs.SheetByWord.{keep_all, kept_more, kept_passes, rule_kept}
use Rattle.layouts.specs.PlainRules.{Kept}
use Rattle.layouts.specs.SheetRules.{between_true, count_small, power_of_two_lem}
use Rattle.layouts.specs.Spellings.{spelling_one}
use Rattle.layouts.specs.Tests.{at_none, if_false, none_true}
use Rattle.completeness.proofs.Completeness.{completeness}
use Rattle.completeness.specs.EqualOuts.{NoRepeat}
use Rattle.completeness.specs.Numbered.{Allowed, reads_due}
use Rattle.completeness.proofs.Premises.{Passes, Plain, apart, base_laws, base_root, base_signs, by_hand, coins_of, layout_plain, message_plain, plain_apart, plain_one, plain_zero, smallest_is}
use Rattle.completeness.specs.Ready.{Ready, ready}

-- ---- the sheet

-- Every value that a rule permits is among the candidates: those up to 48, and the powers of two after them.
small_in : (x : ℕ) → x ≤ 48 → member eqb x candidates ≡ true
unfolding candidates
small_in x h =
    member_append eqb x (range 0 49) (map (λ a. 2 ^ a) (range 6 7))
    ∙ or_left (member eqb x (range 0 49)) _ (ap (member eqb x) (sym (map-id (range 0 49))) ∙ range_member eqb (λ y. y) x 0 49 x (omega arith) (omega arith) (eq-eqb x x refl))

two_in : (a : ℕ) → a < 13 → member eqb (2 ^ a) candidates ≡ true
unfolding candidates
two_in a h = go (dec_lt a 6)
  where
    go : Dec (a < 6) → member eqb (2 ^ a) candidates ≡ true
    go (yes l) = let m : a ≤ 5 = omega arith in small_in (2 ^ a) (omega (arith, pow_mono m))
    go (no l) =
        member_append eqb (2 ^ a) (range 0 49) (map (λ b. 2 ^ b) (range 6 7))
        ∙ or_right (member eqb (2 ^ a) (range 0 49)) _ (range_member eqb (λ b. 2 ^ b) (2 ^ a) 6 7 a (omega arith) (omega arith) (eq-eqb (2 ^ a) (2 ^ a) refl))

power_in : (x : ℕ) → power_of_two x ≡ true → member eqb x candidates ≡ true
power_in x e = let p = power_of_two_lem x e in subst (λ (y : ℕ). member eqb y candidates ≡ true) (sym p.2) (two_in p.0 p.1)

pub none_missing : (w : List ℕ) (x : ℕ) → permits w x ≡ true → member eqb x candidates ≡ true
unfolding permits sheet_rules range field_rule known_field size_rule degree_rule fold_rule rounds_rule out_coins_rule folding_number later_rules
none_missing [] x e = small_in x (omega (arith, ltb-true x 3 e))
none_missing (a ∷ []) x e = power_in x (and_true (power_of_two x) _ (and_true (power_of_two x && between 4 (largest_size (spelling_of a)) x) _ e).0).0
none_missing (a ∷ b ∷ []) x e = power_in x (and_true (power_of_two x) _ e).0
none_missing (a ∷ b ∷ c ∷ []) x e = power_in x (and_true (power_of_two x) _ (and_true (power_of_two x && between 2 16 x) _ e).0).0
none_missing (a ∷ b ∷ c ∷ d ∷ []) x e = small_in x (omega (arith, leb-true x 5 (and_true (leb x 5) _ e).0))
none_missing (a ∷ b ∷ c ∷ d ∷ f ∷ []) x e = small_in x (omega (arith, (between_true 1 2 x e).1))
none_missing (a ∷ b ∷ c ∷ d ∷ f ∷ g ∷ []) x e = small_in x (count_small edition1 (a ∷ b ∷ c ∷ d ∷ f ∷ g ∷ x ∷ []) 0 e)
none_missing (a ∷ b ∷ c ∷ d ∷ f ∷ g ∷ h ∷ []) x e = small_in x (count_small edition1 (a ∷ b ∷ c ∷ d ∷ f ∷ g ∷ h ∷ x ∷ []) 1 e)
none_missing (a ∷ b ∷ c ∷ d ∷ f ∷ g ∷ h ∷ i ∷ []) x e = small_in x (count_small edition1 (a ∷ b ∷ c ∷ d ∷ f ∷ g ∷ h ∷ i ∷ x ∷ []) 2 e)
none_missing (a ∷ b ∷ c ∷ d ∷ f ∷ g ∷ h ∷ i ∷ j ∷ []) x e = small_in x (count_small edition1 (a ∷ b ∷ c ∷ d ∷ f ∷ g ∷ h ∷ i ∷ j ∷ x ∷ []) 3 e)
none_missing (a ∷ b ∷ c ∷ d ∷ f ∷ g ∷ h ∷ i ∷ j ∷ k ∷ []) x e = small_in x (count_small edition1 (a ∷ b ∷ c ∷ d ∷ f ∷ g ∷ h ∷ i ∷ j ∷ k ∷ x ∷ []) 4 e)
none_missing (a ∷ b ∷ c ∷ d ∷ f ∷ g ∷ h ∷ i ∷ j ∷ k ∷ l ∷ []) x e = small_in x (count_small edition1 (a ∷ b ∷ c ∷ d ∷ f ∷ g ∷ h ∷ i ∷ j ∷ k ∷ l ∷ x ∷ []) 5 e)
none_missing (a ∷ b ∷ c ∷ d ∷ f ∷ g ∷ h ∷ i ∷ j ∷ k ∷ l ∷ m ∷ w) x e = absurd (true≢false (sym e))

-- a sheet of one of the fields 0 to 2, whose first word is drawn among these
abbrev Faultless : List ℕ → Type 0
Faultless w = (length w ≡ 12) × (sheet_test edition1 w ≡ accepted) × (get_or w 0 0 < 3)

abbrev First : List ℕ → Type 0
First w = 0 < length w → get_or w 0 0 < 3

first_more : (w : List ℕ) (x : ℕ) → First w → permits w x ≡ true → First (w ++ (x ∷ []))
unfolding permits known_field
first_more [] x f e l = ltb-true x 3 e
first_more (a ∷ w) x f e l = f (omega arith)

words_faultless : (count : ℕ) (w : List ℕ) (v : ℕ) → length w + count ≡ 12 → Kept w → First w → Faultless (draw_words count w v).value
unfolding draw_words permitted
words_faultless zero w v e k f = let l : length w ≡ 12 = omega arith in (l, kept_passes w l k, f (omega arith))
words_faultless (suc count) w v e k f =
    go (eqb (length (permitted w)) 0) refl
    (λ h. words_faultless count (w ++ (x ∷ [])) (step v) (omega (arith, length-append w (x ∷ []))) (kept_more w x k (rule_kept w x (some h))) (first_more w x f (some h)))
  where
    x : ℕ
    x = get_or (permitted w) (step v % length (permitted w)) 0

    some : (length (permitted w) ≡ 0 → ⊥) → permits w x ≡ true
    some h = at_place (λ y. permits w y ≡ true) (permitted w) 0 (keep_all (permits w) candidates) (step v % length (permitted w)) (mod-lt (step v) (omega (arith, h)))

    go : (b : Bool) → eqb (length (permitted w)) 0 ≡ b → ((length (permitted w) ≡ 0 → ⊥) → Faultless (draw_words count (w ++ (x ∷ [])) (step v)).value) →
        Faultless (cond b (record { value = worked_sheet; next = v }) (draw_words count (w ++ (x ∷ [])) (step v))).value
    go true q r = (refl, by_hand.sheet, omega arith)
    go false q r = r (λ z. true≢false (sym (eq-eqb _ 0 z) ∙ q))

pub sheet_faultless : (v : ℕ) → Faultless (draw_sheet v).value
unfolding draw_sheet
sheet_faultless v = words_faultless 12 [] v refl (λ j l. absurd (omega arith)) (λ l. absurd (omega arith))

-- ---- coefficients and coins

-- the elements of a drawn sheet are of one word
pub drawn_one : (w : List ℕ) → get_or w 0 0 < 3 → (sheet_of edition1 w).spelling ≡ one
unfolding sheet_of
drawn_one w l = spelling_one (get_or w 0 0) l

-- a word of its kind, after an out coin of its round or none, that none of refusals 5, 7 and 14 meets, where elements are of one word
abbrev Fits : Sheet → Option ℕ → Kind → ℕ → Type 0
Fits h before k x = Passes one h k x × (out_repeated (prime_field h.prime) before k x ≡ false)

module _ (h : Sheet) (r : Ready h) where
  -- a draw below a limit that is not 0 is in range
  in_range : (k : Kind) (v : ℕ) → Plain (Passes one h) k → out_of_range h k (step v % limit h.prime k) ≡ false
  unfolding out_of_range
  in_range k v z = lt-leb (limit h.prime k) (step v % limit h.prime k) (mod-lt (step v) (leb-false (limit h.prime k) 0 (plain_zero (Passes one h) k z).0))

  -- an out coin that has no draw left
  undrawn_fits : (before : Option ℕ) (l : Level) → Plain (Passes one h) (out l) → Fits h before (out l) (undrawn h before (out l))
  unfolding undrawn out_repeated same_as field_in number_in
  undrawn_fits none l z = (z.0, refl)
  undrawn_fits (some y) l z =
      subst (Fits h (some y) (out l)) (sym (smallest_is h r (some y) l z))
      (plain_one one (prime_field h.prime) (Passes one h) (some y) (out l) z, plain_apart one (prime_field h.prime) (apart h r one (base_laws h r) (base_signs h r) (base_root h r)) (some y) (out l))

  out_fits : (before : Option ℕ) (l : Level) (again v : ℕ) → Plain (Passes one h) (out l) → Fits h before (out l) (draw_out h before (out l) again v).value
  unfolding draw_out draw_below not_allowed limit number_in
  out_fits before l zero v z = go (not_allowed h before (out l) (step v % h.prime)) refl
    where
      go : (b : Bool) → not_allowed h before (out l) (step v % h.prime) ≡ b →
          Fits h before (out l) (cond b (record { value = undrawn h before (out l); next = step v }) (draw_below h.prime v)).value
      go true q = undrawn_fits before l z
      go false q = let n = or_false (out_in_domain one h (out l) (step v % h.prime)) _ q in ((in_range (out l) v z, n.0), n.1)
  out_fits before l (suc again) v z = go (not_allowed h before (out l) (step v % h.prime)) refl (out_fits before l again (step v) z)
    where
      go : (b : Bool) → not_allowed h before (out l) (step v % h.prime) ≡ b → Fits h before (out l) (draw_out h before (out l) again (step v)).value →
          Fits h before (out l) (cond b (draw_out h before (out l) again (step v)) (draw_below h.prime v)).value
      go true q p = p
      go false q p = let n = or_false (out_in_domain one h (out l) (step v % h.prime)) _ q in ((in_range (out l) v z, n.0), n.1)

  kind_fits : (before : Option ℕ) (k : Kind) (v : ℕ) → Plain (Passes one h) k → Fits h before k (draw_kind h before k v).value
  unfolding draw_kind draw_below out_in_domain out_repeated limit
  kind_fits before message v z = ((in_range message v z, refl), refl)
  kind_fits before coin v z = ((in_range coin v z, refl), refl)
  kind_fits before (out l) v z = out_fits before l 64 v z
  kind_fits before (index n) v z = ((in_range (index n) v z, refl), refl)

  kinds_fit : (before : Option ℕ) (ks : List Kind) (v : ℕ) → All (Plain (Passes one h)) ks →
      Each (Passes one h) ks (draw_kinds h before ks v).value × NoRepeat (prime_field h.prime) before ks (draw_kinds h before ks v).value
  unfolding draw_kinds repeated_outs
  kinds_fit before [] v z = (tt, tt)
  kinds_fit before (k ∷ ks) v z =
      let x = draw_kind h before k v in
      let a = kind_fits before k v z.0 in
      let b = kinds_fit (out_before before k x.value) ks x.next z.1 in
      ((a.0, b.0), (a.1, b.1))

-- Whatever the generator holds, what a run draws is allowed.
pub draws_allowed : (v : ℕ) → Allowed edition1 (draw_input v).value.sheet (draw_input v).value.coefficients (draw_input v).value.coins
unfolding draw_input sheet_length_test coefficients_test coins_test input_range_test coin_domain_test coin_equal_test field_in number_in begun_by word_count
draws_allowed v =
    let s = sheet_faultless v in
    let w = (draw_sheet v).value in
    let h = sheet_of edition1 w in
    let r = ready edition1 w (omega (arith, s.0)) s.1 in
    let single : h.spelling ≡ one = drawn_one w s.2 in
    let ms = replicate h.degree message in
    let ks = coin_kinds (layout h) in
    let f = draw_kinds h none ms (draw_sheet v).next in
    let c = draw_kinds h none ks f.next in
    let plain = layout_plain h r one (base_laws h r) (base_signs h r) (base_root h r) in
    let fs = (kinds_fit h r none ms (draw_sheet v).next (all_replicate (Plain (Passes one h)) h.degree message (message_plain h r one (base_laws h r) (base_signs h r) (base_root h r)))).0 in
    let cs = kinds_fit h r none ks f.next (coins_of (Plain (Passes one h)) (layout h) plain) in
    let both = each_join (Passes one h) ms ks f.value c.value fs cs.0 in
    record {
      words = if_false 10 0 _ (ap not (eq-eqb _ _ s.0));
      sheet = s.1;
      coefficients = if_false 10 1 _ (ap not (eq-eqb _ _ (each_length (Passes one h) ms f.value fs ∙ length-replicate h.degree message ∙ sym (ap (λ (σ : Spelling). word_count σ h.degree) single))));
      full = if_false 10 2 _ (ap not (eq-eqb _ _ (each_length (Passes one h) ks c.value cs.0)));
      range = ap (λ (σ : Spelling). refuse_at 5 (first_true 0 (zip_with (out_of_range h) (replicate (word_count σ h.degree) message ++ ks) (f.value ++ c.value)))) single
          ∙ at_none 5 _ (no_fault (out_of_range h) (ms ++ ks) (f.value ++ c.value) (each_map (ms ++ ks) (f.value ++ c.value) both (λ k x p. p.0)));
      outside = ap (λ (σ : Spelling). refuse_at 7 (first_true 0 (zip_with (out_in_domain σ h) ks (begun_by σ c.value)))) single
          ∙ at_none 7 _ (no_fault (out_in_domain one h) ks c.value (each_map ks c.value cs.0 (λ k x p. p.1)));
      apart = ap (λ (σ : Spelling). refuse_at 14 (first_true 0 (repeated_outs (field_in σ h.prime) none ks (begun_by σ c.value)))) single ∙ at_none 14 _ (none_true 0 _ cs.1);
    }
  where
    no_fault : (t : Kind → ℕ → Bool) (ks : List Kind) (w : List ℕ) → Each (λ k x. t k x ≡ false) ks w → first_true 0 (zip_with t ks w) ≡ none
    no_fault t ks w e = subst (λ (l : List ℕ). first_true 0 (zip_with t ks l) ≡ none) (append-nil w) (each_none t 0 ks w [] e)

-- ---- the lines

-- So the honest file of each run is accepted, with the reads due.
pub draws_accepted : (v : ℕ) → verdict_on (draw_input v).value ≡ record { outcome = accepted; reads = reads_due (sheet_of edition1 (draw_input v).value.sheet) (draw_input v).value.coins }
unfolding verdict_on
draws_accepted v = completeness edition1 _ _ _ (draws_allowed v)

-- `accepted`
abbrev pub accepted_text : List ℕ
accepted_text = 97 ∷ 99 ∷ 99 ∷ 101 ∷ 112 ∷ 116 ∷ 101 ∷ 100 ∷ []

abbrev pub BeginsAccepted : List ℕ → Type 0
BeginsAccepted line = take 8 line ≡ accepted_text

line_accepted : (v : Verdict) (reads : ℕ) → v ≡ record { outcome = accepted; reads = reads } → BeginsAccepted (line_of v)
unfolding line_of outcome_text
line_accepted v reads e = ap (λ (u : Verdict). take 8 (line_of u)) e

lines_accepted : (count v : ℕ) → All BeginsAccepted (map (λ o. line_of (verdict_on o)) (drawn_inputs count v))
unfolding drawn_inputs
lines_accepted zero v = tt
lines_accepted (suc count) v = (line_accepted _ _ (draws_accepted v), lines_accepted count (draw_input v).next)

inputs_length : (count v : ℕ) → length (drawn_inputs count v) ≡ count
unfolding drawn_inputs
inputs_length zero v = refl
inputs_length (suc count) v = ap suc (inputs_length count (draw_input v).next)

-- For every seed other than 0 there are a thousand lines, and each begins with `accepted`.
pub load_accepted : (seed : ℕ) → (seed ≡ 0 → ⊥) → (length (load_lines seed) ≡ load_runs) × All BeginsAccepted (load_lines seed)
unfolding load_lines
load_accepted seed h =
    rw (ne_eqb seed 0 h) (length-map (drawn_inputs load_runs seed) (λ o. line_of (verdict_on o)) ∙ inputs_length load_runs seed, lines_accepted load_runs seed)

-- the generator as run i begins
unfoldable generator_at : ℕ → ℕ → ℕ
generator_at seed zero = seed
generator_at seed (suc i) = (draw_input (generator_at seed i)).next

after_one : (seed i : ℕ) → generator_at (draw_input seed).next i ≡ (draw_input (generator_at seed i)).next
unfolding generator_at
after_one seed zero = refl
after_one seed (suc i) = ap (λ (v : ℕ). (draw_input v).next) (after_one seed i)

line_at : (count seed i : ℕ) → i < count →
    get_or (map (λ o. line_of (verdict_on o)) (drawn_inputs count seed)) i [] ≡ line_of (verdict_on (draw_input (generator_at seed i)).value)
unfolding drawn_inputs generator_at
line_at zero seed i l = absurd (omega arith)
line_at (suc count) seed zero l = refl
line_at (suc count) seed (suc i) l =
    line_at count (draw_input seed).next i (omega arith) ∙ ap (λ (v : ℕ). line_of (verdict_on (draw_input v).value)) (after_one seed i)

line_of_run : (seed : ℕ) → (seed ≡ 0 → ⊥) → (i : ℕ) → i < load_runs → get_or (load_lines seed) i [] ≡ line_of (verdict_on (draw_input (generator_at seed i)).value)
unfolding load_lines
line_of_run seed h i l = rw (ne_eqb seed 0 h) (line_at load_runs seed i l)

-- Line i is that of run i; the first run begins with the seed, each next one with the generator as the run before leaves it.
pub load_runs_lem : (seed : ℕ) → (seed ≡ 0 → ⊥) → (v : ℕ → ℕ) × (v 0 ≡ seed) × ((i : ℕ) → v (suc i) ≡ (draw_input (v i)).next)
    × ((i : ℕ) → i < load_runs → get_or (load_lines seed) i [] ≡ line_of (verdict_on (draw_input (v i)).value))
unfolding generator_at
load_runs_lem seed h = (generator_at seed, refl, λ i. refl, line_of_run seed h)

-- Seed 0 gives one line, `refused 12 0 0`.
pub load_refused : load_lines 0 ≡ (114 ∷ 101 ∷ 102 ∷ 117 ∷ 115 ∷ 101 ∷ 100 ∷ 32 ∷ 49 ∷ 50 ∷ 32 ∷ 48 ∷ 32 ∷ 48 ∷ 10 ∷ []) ∷ []
unfolding load_lines line_of outcome_text decimal decimal_within
load_refused = refl
