-- The honest prover's words: each is of its kind and in range, and no out coin among them lies in its domain; reading them back, whatever follows them, gives the
-- honest transcript; and the coins among them are the coins given.
use Rattle.std.specs.Prelude.{ℕ, ◌+◌, ◌/◌, ◌≤◌, ◌<◌, ◌≡◌, refl}
use Rattle.std.proofs.Math.Nat
use Rattle.std.proofs.Common.{arith, ◌∙◌, take_at, drop_at}
use mathlib.Core.List.{List, [], ◌∷◌, ◌++◌, map, append_assoc, append-nil}
use Rattle.std.proofs.Math.Path.{sym, ap, subst}
use lib.ListN.{length, get_or, take, drop, replicate, length-map, length-drop, take-append-drop}
use borrow.Author.Tests.{lt-leb}
use Rattle.definition.specs.Deciding.{out_in_domain}
use Rattle.definition.specs.Domain.{domain}
use Rattle.definition.specs.Field.{Element, Field, Spelling, begun_by, elements_in, number_in, word_count, words_of}
use Rattle.definition.specs.Layout.{Kind, coin, index, later_count, layout, limit, message, out, out_layout, read_coins, read_finals, read_rest, read_rounds, read_transcript, rest_layout, round_coins, round_layout}
use Rattle.definition.specs.Lists.{chunks}
use Rattle.definition.specs.Polynomial.{evaluate, fold_poly}
use Rattle.definition.specs.Prover.{honest, honest_rest, honest_round, next_poly, table_of}
use Rattle.definition.specs.Reading.{out_of_range}
use Rattle.definition.specs.Sheet.{Level, Sheet, final_count, first_level, later_levels, shift_count}
use Rattle.definition.specs.Transcript.{rest_words, round_words, transcript_words}
use Rattle.list_laws.specs.All.{All, all_map}
use Rattle.list_laws.specs.Lists.{regroup}
use Rattle.algebra.specs.FieldIn.{Below, sum_below, words_below, zero_below}
use Rattle.algebra.specs.Laws.{FieldLaws}
use Rattle.algebra.specs.Lengths
use Rattle.layouts.specs.EachWord.{Each, Front, InRange, Outside, begun_outs, begun_quiet, each_join, each_later, each_length, each_replicate, each_same, outs_begun}
use Rattle.layouts.proofs.LayoutFacts.{outs_length}
use Rattle.layouts.specs.KindsAfter.{CoinRuns, later_layout}
use Rattle.layouts.specs.Levels.{sheet_field, sheet_root, words_for}
use Rattle.layouts.specs.Spellings.{begun_drop, one_back, read_length, read_words, read_written, two_back, words_length, words_read}
use Rattle.completeness.specs.DecidingAccepts
use Rattle.completeness.specs.DecidingAccepts.{Admissible, table_length}
use Rattle.completeness.specs.EqualOuts.{among_append, among_coins, among_indices, among_messages, among_outs, coins_among}
use Rattle.completeness.specs.RoundTrip.{Shaped, round_trip}

-- level 0's degree bound is d0
pub first_degree : {A : Type 0} (h : Sheet) (f : List A) → length f ≡ h.degree → length f ≡ (first_level h).degree
unfolding first_level
first_degree h f e = e

module _ (h : Sheet) (positive : 0 < h.prime) where
  abbrev σ : Spelling
  σ = h.spelling

  abbrev F : Field (Element h.spelling)
  F = sheet_field h

  abbrev ω : Element h.spelling
  ω = sheet_root h

  -- a value of a polynomial is an element
  evaluate_below : (f : List (Element h.spelling)) (x : Element h.spelling) → Below h.spelling h.prime (evaluate F f x)
  unfolding evaluate
  evaluate_below [] x = zero_below σ h.prime positive
  evaluate_below (c ∷ cs) x = sum_below σ h.prime positive c _

  values_below : {A : Type 0} (f : A → List (Element h.spelling)) (x : A → Element h.spelling) (xs : List A) → All (Below h.spelling h.prime) (map (λ a. evaluate F (f a) (x a)) xs)
  values_below f x [] = tt
  values_below f x (a ∷ xs) = (evaluate_below (f a) (x a), values_below f x xs)

  -- so its words pass refusal 5
  values_pass : (xs : List (Element h.spelling)) → All (Below h.spelling h.prime) xs → All (InRange h message) (words_of σ xs)
  unfolding out_of_range limit
  values_pass xs b = all_map (words_of σ xs) (words_below σ h.prime xs b) (λ x l. lt-leb h.prime x l)

  values_each : (n : ℕ) (xs : List (Element h.spelling)) → length xs ≡ n → All (Below h.spelling h.prime) xs → Each (InRange h) (replicate (word_count σ n) message) (words_of σ xs)
  values_each n xs e b = each_same (InRange h) (word_count σ n) message (words_of σ xs) (words_length σ xs ∙ ap (word_count σ) e) (values_pass xs b)

  pub table_each : (l : Level) (f : List (Element h.spelling)) → Each (InRange h) (replicate (word_count σ l.size) message) (words_of σ (table_of F ω l f))
  unfolding table_of
  table_each l f = values_each l.size (table_of F ω l f) (table_length F ω l f) (values_below (λ x. f) (λ x. x) (domain F ω l))

  fold_length : (b : Level) (f : List (Element h.spelling)) (r : Element h.spelling) → length f ≡ b.degree → length (fold_poly F b.fold r f) ≡ final_count b
  unfolding final_count
  fold_length b f r len = Lengths.length_fold F b.fold r f ∙ ap (λ (n : ℕ). n / b.fold) len

  final_each : (b : Level) (f : List (Element h.spelling)) (r : Element h.spelling) → length f ≡ b.degree →
      Each (InRange h) (replicate (word_count σ (final_count b)) message) (words_of σ (fold_poly F b.fold r f))
  unfolding fold_poly
  final_each b f r len = values_each (final_count b) (fold_poly F b.fold r f) (fold_length b f r len) (values_below (λ c. c) (λ c. r) (chunks (length f / b.fold) b.fold f))

  -- the words of a round's coins, read and written again
  outs_count : (s : ℕ) (l : Level) (outs : List ℕ) → Each (InRange h) (out_layout h.spelling s l) outs → length outs ≡ word_count h.spelling s
  outs_count s l outs ho = each_length (InRange h) (out_layout σ s l) outs ho ∙ outs_length σ s l

  outs_back : (s : ℕ) (l : Level) (outs : List ℕ) → Each (InRange h) (out_layout h.spelling s l) outs → words_of h.spelling (elements_in h.spelling outs) ≡ outs
  outs_back s l outs ho = words_read σ s outs (outs_count s l outs ho)

  outs_many : (s : ℕ) (l : Level) (outs : List ℕ) → Each (InRange h) (out_layout h.spelling s l) outs → length (elements_in h.spelling outs) ≡ s
  outs_many s l outs ho = read_length σ s outs (outs_count s l outs ho)

  abbrev later_words : List ℕ → List ℕ
  later_words v = words_of σ (get_or (elements_in σ v) 0 (number_in σ 0) ∷ get_or (elements_in σ v) 1 (number_in σ 0) ∷ []) ++ drop (word_count σ 2) v

  later_whole : (b : Level) (v : List ℕ) → Each (InRange h) (later_layout h.spelling b) v → later_words v ≡ v
  later_whole b v hv = two_back σ v (omega (arith, (each_later (InRange h) (word_count σ 2) b.repetitions (shift_count b) v hv).0))

  shifts_count : (b : Level) (v : List ℕ) → Each (InRange h) (later_layout h.spelling b) v → length (drop (word_count h.spelling 2) v) ≡ b.repetitions
  shifts_count b v hv = length-drop (word_count σ 2) v ∙ omega (arith, (each_later (InRange h) (word_count σ 2) b.repetitions (shift_count b) v hv).0)

  round_each : (s : ℕ) (b l : Level) (g : List (Element h.spelling)) (outs v : List ℕ) → Each (InRange h) (out_layout h.spelling s l) outs → Each (InRange h) (later_layout h.spelling b) v →
      Each (InRange h) (round_layout h.spelling s b l) (round_words h.spelling (honest_round F ω g (round_coins h.spelling l outs v)))
  unfolding round_layout round_words honest_round round_coins
  round_each s b l g outs v ho hv =
      each_join (InRange h) (replicate (word_count σ l.size) message) _ (words_of σ (table_of F ω l g)) _ (table_each l g)
      (each_join (InRange h) (out_layout σ s l) _ (words_of σ (elements_in σ outs)) _ (subst (Each (InRange h) (out_layout σ s l)) (sym (outs_back s l outs ho)) ho)
      (each_join (InRange h) (replicate (word_count σ s) message) _ (words_of σ (map (evaluate F g) (elements_in σ outs))) _
      (values_each s (map (evaluate F g) (elements_in σ outs)) (length-map (elements_in σ outs) (evaluate F g) ∙ outs_many s l outs ho) (values_below (λ x. g) (λ x. x) (elements_in σ outs)))
      (subst (Each (InRange h) (later_layout σ b)) (sym (later_whole b v hv)) hv)))

  module _ (L : FieldLaws (sheet_field h)) where
    -- each word after fold coin 0 is of its kind and in range
    rest_each : (s : ℕ) (b : Level) (ls : List Level) (f : List (Element h.spelling)) (r : Element h.spelling) (w : List ℕ) → length f ≡ b.degree → CoinRuns (InRange h) h.spelling s b ls w →
        Admissible F L ω b (read_rounds h.spelling s b ls w) (read_finals h.spelling s b ls w) →
        Each (InRange h) (rest_layout h.spelling s b ls) (rest_words h.spelling (honest_rest F ω b f r (read_rounds h.spelling s b ls w) (read_finals h.spelling s b ls w)))
    unfolding rest_layout rest_words honest_rest read_rounds read_finals round_coins
    rest_each s b [] f r w len d admissible = each_join (InRange h) (replicate (word_count σ (final_count b)) message) _ (words_of σ (fold_poly F b.fold r f)) w (final_each b f r len) d
    rest_each s b (l ∷ ls) f r w len d admissible =
        let g = fold_poly F b.fold r f in
        let u = take (word_count σ s) w in
        let v = take (later_count σ b) (drop (word_count σ s) w) in
        let c = round_coins σ l u v in
        each_join (InRange h) (round_layout σ s b l) _ _ _ (round_each s b l g u v d.0 d.1)
        (rest_each s l ls (next_poly F ω b g c) c.fold (drop (later_count σ b) (drop (word_count σ s) w)) (DecidingAccepts.next_fits F L ω b f r c len admissible.0) d.2 admissible.1)

    -- the honest messages have the lengths due
    pub rest_shaped : (s : ℕ) (b : Level) (ls : List Level) (f : List (Element h.spelling)) (r : Element h.spelling) (w : List ℕ) → length f ≡ b.degree → CoinRuns (InRange h) h.spelling s b ls w →
        Admissible F L ω b (read_rounds h.spelling s b ls w) (read_finals h.spelling s b ls w) →
        Shaped h.spelling s b ls (honest_rest F ω b f r (read_rounds h.spelling s b ls w) (read_finals h.spelling s b ls w))
    unfolding honest_rest read_rounds read_finals round_coins honest_round
    rest_shaped s b [] f r w len d admissible = (fold_length b f r len, (each_replicate (InRange h) b.repetitions (index (shift_count b)) w d).0)
    rest_shaped s b (l ∷ ls) f r w len d admissible =
        let g = fold_poly F b.fold r f in
        let u = take (word_count σ s) w in
        let v = take (later_count σ b) (drop (word_count σ s) w) in
        let c = round_coins σ l u v in
        let o = outs_many s l u d.0 in (
          record {
            level = refl;
            table = table_length F ω l g;
            outs = o;
            replies = length-map (elements_in σ u) (evaluate F g) ∙ o;
            shifts = shifts_count b v d.1;
          },
          rest_shaped s l ls (next_poly F ω b g c) c.fold (drop (later_count σ b) (drop (word_count σ s) w)) (DecidingAccepts.next_fits F L ω b f r c len admissible.0) d.2 admissible.1,
        )

    -- no out coin among the words lies in its domain, whatever follows them
    rest_off : (s : ℕ) (b : Level) (ls : List Level) (f : List (Element h.spelling)) (r : Element h.spelling) (w z : List ℕ) → length f ≡ b.degree → CoinRuns (InRange h) h.spelling s b ls w →
        CoinRuns (Outside h) h.spelling s b ls (begun_by h.spelling w) → Admissible F L ω b (read_rounds h.spelling s b ls w) (read_finals h.spelling s b ls w) →
        Front (Outside h) (rest_layout h.spelling s b ls) (begun_by h.spelling (rest_words h.spelling (honest_rest F ω b f r (read_rounds h.spelling s b ls w) (read_finals h.spelling s b ls w)) ++ z))
    unfolding rest_layout rest_words honest_rest read_rounds read_finals round_coins round_layout round_words honest_round out_in_domain
    rest_off s b [] f r w z len d o admissible =
        let fs = words_of σ (fold_poly F b.fold r f) in
        let n : length fs ≡ word_count σ (final_count b) = words_length σ (fold_poly F b.fold r f) ∙ ap (word_count σ) (fold_length b f r len) in
        let js = (each_replicate (InRange h) b.repetitions (index (shift_count b)) w d).0 in
        subst (λ (x : List ℕ). Front (Outside h) (replicate (word_count σ (final_count b)) message ++ replicate b.repetitions (index (shift_count b))) (begun_by σ x)) (sym (append_assoc fs w z))
        (begun_quiet σ (Outside h) (word_count σ (final_count b)) message (λ x. refl) (replicate b.repetitions (index (shift_count b))) fs (w ++ z) n
        (subst (λ (ks : List Kind). Front (Outside h) ks (begun_by σ (w ++ z))) (append-nil (replicate b.repetitions (index (shift_count b))))
        (begun_quiet σ (Outside h) b.repetitions (index (shift_count b)) (λ x. refl) [] w z js tt)))
    rest_off s b (l ∷ ls) f r w z len d o admissible =
        let g = fold_poly F b.fold r f in
        let u = take (word_count σ s) w in
        let v = take (later_count σ b) (drop (word_count σ s) w) in
        let rest = drop (later_count σ b) (drop (word_count σ s) w) in
        let c = round_coins σ l u v in
        let ts = words_of σ (table_of F ω l g) in
        let os = words_of σ (elements_in σ u) in
        let rs = words_of σ (map (evaluate F g) (elements_in σ u)) in
        let two = words_of σ (c.combination ∷ c.fold ∷ []) in
        let js = drop (word_count σ 2) v in
        let ks = rest_layout σ s l ls in
        let more = rest_words σ (honest_rest F ω l (next_poly F ω b g c) c.fold (read_rounds σ s l ls rest) (read_finals σ s l ls rest)) in
        let long : word_count σ s ≤ length w = omega (arith, outs_count s l u d.0, lib.ListN.length-take (word_count σ s) w, Nat.min-le_right (word_count σ s) (length w)) in
        let away = outs_begun σ (Outside h) s l w long o.0 in
        let many = outs_many s l u d.0 in
        let off : CoinRuns (Outside h) σ s l ls (begun_by σ rest) = subst (CoinRuns (Outside h) σ s l ls) (ap (drop (later_count σ b)) (begun_drop σ (word_count σ s) w) ∙ begun_drop σ (later_count σ b) (drop (word_count σ s) w)) o.2 in
        let inner = rest_off s l ls (next_poly F ω b g c) c.fold rest z (DecidingAccepts.next_fits F L ω b f r c len admissible.0) d.2 off admissible.1 in
        let words : (ts ++ (os ++ (rs ++ (two ++ js))) ++ more) ++ z ≡ ts ++ (os ++ (rs ++ (two ++ (js ++ (more ++ z))))) =
        append_assoc (ts ++ (os ++ (rs ++ (two ++ js)))) more z ∙ regroup ts os rs (two ++ js) (more ++ z) ∙ ap (λ (x : List ℕ). ts ++ (os ++ (rs ++ x))) (append_assoc two js (more ++ z)) in
        let kinds : (replicate (word_count σ l.size) message ++ (out_layout σ s l ++ (replicate (word_count σ s) message ++ later_layout σ b))) ++ ks
        ≡ replicate (word_count σ l.size) message ++ (out_layout σ s l ++ (replicate (word_count σ s) message ++ (replicate (word_count σ 2) coin ++ (replicate b.repetitions (index (shift_count b)) ++ ks)))) =
        regroup (replicate (word_count σ l.size) message) (out_layout σ s l) (replicate (word_count σ s) message) (later_layout σ b) ks
        ∙ ap (λ (x : List Kind). replicate (word_count σ l.size) message ++ (out_layout σ s l ++ (replicate (word_count σ s) message ++ x))) (append_assoc (replicate (word_count σ 2) coin) (replicate b.repetitions (index (shift_count b))) ks) in
        subst (λ (x : List ℕ). Front (Outside h) ((replicate (word_count σ l.size) message ++ (out_layout σ s l ++ (replicate (word_count σ s) message ++ later_layout σ b))) ++ ks) (begun_by σ x)) (sym words)
        (subst (λ (x : List Kind). Front (Outside h) x (begun_by σ (ts ++ (os ++ (rs ++ (two ++ (js ++ (more ++ z)))))))) (sym kinds)
        (begun_quiet σ (Outside h) (word_count σ l.size) message (λ x. refl) _ ts _ (words_length σ (table_of F ω l g) ∙ ap (word_count σ) (table_length F ω l g))
        (begun_outs σ (Outside h) (λ x. refl) s l (elements_in σ u) _ _ many away
        (begun_quiet σ (Outside h) (word_count σ s) message (λ x. refl) _ rs _ (words_length σ (map (evaluate F g) (elements_in σ u)) ∙ ap (word_count σ) (length-map (elements_in σ u) (evaluate F g) ∙ many))
        (begun_quiet σ (Outside h) (word_count σ 2) coin (λ x. refl) _ two _ (words_length σ (c.combination ∷ c.fold ∷ []))
        (begun_quiet σ (Outside h) b.repetitions (index (shift_count b)) (λ x. refl) ks js (more ++ z) (shifts_count b v d.1) inner))))))

    -- the coins among the words of a round
    round_coins_lem : (s : ℕ) (b l : Level) (g : List (Element h.spelling)) (outs v : List ℕ) → Each (InRange h) (out_layout h.spelling s l) outs → Each (InRange h) (later_layout h.spelling b) v →
        coins_among (round_layout h.spelling s b l) (round_words h.spelling (honest_round F ω g (round_coins h.spelling l outs v))) ≡ outs ++ v
    unfolding round_layout round_words honest_round round_coins
    round_coins_lem s b l g outs v ho hv =
        let xs = elements_in σ outs in
        let n = outs_many s l outs ho in
        let later = later_layout σ b in
        let rs = words_of σ (map (evaluate F g) xs) in
        let two = words_of σ (get_or (elements_in σ v) 0 (number_in σ 0) ∷ get_or (elements_in σ v) 1 (number_in σ 0) ∷ []) in
        let words = later_words v in
        among_messages (word_count σ l.size) (out_layout σ s l ++ (replicate (word_count σ s) message ++ later)) (words_of σ (table_of F ω l g)) (words_of σ xs ++ (rs ++ words))
        (words_length σ (table_of F ω l g) ∙ ap (word_count σ) (table_length F ω l g))
        ∙ among_outs σ s l (replicate (word_count σ s) message ++ later) (words_of σ xs) (rs ++ words) (words_length σ xs ∙ ap (word_count σ) n)
        ∙ (λ i. outs_back s l outs ho i ++ (among_messages (word_count σ s) later rs words (words_length σ (map (evaluate F g) xs) ∙ ap (word_count σ) (length-map xs (evaluate F g) ∙ n))
        ∙ among_coins (word_count σ 2) (replicate b.repetitions (index (shift_count b))) two (drop (word_count σ 2) v) (words_length σ (get_or (elements_in σ v) 0 (number_in σ 0) ∷ get_or (elements_in σ v) 1 (number_in σ 0) ∷ []))
        ∙ ap (λ (x : List ℕ). two ++ x) (among_indices b.repetitions (shift_count b) (drop (word_count σ 2) v) (shifts_count b v hv))
        ∙ later_whole b v hv) i)

    -- and among those after fold coin 0
    rest_coins : (s : ℕ) (b : Level) (ls : List Level) (f : List (Element h.spelling)) (r : Element h.spelling) (w : List ℕ) → length f ≡ b.degree → CoinRuns (InRange h) h.spelling s b ls w →
        Admissible F L ω b (read_rounds h.spelling s b ls w) (read_finals h.spelling s b ls w) →
        coins_among (rest_layout h.spelling s b ls) (rest_words h.spelling (honest_rest F ω b f r (read_rounds h.spelling s b ls w) (read_finals h.spelling s b ls w))) ≡ w
    unfolding rest_layout rest_words honest_rest read_rounds read_finals round_coins
    rest_coins s b [] f r w len d admissible =
        among_messages (word_count σ (final_count b)) (replicate b.repetitions (index (shift_count b))) (words_of σ (fold_poly F b.fold r f)) w
        (words_length σ (fold_poly F b.fold r f) ∙ ap (word_count σ) (fold_length b f r len))
        ∙ among_indices b.repetitions (shift_count b) w (each_replicate (InRange h) b.repetitions (index (shift_count b)) w d).0
    rest_coins s b (l ∷ ls) f r w len d admissible =
        let g = fold_poly F b.fold r f in
        let u = take (word_count σ s) w in
        let v = take (later_count σ b) (drop (word_count σ s) w) in
        let c = round_coins σ l u v in
        among_append (round_layout σ s b l) _ _ _ (each_length (InRange h) (round_layout σ s b l) (round_words σ (honest_round F ω g c)) (round_each s b l g u v d.0 d.1))
        ∙ (λ i. round_coins_lem s b l g u v d.0 d.1 i
        ++ rest_coins s l ls (next_poly F ω b g c) c.fold (drop (later_count σ b) (drop (word_count σ s) w)) (DecidingAccepts.next_fits F L ω b f r c len admissible.0) d.2 admissible.1 i)
        ∙ append_assoc u v (drop (later_count σ b) (drop (word_count σ s) w)) ∙ ap (λ (x : List ℕ). u ++ x) (take-append-drop (later_count σ b) (drop (word_count σ s) w)) ∙ take-append-drop (word_count σ s) w

    first_level_table : (f : List (Element h.spelling)) → length (words_of h.spelling (table_of F ω (first_level h) f)) ≡ words_for h h.size
    unfolding first_level
    first_level_table f = words_length σ (table_of F ω (first_level h) f) ∙ ap (word_count σ) (table_length F ω (first_level h) f)

    -- the whole transcript, for coins with fold coin 0 in front
    module _ (f : List (Element h.spelling)) (coins : List ℕ) (len : length f ≡ h.degree) (first : Each (InRange h) (replicate (words_for h 1) coin) (take (words_for h 1) coins)) (some : words_for h 1 ≤ length coins)
        (d : CoinRuns (InRange h) h.spelling h.out_coins (first_level h) (later_levels h) (drop (words_for h 1) coins))
        (admissible : Admissible F L ω (first_level h) (read_rounds h.spelling h.out_coins (first_level h) (later_levels h) (drop (words_for h 1) coins)) (read_finals h.spelling h.out_coins (first_level h) (later_levels h) (drop (words_for h 1) coins))) where
      -- fold coin 0, read and written again
      first_words : List ℕ
      first_words = words_of σ (get_or (elements_in σ coins) 0 (number_in σ 0) ∷ [])

      first_words_lem : first_words ≡ take (words_for h 1) coins
      unfolding first_words
      first_words_lem =
          sym (take_at first_words (drop (words_for h 1) coins) (words_for h 1) (words_length σ (get_or (elements_in σ coins) 0 (number_in σ 0) ∷ []))) ∙ ap (take (words_for h 1)) (one_back σ coins some)

      pub words_each : Each (InRange h) (layout h) (transcript_words h.spelling (honest F ω (first_level h) f (read_coins h.spelling h coins)))
      unfolding layout transcript_words honest read_coins first_level first_words
      words_each =
          each_join (InRange h) (replicate (words_for h h.size) message) _ (words_of σ (table_of F ω (first_level h) f)) _ (table_each (first_level h) f)
          (each_join (InRange h) (replicate (words_for h 1) coin) _ first_words _ (subst (Each (InRange h) (replicate (words_for h 1) coin)) (sym first_words_lem) first)
          (rest_each h.out_coins (first_level h) (later_levels h) f (get_or (elements_in σ coins) 0 (number_in σ 0)) (drop (words_for h 1) coins) len d admissible))

      pub words_off : (z : List ℕ) → CoinRuns (Outside h) h.spelling h.out_coins (first_level h) (later_levels h) (begun_by h.spelling (drop (words_for h 1) coins)) →
          Front (Outside h) (layout h) (begun_by h.spelling (transcript_words h.spelling (honest F ω (first_level h) f (read_coins h.spelling h coins)) ++ z))
      unfolding layout transcript_words honest read_coins first_level first_words out_in_domain
      words_off z o =
          let r = get_or (elements_in σ coins) 0 (number_in σ 0) in
          let b = first_level h in
          let ts = words_of σ (table_of F ω b f) in
          let more = rest_words σ (honest_rest F ω b f r (read_rounds σ h.out_coins b (later_levels h) (drop (words_for h 1) coins)) (read_finals σ h.out_coins b (later_levels h) (drop (words_for h 1) coins))) in
          subst (λ (x : List ℕ). Front (Outside h) (layout h) (begun_by σ x)) (sym (append_assoc ts (first_words ++ more) z ∙ ap (λ (x : List ℕ). ts ++ x) (append_assoc first_words more z)))
          (begun_quiet σ (Outside h) (words_for h h.size) message (λ x. refl) _ ts _ (first_level_table f)
          (begun_quiet σ (Outside h) (words_for h 1) coin (λ x. refl) _ first_words _ (words_length σ (r ∷ []))
          (rest_off h.out_coins b (later_levels h) f r (drop (words_for h 1) coins) z (first_degree h f len) d o admissible)))

      pub words_back : (z : List ℕ) → read_transcript h.spelling h (transcript_words h.spelling (honest F ω (first_level h) f (read_coins h.spelling h coins)) ++ z) ≡ honest F ω (first_level h) f (read_coins h.spelling h coins)
      unfolding read_transcript transcript_words honest read_coins
      words_back z =
          let b = first_level h in
          let r = get_or (elements_in σ coins) 0 (number_in σ 0) in
          let table = table_of F ω b f in
          let ts = words_of σ table in
          let rs = words_of σ (r ∷ []) in
          let rest = honest_rest F ω b f r (read_rounds σ h.out_coins b (later_levels h) (drop (words_for h 1) coins)) (read_finals σ h.out_coins b (later_levels h) (drop (words_for h 1) coins)) in
          let n : length ts ≡ words_for h h.size = first_level_table f in
          let tail : (rs ++ rest_words σ rest) ++ z ≡ rs ++ (rest_words σ rest ++ z) = append_assoc rs (rest_words σ rest) z in
          ap (read_transcript σ h) (append_assoc ts (rs ++ rest_words σ rest) z ∙ ap (λ (x : List ℕ). ts ++ x) tail)
          ∙ (λ i. record {
            table = elements_in σ (take_at ts (rs ++ (rest_words σ rest ++ z)) (words_for h h.size) n i);
            fold = get_or (elements_in σ (drop_at ts (rs ++ (rest_words σ rest ++ z)) (words_for h h.size) n i)) 0 (number_in σ 0);
            rest = read_rest σ h.out_coins b (later_levels h) (drop (words_for h 1) (drop_at ts (rs ++ (rest_words σ rest ++ z)) (words_for h h.size) n i));
          })
          ∙ (λ i. record {
            table = read_written σ table i;
            fold = get_or (read_words σ (r ∷ []) (rest_words σ rest ++ z) i) 0 (number_in σ 0);
            rest = (ap (read_rest σ h.out_coins b (later_levels h)) (drop_at rs (rest_words σ rest ++ z) (words_for h 1) (words_length σ (r ∷ [])))
                ∙ round_trip σ h.out_coins z b (later_levels h) rest (rest_shaped h.out_coins b (later_levels h) f r (drop (words_for h 1) coins) shaped_degree d admissible)) i;
          })
        where
          shaped_degree : length f ≡ (first_level h).degree
          shaped_degree = first_degree h f len

      -- the coins among the words are those given
      pub words_coins : coins_among (layout h) (transcript_words h.spelling (honest F ω (first_level h) f (read_coins h.spelling h coins))) ≡ coins
      unfolding layout transcript_words honest read_coins first_words
      words_coins =
          let b = first_level h in
          let r = get_or (elements_in σ coins) 0 (number_in σ 0) in
          among_messages (words_for h h.size) (replicate (words_for h 1) coin ++ rest_layout σ h.out_coins b (later_levels h)) (words_of σ (table_of F ω b f)) _ (first_level_table f)
          ∙ among_coins (words_for h 1) (rest_layout σ h.out_coins b (later_levels h)) first_words _ (words_length σ (r ∷ []))
          ∙ ap (λ (x : List ℕ). first_words ++ x) (rest_coins h.out_coins b (later_levels h) f r (drop (words_for h 1) coins) (first_degree h f len) d admissible)
          ∙ one_back σ coins some
