-- The walk over the rounds: what is known before round i + 1, after it, and after the last.
use Prim.Native.Nat.{ℕ, ◌+◌, ◌*◌, ◌/◌, ◌^◌, ◌≤◌, ◌<◌}
use native.Mathlib.Nat.{pow-suc}
use native.Mathlib.Numerals.{add-one}
use native.Mathlib.Omega.{arith}
use mathlib.Core.Bool.{Bool, true, false, cond, ◌&&◌}
use mathlib.Core.List.{List}
use mathlib.Core.Option.{Option, none, some}
use mathlib.Core.Path.{◌≡◌, refl, sym, ap, ◌∙◌}
use lib.ListN.{length, get_or}
use lib.Dec.{leb}
use lib.Pow.{pow_mono, pow_pos}
use borrow.Author.Tests.{le-leb, lt-leb}
use Rattle.layouts.specs.KindsAfter.{chosen, words_after}
use Rattle.layouts.proofs.Lawful.{lawful, rounds_word, times_word}
use Rattle.layouts.specs.LawfulSheets.{Lawful}
use Rattle.layouts.specs.Levels.{element_at, level_of, rounds_of, sheet_field, words_for, zero_of}
use Rattle.layouts.specs.SheetRules.{long_enough, rounds_most}
use Rattle.layouts.specs.Spellings.{count_add, count_least, count_mono, count_zero}
use Rattle.definition.specs.Deciding.{out_tests}
use Rattle.definition.specs.Field.{Spelling, field_in, prime_of, spelling_of, word_count}
use Rattle.definition.specs.Layout.{Kind, coin_kinds, layout, words_due}
use Rattle.definition.specs.Reading.{sheet_test}
use Rattle.definition.specs.Sheet.{Edition, Level, Sheet, root_of_unity, sheet_length, sheet_of}
use Rattle.definition.specs.Verdict.{Outcome, ◌then◌, accepted, refuse_at, refused}
use Rattle.domain.specs.OutCoins.{FirstInside, first_inside, or_else}
use Rattle.domain.specs.Powers.{Powers}
use Rattle.std.specs.Option.{option_or}
use Rattle.std.specs.Prelude.{Some, None}
use Rattle.outcome.specs.Meaning.{Found, place_of}
use Rattle.out_coins.specs.Kinds.{kinds_after_fold, kinds_first, kinds_last, messages_in, round_count, round_word_count}
use Rattle.out_coins.specs.Walks.{begun, equal_none, equal_step, equal_at, equal_from, inside_none, inside_step, inside_from, rest_there, tests_are, tests_rest}

or_none : (a : Option ℕ) → or_else a none ≡ a
or_none none = refl
or_none (some n) = refl

or_assoc : (a b c : Option ℕ) → or_else (or_else a b) c ≡ or_else a (or_else b c)
or_assoc none b c = refl
or_assoc (some n) b c = refl

-- ---- two elements

module _ (σ : Spelling) (p : ℕ) (w : List ℕ) (at count : ℕ) where
  abbrev equal_here : ℕ → Bool
  equal_here v = (field_in σ p).equal (element_at σ w (at + v)) (element_at σ w at)

  pub equal_found : {v : ℕ} {b : Bool} → 2 ≤ count → v ≡ word_count σ 1 → b ≡ (field_in σ p).equal (element_at σ w (at + v)) (element_at σ w at) → b ≡ true → some (at + v) ≡ equal_at σ p w at count
  unfolding equal_at
  equal_found l ev eb t =
      let e : equal_here (word_count σ 1) ≡ true = ap equal_here (sym ev) ∙ sym eb ∙ t in
      sym (rw (le-leb 2 count l, e) (ap (λ (m : ℕ). some (at + m)) (sym ev)))

  pub equal_not : {v : ℕ} {b : Bool} → v ≡ word_count σ 1 → b ≡ (field_in σ p).equal (element_at σ w (at + v)) (element_at σ w at) → b ≡ false → none ≡ equal_at σ p w at count
  unfolding equal_at
  equal_not ev eb t =
      let e : equal_here (word_count σ 1) ≡ false = ap equal_here (sym ev) ∙ sym eb ∙ t in
      sym (rw e (go (leb 2 count)))
    where
      go : (b : Bool) → cond (b && false) (some (at + word_count σ 1)) none ≡ none
      go true = refl
      go false = refl

  pub one_coin : count < 2 → none ≡ equal_at σ p w at count
  unfolding equal_at
  one_coin d = sym (rw (lt-leb 2 count d))

  -- the words of two elements
  pub two_there : 2 ≤ count → {v : ℕ} → v ≡ word_count σ 1 → at + word_count σ count ≤ length w → (at + v + word_count σ 1 ≤ length w) × (at + word_count σ 1 ≤ length w)
  two_there l ev h = omega (arith, ev, count_add σ 1 1, count_mono σ 2 count l)

-- the number of words of what is counted
pub in_words : (field : ℕ) {v n m : ℕ} → v ≡ word_count (spelling_of field) n → n ≡ m → v ≡ word_count (spelling_of field) m
in_words field e q = e ∙ ap (word_count (spelling_of field)) q

pub messages_most : (alone : Bool) (n : ℕ) → messages_in alone n ≤ n
unfolding messages_in
messages_most true n = omega arith
messages_most false n = omega arith

-- the out coins come first among a round's words from them on
pub outs_first : (alone : Bool) (w : List ℕ) (i : ℕ) → word_count (spelling_of (get_or w 0 0)) (get_or w 5 0) ≤ round_word_count alone w i
unfolding round_word_count
outs_first alone w i =
    let s = get_or w 5 0 in
    let σ = spelling_of (get_or w 0 0) in
    omega (arith, count_add σ (s + messages_in alone s) 2, count_add σ s (messages_in alone s))

-- what the noted pair says in the end
-- what is found earlier comes first
or_place : (earlier later : Found) → place_of (option_or earlier later) ≡ or_else (place_of earlier) (place_of later)
unfolding place_of
or_place None later = refl
or_place (Some place) later = refl

pub found_first : (earlier later : Found) {r : Found} → r ≡ option_or earlier later → place_of r ≡ or_else (place_of earlier) (place_of later)
found_first earlier later e = ap place_of e ∙ or_place earlier later

pub ended_at : {f : Found} {place : ℕ} {o : Outcome} → f ≡ Some place → (refuse_at 7 none then refuse_at 14 (place_of f)) ≡ o → refused 14 place ≡ o
unfolding place_of refuse_at ◌then◌
ended_at e q = sym (ap (λ (x : Found). refuse_at 7 none then refuse_at 14 (place_of x)) e) ∙ q

pub ended_nowhere : {f : Found} {o : Outcome} → f ≡ None → (refuse_at 7 none then refuse_at 14 (place_of f)) ≡ o → accepted ≡ o
unfolding place_of refuse_at ◌then◌
ended_nowhere e q = sym (ap (λ (x : Found). refuse_at 7 none then refuse_at 14 (place_of x)) e) ∙ q

-- what is asked: a sheet that passes, and all words after fold coin 0
pub record Asked (ed : Edition) (w : List ℕ) (alone : Bool) (words : List ℕ) (start : ℕ) : Type 0 where
  pub long : sheet_length ed ≤ length w
  pub passed : sheet_test ed w ≡ accepted
  pub due : start + length (chosen alone (kinds_after_fold (sheet_of ed w))) ≤ length words

pub asked : {ed : Edition} {w : List ℕ} {alone : Bool} {words : List ℕ} {start : ℕ} → (sheet_length ed ≤ length w) × (sheet_test ed w ≡ accepted) →
    start + length (chosen alone (kinds_after_fold (sheet_of ed w))) ≤ length words → Asked ed w alone words start
asked a d = record { long = a.0; passed = a.1; due = d }

-- i rounds are behind without an out coin in its domain, the second of two equal out coins is found or none is, and the next word is number `at`
pub record AtRound (h : Sheet) (alone : Bool) (words : List ℕ) (start : ℕ) (equal : Option ℕ) (at scale i : ℕ) : Type 0 where
  pub within : i ≤ rounds_of h
  pub scaled : scale ≡ 2 ^ i
  pub inside : inside_from h (chosen alone (words_after h i)) (begun h words) at ≡ inside_from h (chosen alone (kinds_after_fold h)) (begun h words) start
  pub same : or_else equal (equal_from (sheet_field h) (chosen alone (words_after h i)) (begun h words) at) ≡ equal_from (sheet_field h) (chosen alone (kinds_after_fold h)) (begun h words) start
  pub there : at + length (chosen alone (words_after h i)) ≤ length words

-- the loop's invariant: so it is in each edition whose rules the words keep
abbrev pub InEach : List ℕ → Bool → List ℕ → ℕ → Option ℕ → ℕ → ℕ → ℕ → Type 0
InEach w alone words start equal at scale i = (ed : Edition) → Asked ed w alone words start → AtRound (sheet_of ed w) alone words start equal at scale i

-- ω is of words 0 and 1, in either edition
same_root : (ed ed' : Edition) (w : List ℕ) → root_of_unity (sheet_of ed w) ≡ root_of_unity (sheet_of ed' w)
unfolding root_of_unity sheet_of
same_root ed ed' w = refl

-- the number of words of the sheet's elements, and s
words_for_lem : (ed : Edition) (w : List ℕ) (n : ℕ) → words_for (sheet_of ed w) n ≡ word_count (spelling_of (get_or w 0 0)) n
unfolding sheet_of
words_for_lem ed w n = refl

outs_is : (ed : Edition) (w : List ℕ) → (sheet_of ed w).out_coins ≡ get_or w 5 0
unfolding sheet_of
outs_is ed w = refl

module _ {ed : Edition} {w : List ℕ} {alone : Bool} {words : List ℕ} {start : ℕ} (A : Asked ed w alone words start) where
  abbrev h : Sheet
  h = sheet_of ed w

  law : Lawful (sheet_of ed w)
  law = lawful ed w A.long A.passed

  rounds : rounds_of (sheet_of ed w) ≡ get_or w 4 0
  rounds = rounds_word ed w A.long A.passed

  pub few_rounds : get_or w 4 0 ≤ 5
  few_rounds = rounds_most ed w A.passed

  pub twelve : 12 ≤ length w
  twelve = long_enough ed w A.long

  pub begin : AtRound (sheet_of ed w) alone words start none start 1 0
  begin =
      let e = kinds_first alone h law.paired in
      record {
        within = omega arith;
        scaled = refl;
        inside = ap (λ (ks : List Kind). inside_from h ks (begun h words) start) (sym e);
        same = ap (λ (ks : List Kind). equal_from (sheet_field h) ks (begun h words) start) (sym e);
        there = omega (arith, A.due, ap length e);
      }

  module _ {equal : Option ℕ} {at scale i : ℕ} (r : AtRound (sheet_of ed w) alone words start equal at scale i) where
    -- after the last round
    pub ended : get_or w 4 0 ≤ i → (refuse_at 7 none then refuse_at 14 equal) ≡ out_tests (sheet_of ed w) start (chosen alone (kinds_after_fold (sheet_of ed w))) words
    ended last =
        let k = kinds_last alone h i (omega (arith, rounds)) in
        (λ j. refuse_at 7 ((sym (inside_none h _ (begun h words) at k) ∙ r.inside) j)
        then refuse_at 14 ((sym (ap (or_else equal) (equal_none (sheet_field h) (zero_of h) _ (begun h words) at k) ∙ or_none equal) ∙ r.same) j))
        ∙ tests_are h start (chosen alone (kinds_after_fold h)) words

    module _ (more : i < get_or w 4 0) where
      pub small_scale : scale ≤ 32
      small_scale = let l : i ≤ 5 = omega (arith, few_rounds) in omega (arith, r.scaled, pow_mono l)

      pub some_scale : 0 < scale * 2
      some_scale = omega (arith, r.scaled, pow_pos i)

      scale_next : scale * 2 ≡ 2 ^ (i + 1)
      scale_next = omega (arith, r.scaled, pow-suc 2 i, ap (λ (m : ℕ). 2 ^ m) (add-one i))

      abbrev l : Level
      l = level_of (sheet_of ed w) (i + 1)

      time : (level_of (sheet_of ed w) i).repetitions ≡ get_or w (6 + i) 0
      time = times_word ed w A.long A.passed i (omega arith)

      -- the words from the out coins on, as the kinds count them
      words_count : words_for (sheet_of ed w) (sheet_of ed w).out_coins + (words_for (sheet_of ed w) (messages_in alone (sheet_of ed w).out_coins) + (words_for (sheet_of ed w) 2 + (level_of (sheet_of ed w) i).repetitions)) ≡ round_word_count alone w i
      unfolding round_word_count sheet_of
      words_count =
          let s = get_or w 5 0 in
          let σ = spelling_of (get_or w 0 0) in
          omega (arith, time, count_add σ (s + messages_in alone s) 2, count_add σ s (messages_in alone s))

      module _ {points : ℕ} (size : points ≡ get_or w 1 0) where
        -- the round's table has n0/2^(i+1) words
        table_size : points / (scale * 2) ≡ (level_of (sheet_of ed w) (i + 1)).size
        unfolding sheet_of
        table_size = λ j. size j / scale_next j

        table_words : word_count (spelling_of (get_or w 0 0)) (messages_in alone (points / (scale * 2))) ≡ words_for (sheet_of ed w) (messages_in alone (level_of (sheet_of ed w) (i + 1)).size)
        table_words = ap (λ (n : ℕ). word_count (spelling_of (get_or w 0 0)) (messages_in alone n)) table_size ∙ sym (words_for_lem ed w _)

        next_there : at + word_count (spelling_of (get_or w 0 0)) (messages_in alone (points / (scale * 2))) + round_word_count alone w i + length (chosen alone (words_after (sheet_of ed w) (i + 1))) ≤ length words
        next_there = omega (arith, r.there, round_count alone h i (omega (arith, rounds)), words_count, table_words)

        pub round_there : at + word_count (spelling_of (get_or w 0 0)) (messages_in alone (points / (scale * 2))) + round_word_count alone w i ≤ length words
        round_there = omega (arith, next_there)

        pub few_messages : messages_in alone (points / (scale * 2)) ≤ length words
        few_messages = omega (arith, round_there, count_least (spelling_of (get_or w 0 0)) (messages_in alone (points / (scale * 2))))

        -- the places as the kinds count them
        outs_place : at + words_for (sheet_of ed w) (messages_in alone (level_of (sheet_of ed w) (i + 1)).size) ≡ at + word_count (spelling_of (get_or w 0 0)) (messages_in alone (points / (scale * 2)))
        outs_place = ap (λ (n : ℕ). at + n) (sym table_words)

        next_place : at + words_for (sheet_of ed w) (messages_in alone (level_of (sheet_of ed w) (i + 1)).size)
            + (words_for (sheet_of ed w) (sheet_of ed w).out_coins + (words_for (sheet_of ed w) (messages_in alone (sheet_of ed w).out_coins) + (words_for (sheet_of ed w) 2 + (level_of (sheet_of ed w) i).repetitions)))
            ≡ at + word_count (spelling_of (get_or w 0 0)) (messages_in alone (points / (scale * 2))) + round_word_count alone w i
        next_place = λ j. outs_place j + words_count j

        abbrev rest : List Kind
        rest = chosen alone (words_after (sheet_of ed w) (i + 1))

        by_inside : inside_from (sheet_of ed w) (chosen alone (words_after (sheet_of ed w) i)) (begun (sheet_of ed w) words) at
            ≡ or_else (first_inside (sheet_of ed w).spelling (sheet_of ed w).prime (root_of_unity (sheet_of ed w)) (level_of (sheet_of ed w) (i + 1)) words (at + word_count (spelling_of (get_or w 0 0)) (messages_in alone (points / (scale * 2)))) (sheet_of ed w).out_coins)
            (inside_from (sheet_of ed w) rest (begun (sheet_of ed w) words) (at + word_count (spelling_of (get_or w 0 0)) (messages_in alone (points / (scale * 2))) + round_word_count alone w i))
        by_inside =
            inside_step alone h words at i (omega (arith, rounds)) (law.once i (omega (arith, rounds))) (omega (arith, next_place, round_there))
            ∙ (λ j. or_else (first_inside h.spelling h.prime (root_of_unity h) l words (outs_place j) h.out_coins) (inside_from h rest (begun h words) (next_place j)))

        by_equal : equal_from (sheet_field (sheet_of ed w)) (chosen alone (words_after (sheet_of ed w) i)) (begun (sheet_of ed w) words) at
            ≡ or_else (equal_at (sheet_of ed w).spelling (sheet_of ed w).prime words (at + word_count (spelling_of (get_or w 0 0)) (messages_in alone (points / (scale * 2)))) (sheet_of ed w).out_coins) (equal_from (sheet_field (sheet_of ed w)) rest (begun (sheet_of ed w) words) (at + word_count (spelling_of (get_or w 0 0)) (messages_in alone (points / (scale * 2))) + round_word_count alone w i))
        by_equal =
            equal_step alone h words at i (omega (arith, rounds)) (law.once i (omega (arith, rounds))) (omega (arith, next_place, round_there)) law.outs
            ∙ (λ j. or_else (equal_at h.spelling h.prime words (outs_place j) h.out_coins) (equal_from (sheet_field h) rest (begun h words) (next_place j)))

        abbrev outs_at : ℕ
        outs_at = at + word_count (spelling_of (get_or w 0 0)) (messages_in alone (points / (scale * 2)))

        abbrev next : ℕ
        next = at + word_count (spelling_of (get_or w 0 0)) (messages_in alone (points / (scale * 2))) + round_word_count alone w i

        module _ (pw : List ℕ) (many : length pw ≡ points) (ed' : Edition) (points_are : Powers (get_or w 0 0) (root_of_unity (sheet_of ed' w)) pw) {o : Option ℕ} {heads : ℕ}
            (eh : heads ≡ word_count (spelling_of (get_or w 0 0)) (messages_in alone (points / (scale * 2))))
            (first : FirstInside (get_or w 0 0) words pw (scale * 2) (at + heads) (get_or w 5 0) o) where
          of_round : o ≡ first_inside (sheet_of ed w).spelling (sheet_of ed w).prime (root_of_unity (sheet_of ed w)) (level_of (sheet_of ed w) (i + 1)) words outs_at (sheet_of ed w).out_coins
          unfolding sheet_of
          of_round =
              first (root_of_unity h) l (rw (same_root ed ed' w) points_are) (sym scale_next) (sym table_size ∙ ap (λ (n : ℕ). n / (scale * 2)) (sym many))
              ∙ ap (λ (n : ℕ). first_inside h.spelling h.prime (root_of_unity h) l words (at + n) h.out_coins) eh

          found_as : or_else o (inside_from (sheet_of ed w) rest (begun (sheet_of ed w) words) next) ≡ inside_from (sheet_of ed w) (chosen alone (kinds_after_fold (sheet_of ed w))) (begun (sheet_of ed w) words) start
          found_as = ap (λ (x : Option ℕ). or_else x (inside_from h rest (begun h words) next)) of_round ∙ sym by_inside ∙ r.inside

          pub found : {place : ℕ} → some place ≡ o → refused 7 place ≡ out_tests (sheet_of ed w) start (chosen alone (kinds_after_fold (sheet_of ed w))) words
          unfolding refuse_at ◌then◌
          found e =
              ap (λ (x : Option ℕ). refuse_at 7 x then refuse_at 14 (equal_from (sheet_field h) (chosen alone (kinds_after_fold h)) (begun h words) start))
              (ap (λ (x : Option ℕ). or_else x (inside_from h rest (begun h words) next)) e ∙ found_as)
              ∙ tests_are h start (chosen alone (kinds_after_fold h)) words

          equal_as : (n : ℕ) → equal_at (spelling_of (get_or w 0 0)) (prime_of (get_or w 0 0)) words n (get_or w 5 0) ≡ equal_at (sheet_of ed w).spelling (sheet_of ed w).prime words n (sheet_of ed w).out_coins
          unfolding sheet_of
          equal_as n = refl

          pub turned : none ≡ o → {equal' here : Option ℕ} {next' : ℕ} → equal' ≡ or_else equal here → here ≡ equal_at (spelling_of (get_or w 0 0)) (prime_of (get_or w 0 0)) words (at + heads) (get_or w 5 0) → next' ≡ at + heads + round_word_count alone w i →
              AtRound (sheet_of ed w) alone words start equal' next' (scale * 2) (i + 1)
          turned e {equal'} {here} {next'} q eq en =
              let place : next' ≡ next = en ∙ ap (λ (n : ℕ). at + n + round_word_count alone w i) eh in
              let pair : equal' ≡ or_else equal (equal_at h.spelling h.prime words outs_at h.out_coins) = q ∙ ap (or_else equal) (eq ∙ equal_as (at + heads) ∙ ap (λ (n : ℕ). equal_at h.spelling h.prime words (at + n) h.out_coins) eh) in
              record {
                within = omega (arith, rounds);
                scaled = scale_next;
                inside = ap (inside_from h rest (begun h words)) place ∙ ap (λ (x : Option ℕ). or_else x (inside_from h rest (begun h words) next)) e ∙ found_as;
                same = (λ j. or_else (pair j) (equal_from (sheet_field h) rest (begun h words) (place j))) ∙ or_assoc equal _ _ ∙ ap (or_else equal) (sym by_equal) ∙ r.same;
                there = omega (arith, place, next_there);
              }

-- ---- before round 1

-- a stream with all words due
module _ (ed : Edition) (w : List ℕ) (due : words_due ed (sheet_of ed w) ≤ length w) where
  all_there : sheet_length ed + length (chosen false (layout (sheet_of ed w))) ≤ length w
  unfolding words_due chosen
  all_there = due

  pub stream_twelve : (sheet_length ed ≤ length w) × (12 ≤ length w)
  stream_twelve = let l : sheet_length ed ≤ length w = omega (arith, all_there) in (l, long_enough ed w l)

  module _ {from v : ℕ} (ef : from ≡ sheet_length ed) (ev : v ≡ word_count (spelling_of (get_or w 0 0)) (get_or w 1 0 + 1)) where
    start_is : from + v ≡ sheet_length ed + words_for (sheet_of ed w) (messages_in false (sheet_of ed w).size) + words_for (sheet_of ed w) 1
    unfolding messages_in sheet_of
    start_is = omega (arith, ef, ev, count_add (spelling_of (get_or w 0 0)) (get_or w 1 0) 1)

    pub stream_start : from + v + length (chosen false (kinds_after_fold (sheet_of ed w))) ≤ length w
    stream_start = omega (arith, start_is, rest_there false (sheet_of ed w) w (sheet_length ed) all_there)

    pub stream_rest : out_tests (sheet_of ed w) (from + v) (chosen false (kinds_after_fold (sheet_of ed w))) w ≡ out_tests (sheet_of ed w) (sheet_length ed) (layout (sheet_of ed w)) w
    unfolding chosen
    stream_rest =
        ap (λ (n : ℕ). out_tests (sheet_of ed w) n (chosen false (kinds_after_fold (sheet_of ed w))) w) start_is ∙ tests_rest false (sheet_of ed w) w (sheet_length ed) all_there

-- a full coin list
module _ (ed : Edition) (w coins : List ℕ) (full : length coins ≡ length (coin_kinds (layout (sheet_of ed w)))) {v : ℕ} (ev : v ≡ word_count (spelling_of (get_or w 0 0)) 1) where
  all_coins : 0 + length (chosen true (layout (sheet_of ed w))) ≤ length coins
  unfolding chosen
  all_coins = omega (arith, full)

  coins_begin : v ≡ 0 + words_for (sheet_of ed w) (messages_in true (sheet_of ed w).size) + words_for (sheet_of ed w) 1
  unfolding messages_in sheet_of
  coins_begin = omega (arith, ev, count_zero (spelling_of (get_or w 0 0)))

  pub coins_start : v + length (chosen true (kinds_after_fold (sheet_of ed w))) ≤ length coins
  coins_start = omega (arith, coins_begin, rest_there true (sheet_of ed w) coins 0 all_coins)

  pub coins_rest : out_tests (sheet_of ed w) v (chosen true (kinds_after_fold (sheet_of ed w))) coins ≡ out_tests (sheet_of ed w) 0 (coin_kinds (layout (sheet_of ed w))) coins
  unfolding chosen
  coins_rest =
      ap (λ (n : ℕ). out_tests (sheet_of ed w) n (chosen true (kinds_after_fold (sheet_of ed w))) coins) coins_begin ∙ tests_rest true (sheet_of ed w) coins 0 all_coins
