-- The two walks over kinds and words: for the first out coin that lies in its domain, and for the second of two equal ones. Both pass over words that are no out
-- coins, and take a round's out coins by themselves. They go by the list of what each word begins.
use Prim.Native.Nat.{ℕ, zero, suc, ◌+◌, ◌≤◌, ◌<◌}
use native.Mathlib.Omega.{arith}
use Rattle.std.specs.Prelude.{Bool, ◌&&◌, ◌≡◌, leb, replicate}
use Rattle.std.proofs.Math.Bool.{true, false, cond}
use mathlib.Core.List.{List, [], ◌∷◌, ◌++◌, flat_map, zip_with}
use Rattle.std.proofs.Math.Option.{Option, none, some}
use Rattle.std.proofs.Math.Path.{refl, ap}
use Rattle.std.proofs.Common.{sym, ◌∙◌, length-append, drop-cons}
use Rattle.std.proofs.Math.ListN.{length, get_or, drop}
use Rattle.std.proofs.lemmas.List.{length-replicate}
use Rattle.list_laws.specs.All.{All, all_map, all_replicate}
use Rattle.layouts.specs.KindsAfter.{chosen, words_after}
use Rattle.layouts.specs.Levels.{element_at, level_of, out_coin_count, rounds_of, sheet_field, words_for, zero_of}
use Rattle.layouts.specs.Spellings.{begun_at, begun_drop, begun_length, count_add, count_zero}
use Rattle.definition.specs.Deciding.{equal_test, out_before, out_in_domain, out_repeated, out_test, out_tests, repeated_outs, same_as}
use Rattle.definition.specs.Field.{Element, Field, Spelling, begun_by, field_in, four, number_in, one, word_count}
use Rattle.definition.specs.Layout.{Kind, coin, index, layout, message, out, out_layout}
use Rattle.definition.specs.Lists.{first_true}
use Rattle.definition.specs.Sheet.{Level, Sheet, root_of_unity}
use Rattle.definition.specs.Verdict.{◌then◌, refuse_at}
use Rattle.domain.specs.OutCoins.{all_passed_over, first_inside, no_outs, or_else, outs_run, passed_over}
use Rattle.out_coins.specs.Kinds.{Ends, Silent, kinds_after_fold, head_kinds, kinds_all, kinds_next, messages_in, silent_head, tail_count, tail_ends, tail_kinds}

-- what each word of a stream, or of a coin list, begins
abbrev pub begun : (h : Sheet) → List ℕ → List (Element h.spelling)
begun h w = begun_by h.spelling w

-- of the words from number `at` on, which are of these kinds and begin these: the first out coin in its domain, and the first that repeats the one before it in its round
abbrev pub inside_from : (h : Sheet) → List Kind → List (Element h.spelling) → ℕ → Option ℕ
inside_from h ks xs at = first_true at (zip_with (out_in_domain h.spelling h) ks (drop at xs))

abbrev pub equal_from : {A : Type 0} → Field A → List Kind → List A → ℕ → Option ℕ
equal_from F ks xs at = first_true at (repeated_outs F none ks (drop at xs))

-- the second of two equal elements, of at most two from word `at` on, by the number of its first word; p is the prime
unfoldable pub equal_at : Spelling → ℕ → List ℕ → ℕ → ℕ → Option ℕ
equal_at σ p w at count =
    cond (leb 2 count && (field_in σ p).equal (element_at σ w (at + word_count σ 1)) (element_at σ w at)) (some (at + word_count σ 1)) none

-- ---- refusal 7

ends_silent : (ks : List Kind) → Ends ks → All Silent ks
ends_silent [] e = absurd e
ends_silent (message ∷ ks) e = (tt, e)
ends_silent (coin ∷ ks) e = (tt, ends_silent ks e)
ends_silent (out l ∷ ks) e = absurd e
ends_silent (index n ∷ ks) e = (tt, e)

module _ (h : Sheet) where
  silent_outside : (k : Kind) → Silent k → (x : Element h.spelling) → out_in_domain h.spelling h k x ≡ false
  unfolding out_in_domain
  silent_outside message s x = refl
  silent_outside coin s x = refl
  silent_outside (out l) s x = absurd s
  silent_outside (index n) s x = refl

  outside : (ks : List Kind) → All Silent ks → All (λ k. (x : Element h.spelling) → out_in_domain h.spelling h k x ≡ false) ks
  outside ks s = all_map ks s (λ k q. silent_outside k q)

  pub inside_over : (ks ks' : List Kind) (xs : List (Element h.spelling)) (at n : ℕ) → length ks ≡ n → All Silent ks → at + n ≤ length xs →
      inside_from h (ks ++ ks') xs at ≡ inside_from h ks' xs (at + n)
  inside_over ks ks' xs at n e s l = passed_over (zero_of h) (out_in_domain h.spelling h) ks ks' xs at n e (outside ks s) l

  pub inside_none : (ks : List Kind) (xs : List (Element h.spelling)) (at : ℕ) → All Silent ks → inside_from h ks xs at ≡ none
  inside_none ks xs at s = all_passed_over (zero_of h) (out_in_domain h.spelling h) ks (drop at xs) at (outside ks s)

  pub inside_round : (l : Level) (s : ℕ) (ks ks' : List Kind) (w : List ℕ) (at n : ℕ) → length ks ≡ n → Ends ks → at + (words_for h s + n) ≤ length w →
      inside_from h (out_layout h.spelling s l ++ (ks ++ ks')) (begun h w) at
      ≡ or_else (first_inside h.spelling h.prime (root_of_unity h) l w at s) (inside_from h ks' (begun h w) (at + (words_for h s + n)))
  inside_round l s ks ks' w at n e ends u =
      let m : at + words_for h s + n ≡ at + (words_for h s + n) = omega arith in
      outs_run h.spelling h l (ks ++ ks') w s at (omega arith)
      ∙ ap (or_else (first_inside h.spelling h.prime (root_of_unity h) l w at s))
      (inside_over ks ks' (begun h w) (at + words_for h s) n e (ends_silent ks ends) (omega (arith, begun_length h.spelling w)) ∙ ap (inside_from h ks' (begun h w)) m)

-- ---- refusal 14

module _ {A : Type 0} (F : Field A) (z : A) where
  -- from none before, over words that are no out coins
  pub equal_over : (ks ks' : List Kind) (xs : List A) (at n : ℕ) → length ks ≡ n → All Silent ks → at + n ≤ length xs → equal_from F (ks ++ ks') xs at ≡ equal_from F ks' xs (at + n)
  unfolding repeated_outs out_repeated out_before first_true
  equal_over [] ks' xs at n e s l = let m : at ≡ at + n = omega arith in ap (equal_from F ks' xs) m
  equal_over (k ∷ ks) ks' xs at n e s l =
      let m : suc at + length ks ≡ at + n = omega arith in
      rw (drop-cons xs at z (omega arith)) (go k s.0 (equal_over ks ks' xs (suc at) (length ks) refl s.1 (omega arith) ∙ ap (equal_from F ks' xs) m))
    where
      go : (j : Kind) → Silent j → equal_from F (ks ++ ks') xs (suc at) ≡ equal_from F ks' xs (at + n) →
          first_true at (repeated_outs F none (j ∷ (ks ++ ks')) (get_or xs at z ∷ drop (suc at) xs)) ≡ equal_from F ks' xs (at + n)
      go message q r = r
      go coin q r = r
      go (out l) q r = absurd q
      go (index m) q r = r

  pub equal_none : (ks : List Kind) (xs : List A) (at : ℕ) → All Silent ks → equal_from F ks xs at ≡ none
  unfolding repeated_outs out_repeated out_before first_true
  equal_none ks xs at s = go ks (drop at xs) at s
    where
      go : (js : List Kind) (u : List A) (from : ℕ) → All Silent js → first_true from (repeated_outs F none js u) ≡ none
      go [] u from q = refl
      go (j ∷ js) [] from q = refl
      go (message ∷ js) (x ∷ u) from q = go js u (suc from) q.1
      go (coin ∷ js) (x ∷ u) from q = go js u (suc from) q.1
      go (out l ∷ js) (x ∷ u) from q = absurd q.0
      go (index m ∷ js) (x ∷ u) from q = go js u (suc from) q.1

  -- after an out coin or none, over words among which the round's out coins end
  over_end : (before : Option A) (ks ks' : List Kind) (xs : List A) (at n : ℕ) → length ks ≡ n → Ends ks → at + n ≤ length xs →
      first_true at (repeated_outs F before (ks ++ ks') (drop at xs)) ≡ equal_from F ks' xs (at + n)
  unfolding repeated_outs out_repeated out_before first_true
  over_end before [] ks' xs at n e s l = absurd s
  over_end before (message ∷ ks) ks' xs at n e s l =
      let m : suc at + length ks ≡ at + n = omega arith in
      rw (drop-cons xs at z (omega arith)) (equal_over ks ks' xs (suc at) (length ks) refl s (omega arith) ∙ ap (equal_from F ks' xs) m)
  over_end before (coin ∷ ks) ks' xs at n e s l =
      let m : suc at + length ks ≡ at + n = omega arith in
      rw (drop-cons xs at z (omega arith)) (over_end before ks ks' xs (suc at) (length ks) refl s (omega arith) ∙ ap (equal_from F ks' xs) m)
  over_end before (out l ∷ ks) ks' xs at n e s u = absurd s
  over_end before (index j ∷ ks) ks' xs at n e s l =
      let m : suc at + length ks ≡ at + n = omega arith in
      rw (drop-cons xs at z (omega arith)) (equal_over ks ks' xs (suc at) (length ks) refl s (omega arith) ∙ ap (equal_from F ks' xs) m)

  -- the first place is number `at` where a test is true, or else it is found further on
  first_cons : (at : ℕ) (b : Bool) (bs : List Bool) → first_true at (b ∷ bs) ≡ cond b (some at) (first_true (suc at) bs)
  unfolding first_true
  first_cons at true bs = refl
  first_cons at false bs = refl

  -- a coin's other word
  over_coin : (before : Option A) (ks : List Kind) (xs : List A) (at : ℕ) → at < length xs →
      first_true at (repeated_outs F before (coin ∷ ks) (drop at xs)) ≡ first_true (suc at) (repeated_outs F before ks (drop (suc at) xs))
  unfolding repeated_outs out_repeated out_before first_true
  over_coin before ks xs at l = rw (drop-cons xs at z l)

  -- an out coin: its first word counts, and its others are passed over
  outs_step : (σ : Spelling) (before : Option A) (l : Level) (s : ℕ) (ks : List Kind) (xs : List A) (at : ℕ) → at + word_count σ 1 ≤ length xs →
      first_true at (repeated_outs F before (out_layout σ (suc s) l ++ ks) (drop at xs))
      ≡ cond (same_as F before (get_or xs at z)) (some at)
      (first_true (at + word_count σ 1) (repeated_outs F (some (get_or xs at z)) (out_layout σ s l ++ ks) (drop (at + word_count σ 1) xs)))
  unfolding repeated_outs out_repeated out_before out_layout word_count flat_map
  outs_step one before l s ks xs at h =
      let x = get_or xs at z in
      let e : suc at ≡ at + 1 = omega arith in
      rw (drop-cons xs at z (omega arith))
      (first_cons at (same_as F before x) (repeated_outs F (some x) (out_layout one s l ++ ks) (drop (suc at) xs))
      ∙ ap {B = Option ℕ} (cond (same_as F before x) (some at)) (ap (λ (m : ℕ). first_true m (repeated_outs F (some x) (out_layout one s l ++ ks) (drop m xs))) e))
  outs_step four before l s ks xs at h =
      let x = get_or xs at z in
      let js = out_layout four s l ++ ks in
      let e : suc (suc (suc (suc at))) ≡ at + 4 = omega arith in
      rw (drop-cons xs at z (omega arith))
      (first_cons at (same_as F before x) (repeated_outs F (some x) (coin ∷ coin ∷ coin ∷ js) (drop (suc at) xs))
      ∙ ap {B = Option ℕ} (cond (same_as F before x) (some at))
      (over_coin (some x) (coin ∷ coin ∷ js) xs (suc at) (omega arith)
      ∙ over_coin (some x) (coin ∷ js) xs (suc (suc at)) (omega arith)
      ∙ over_coin (some x) js xs (suc (suc (suc at))) (omega arith)
      ∙ ap (λ (m : ℕ). first_true m (repeated_outs F (some x) js (drop m xs))) e))

-- a round's out coins, at most two
module _ (σ : Spelling) (p : ℕ) where
  abbrev F : Field (Element σ)
  F = field_in σ p

  abbrev zero_here : Element σ
  zero_here = number_in σ 0

  after_outs : (before : Option (Element σ)) (l : Level) (ks ks' : List Kind) (w : List ℕ) (at n : ℕ) → length ks ≡ n → Ends ks → at + n ≤ length w →
      first_true at (repeated_outs (field_in σ p) before (out_layout σ 0 l ++ (ks ++ ks')) (drop at (begun_by σ w))) ≡ equal_from (field_in σ p) ks' (begun_by σ w) (at + n)
  after_outs before l ks ks' w at n e ends u =
      ap (λ (js : List Kind). first_true at (repeated_outs F before (js ++ (ks ++ ks')) (drop at (begun_by σ w)))) (no_outs σ l)
      ∙ over_end F zero_here before ks ks' (begun_by σ w) at n e ends (omega (arith, begun_length σ w))

  pub equal_round : (l : Level) (s : ℕ) (ks ks' : List Kind) (w : List ℕ) (at n : ℕ) → s ≤ 2 → length ks ≡ n → Ends ks → at + (word_count σ s + n) ≤ length w →
      equal_from (field_in σ p) (out_layout σ s l ++ (ks ++ ks')) (begun_by σ w) at
      ≡ or_else (equal_at σ p w at s) (equal_from (field_in σ p) ks' (begun_by σ w) (at + (word_count σ s + n)))
  unfolding equal_at same_as
  equal_round l zero ks ks' w at n few e ends u =
      let m : at + n ≡ at + (word_count σ 0 + n) = omega (arith, count_zero σ) in
      after_outs none l ks ks' w at n e ends (omega arith) ∙ ap (equal_from F ks' (begun_by σ w)) m
  equal_round l (suc zero) ks ks' w at n few e ends u =
      let m : at + word_count σ 1 + n ≡ at + (word_count σ 1 + n) = omega arith in
      outs_step F zero_here σ none l 0 (ks ++ ks') (begun_by σ w) at (omega (arith, begun_length σ w))
      ∙ after_outs (some (get_or (begun_by σ w) at zero_here)) l ks ks' w (at + word_count σ 1) n e ends (omega arith) ∙ ap (equal_from F ks' (begun_by σ w)) m
  equal_round l (suc (suc zero)) ks ks' w at n few e ends u =
      let x = get_or (begun_by σ w) at zero_here in
      let y = get_or (begun_by σ w) (at + word_count σ 1) zero_here in
      outs_step F zero_here σ none l 1 (ks ++ ks') (begun_by σ w) at (omega (arith, begun_length σ w, two))
      ∙ outs_step F zero_here σ (some x) l 0 (ks ++ ks') (begun_by σ w) (at + word_count σ 1) (omega (arith, begun_length σ w, two))
      ∙ (λ i. cond (F.equal (begun_at σ w (at + word_count σ 1) (omega (arith, two)) i) (begun_at σ w at (omega (arith, two)) i)) (some (at + word_count σ 1))
      ((after_outs (some y) l ks ks' w (at + word_count σ 1 + word_count σ 1) n e ends (omega (arith, two)) ∙ ap (equal_from F ks' (begun_by σ w)) m) i))
      ∙ go (F.equal (element_at σ w (at + word_count σ 1)) (element_at σ w at))
    where
      two : word_count σ 2 ≡ word_count σ 1 + word_count σ 1
      two = count_add σ 1 1

      m : at + word_count σ 1 + word_count σ 1 + n ≡ at + (word_count σ 2 + n)
      m = omega (arith, two)

      go : (b : Bool) → cond b (some (at + word_count σ 1)) (equal_from (field_in σ p) ks' (begun_by σ w) (at + (word_count σ 2 + n)))
          ≡ or_else (cond b (some (at + word_count σ 1)) none) (equal_from (field_in σ p) ks' (begun_by σ w) (at + (word_count σ 2 + n)))
      go true = refl
      go false = refl
  equal_round l (suc (suc (suc s))) ks ks' w at n few e ends u = absurd (omega arith)

-- ---- a round

module _ (alone : Bool) (h : Sheet) (w : List ℕ) (at i : ℕ) (more : i < rounds_of h) (once : 1 ≤ (level_of h i).repetitions) where
  abbrev head : ℕ
  head = words_for h (messages_in alone (level_of h (i + 1)).size)

  abbrev tail : ℕ
  tail = words_for h (messages_in alone (out_coin_count h)) + (words_for h 2 + (level_of h i).repetitions)

  abbrev rest : List Kind
  rest = chosen alone (words_after h (i + 1))

  module _ (there : at + head + (words_for h (out_coin_count h) + tail) ≤ length w) where
    pub inside_step : inside_from h (chosen alone (words_after h i)) (begun h w) at
        ≡ or_else (first_inside h.spelling h.prime (root_of_unity h) (level_of h (i + 1)) w (at + head) (out_coin_count h))
        (inside_from h rest (begun h w) (at + head + (words_for h (out_coin_count h) + tail)))
    inside_step =
        ap (λ (ks : List Kind). inside_from h ks (begun h w) at) (kinds_next alone h i more)
        ∙ inside_over h (head_kinds alone h.spelling (level_of h (i + 1))) _ (begun h w) at head (length-replicate head message) (silent_head alone h.spelling (level_of h (i + 1)))
        (omega (arith, there, begun_length h.spelling w))
        ∙ inside_round h (level_of h (i + 1)) (out_coin_count h) (tail_kinds alone h.spelling (out_coin_count h) (level_of h i)) rest w (at + head) tail
        (tail_count alone h.spelling (out_coin_count h) (level_of h i)) (tail_ends alone h.spelling (out_coin_count h) (level_of h i) once) there

    pub equal_step : out_coin_count h ≤ 2 → equal_from (sheet_field h) (chosen alone (words_after h i)) (begun h w) at
        ≡ or_else (equal_at h.spelling h.prime w (at + head) (out_coin_count h)) (equal_from (sheet_field h) rest (begun h w) (at + head + (words_for h (out_coin_count h) + tail)))
    equal_step few =
        ap (λ (ks : List Kind). equal_from (sheet_field h) ks (begun h w) at) (kinds_next alone h i more)
        ∙ equal_over (sheet_field h) (zero_of h) (head_kinds alone h.spelling (level_of h (i + 1))) _ (begun h w) at head (length-replicate head message)
        (silent_head alone h.spelling (level_of h (i + 1))) (omega (arith, there, begun_length h.spelling w))
        ∙ equal_round h.spelling h.prime (level_of h (i + 1)) (out_coin_count h) (tail_kinds alone h.spelling (out_coin_count h) (level_of h i)) rest w (at + head) tail few
        (tail_count alone h.spelling (out_coin_count h) (level_of h i)) (tail_ends alone h.spelling (out_coin_count h) (level_of h i) once) there

-- the tests by these walks
pub tests_are : (h : Sheet) (from : ℕ) (ks : List Kind) (w : List ℕ) →
    (refuse_at 7 (inside_from h ks (begun h w) from) then refuse_at 14 (equal_from (sheet_field h) ks (begun h w) from)) ≡ out_tests h from ks w
unfolding out_tests out_test equal_test
tests_are h from ks w =
    ap (λ (xs : List (Element h.spelling)). refuse_at 7 (first_true from (zip_with (out_in_domain h.spelling h) ks xs)) then refuse_at 14 (first_true from (repeated_outs (sheet_field h) none ks xs)))
    (begun_drop h.spelling from w)

-- ---- table 0 and fold coin 0

module _ (alone : Bool) (h : Sheet) (w : List ℕ) (from : ℕ) (there : from + length (chosen alone (layout h)) ≤ length w) where
  abbrev table : ℕ
  table = words_for h (messages_in alone h.size)

  pub rest_there : from + words_for h (messages_in alone h.size) + words_for h 1 + length (chosen alone (kinds_after_fold h)) ≤ length w
  rest_there =
      omega (
        arith,
        there,
        ap length (kinds_all alone h),
        length-append (replicate table message) (replicate (words_for h 1) coin ++ chosen alone (kinds_after_fold h)),
        length-append (replicate (words_for h 1) coin) (chosen alone (kinds_after_fold h)),
        length-replicate table message,
        length-replicate (words_for h 1) coin,
      )

  -- the tests of all words are those of the words after fold coin 0
  pub tests_rest : out_tests h (from + words_for h (messages_in alone h.size) + words_for h 1) (chosen alone (kinds_after_fold h)) w ≡ out_tests h from (chosen alone (layout h)) w
  tests_rest =
      sym (tests_are h (from + table + words_for h 1) (chosen alone (kinds_after_fold h)) w) ∙ sym (
      ap (λ (ks : List Kind). refuse_at 7 (inside_from h ks xs from) then refuse_at 14 (equal_from (sheet_field h) ks xs from)) (kinds_all alone h)
      ∙ (λ j. refuse_at 7 (inside_first j) then refuse_at 14 (equal_first j))) ∙ tests_are h from (chosen alone (layout h)) w
    where
      xs : List (Element h.spelling)
      xs = begun h w

      many : length (begun h w) ≡ length w
      many = begun_length h.spelling w

      silent : All Silent (replicate table message)
      silent = all_replicate Silent table message tt

      silent_coin : All Silent (replicate (words_for h 1) coin)
      silent_coin = all_replicate Silent (words_for h 1) coin tt

      inside_first : inside_from h (replicate table message ++ (replicate (words_for h 1) coin ++ chosen alone (kinds_after_fold h))) (begun h w) from
          ≡ inside_from h (chosen alone (kinds_after_fold h)) (begun h w) (from + table + words_for h 1)
      inside_first =
          inside_over h (replicate table message) (replicate (words_for h 1) coin ++ chosen alone (kinds_after_fold h)) (begun h w) from table (length-replicate table message) silent (omega (arith, rest_there, many))
          ∙ inside_over h (replicate (words_for h 1) coin) (chosen alone (kinds_after_fold h)) (begun h w) (from + table) (words_for h 1) (length-replicate (words_for h 1) coin) silent_coin (omega (arith, rest_there, many))

      equal_first : equal_from (sheet_field h) (replicate table message ++ (replicate (words_for h 1) coin ++ chosen alone (kinds_after_fold h))) (begun h w) from
          ≡ equal_from (sheet_field h) (chosen alone (kinds_after_fold h)) (begun h w) (from + table + words_for h 1)
      equal_first =
          equal_over (sheet_field h) (zero_of h) (replicate table message) (replicate (words_for h 1) coin ++ chosen alone (kinds_after_fold h)) (begun h w) from table (length-replicate table message) silent (omega (arith, rest_there, many))
          ∙ equal_over (sheet_field h) (zero_of h) (replicate (words_for h 1) coin) (chosen alone (kinds_after_fold h)) (begun h w) (from + table) (words_for h 1) (length-replicate (words_for h 1) coin) silent_coin (omega (arith, rest_there, many))
