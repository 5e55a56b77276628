-- The premises of completeness can be met: the transcript by hand meets them, and under every sheet without a fault every polynomial does with coins 0, and 1 after an out
-- coin 0. So 0 or 1 is the smallest element allowed for a second out coin.
use Prim.Native.Nat.{ℕ, zero, suc, ◌+◌, ◌-◌, ◌*◌, ◌/◌, ◌^◌, ◌≤◌, ◌<◌}
use Rattle.std.proofs.Common.{arith, ◌∙◌, subst}
use Rattle.std.proofs.Math.Bool.{Bool, true, false, not}
use Rattle.std.specs.Prelude.{cond, ◌||◌, ◌≡◌, eqb}
use mathlib.Core.List.{List, [], ◌∷◌, ◌++◌, map, zip_with, append-nil}
use Rattle.std.proofs.Math.Option.{Option, none, some}
use Rattle.std.proofs.Math.Path.{refl, sym, ap}
use Rattle.std.proofs.Math.ListN.{length, get_or, replicate, length-map, length-replicate}
use borrow.Author.Tests.{eq-eqb, lt-leb}
use Rattle.definition.specs.Deciding.{out_before, out_in_domain, out_repeated, repeated_outs, same_as}
use Rattle.definition.specs.Domain.{domain, in_domain, point}
use Rattle.definition.specs.Field.{Element, Field, Spelling, begun_by, field_in, four, number_in, one, power, prime_field}
use Rattle.definition.specs.Layout.{Kind, coin, coin_kinds, index, layout, limit, message, out}
use Rattle.definition.specs.Lists.{first_true, member, range}
use Rattle.definition.specs.Load.{keep, not_allowed, smallest_allowed}
use Rattle.definition.specs.Prove.{coefficients_test, coin_domain_test, coin_equal_test, coins_test, input_range_test, sheet_length_test}
use Rattle.definition.specs.Reading.{out_of_range, sheet_test}
use Rattle.definition.specs.Sheet.{Edition, Level, Sheet, edition1, root_of_unity, sheet_length, sheet_of, shift_count}
use Rattle.definition.specs.Verdict.{accepted}
use Rattle.definition.specs.WorkedTranscript.{coefficients, coins, definitions, sheet_words}
use Rattle.list_laws.specs.All.{All}
use Rattle.algebra.specs.FieldIn.{one_in, zero_in}
use Rattle.algebra.specs.Laws.{FieldLaws}
use Rattle.algebra.specs.PrimeField.{signs_differ}
use Rattle.algebra.specs.RootsOfUnity.{minus_one}
use Rattle.layouts.specs.EachWord.{Each, InRange, Outside, each_false, each_join, each_map, each_none}
use Rattle.layouts.proofs.LayoutFacts.{layout_all}
use Rattle.layouts.specs.LevelSizes.{Sized, positive_sizes}
use Rattle.layouts.specs.Levels.{level_of, rounds_of, sheet_field, words_for}
use Rattle.layouts.specs.Spellings.{begun_length}
use Rattle.layouts.specs.Tests.{at_none, at_passes, equal_passes, if_false, none_true}
use Rattle.layouts.specs.WholeCoins.{Coins, Whole, coins_whole, layout_whole}
use Rattle.completeness.proofs.Allowed.{sheet_enough, sheet_long}
use Rattle.completeness.proofs.Domains.{odd_not_one, power_nonzero}
use Rattle.completeness.specs.EqualOuts.{NoRepeat, SameOuts, repeated_same}
use Rattle.completeness.specs.FrontOfStream.{inside_front}
use Rattle.completeness.specs.Numbered.{Allowed}
use Rattle.completeness.specs.Ready.{Ready, ready}
use Rattle.completeness.specs.TestsByNumber.{unequal}

-- a word of its kind in range, which as a number of the field is no out coin in its domain
abbrev pub Passes : Spelling → Sheet → Kind → ℕ → Type 0
Passes σ h k x = (out_of_range h k x ≡ false) × (out_in_domain σ h k (number_in σ x) ≡ false)

module _ (σ : Spelling) (F : Field (Element σ)) where
  -- The coins that serve every sheet: 0 for each word, and 1 for the first of an out coin that would repeat an out coin 0.
  unfoldable pub plain_coin : Option (Element σ) → Kind → ℕ
  plain_coin before k = cond (out_repeated F before k (number_in σ 0)) 1 0

  unfoldable pub plain_coins : Option (Element σ) → List Kind → List ℕ
  plain_coins before [] = []
  plain_coins before (k ∷ ks) = plain_coin before k ∷ plain_coins (out_before before k (number_in σ (plain_coin before k))) ks

  plain_length : (before : Option (Element σ)) (ks : List Kind) → length (plain_coins before ks) ≡ length ks
  unfolding plain_coins
  plain_length before [] = refl
  plain_length before (k ∷ ks) = ap suc (plain_length (out_before before k (number_in σ (plain_coin before k))) ks)

  -- words of a coin are 0
  plain_zeros : (n : ℕ) (before : Option (Element σ)) (ks : List Kind) → Coins n ks → (i : ℕ) → i < n → get_or (plain_coins before ks) i 0 ≡ 0
  unfolding plain_coins plain_coin out_repeated
  plain_zeros zero before ks c i l = absurd (omega arith)
  plain_zeros (suc n) before [] c i l = absurd c
  plain_zeros (suc n) before (message ∷ ks) c i l = absurd c
  plain_zeros (suc n) before (coin ∷ ks) c zero l = refl
  plain_zeros (suc n) before (coin ∷ ks) c (suc i) l = plain_zeros n (out_before before coin (number_in σ 0)) ks c i (omega arith)
  plain_zeros (suc n) before (out a ∷ ks) c i l = absurd c
  plain_zeros (suc n) before (index m ∷ ks) c i l = absurd c

  module _ (apart : (y : Element σ) → F.equal (number_in σ 0) y ≡ true → F.equal (number_in σ 1) y ≡ false) where
    -- an out coin that 0 repeats is 0, and so 1 does not repeat it
    one_apart : (before : Option (Element σ)) (k : Kind) → out_repeated F before k (number_in σ 0) ≡ true → out_repeated F before k (number_in σ 1) ≡ false
    unfolding out_repeated same_as
    one_apart before message e = refl
    one_apart before coin e = refl
    one_apart none (out l) e = refl
    one_apart (some y) (out l) e = apart y e
    one_apart before (index n) e = refl

    pub plain_apart : (before : Option (Element σ)) (k : Kind) → out_repeated F before k (number_in σ (plain_coin before k)) ≡ false
    unfolding plain_coin
    plain_apart before k = go (out_repeated F before k (number_in σ 0)) refl
      where
        go : (b : Bool) → out_repeated F before k (number_in σ 0) ≡ b → out_repeated F before k (number_in σ (cond b 1 0)) ≡ false
        go true e = one_apart before k e
        go false e = e

    none_repeated : (before : Option (Element σ)) (ks : List Kind) → NoRepeat F before ks (map (number_in σ) (plain_coins before ks))
    unfolding repeated_outs plain_coins
    none_repeated before [] = tt
    none_repeated before (k ∷ ks) = (plain_apart before k, none_repeated (out_before before k (number_in σ (plain_coin before k))) ks)

-- what these words begin is, at each out coin, the number there
plain_begun : (σ : Spelling) (F : Field (Element σ)) (z : Element σ) (before : Option (Element σ)) (ks : List Kind) → Whole σ ks → (j : ℕ) → j < length ks →
    SameOuts (get_or ks j message) (get_or (begun_by σ (plain_coins σ F before ks)) j z) (get_or (map (number_in σ) (plain_coins σ F before ks)) j z)
unfolding begun_by plain_coins number_in
plain_begun σ F z before [] c j l = absurd (omega arith)
plain_begun one F z before (k ∷ ks) c zero l = same_number k _
  where
    same_number : (k : Kind) (x : ℕ) → SameOuts k x (number_in one x)
    same_number message x = tt
    same_number coin x = tt
    same_number (out a) x = refl
    same_number (index n) x = tt
plain_begun one F z before (k ∷ ks) c (suc j) l = plain_begun one F z (out_before before k (number_in one (plain_coin one F before k))) ks tt j (omega arith)
plain_begun four F z before (message ∷ ks) c zero l = tt
plain_begun four F z before (coin ∷ ks) c zero l = tt
plain_begun four F z before (out a ∷ ks) c zero l =
    let rest = plain_zeros four F 3 (out_before before (out a) (number_in four (plain_coin four F before (out a)))) ks c.0 in
    λ i. record { a = plain_coin four F before (out a); b = rest 0 (omega arith) i; c = rest 1 (omega arith) i; d = rest 2 (omega arith) i }
plain_begun four F z before (index n ∷ ks) c zero l = tt
plain_begun four F z before (message ∷ ks) c (suc j) l = plain_begun four F z (out_before before message (number_in four (plain_coin four F before message))) ks c j (omega arith)
plain_begun four F z before (coin ∷ ks) c (suc j) l = plain_begun four F z (out_before before coin (number_in four (plain_coin four F before coin))) ks c j (omega arith)
plain_begun four F z before (out a ∷ ks) c (suc j) l = plain_begun four F z (out_before before (out a) (number_in four (plain_coin four F before (out a)))) ks c.1 j (omega arith)
plain_begun four F z before (index n ∷ ks) c (suc j) l = plain_begun four F z (out_before before (index n) (number_in four (plain_coin four F before (index n)))) ks c j (omega arith)

-- what holds of 0, and for out coins of 1 too, holds of each
abbrev pub Plain : (Kind → ℕ → Type 0) → Kind → Type 0
Plain R message = R message 0
Plain R coin = R coin 0
Plain R (out l) = R (out l) 0 × R (out l) 1
Plain R (index n) = R (index n) 0

pub plain_zero : (R : Kind → ℕ → Type 0) (k : Kind) → Plain R k → R k 0
plain_zero R message h = h
plain_zero R coin h = h
plain_zero R (out l) h = h.0
plain_zero R (index n) h = h

module _ (σ : Spelling) (F : Field (Element σ)) where
  pub plain_one : (R : Kind → ℕ → Type 0) (before : Option (Element σ)) (k : Kind) → Plain R k → R k (plain_coin σ F before k)
  unfolding plain_coin out_repeated
  plain_one R before message h = h
  plain_one R before coin h = h
  plain_one R before (out l) h = go (same_as F before (number_in σ 0))
    where
      go : (b : Bool) → R (out l) (cond b 1 0)
      go true = h.1
      go false = h.0
  plain_one R before (index n) h = h

  each_plain : (R : Kind → ℕ → Type 0) (before : Option (Element σ)) (ks : List Kind) → All (Plain R) ks → Each R ks (plain_coins σ F before ks)
  unfolding plain_coins
  each_plain R before [] h = tt
  each_plain R before (k ∷ ks) h = (plain_one R before k h.0, each_plain R (out_before before k (number_in σ (plain_coin σ F before k))) ks h.1)

-- a relation of words to what they stand for
each_map_list : {A : Type 0} (R : Kind → A → Type 0) (f : ℕ → A) (ks : List Kind) (w : List ℕ) → Each (λ k x. R k (f x)) ks w → Each R ks (map f w)
each_map_list R f [] [] h = tt
each_map_list R f [] (x ∷ w) h = absurd h
each_map_list R f (k ∷ ks) [] h = absurd h
each_map_list R f (k ∷ ks) (x ∷ w) h = (h.0, each_map_list R f ks w h.1)

pub coins_of : (P : Kind → Type 0) (ks : List Kind) → All P ks → All P (coin_kinds ks)
unfolding coin_kinds
coins_of P [] h = tt
coins_of P (message ∷ ks) h = coins_of P ks h.1
coins_of P (coin ∷ ks) h = (h.0, coins_of P ks h.1)
coins_of P (out l ∷ ks) h = (h.0, coins_of P ks h.1)
coins_of P (index n ∷ ks) h = (h.0, coins_of P ks h.1)

-- a sheet's prime, seen as either field over it that has the laws and the root
module _ (h : Sheet) (r : Ready h) (σ : Spelling) (L : FieldLaws (field_in σ h.prime)) (signs : minus_one (field_in σ h.prime) ≡ (field_in σ h.prime).𝟙 → ⊥)
    (root : power (field_in σ h.prime) (number_in σ (root_of_unity h)) (2 ^ r.e) ≡ minus_one (field_in σ h.prime)) where
  abbrev F : Field (Element σ)
  F = field_in σ h.prime

  abbrev ω : Element σ
  ω = number_in σ (root_of_unity h)

  positive : 0 < h.prime
  positive = omega (arith, r.large)

  pub message_plain : Plain (Passes σ h) message
  unfolding out_of_range out_in_domain limit
  message_plain = (lt-leb h.prime 0 positive, refl)

  coin_plain : Plain (Passes σ h) coin
  unfolding out_of_range out_in_domain limit
  coin_plain = (lt-leb h.prime 0 positive, refl)

  index_plain : (b : Level) → Sized (suc r.e) b → Plain (Passes σ h) (index (shift_count b))
  unfolding out_of_range out_in_domain limit shift_count
  index_plain b rb = (lt-leb (b.size / b.fold) 0 (positive_sizes (suc r.e) b rb).0, refl)

  -- an element that is no point of a domain
  off_list : (l : Level) (x : Element σ) (js : List ℕ) → ((j : ℕ) → power F ω (1 + 2 ^ l.number * j) ≡ x → ⊥) → member F.equal x (map (point F ω l) js) ≡ false
  unfolding member point
  off_list l x [] off = refl
  off_list l x (j ∷ js) off = rw (unequal F L x (power F ω (1 + 2 ^ l.number * j)) (λ z. off j (sym z))) (off_list l x js off)

  -- 0 is no power of ω, and 1 no odd one
  pub out_plain : (l : Level) (before : ℕ) → l.number ≡ suc before → Plain (Passes σ h) (out l)
  unfolding out_of_range out_in_domain limit in_domain domain
  out_plain l before e = (
    (lt-leb h.prime 0 positive, off_list l (number_in σ 0) (range 0 l.size) (λ j z. power_nonzero F L ω signs r.e root (1 + 2 ^ l.number * j) (z ∙ sym (zero_in σ h.prime)))),
    (
      lt-leb h.prime 1 (omega (arith, r.large)),
      off_list l (number_in σ 1) (range 0 l.size) (λ j z. odd_not_one F L ω signs r.e root before j (ap (λ (i : ℕ). power F ω (1 + 2 ^ i * j)) (sym e) ∙ z ∙ sym (one_in σ h.prime))),
    ),
  )

  pub layout_plain : All (Plain (Passes σ h)) (layout h)
  layout_plain = layout_all (Plain (Passes σ h)) (suc r.e) message_plain coin_plain out_plain index_plain h r.chain r.steps

  -- 1 is not 0
  pub apart : (y : Element σ) → F.equal (number_in σ 0) y ≡ true → F.equal (number_in σ 1) y ≡ false
  apart y e = unequal F L (number_in σ 1) y (λ z. L.one≢zero (one_in σ h.prime ∙ z ∙ sym (L.equal_true (number_in σ 0) y e) ∙ sym (zero_in σ h.prime)))

-- the coins of a sheet's own field
module _ (h : Sheet) (r : Ready h) where
  abbrev own : FieldLaws (sheet_field h)
  own = r.laws

  ks : List Kind
  ks = coin_kinds (layout h)

  pub own_coins : List ℕ
  own_coins = plain_coins h.spelling (sheet_field h) none (coin_kinds (layout h))

  each_coin : Each (Passes h.spelling h) ks own_coins
  unfolding ks own_coins
  each_coin =
      each_plain h.spelling (sheet_field h) (Passes h.spelling h) none (coin_kinds (layout h)) (coins_of (Plain (Passes h.spelling h)) (layout h) (layout_plain h r h.spelling r.laws r.signs r.root))

  own_length : length own_coins ≡ length (coin_kinds (layout h))
  unfolding own_coins
  own_length = plain_length h.spelling (sheet_field h) none (coin_kinds (layout h))

  range_plain : (f : List ℕ) → length f ≡ words_for h h.degree → input_range_test h [] f ≡ accepted → input_range_test h ks (f ++ own_coins) ≡ accepted
  unfolding input_range_test
  range_plain f long elements =
      let ms = replicate (words_for h h.degree) message in
      at_none 5 _
      (ap (λ (l : List ℕ). first_true 0 (zip_with (out_of_range h) (ms ++ ks) l)) (sym (append-nil _))
      ∙ each_none (out_of_range h) 0 (ms ++ ks) (f ++ own_coins) []
      (each_join (InRange h) ms ks f own_coins
      (subst (λ (l : List Kind). Each (InRange h) l f) (append-nil ms)
      (each_false (out_of_range h) 0 (ms ++ []) f (long ∙ sym (ap length (append-nil ms) ∙ length-replicate (words_for h h.degree) message)) (at_passes 5 _ elements)))
      (each_map ks own_coins each_coin (λ k x p. p.0))))

  -- what they begin, and the numbers that they are
  abbrev begun : List (Element h.spelling)
  begun = begun_by h.spelling (plain_coins h.spelling (sheet_field h) none (coin_kinds (layout h)))

  abbrev numbers : List (Element h.spelling)
  numbers = map (number_in h.spelling) (plain_coins h.spelling (sheet_field h) none (coin_kinds (layout h)))

  same : (j : ℕ) → j < length (coin_kinds (layout h)) → SameOuts (get_or (coin_kinds (layout h)) j message) (get_or begun j (number_in h.spelling 0)) (get_or numbers j (number_in h.spelling 0))
  same = plain_begun h.spelling (sheet_field h) (number_in h.spelling 0) none (coin_kinds (layout h)) (coins_whole h.spelling (layout h) (layout_whole h))

  begun_many : length (coin_kinds (layout h)) ≤ length begun
  unfolding own_coins
  begun_many = omega (arith, begun_length h.spelling own_coins, own_length)

  numbers_many : length (coin_kinds (layout h)) ≤ length numbers
  unfolding own_coins
  numbers_many = omega (arith, length-map own_coins (number_in h.spelling), own_length)

  outside_plain : coin_domain_test h own_coins ≡ accepted
  unfolding coin_domain_test ks own_coins
  outside_plain =
      at_none 7 _
      (ap (first_true 0) (inside_front h.spelling h (number_in h.spelling 0) ks begun numbers begun_many numbers_many same ∙ ap (zip_with (out_in_domain h.spelling h) ks) (sym (append-nil numbers)))
      ∙ each_none (out_in_domain h.spelling h) 0 ks numbers [] (each_map_list (Outside h) (number_in h.spelling) ks own_coins (each_map ks own_coins each_coin (λ k x p. p.1))))

  apart_plain : coin_equal_test h own_coins ≡ accepted
  unfolding coin_equal_test own_coins
  apart_plain =
      at_none 14 _ (none_true 0 _ (subst (λ (bs : List Bool). All (λ b. b ≡ false) bs)
      (sym (repeated_same (sheet_field h) (number_in h.spelling 0) none (coin_kinds (layout h)) begun numbers begun_many numbers_many same))
      (none_repeated h.spelling (sheet_field h) (apart h r h.spelling r.laws r.signs r.root) none (coin_kinds (layout h)))))

  -- the prime field's own facts, by which the load draws
  pub base_signs : minus_one (field_in one h.prime) ≡ (field_in one h.prime).𝟙 → ⊥
  unfolding field_in
  base_signs = signs_differ h.prime r.large

  pub base_laws : FieldLaws (field_in one h.prime)
  unfolding field_in
  base_laws = r.base

  pub base_root : power (field_in one h.prime) (number_in one (root_of_unity h)) (2 ^ r.e) ≡ minus_one (field_in one h.prime)
  unfolding field_in number_in
  base_root = r.base_root

  -- the smallest element of one word allowed for an out coin of a round: 0, or 1 where 0 would repeat the out coin before it
  pub smallest_is : (before : Option ℕ) (l : Level) → Plain (Passes one h) (out l) → smallest_allowed h before (out l) ≡ plain_coin one (prime_field h.prime) before (out l)
  unfolding smallest_allowed not_allowed keep range plain_coin field_in number_in
  smallest_is before l plain =
      ap (λ (xs : List ℕ). get_or (keep allowed xs) 0 0) (first_two h.prime r.large)
      ∙ go (out_repeated (prime_field h.prime) before (out l) 0) refl (tested 0 plain.0.1) (tested 1 plain.1.1)
    where
      allowed : ℕ → Bool
      allowed x = not (out_in_domain one h (out l) x || out_repeated (prime_field h.prime) before (out l) x)

      rest : List ℕ
      rest = range 2 (h.prime - 2)

      tested : (x : ℕ) → out_in_domain one h (out l) x ≡ false → allowed x ≡ not (out_repeated (prime_field h.prime) before (out l) x)
      tested x e = ap (λ (b : Bool). not (b || out_repeated (prime_field h.prime) before (out l) x)) e

      first_two : (n : ℕ) → 2 < n → range 0 n ≡ 0 ∷ 1 ∷ range 2 (n - 2)
      first_two n u = let e : n ≡ suc (suc (n - 2)) = omega arith in ap (range 0) e

      go : (b : Bool) → out_repeated (prime_field h.prime) before (out l) 0 ≡ b → allowed 0 ≡ not (out_repeated (prime_field h.prime) before (out l) 0) →
          allowed 1 ≡ not (out_repeated (prime_field h.prime) before (out l) 1) → get_or (keep allowed (0 ∷ 1 ∷ rest)) 0 0 ≡ cond b 1 0
      go true e z o = rw (z ∙ ap not e, o ∙ ap not (one_apart one (prime_field h.prime) (apart h r one base_laws base_signs base_root) before (out l) e))
      go false e z o = rw (z ∙ ap not e)

full_length : (h : Sheet) (f : List ℕ) → coefficients_test h f ≡ accepted → length f ≡ words_for h h.degree
unfolding coefficients_test
full_length h f e = equal_passes 10 1 (length f) (words_for h h.degree) e

-- Under every sheet without a fault, for the words of every d0 elements, these coins are allowed.
pub plain_allowed : (ed : Edition) (w f : List ℕ) → sheet_length_test ed w ≡ accepted → sheet_test ed w ≡ accepted → coefficients_test (sheet_of ed w) f ≡ accepted →
    input_range_test (sheet_of ed w) [] f ≡ accepted → Allowed ed w f (plain_coins (sheet_of ed w).spelling (sheet_field (sheet_of ed w)) none (coin_kinds (layout (sheet_of ed w))))
unfolding ks own_coins coins_test
plain_allowed ed w f words passed coefficients elements =
    let h = sheet_of ed w in
    let r = ready ed w (sheet_enough ed w (sheet_long ed w words)) passed in
    record {
      words = words;
      sheet = passed;
      coefficients = coefficients;
      full = if_false 10 2 _ (ap not (eq-eqb _ _ (plain_length h.spelling (sheet_field h) none (coin_kinds (layout h)))));
      range = range_plain h r f (full_length h f coefficients) elements;
      outside = outside_plain h r;
      apart = apart_plain h r;
    }

-- So for a second out coin of round i + 1 after an out coin y: it is the plain coin,
pub smallest_plain : (ed : Edition) (w : List ℕ) → sheet_length ed ≤ length w → sheet_test ed w ≡ accepted → (i y : ℕ) → i < rounds_of (sheet_of ed w) →
    smallest_allowed (sheet_of ed w) (some y) (out (level_of (sheet_of ed w) (suc i))) ≡ plain_coin one (prime_field (sheet_of ed w).prime) (some y) (out (level_of (sheet_of ed w) (suc i)))
smallest_plain ed w long passed i y l =
    let h = sheet_of ed w in
    let r = ready ed w long passed in
    smallest_is h r (some y) (level_of h (suc i)) (out_plain h r one (base_laws h r) (base_signs h r) (base_root h r) (level_of h (suc i)) i refl)

-- which is 1 where y is 0, else 0.
pub smallest_second : (ed : Edition) (w : List ℕ) → sheet_length ed ≤ length w → sheet_test ed w ≡ accepted → (i y : ℕ) → i < rounds_of (sheet_of ed w) →
    smallest_allowed (sheet_of ed w) (some y) (out (level_of (sheet_of ed w) (suc i))) ≡ cond (eqb 0 y) 1 0
unfolding plain_coin out_repeated same_as prime_field number_in
smallest_second = smallest_plain

-- The transcript by hand is allowed.
pub by_hand : Allowed edition1 sheet_words coefficients coins
unfolding definitions
by_hand = record { words = refl; sheet = refl; coefficients = refl; full = refl; range = refl; outside = refl; apart = refl }
