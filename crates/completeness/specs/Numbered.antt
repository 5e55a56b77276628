-- THE VOCABULARY OF THE PAGE: 01's notions by number, over a sheet h, coefficients f, a coin list and a word stream. It holds no lemma and no proof.
-- A sheet's levels, and where its rounds begin, are those of Levels (crate `layouts`): M is the number of rounds, s the number of out coins of a round; k_i, t_i, n_i and
-- d_i belong to level i.
use Rattle.std.specs.Prelude.{ℕ, zero, suc, ◌+◌, ◌*◌, ◌≤◌, cond, ◌≡◌, eqb, ltb, length, get_or, take, drop}
use mathlib.Core.List.{List, [], ◌∷◌, ◌++◌, flat_map, map}
use Rattle.definition.specs.Block.{block_count, file_of, stream_of}
use Rattle.definition.specs.Deciding.{answers, next_function, table_function}
use Rattle.definition.specs.Domain.{domain, point, root_numbers}
use Rattle.definition.specs.Field.{Element, Field, elements_in, number_in}
use Rattle.definition.specs.Layout.{coin_kinds, layout, read_transcript, words_due}
use Rattle.definition.specs.Lists.{different, range}
use Rattle.definition.specs.Polynomial.{Sample, distinct, evaluate, fold_poly, interpolate, points, quotient, sub_poly, vanishing}
use Rattle.definition.specs.Prove.{coefficients_test, coin_domain_test, coin_equal_test, coins_test, input_range_test, output_test, sheet_length_test}
use Rattle.definition.specs.Prover.{honest_answers, honest_stream, next_poly}
use Rattle.definition.specs.Reading.{sheet_test}
use Rattle.definition.specs.Sheet.{Edition, Level, Sheet, final_count, first_level, sheet_length, sheet_of}
use Rattle.definition.specs.Transcript as transcript
use Rattle.definition.specs.Transcript.{Rest, Round, RoundCoins, round}
use Rattle.definition.specs.Verdict.{accepted}
use Rattle.algebra.specs.FieldIn.{Below}
use Rattle.layouts.specs.Levels.{coins_before, element_at, level_of, out_coin_count, round_start, rounds_of, sheet_field, sheet_root, total, words_for}

-- THE PREMISES: the tests that prove makes of its input, in their order.
-- the edition's words without a broken rule; the words of d0 coefficients; a full coin list; every word in range; every out coin outside its round's domain;
-- no two equal out coins in a round
pub record Allowed (e : Edition) (w f coins : List ℕ) : Type 0 where
  pub words : sheet_length_test e w ≡ accepted
  pub sheet : sheet_test e w ≡ accepted
  pub coefficients : coefficients_test (sheet_of e w) f ≡ accepted
  pub full : coins_test (sheet_of e w) coins ≡ accepted
  pub range : input_range_test (sheet_of e w) (coin_kinds (layout (sheet_of e w))) (f ++ coins) ≡ accepted
  pub outside : coin_domain_test (sheet_of e w) coins ≡ accepted
  pub apart : coin_equal_test (sheet_of e w) coins ≡ accepted

-- the output holds the blocks due
abbrev pub Room : Edition → Sheet → List ℕ → Type 0
Room e h output = output_test (block_count (words_due e h)) (512 * block_count (words_due e h)) (length output) ≡ accepted

-- an element of the sheet's field: each of its words is below p
abbrev pub ElementOf : (h : Sheet) → Element h.spelling → Type 0
ElementOf h x = Below h.spelling h.prime x

-- THE COINS BY ROUND: each coin of round i by its place in the coin list, and the final indices.
unfoldable pub out_coins_of : (h : Sheet) → List ℕ → ℕ → List (Element h.spelling)
out_coins_of h coins i = elements_in h.spelling (take (words_for h (out_coin_count h)) (drop (coins_before h i) coins))

unfoldable pub combination_coin : (h : Sheet) → List ℕ → ℕ → Element h.spelling
combination_coin h coins i = element_at h.spelling coins (coins_before h i + words_for h (out_coin_count h))

unfoldable pub fold_coin : (h : Sheet) → List ℕ → ℕ → Element h.spelling
fold_coin h coins zero = element_at h.spelling coins 0
fold_coin h coins (suc i) = element_at h.spelling coins (coins_before h (suc i) + words_for h (out_coin_count h + 1))

unfoldable pub shift_indices : Sheet → List ℕ → ℕ → List ℕ
shift_indices h coins zero = []
shift_indices h coins (suc i) = take (level_of h i).repetitions (drop (coins_before h (suc i) + words_for h (out_coin_count h + 2)) coins)

unfoldable pub final_indices : Sheet → List ℕ → List ℕ
final_indices h coins = drop (coins_before h (suc (rounds_of h))) coins

abbrev pub coins_of : (h : Sheet) → List ℕ → ℕ → RoundCoins (Element h.spelling)
coins_of h coins i = record {
  level = level_of h i;
  outs = out_coins_of h coins i;
  combination = combination_coin h coins i;
  fold = fold_coin h coins i;
  shifts = shift_indices h coins i;
}

-- THE READS. The indices whose roots are read in table i: the shift indices of round i + 1, and for i = M the final indices
unfoldable pub indices_of : Sheet → List ℕ → ℕ → List ℕ
indices_of h coins i = cond (ltb i (rounds_of h)) (shift_indices h coins (suc i)) (final_indices h coins)

-- the reads of indices in table i, k_i for each different index; and of an accepted transcript, those of all its indices, table by table
unfoldable pub level_reads : Sheet → ℕ → List ℕ → ℕ
level_reads h i js = length (different eqb js) * (level_of h i).fold

unfoldable pub reads_due : Sheet → List ℕ → ℕ
reads_due h coins = total (map (λ i. level_reads h i (indices_of h coins i)) (range 0 (suc (rounds_of h))))

-- THE PROVER'S POLYNOMIALS. f_0 is the polynomial whose coefficients the words f spell, and f_(i+1) is the corrected polynomial of G_(i+1), combination coin i + 1 and g_(i+1), the fold of f_i by fold coin i.
unfoldable pub corrected_of : (h : Sheet) → List ℕ → List ℕ → ℕ → List (Element h.spelling)
corrected_of h f coins zero = elements_in h.spelling f
corrected_of h f coins (suc i) =
    next_poly (sheet_field h) (sheet_root h) (level_of h i) (fold_poly (sheet_field h) (level_of h i).fold (fold_coin h coins i) (corrected_of h f coins i)) (coins_of h coins (suc i))

-- g_0 = f_0, and g_(i+1) is the fold of f_i by fold coin i; g_(M+1) is the final message
unfoldable pub round_poly : (h : Sheet) → List ℕ → List ℕ → ℕ → List (Element h.spelling)
round_poly h f coins zero = elements_in h.spelling f
round_poly h f coins (suc i) = fold_poly (sheet_field h) (level_of h i).fold (fold_coin h coins i) (corrected_of h f coins i)

-- G_i's list, a pair for each out coin and each shift index, and pair j of it; G_i, one pair for each different point. Round 0 has none.
unfoldable pub pairs_of : (h : Sheet) → List ℕ → List ℕ → ℕ → List (Sample (Element h.spelling))
pairs_of h f coins zero = []
pairs_of h f coins (suc i) = honest_answers (sheet_field h) (sheet_root h) (level_of h i) (round_poly h f coins (suc i)) (coins_of h coins (suc i))

abbrev pub pair_at : (h : Sheet) → List ℕ → List ℕ → ℕ → ℕ → Sample (Element h.spelling)
pair_at h f coins i j = get_or (pairs_of h f coins i) j (record { point = number_in h.spelling 0; value = number_in h.spelling 0 })

unfoldable pub samples_at : (h : Sheet) → List ℕ → List ℕ → ℕ → List (Sample (Element h.spelling))
samples_at h f coins i = distinct (sheet_field h) (pairs_of h f coins i)

-- A_i, V_i, and the quotient (g_i - A_i) / V_i
unfoldable pub answer_poly : (h : Sheet) → List ℕ → List ℕ → ℕ → List (Element h.spelling)
answer_poly h f coins i = interpolate (sheet_field h) (samples_at h f coins i)

unfoldable pub vanishing_poly : (h : Sheet) → List ℕ → List ℕ → ℕ → List (Element h.spelling)
vanishing_poly h f coins i = vanishing (sheet_field h) (points (samples_at h f coins i))

unfoldable pub quotient_poly : (h : Sheet) → List ℕ → List ℕ → ℕ → List (Element h.spelling)
quotient_poly h f coins i =
    quotient (sheet_field h) (sub_poly (sheet_field h) (round_poly h f coins i) (answer_poly h f coins i)) (points (samples_at h f coins i))

-- THE MESSAGES OF THE STREAM. A message: a table, the replies of one round, or the final coefficients.
pub data Message : Type 0 where
  table : ℕ → Message
  replies : ℕ → Message
  final : Message

-- a message of the sheet: the tables 0 to M, the replies of the rounds 1 to M, and the final coefficients
abbrev pub Due : Sheet → Message → Type 0
Due h (table i) = i ≤ rounds_of h
Due h (replies i) = (1 ≤ i) × (i ≤ rounds_of h)
Due h final = Unit {0}

-- the word number of its first word, the numbers of its elements and of its words, and the number of coin words sent before it
unfoldable pub start_of : Edition → Sheet → Message → ℕ
start_of e h (table i) = round_start e h i
start_of e h (replies i) = round_start e h i + words_for h ((level_of h i).size + out_coin_count h)
start_of e h final = round_start e h (suc (rounds_of h))

unfoldable pub count_of : Sheet → Message → ℕ
count_of h (table i) = (level_of h i).size
count_of h (replies i) = out_coin_count h
count_of h final = final_count (level_of h (rounds_of h))

abbrev pub length_of : Sheet → Message → ℕ
length_of h m = words_for h (count_of h m)

unfoldable pub sent_before : Sheet → Message → ℕ
sent_before h (table i) = coins_before h i
sent_before h (replies i) = coins_before h i + words_for h (out_coin_count h)
sent_before h final = coins_before h (suc (rounds_of h))

-- its words in a stream
unfoldable pub words_in : Edition → Sheet → List ℕ → Message → List ℕ
words_in e h stream m = take (length_of h m) (drop (start_of e h m) stream)

-- and the elements that they spell
abbrev pub entries_in : Edition → (h : Sheet) → List ℕ → Message → List (Element h.spelling)
entries_in e h stream m = elements_in h.spelling (words_in e h stream m)

-- The prover's stream has two copies: as it is written, and as verify reads it out of the file, with the fill after it.
pub data Copy : Type 0 where
  written : Copy
  read : Copy

unfoldable pub stream_on : Copy → Edition → List ℕ → List ℕ → List ℕ → List ℕ
stream_on written e w f coins = honest_stream e w f coins
stream_on read e w f coins = stream_of (file_of (honest_stream e w f coins))

-- THE VERIFIER'S FUNCTIONS, from the words of a stream: round i with the table and replies that stand there, and f_i at each point number of domain i.
abbrev pub round_of : Edition → (h : Sheet) → List ℕ → List ℕ → ℕ → Round (Element h.spelling)
round_of e h coins stream i = record { coins = coins_of h coins i; table = entries_in e h stream (table i); replies = entries_in e h stream (replies i) }

unfoldable pub function_of : Edition → (h : Sheet) → List ℕ → List ℕ → ℕ → (ℕ → Element h.spelling)
function_of e h coins stream zero = (table_function (sheet_field h) (sheet_root h) (level_of h 0) (entries_in e h stream (table 0))).value
function_of e h coins stream (suc i) =
    (next_function (sheet_field h) (sheet_root h)
    (distinct (sheet_field h) (answers (sheet_field h) (sheet_root h) (level_of h i) (function_of e h coins stream i) (fold_coin h coins i) (round_of e h coins stream (suc i))))
    (round_of e h coins stream (suc i))).value

-- WHAT IS DIVIDED BY. `interpolate` divides, for each sample, by V of those behind it, at its point.
unfoldable pub divisors : {A : Type 0} → Field A → List (Sample A) → List A
divisors F [] = []
divisors F (s ∷ samples) = evaluate F (vanishing F (points samples)) s.point ∷ divisors F samples

-- The verifier's run, as `decide_rest` goes: by those of the fold at each shift or final index; and in round i by those of A_i, and for the quotient by V_i at each
-- point of domain i.
module _ {A : Type 0} (F : Field A) (ω : A) where
  abbrev pub fold_divisors : Level → (ℕ → A) → ℕ → List A
  fold_divisors b f j = divisors F (map (λ m. record { point = point F ω b m; value = f m }) (root_numbers b j))

  unfoldable pub rest_divisors : Level → (ℕ → A) → A → Rest A → List A
  rest_divisors b f r (transcript.final coefficients js) = flat_map (fold_divisors b f) js
  rest_divisors b f r (round ρ rest) =
      let g = distinct F (answers F ω b f r ρ) in
      flat_map (fold_divisors b f) ρ.coins.shifts ++ (divisors F g ++ (map (evaluate F (vanishing F (points g))) (domain F ω ρ.coins.level)
      ++ rest_divisors ρ.coins.level (next_function F ω g ρ).value ρ.coins.fold rest))

-- all that deciding a stream divides by
unfoldable pub deciding_divisors : (e : Edition) (w : List ℕ) → List (Element (sheet_of e w).spelling)
deciding_divisors e w =
    let h = sheet_of e w in
    let τ = read_transcript h.spelling h (drop (sheet_length e) w) in
    rest_divisors (sheet_field h) (sheet_root h) (first_level h) (table_function (sheet_field h) (sheet_root h) (first_level h) τ.table).value τ.fold τ.rest

-- x, whose words may be p and more, differs from 0 in the sheet's field
abbrev pub Nonzero : (h : Sheet) → Element h.spelling → Type 0
Nonzero h x = (sheet_field h).◌⊕◌ x (sheet_field h).𝟘 ≡ (sheet_field h).𝟘 → ⊥
