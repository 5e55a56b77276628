-- Where elements are of one word, in the fields 0 to 2, the definitions are those of words alone: what code of these fields needs.
use Rattle.std.specs.Prelude.{ℕ, ◌+◌, ◌<◌, not, ◌≡◌, eqb, length, get_or, take, drop}
use mathlib.Core.List.{List, [], ◌∷◌, ◌++◌, zip_with}
use Rattle.std.proofs.Math.Option.{none}
use Rattle.std.proofs.Math.Path.{refl, ap}
use Rattle.std.proofs.Math.ListN.{replicate}
use Rattle.definition.specs.Deciding.{counted, decide, deciding, equal_test, out_in_domain, out_test, out_tests, repeated_outs}
use Rattle.definition.specs.Field.{Spelling, begun_by, elements_in, field_in, number_in, one, prime_field, word_count, words_of}
use Rattle.definition.specs.Domain.{in_domain}
use Rattle.definition.specs.Layout.{Kind, coin, coin_kinds, index, later_count, layout, message, out, out_layout, read_coins, read_finals, read_rest, read_rounds, read_transcript, rest_layout, round_coins, round_layout}
use Rattle.definition.specs.Lists.{first_true}
use Rattle.definition.specs.Prove.{coefficients_test, coin_domain_test, coin_equal_test, encode_tests, input_range_test, output_test}
use Rattle.definition.specs.Prover.{honest, honest_stream, table_of, table_words}
use Rattle.definition.specs.Reading.{out_of_range}
use Rattle.definition.specs.Sheet.{Edition, Level, Sheet, final_count, first_level, later_levels, root_of_unity, sheet_length, sheet_of, shift_count}
use Rattle.definition.specs.Transcript.{Round, Transcript, final, rest_words, round, round_words, transcript_words}
use Rattle.definition.specs.Verdict.{◌then◌, refuse_at, refuse_if, then_verdict}
use Rattle.layouts.specs.Spellings.{spelling_one}

pub one_word : (ed : Edition) (w : List ℕ) → get_or w 0 0 < 3 → (sheet_of ed w).spelling ≡ one
unfolding sheet_of
one_word ed w l = spelling_one (get_or w 0 0) l

module _ (h : Sheet) (single : h.spelling ≡ one) where
  pub count_one_word : (n : ℕ) → word_count h.spelling n ≡ n
  unfolding word_count
  count_one_word n = ap (λ (σ : Spelling). word_count σ n) single

  pub layout_one : layout h ≡ replicate h.size message ++ (coin ∷ rest_layout one h.out_coins (first_level h) (later_levels h))
  unfolding layout word_count
  layout_one =
      ap (λ (σ : Spelling). replicate (word_count σ h.size) message ++ (replicate (word_count σ 1) coin ++ rest_layout σ h.out_coins (first_level h) (later_levels h))) single

  -- the tests of out coins
  module _ (from : ℕ) (kinds : List Kind) (w : List ℕ) where
    pub out_test_one : out_test h from kinds w ≡ refuse_at 7 (first_true from (zip_with (out_in_domain one h) kinds (drop from w)))
    unfolding out_test begun_by
    out_test_one = ap (λ (σ : Spelling). refuse_at 7 (first_true from (zip_with (out_in_domain σ h) kinds (begun_by σ (drop from w))))) single

    pub equal_test_one : equal_test h from kinds w ≡ refuse_at 14 (first_true from (repeated_outs (prime_field h.prime) none kinds (drop from w)))
    unfolding equal_test begun_by field_in
    equal_test_one = ap (λ (σ : Spelling). refuse_at 14 (first_true from (repeated_outs (field_in σ h.prime) none kinds (begun_by σ (drop from w))))) single

  -- the tests of prove and encode
  pub coefficients_test_one : (f : List ℕ) → coefficients_test h f ≡ refuse_if 10 1 (not (eqb (length f) h.degree))
  unfolding coefficients_test word_count
  coefficients_test_one f = ap (λ (σ : Spelling). refuse_if 10 1 (not (eqb (length f) (word_count σ h.degree)))) single

  pub input_range_test_one : (ks : List Kind) (w : List ℕ) → input_range_test h ks w ≡ refuse_at 5 (first_true 0 (zip_with (out_of_range h) (replicate h.degree message ++ ks) w))
  unfolding input_range_test word_count
  input_range_test_one ks w = ap (λ (σ : Spelling). refuse_at 5 (first_true 0 (zip_with (out_of_range h) (replicate (word_count σ h.degree) message ++ ks) w))) single

  pub coin_domain_test_one : (coins : List ℕ) → coin_domain_test h coins ≡ refuse_at 7 (first_true 0 (zip_with (out_in_domain one h) (coin_kinds (layout h)) coins))
  unfolding coin_domain_test begun_by
  coin_domain_test_one coins = ap (λ (σ : Spelling). refuse_at 7 (first_true 0 (zip_with (out_in_domain σ h) (coin_kinds (layout h)) (begun_by σ coins)))) single

  pub coin_equal_test_one : (coins : List ℕ) → coin_equal_test h coins ≡ refuse_at 14 (first_true 0 (repeated_outs (prime_field h.prime) none (coin_kinds (layout h)) coins))
  unfolding coin_equal_test begun_by field_in
  coin_equal_test_one coins = ap (λ (σ : Spelling). refuse_at 14 (first_true 0 (repeated_outs (field_in σ h.prime) none (coin_kinds (layout h)) (begun_by σ coins)))) single

  pub encode_tests_one : (f output : List ℕ) → encode_tests h f output ≡ (coefficients_test h f then input_range_test h [] f then output_test h.size h.size (length output))
  unfolding encode_tests word_count
  encode_tests_one f output =
      ap (λ (σ : Spelling). coefficients_test h f then input_range_test h [] f then output_test (word_count σ h.size) (word_count σ h.size) (length output)) single

  -- table 0
  pub table_words_one : (f : List ℕ) → table_words h f ≡ table_of (prime_field h.prime) (root_of_unity h) (first_level h) f
  unfolding table_words words_of elements_in field_in number_in
  table_words_one f = ap (λ (σ : Spelling). words_of σ (table_of (field_in σ h.prime) (number_in σ (root_of_unity h)) (first_level h) (elements_in σ f))) single

-- ---- the layout, the words of a transcript and what words hold, at one word

module _ (s : ℕ) (b : Level) where
  pub later_count_one : later_count one b ≡ 2 + b.repetitions
  unfolding later_count word_count
  later_count_one = refl

  pub round_layout_one : (l : Level) → round_layout one s b l
      ≡ replicate l.size message ++ (replicate s (out l) ++ (replicate s message ++ (coin ∷ coin ∷ replicate b.repetitions (index (shift_count b)))))
  unfolding round_layout out_layout word_count
  round_layout_one l = refl

  pub final_layout_one : rest_layout one s b [] ≡ replicate (final_count b) message ++ replicate b.repetitions (index (shift_count b))
  unfolding rest_layout word_count
  final_layout_one = refl

  pub rest_layout_one : (l : Level) (ls : List Level) → rest_layout one s b (l ∷ ls) ≡ round_layout one s b l ++ rest_layout one s l ls
  unfolding rest_layout
  rest_layout_one l ls = refl

  pub read_final_one : (w : List ℕ) → read_rest one s b [] w ≡ final (take (final_count b) w) (take b.repetitions (drop (final_count b) w))
  unfolding read_rest elements_in word_count
  read_final_one w = refl

  pub read_round_one : (l : Level) (ls : List Level) (w : List ℕ) → read_rest one s b (l ∷ ls) w
      ≡ round (record {
        table = take l.size w;
        coins = round_coins one l (take s (drop l.size w)) (take (later_count one b) (drop s (drop s (drop l.size w))));
        replies = take s (drop s (drop l.size w));
      })
      (read_rest one s l ls (drop (later_count one b) (drop s (drop s (drop l.size w)))))
  unfolding read_rest elements_in word_count
  read_round_one l ls w = refl

  pub read_rounds_one : (l : Level) (ls : List Level) (w : List ℕ) →
      read_rounds one s b (l ∷ ls) w ≡ round_coins one l (take s w) (take (later_count one b) (drop s w)) ∷ read_rounds one s l ls (drop (later_count one b) (drop s w))
  unfolding read_rounds word_count
  read_rounds_one l ls w = refl

  pub read_finals_one : (l : Level) (ls : List Level) (w : List ℕ) → read_finals one s b (l ∷ ls) w ≡ read_finals one s l ls (drop (later_count one b) (drop s w))
  unfolding read_finals word_count
  read_finals_one l ls w = refl

pub round_coins_one : (l : Level) (outs v : List ℕ) → round_coins one l outs v ≡ record { level = l; outs = outs; combination = get_or v 0 0; fold = get_or v 1 0; shifts = drop 2 v }
unfolding round_coins elements_in number_in word_count
round_coins_one l outs v = refl

pub read_transcript_one : (h : Sheet) (w : List ℕ) → read_transcript one h w
    ≡ record { table = take h.size w; fold = get_or (drop h.size w) 0 0; rest = read_rest one h.out_coins (first_level h) (later_levels h) (drop 1 (drop h.size w)) }
unfolding read_transcript elements_in number_in word_count
read_transcript_one h w = refl

pub read_coins_one : (h : Sheet) (w : List ℕ) → read_coins one h w
    ≡ record { fold = get_or w 0 0; rounds = read_rounds one h.out_coins (first_level h) (later_levels h) (drop 1 w); finals = read_finals one h.out_coins (first_level h) (later_levels h) (drop 1 w) }
unfolding read_coins elements_in number_in word_count
read_coins_one h w = refl

pub round_words_one : (ρ : Round ℕ) → round_words one ρ ≡ ρ.table ++ (ρ.coins.outs ++ (ρ.replies ++ (ρ.coins.combination ∷ ρ.coins.fold ∷ ρ.coins.shifts)))
unfolding round_words words_of
round_words_one ρ = refl

pub transcript_words_one : (τ : Transcript ℕ) → transcript_words one τ ≡ τ.table ++ (τ.fold ∷ rest_words one τ.rest)
unfolding transcript_words words_of
transcript_words_one τ = refl

pub inside_one : (h : Sheet) (l : Level) (x : ℕ) → out_in_domain one h (out l) x ≡ in_domain (prime_field h.prime) (root_of_unity h) l x
unfolding out_in_domain field_in number_in
inside_one h l x = refl

-- deciding, and the honest stream
module _ (ed : Edition) (w : List ℕ) (single : (sheet_of ed w).spelling ≡ one) where
  abbrev h : Sheet
  h = sheet_of ed w

  pub deciding_one : deciding ed w ≡ then_verdict (out_tests (sheet_of ed w) (sheet_length ed) (layout (sheet_of ed w)) w)
      (counted (decide (prime_field (sheet_of ed w).prime) (root_of_unity (sheet_of ed w)) (first_level (sheet_of ed w)) (read_transcript one (sheet_of ed w) (drop (sheet_length ed) w))))
  unfolding deciding field_in number_in
  deciding_one =
      ap (λ (σ : Spelling). then_verdict (out_tests h (sheet_length ed) (layout h) w)
      (counted (decide (field_in σ h.prime) (number_in σ (root_of_unity h)) (first_level h) (read_transcript σ h (drop (sheet_length ed) w))))) single

  pub honest_stream_one : (f coins : List ℕ) → honest_stream ed w f coins
      ≡ w ++ transcript_words one (honest (prime_field (sheet_of ed w).prime) (root_of_unity (sheet_of ed w)) (first_level (sheet_of ed w)) f (read_coins one (sheet_of ed w) coins))
  unfolding honest_stream field_in number_in elements_in
  honest_stream_one f coins =
      ap (λ (σ : Spelling). w ++ transcript_words σ (honest (field_in σ h.prime) (number_in σ (root_of_unity h)) (first_level h) (elements_in σ f) (read_coins σ h coins))) single
