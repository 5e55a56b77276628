-- THE PAGE ON THE RUN, which goes on from Statements.antt: what the tables, replies and final message of an allowed coin list are (3 to 6), that no message looks ahead
-- (7), and the domains (8). It holds theorems and nothing else; each proof is one citation. It is read with the same definition and vocabulary.
use Rattle.std.specs.Prelude.{ℕ, suc, ◌+◌, ◌-◌, ◌*◌, ◌≤◌, ◌<◌, ◌≡◌, length, get_or, take, drop, replicate}
use Rattle.std.proofs.Common.{arith}
use mathlib.Core.List.{List, map}
use Rattle.definition.specs.Deciding.{answers}
use Rattle.definition.specs.Domain.{fold_at, point, root_numbers, shift_point}
use Rattle.definition.specs.Field.{Element, elements_in, power}
use Rattle.definition.specs.Layout.{coin_kinds, layout, message, read_transcript}
use Rattle.definition.specs.Lists.{range}
use Rattle.definition.specs.Polynomial.{add_poly, evaluate, fold_poly, geometric, mul_poly, points}
use Rattle.definition.specs.Prove.{sheet_length_test}
use Rattle.definition.specs.Prover.{honest}
use Rattle.definition.specs.Reading.{sheet_test}
use Rattle.definition.specs.Sheet.{Edition, Sheet, final_count, sheet_length, sheet_of, shift_count}
use Rattle.definition.specs.Verdict.{accepted}
use Rattle.definition.specs.WorkedTranscript.{coins}
use Rattle.layouts.specs.Levels.{degree_of, element_at, level_of, out_coin_count, rounds_of, sheet_field, sheet_root, total, words_for, zero_of}
use Rattle.layouts.specs.RootNumbers
use Rattle.completeness.proofs.DomainsByNumber
use Rattle.completeness.proofs.FairRounds
use Rattle.completeness.proofs.FunctionsByNumber
use Rattle.completeness.specs.LayoutByNumber
use Rattle.completeness.proofs.NonAnticipation
use Rattle.completeness.specs.Numbered.{Allowed, Copy, Due, ElementOf, Message, answer_poly, coins_of, combination_coin, corrected_of, count_of, final, final_indices, fold_coin, function_of, length_of, out_coins_of, pair_at, pairs_of, quotient_poly, replies, round_of, round_poly, samples_at, sent_before, start_of, stream_on, table, vanishing_poly, words_in}
use Rattle.completeness.proofs.RunByNumber
use Rattle.completeness.proofs.StreamByNumber

-- 3 TO 8 are of an edition's words w and of the sheet h that they say.
module _ (ed : Edition) (w : List ℕ) where
  abbrev h : Sheet
  h = sheet_of ed w

  -- 3 TO 6: the run of an allowed list, in the stream as it is written and as verify reads it out of the file. A round from 1 to M is written suc i, for i below M.
  module _ (f coins : List ℕ) (ok : Allowed ed w f coins) where
    infixl 65 ◌⊕◌
    infixl 70 ◌⊗◌
    open sheet_field h use {◌⊕◌, ◌⊗◌}

    -- 3. TABLES ARE VALUES. Entry j of table i is the value of round i's polynomial at point j of domain i,
    pub tables_are_values : (copy : Copy) (i j : ℕ) → i ≤ rounds_of h → j < (level_of h i).size →
        element_at h.spelling (stream_on copy ed w f coins) (start_of ed h (table i) + words_for h j) ≡ evaluate (sheet_field h) (round_poly h f coins i) (point (sheet_field h) (sheet_root h) (level_of h i) j)
    tables_are_values copy i j l b = rw (StreamByNumber.copy_is ok copy) (StreamByNumber.table_entry ok _ i j l b)

    -- reply j of round i is its value at out coin j,
    pub replies_are_values : (copy : Copy) (i j : ℕ) → 1 ≤ i → i ≤ rounds_of h → j < out_coin_count h →
        element_at h.spelling (stream_on copy ed w f coins) (start_of ed h (replies i) + words_for h j) ≡ evaluate (sheet_field h) (round_poly h f coins i) (get_or (out_coins_of h coins i) j (zero_of h))
    replies_are_values copy i j l u b = rw (StreamByNumber.copy_is ok copy) (StreamByNumber.reply_entry ok _ i j l u b)

    -- and the final message is the coefficients of the fold of f_M, d_M/k_M of them, lowest first.
    pub final_is_fold : (copy : Copy) (j : ℕ) → j < count_of h final →
        element_at h.spelling (stream_on copy ed w f coins) (start_of ed h final + words_for h j) ≡ get_or (round_poly h f coins (suc (rounds_of h))) j (zero_of h)
    final_is_fold copy j b = rw (StreamByNumber.copy_is ok copy) (StreamByNumber.final_entry ok _ j b)

    -- 4. DEGREES. The first polynomial has d0 coefficients, and round i's has d_i, which is d0 over the product of k_0 to k_(i-1); the final message has d_M/k_M;
    pub first_degree : length (round_poly h f coins 0) ≡ h.degree
    first_degree = RunByNumber.first_degree ok

    pub round_degree : (i : ℕ) → i ≤ rounds_of h → length (round_poly h f coins i) ≡ degree_of h i
    round_degree = RunByNumber.round_length ok

    pub final_degree : length (round_poly h f coins (suc (rounds_of h))) ≡ final_count (level_of h (rounds_of h))
    final_degree = RunByNumber.folded_length ok (rounds_of h) (omega arith)

    -- the corrected polynomial f_i has d_i again,
    pub corrected_degree : (i : ℕ) → i ≤ rounds_of h → length (corrected_of h f coins i) ≡ degree_of h i
    corrected_degree = FairRounds.corrected_length ok

    -- all coefficients of both are elements,
    pub round_elements : (i j : ℕ) → j < length (round_poly h f coins i) → ElementOf h (get_or (round_poly h f coins i) j (zero_of h))
    round_elements = RunByNumber.round_elements ok

    pub corrected_elements : (i j : ℕ) → j < length (corrected_of h f coins i) → ElementOf h (get_or (corrected_of h f coins i) j (zero_of h))
    corrected_elements = RunByNumber.corrected_elements ok

    -- and with e = |G_i|, which is below d_i, the quotient has d_i - e.
    pub quotient_degree : (i : ℕ) → i < rounds_of h →
        length (quotient_poly h f coins (suc i)) ≡ degree_of h (suc i) - length (samples_at h f coins (suc i))
    quotient_degree = RunByNumber.quotient_length ok

    pub samples_fewer : (i : ℕ) → i < rounds_of h → length (samples_at h f coins (suc i)) < degree_of h (suc i)
    samples_fewer = RunByNumber.fewer ok

    -- e is the number of different points, also where points repeat: no two of G_i's points are equal, and each point of its list is one of them.
    pub samples_different : (i : ℕ) → i < rounds_of h → (a b : ℕ) → a < length (samples_at h f coins (suc i)) → b < length (samples_at h f coins (suc i)) →
        get_or (points (samples_at h f coins (suc i))) a (zero_of h) ≡ get_or (points (samples_at h f coins (suc i))) b (zero_of h) → a ≡ b
    samples_different = RunByNumber.samples_different ok

    pub points_sampled : (i : ℕ) → i < rounds_of h → (j : ℕ) → j < length (pairs_of h f coins (suc i)) →
        (a : ℕ) × (a < length (samples_at h f coins (suc i))) × (get_or (points (samples_at h f coins (suc i))) a (zero_of h) ≡ (pair_at h f coins (suc i) j).point)
    points_sampled = RunByNumber.pairs_sampled ok

    -- 5. NO REMAINDER. g_i is A_i plus V_i times the quotient, at every point and as coefficient lists;
    pub no_remainder : (i : ℕ) → i < rounds_of h → (x : Element h.spelling) → evaluate (sheet_field h) (round_poly h f coins (suc i)) x
        ≡ evaluate (sheet_field h) (answer_poly h f coins (suc i)) x ⊕ evaluate (sheet_field h) (vanishing_poly h f coins (suc i)) x ⊗ evaluate (sheet_field h) (quotient_poly h f coins (suc i)) x
    no_remainder = RunByNumber.values_divide ok

    pub no_remainder_coefficients : (i : ℕ) → i < rounds_of h → round_poly h f coins (suc i)
        ≡ add_poly (sheet_field h) (answer_poly h f coins (suc i)) (mul_poly (sheet_field h) (vanishing_poly h f coins (suc i)) (quotient_poly h f coins (suc i)))
    no_remainder_coefficients = RunByNumber.coefficients_divide ok

    -- f_i is the quotient times 1 + cX + .. + (cX)^e, which has e + 1 terms.
    pub corrected_is : (i : ℕ) → corrected_of h f coins (suc i)
        ≡ mul_poly (sheet_field h) (quotient_poly h f coins (suc i)) (geometric (sheet_field h) (combination_coin h coins (suc i)) (length (samples_at h f coins (suc i))))
    corrected_is = RunByNumber.corrected_is h f coins

    -- A_i has e coefficients and passes through every pair of G_i's list, also through those that repeat a point;
    pub answer_degree : (i : ℕ) → i < rounds_of h → length (answer_poly h f coins (suc i)) ≡ length (samples_at h f coins (suc i))
    answer_degree = RunByNumber.answer_length ok

    pub answer_passes : (i : ℕ) → i < rounds_of h → (j : ℕ) → j < length (pairs_of h f coins (suc i)) →
        evaluate (sheet_field h) (answer_poly h f coins (suc i)) (pair_at h f coins (suc i) j).point ≡ (pair_at h f coins (suc i) j).value
    answer_passes = RunByNumber.passes_through ok

    -- it is the only polynomial with e coefficients, all elements, that does.
    pub answer_only : (i : ℕ) → i < rounds_of h → (q : List (Element h.spelling)) → length q ≡ length (samples_at h f coins (suc i)) →
        ((j : ℕ) → j < length q → ElementOf h (get_or q j (zero_of h))) →
        ((j : ℕ) → j < length (pairs_of h f coins (suc i)) → evaluate (sheet_field h) q (pair_at h f coins (suc i) j).point ≡ (pair_at h f coins (suc i) j).value) →
        q ≡ answer_poly h f coins (suc i)
    answer_only = RunByNumber.only_answer ok

    -- 6. THE VERIFIER'S FUNCTIONS ARE THE PROVER'S POLYNOMIALS. The transcript that verify reads is the honest one, with the coins as they are numbered here.
    pub transcript_read : (copy : Copy) → read_transcript h.spelling h (drop (sheet_length ed) (stream_on copy ed w f coins))
        ≡ honest (sheet_field h) (sheet_root h) (level_of h 0) (elements_in h.spelling f) (record { fold = fold_coin h coins 0; rounds = map (coins_of h coins) (range 1 (rounds_of h)); finals = final_indices h coins })
    transcript_read copy = rw (StreamByNumber.copy_is ok copy) (StreamByNumber.transcript_read ok _)

    -- On domain i, f_i as the verifier works it out from the words of the stream is the corrected polynomial;
    pub function_is_polynomial : (copy : Copy) (i j : ℕ) → i ≤ rounds_of h → j < (level_of h i).size →
        function_of ed h coins (stream_on copy ed w f coins) i j ≡ evaluate (sheet_field h) (corrected_of h f coins i) (point (sheet_field h) (sheet_root h) (level_of h i) j)
    function_is_polynomial copy i j l b = rw (StreamByNumber.copy_is ok copy) (FunctionsByNumber.function_agrees ok _ i l j b)

    -- the fold at a shift point, through the k_i roots there, is the folded polynomial's value, for every fold coin r;
    pub fold_is_polynomial : (copy : Copy) (i : ℕ) (r : Element h.spelling) (j : ℕ) → i ≤ rounds_of h → j < shift_count (level_of h i) →
        fold_at (sheet_field h) (sheet_root h) (level_of h i) (function_of ed h coins (stream_on copy ed w f coins) i) r j
        ≡ evaluate (sheet_field h) (fold_poly (sheet_field h) (level_of h i).fold r (corrected_of h f coins i)) (shift_point (sheet_field h) (sheet_root h) (level_of h i) j)
    fold_is_polynomial copy i r j l b = rw (StreamByNumber.copy_is ok copy) (FunctionsByNumber.fold_agrees ok _ i r j l b)

    -- and the verifier's list of pairs in a round is the prover's.
    pub pairs_are_answers : (copy : Copy) (i : ℕ) → i < rounds_of h →
        answers (sheet_field h) (sheet_root h) (level_of h i) (function_of ed h coins (stream_on copy ed w f coins) i) (fold_coin h coins i) (round_of ed h coins (stream_on copy ed w f coins) (suc i))
        ≡ pairs_of h f coins (suc i)
    pairs_are_answers copy i l = rw (StreamByNumber.copy_is ok copy) (FunctionsByNumber.pairs_agree ok _ i l)

  -- 7. NON-ANTICIPATION. For any message, a table, the replies of one round or the final coefficients, and any two allowed lists that agree on all coins sent before
  -- it, the two files have the same words in that message.
  pub non_anticipation : (f c d : List ℕ) → Allowed ed w f c → Allowed ed w f d → (copy : Copy) (m : Message) → Due h m →
      take (sent_before h m) c ≡ take (sent_before h m) d → words_in ed h (stream_on copy ed w f c) m ≡ words_in ed h (stream_on copy ed w f d) m
  non_anticipation = NonAnticipation.non_anticipation ed w

  module _ (words : sheet_length_test ed w ≡ accepted) (sheet : sheet_test ed w ≡ accepted) where
    -- The messages are those of the layout: of a message's words each is of kind message, as many coins stand before it as it says,
    pub message_kinds : (m : Message) → Due h m → take (length_of h m) (drop (start_of ed h m - sheet_length ed) (layout h)) ≡ replicate (length_of h m) message
    message_kinds = LayoutByNumber.message_kinds ed h (DomainsByNumber.paired ed w words sheet)

    pub coins_before_message : (m : Message) → Due h m → length (coin_kinds (take (start_of ed h m - sheet_length ed) (layout h))) ≡ sent_before h m
    coins_before_message = LayoutByNumber.message_coins ed h (DomainsByNumber.paired ed w words sheet)

    -- and none is missing: the words of the tables, of the replies and of the final message, and the coins, are all the words after the sheet.
    pub no_message_missing : total (map (λ i. length_of h (table i)) (range 0 (suc (rounds_of h)))) + total (map (λ i. length_of h (replies i)) (range 1 (rounds_of h))) + length_of h final
        + length (coin_kinds (layout h)) ≡ length (layout h)
    no_message_missing = LayoutByNumber.messages_all ed h (DomainsByNumber.paired ed w words sheet)

    -- 8. DOMAINS, of every sheet without a fault, by level number i.
    -- The points of a domain are pairwise different.
    pub points_different : (i a b : ℕ) → i ≤ rounds_of h → a < (level_of h i).size → b < (level_of h i).size →
        point (sheet_field h) (sheet_root h) (level_of h i) a ≡ point (sheet_field h) (sheet_root h) (level_of h i) b → a ≡ b
    points_different = DomainsByNumber.points_different ed w words sheet

    -- Shift point j has k_i roots; root m is point j + m·n_i/k_i, which is a point of the domain;
    pub root_count : (i j : ℕ) → length (root_numbers (level_of h i) j) ≡ (level_of h i).fold
    root_count i j = RootNumbers.roots_length (level_of h i) j

    pub root_number : (i j m : ℕ) → m < (level_of h i).fold → get_or (root_numbers (level_of h i) j) m 0 ≡ j + m * shift_count (level_of h i)
    root_number i j m = RootNumbers.root_number (level_of h i) j m

    pub root_in_domain : (i j m : ℕ) → i ≤ rounds_of h → j < shift_count (level_of h i) → m < (level_of h i).fold → j + m * shift_count (level_of h i) < (level_of h i).size
    root_in_domain i j m l b = (DomainsByNumber.roots_of_shift ed w words sheet i j l b).below m

    -- its k_i-th power is the shift point;
    pub root_power : (i j m : ℕ) → i ≤ rounds_of h → j < shift_count (level_of h i) → m < (level_of h i).fold →
        power (sheet_field h) (point (sheet_field h) (sheet_root h) (level_of h i) (j + m * shift_count (level_of h i))) (level_of h i).fold ≡ shift_point (sheet_field h) (sheet_root h) (level_of h i) j
    root_power i j m l b = (DomainsByNumber.roots_of_shift ed w words sheet i j l b).power_is m

    -- the k_i roots are k_i different points.
    pub roots_different : (i j m n : ℕ) → i ≤ rounds_of h → j < shift_count (level_of h i) → m < (level_of h i).fold → n < (level_of h i).fold →
        point (sheet_field h) (sheet_root h) (level_of h i) (j + m * shift_count (level_of h i)) ≡ point (sheet_field h) (sheet_root h) (level_of h i) (j + n * shift_count (level_of h i)) → m ≡ n
    roots_different i j m n l b = (DomainsByNumber.roots_of_shift ed w words sheet i j l b).different m n

    -- Different shift indices are different points.
    pub shifts_different : (i a b : ℕ) → i ≤ rounds_of h → a < shift_count (level_of h i) → b < shift_count (level_of h i) →
        shift_point (sheet_field h) (sheet_root h) (level_of h i) a ≡ shift_point (sheet_field h) (sheet_root h) (level_of h i) b → a ≡ b
    shifts_different = DomainsByNumber.shifts_different ed w words sheet

    -- Shift points of round i + 1 and domain i + 1 never meet (000, Remark 5.3).
    pub never_meet : (i m j : ℕ) → i < rounds_of h → point (sheet_field h) (sheet_root h) (level_of h (suc i)) m ≡ shift_point (sheet_field h) (sheet_root h) (level_of h i) j → ⊥
    never_meet = DomainsByNumber.shifts_off_domain ed w words sheet
