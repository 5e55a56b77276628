-- The honest stream by number: the words of every message, whatever follows the stream, and each entry of a message at its word number.
use Prim.Native.Nat.{ℕ, zero, suc, ◌+◌, ◌-◌, ◌≤◌, ◌<◌}
use Rattle.std.proofs.Math.Nat
use native.Mathlib.Omega.{arith}
use mathlib.Core.List.{List, [], ◌∷◌, ◌++◌, map, append_assoc, append-nil}
use Rattle.std.specs.Prelude.{◌≡◌, refl, take, replicate}
use Rattle.std.proofs.Math.Path.{sym, ap}
use Rattle.std.proofs.Common.{◌∙◌}
use Rattle.std.proofs.Math.ListN.{length, get_or, drop, length-append, length-map, length-take, length-drop}
use Rattle.std.proofs.Math.Seq.{take_at, drop_at, drop-append-add}
use Rattle.definition.specs.Domain.{point}
use Rattle.definition.specs.Field.{Element, Spelling, elements_in, number_in, words_of}
use Rattle.definition.specs.Layout.{later_count, read_transcript}
use Rattle.definition.specs.Lists.{range}
use Rattle.definition.specs.Polynomial.{evaluate}
use Rattle.definition.specs.Prover.{honest, honest_rest, honest_round, honest_stream, table_of}
use Rattle.definition.specs.Sheet.{Edition, Sheet, final_count, sheet_length, sheet_of}
use Rattle.definition.specs.Transcript.{rest_words, round_words, transcript_words}
use Rattle.list_laws.specs.Lists.{get_d_map, opened}
use Rattle.list_laws.specs.NumberedParts.{firsts, firsts_length, joined, split_joined}
use Rattle.algebra.specs.FieldIn.{zero_in}
use Rattle.layouts.specs.FileTrip.{file_stream, fill_count, filled}
use Rattle.layouts.proofs.Lawful.{lawful}
use Rattle.layouts.proofs.LayoutByRound.{coins_due_lem}
use Rattle.layouts.specs.Levels.{coin_count, coins_before, level_of, out_coin_count, element_at, round_count, round_start, rounds_of, sheet_field, sheet_root, words_for}
use Rattle.layouts.proofs.LevelsByNumber.{level_first}
use Rattle.layouts.specs.LawfulSheets.{Paired}
use Rattle.layouts.specs.Spellings.{at_drop, at_take, count_add, count_below, read_at_lem, read_length, read_written, words_length}
use Rattle.completeness.proofs.Allowed.{allowed_count, allowed_enough, allowed_long}
use Rattle.completeness.specs.CoinsByNumber.{coins_read}
use Rattle.completeness.proofs.Completeness.{honest_words, read_back}
use Rattle.completeness.specs.DecidingAccepts.{table_at, table_length}
use Rattle.completeness.specs.Numbered.{Allowed, Copy, Due, Message, coins_of, combination_coin, corrected_of, count_of, entries_in, final, final_indices, fold_coin, length_of, out_coins_of, read, replies, round_poly, shift_indices, start_of, stream_on, table, words_in, written}
use Rattle.completeness.proofs.RunByNumber.{folded_length}

pub coins_grow : (h : Sheet) (i m : ℕ) → coins_before h i ≤ coins_before h (i + m)
unfolding coins_before
coins_grow h i zero = let e : i + 0 ≡ i = omega arith in rw e (omega arith)
coins_grow h i (suc m) = let e : i + suc m ≡ suc (i + m) = omega arith in rw e (omega (arith, coins_grow h i m))

module _ (h : Sheet) (f coins : List ℕ) where
  abbrev σ : Spelling
  σ = h.spelling

  -- what follows table i in its round
  after_table : ℕ → List ℕ
  after_table zero = words_of σ (fold_coin h coins 0 ∷ [])
  after_table (suc i) =
      words_of σ (out_coins_of h coins (suc i)) ++ (words_of σ (map (evaluate (sheet_field h) (round_poly h f coins (suc i))) (out_coins_of h coins (suc i)))
      ++ (words_of σ (combination_coin h coins (suc i) ∷ fold_coin h coins (suc i) ∷ []) ++ shift_indices h coins (suc i)))

  round_part : ℕ → List ℕ
  round_part i = words_of σ (table_of (sheet_field h) (sheet_root h) (level_of h i) (round_poly h f coins i)) ++ after_table i

  last_part : List ℕ
  last_part = words_of σ (round_poly h f coins (suc (rounds_of h))) ++ final_indices h coins

  rest_parts : (m i : ℕ) → i + m ≡ rounds_of h →
      rest_words h.spelling (honest_rest (sheet_field h) (sheet_root h) (level_of h i) (corrected_of h f coins i) (fold_coin h coins i) (map (coins_of h coins) (range (suc i) m)) (final_indices h coins))
      ≡ joined round_part last_part (suc i) m
  unfolding rest_words honest_rest honest_round round_words range joined round_part after_table last_part round_poly corrected_of
  rest_parts zero i e = let q : i ≡ rounds_of h = omega arith in ap (λ (n : ℕ). words_of σ (round_poly h f coins (suc n)) ++ final_indices h coins) q
  rest_parts (suc m) i e = ap (λ (t : List ℕ). round_part (suc i) ++ t) (rest_parts m (suc i) (omega arith))

-- the whole stream
stream_parts : (ed : Edition) (w f coins : List ℕ) → Paired (sheet_of ed w) →
    honest_stream ed w f coins ≡ w ++ joined (round_part (sheet_of ed w) f coins) (last_part (sheet_of ed w) f coins) 0 (suc (rounds_of (sheet_of ed w)))
unfolding honest_stream transcript_words honest joined round_part after_table round_poly corrected_of
stream_parts ed w f coins l =
    let h = sheet_of ed w in
    let F = sheet_field h in
    let ω = sheet_root h in
    let fs = elements_in h.spelling f in
    let ts = words_of h.spelling (table_of F ω (level_of h 0) fs) in
    let rs = words_of h.spelling (fold_coin h coins 0 ∷ []) in
    (λ x. w ++ transcript_words h.spelling (honest F ω (level_first h x) fs (coins_read h coins l x)))
    ∙ ap (λ (t : List ℕ). w ++ (ts ++ (rs ++ t))) (rest_parts h f coins (rounds_of h) 0 (omega arith))
    ∙ ap (λ (t : List ℕ). w ++ t) (sym (append_assoc ts rs _))

-- the elements of a message, as the prover works them out
unfoldable pub message_of : (h : Sheet) → List ℕ → List ℕ → Message → List (Element h.spelling)
message_of h f coins (table i) = table_of (sheet_field h) (sheet_root h) (level_of h i) (round_poly h f coins i)
message_of h f coins (replies i) = map (evaluate (sheet_field h) (round_poly h f coins i)) (out_coins_of h coins i)
message_of h f coins final = round_poly h f coins (suc (rounds_of h))

module _ {ed : Edition} {w f coins : List ℕ} (ok : Allowed ed w f coins) where
  abbrev M : ℕ
  M = rounds_of (sheet_of ed w)

  abbrev s : ℕ
  s = out_coin_count (sheet_of ed w)

  paired : Paired (sheet_of ed w)
  paired = (lawful ed w (allowed_enough ok) ok.sheet).paired

  -- the coin list reaches to the end of every round
  coins_reach : (i : ℕ) → i < M → coins_before (sheet_of ed w) (suc i) + (words_for (sheet_of ed w) s + later_count (sheet_of ed w).spelling (level_of (sheet_of ed w) i)) ≤ length coins
  unfolding coins_before coin_count
  coins_reach i l =
      let e : suc (suc i) + (M - suc i) ≡ suc M = omega arith in
      let g : coins_before (sheet_of ed w) (suc (suc i)) ≤ coins_before (sheet_of ed w) (suc M) = rw e at (coins_grow (sheet_of ed w) (suc (suc i)) (M - suc i)) in
      omega (arith, g, allowed_count ok, coins_due_lem ed (sheet_of ed w) paired)

  outs_length : (i : ℕ) → i < M → length (out_coins_of (sheet_of ed w) coins (suc i)) ≡ s
  unfolding out_coins_of
  outs_length i l =
      let n = words_for (sheet_of ed w) s in
      read_length (sheet_of ed w).spelling s (take n (drop (coins_before (sheet_of ed w) (suc i)) coins))
      (length-take n (drop (coins_before (sheet_of ed w) (suc i)) coins) ∙ omega (arith, coins_reach i l, length-drop (coins_before (sheet_of ed w) (suc i)) coins))

  shifts_length : (i : ℕ) → i < M → length (shift_indices (sheet_of ed w) coins (suc i)) ≡ (level_of (sheet_of ed w) i).repetitions
  unfolding shift_indices later_count
  shifts_length i l =
      let b = coins_before (sheet_of ed w) (suc i) + words_for (sheet_of ed w) (s + 2) in
      length-take (level_of (sheet_of ed w) i).repetitions (drop b coins) ∙ omega (arith, coins_reach i l, count_add (sheet_of ed w).spelling s 2, length-drop b coins)

  -- the elements of each message are as many as it says
  pub message_count : (m : Message) → Due (sheet_of ed w) m → length (message_of (sheet_of ed w) f coins m) ≡ count_of (sheet_of ed w) m
  unfolding message_of count_of
  message_count (table i) l = table_length (sheet_field (sheet_of ed w)) (sheet_root (sheet_of ed w)) (level_of (sheet_of ed w) i) (round_poly (sheet_of ed w) f coins i)
  message_count (replies zero) l = absurd (omega (arith, l.0))
  message_count (replies (suc i)) l = length-map (out_coins_of (sheet_of ed w) coins (suc i)) _ ∙ outs_length i (omega (arith, l.1))
  message_count final l = folded_length ok M (omega arith)

  message_length : (m : Message) → Due (sheet_of ed w) m → length (words_of (sheet_of ed w).spelling (message_of (sheet_of ed w) f coins m)) ≡ length_of (sheet_of ed w) m
  message_length m d = words_length (sheet_of ed w).spelling (message_of (sheet_of ed w) f coins m) ∙ ap (words_for (sheet_of ed w)) (message_count m d)

  outs_words : (i : ℕ) → i < M → length (words_of (sheet_of ed w).spelling (out_coins_of (sheet_of ed w) coins (suc i))) ≡ words_for (sheet_of ed w) s
  outs_words i l = words_length (sheet_of ed w).spelling (out_coins_of (sheet_of ed w) coins (suc i)) ∙ ap (words_for (sheet_of ed w)) (outs_length i l)

  part_length_lem : (i : ℕ) → i ≤ M → length (round_part (sheet_of ed w) f coins i) ≡ round_count (sheet_of ed w) i
  unfolding round_part after_table round_count later_count message_of count_of
  part_length_lem zero l =
      length-append (words_of (sheet_of ed w).spelling (table_of (sheet_field (sheet_of ed w)) (sheet_root (sheet_of ed w)) (level_of (sheet_of ed w) 0) (round_poly (sheet_of ed w) f coins 0))) _
      ∙ (λ x. message_length (table 0) l x + words_length (sheet_of ed w).spelling (fold_coin (sheet_of ed w) coins 0 ∷ []) x)
  part_length_lem (suc i) l =
      let σ = (sheet_of ed w).spelling in
      let g = round_poly (sheet_of ed w) f coins (suc i) in
      let t = words_of σ (table_of (sheet_field (sheet_of ed w)) (sheet_root (sheet_of ed w)) (level_of (sheet_of ed w) (suc i)) g) in
      let o = words_of σ (out_coins_of (sheet_of ed w) coins (suc i)) in
      let p = words_of σ (map (evaluate (sheet_field (sheet_of ed w)) g) (out_coins_of (sheet_of ed w) coins (suc i))) in
      let c = words_of σ (combination_coin (sheet_of ed w) coins (suc i) ∷ fold_coin (sheet_of ed w) coins (suc i) ∷ []) in
      let q = c ++ shift_indices (sheet_of ed w) coins (suc i) in
      omega (
        arith,
        length-append t (o ++ (p ++ q)),
        length-append o (p ++ q),
        length-append p q,
        length-append c (shift_indices (sheet_of ed w) coins (suc i)),
        message_length (table (suc i)) l,
        message_length (replies (suc i)) (omega arith, l),
        words_length σ (combination_coin (sheet_of ed w) coins (suc i) ∷ fold_coin (sheet_of ed w) coins (suc i) ∷ []),
        outs_words i (omega arith),
        shifts_length i (omega arith),
      )

  module _ (z : List ℕ) where
    -- the stream and what follows it, x words into round j
    stream_after : (j r x : ℕ) → j + r ≡ suc M → drop (round_start ed (sheet_of ed w) j + x) (honest_stream ed w f coins ++ z) ≡ drop x (joined (round_part (sheet_of ed w) f coins) (last_part (sheet_of ed w) f coins) j r ++ z)
    unfolding round_start
    stream_after j r x e =
        let part = round_part (sheet_of ed w) f coins in
        let rest = joined part (last_part (sheet_of ed w) f coins) j r in
        let front = w ++ firsts part j in
        let n : length front ≡ round_start ed (sheet_of ed w) j = length-append w (firsts part j) ∙ ap (λ (m : ℕ). m + length (firsts part j)) (allowed_long ok)
        ∙ firsts_length part (round_start ed (sheet_of ed w)) (round_count (sheet_of ed w)) (λ i. refl) j (λ i l. part_length_lem i (omega arith)) in
        let whole : honest_stream ed w f coins ++ z ≡ front ++ (rest ++ z) =
        ap (λ (t : List ℕ). t ++ z) (stream_parts ed w f coins paired ∙ ap (λ (t : List ℕ). w ++ t) (split_joined part (last_part (sheet_of ed w) f coins) j r (suc M) e)
        ∙ sym (append_assoc w (firsts part j) rest)) ∙ append_assoc front rest z in
        (λ y. drop (sym n y + x) (whole y)) ∙ drop-append-add front (rest ++ z) x

    -- The words of every message.
    pub message_words : (m : Message) → Due (sheet_of ed w) m → words_in ed (sheet_of ed w) (honest_stream ed w f coins ++ z) m ≡ words_of (sheet_of ed w).spelling (message_of (sheet_of ed w) f coins m)
    unfolding words_in start_of count_of message_of joined round_part after_table last_part
    message_words (table i) l =
        let n = words_for (sheet_of ed w) (level_of (sheet_of ed w) i).size in
        let t = words_of (sheet_of ed w).spelling (table_of (sheet_field (sheet_of ed w)) (sheet_root (sheet_of ed w)) (level_of (sheet_of ed w) i) (round_poly (sheet_of ed w) f coins i)) in
        ap (take n) (ap (λ (m : ℕ). drop m (honest_stream ed w f coins ++ z)) (sym (Nat.add-zero (round_start ed (sheet_of ed w) i))) ∙ stream_after i (suc (M - i)) 0 (omega arith)
        ∙ ap (λ (x : List ℕ). x ++ z) (append_assoc t _ _) ∙ append_assoc t _ z)
        ∙ take_at t _ n (message_length (table i) l)
    message_words (replies zero) l = absurd (omega (arith, l.0))
    message_words (replies (suc i)) l =
        let σ = (sheet_of ed w).spelling in
        let g = round_poly (sheet_of ed w) f coins (suc i) in
        let t = words_of σ (table_of (sheet_field (sheet_of ed w)) (sheet_root (sheet_of ed w)) (level_of (sheet_of ed w) (suc i)) g) in
        let o = words_of σ (out_coins_of (sheet_of ed w) coins (suc i)) in
        let p = words_of σ (map (evaluate (sheet_field (sheet_of ed w)) g) (out_coins_of (sheet_of ed w) coins (suc i))) in
        let n = words_for (sheet_of ed w) ((level_of (sheet_of ed w) (suc i)).size + s) in
        let m : length (t ++ o) ≡ n = omega (arith, length-append t o, message_length (table (suc i)) l.1, outs_words i (omega (arith, l.1)), count_add σ (level_of (sheet_of ed w) (suc i)).size s) in
        ap (take (words_for (sheet_of ed w) s)) (stream_after (suc i) (suc (M - suc i)) n (omega (arith, l.1))
        ∙ ap (λ (x : List ℕ). drop n (x ++ z)) (opened t o p _ _) ∙ ap (drop n) (append_assoc (t ++ o) _ z)
        ∙ drop_at (t ++ o) _ n m
        ∙ append_assoc p _ z)
        ∙ take_at p _ (words_for (sheet_of ed w) s) (message_length (replies (suc i)) l)
    message_words final l =
        let g = words_of (sheet_of ed w).spelling (round_poly (sheet_of ed w) f coins (suc M)) in
        let n = words_for (sheet_of ed w) (final_count (level_of (sheet_of ed w) M)) in
        ap (take n)
        (ap (λ (m : ℕ). drop m (honest_stream ed w f coins ++ z)) (sym (Nat.add-zero (round_start ed (sheet_of ed w) (suc M)))) ∙ stream_after (suc M) 0 0 (omega arith) ∙ append_assoc g _ z)
        ∙ take_at g _ n (message_length final l)

    -- and the elements that they spell
    pub message_entries : (m : Message) → Due (sheet_of ed w) m → entries_in ed (sheet_of ed w) (honest_stream ed w f coins ++ z) m ≡ message_of (sheet_of ed w) f coins m
    message_entries m d = ap (elements_in (sheet_of ed w).spelling) (message_words m d) ∙ read_written (sheet_of ed w).spelling (message_of (sheet_of ed w) f coins m)

    -- the transcript that is read out of the stream, with its coins by number
    pub transcript_read : read_transcript (sheet_of ed w).spelling (sheet_of ed w) (drop (sheet_length ed) (honest_stream ed w f coins ++ z))
        ≡ honest (sheet_field (sheet_of ed w)) (sheet_root (sheet_of ed w)) (level_of (sheet_of ed w) 0) (elements_in (sheet_of ed w).spelling f) (record { fold = fold_coin (sheet_of ed w) coins 0; rounds = map (coins_of (sheet_of ed w) coins) (range 1 M); finals = final_indices (sheet_of ed w) coins })
    transcript_read =
        read_back ok z
        ∙ (λ x. honest (sheet_field (sheet_of ed w)) (sheet_root (sheet_of ed w)) (level_first (sheet_of ed w) x) (elements_in (sheet_of ed w).spelling f) (coins_read (sheet_of ed w) coins paired x))

    -- element j of a message, at its word number
    entry : (m : Message) (j : ℕ) → Due (sheet_of ed w) m → j < count_of (sheet_of ed w) m →
        element_at (sheet_of ed w).spelling (honest_stream ed w f coins ++ z) (start_of ed (sheet_of ed w) m + words_for (sheet_of ed w) j) ≡ get_or (message_of (sheet_of ed w) f coins m) j (number_in (sheet_of ed w).spelling 0)
    unfolding words_in
    entry m j d l =
        let σ = (sheet_of ed w).spelling in
        let stream = honest_stream ed w f coins ++ z in
        let part = drop (start_of ed (sheet_of ed w) m) stream in
        sym (at_drop σ stream (start_of ed (sheet_of ed w) m) (words_for (sheet_of ed w) j))
        ∙ sym (at_take σ part (length_of (sheet_of ed w) m) (words_for (sheet_of ed w) j) (count_below σ j (count_of (sheet_of ed w) m) l))
        ∙ sym (read_at_lem σ (take (length_of (sheet_of ed w) m) part) j) ∙ ap (λ (x : List (Element (sheet_of ed w).spelling)). get_or x j (number_in σ 0)) (message_entries m d)

    -- Tables are values.
    pub table_entry : (i j : ℕ) → i ≤ M → j < (level_of (sheet_of ed w) i).size →
        element_at (sheet_of ed w).spelling (honest_stream ed w f coins ++ z) (start_of ed (sheet_of ed w) (table i) + words_for (sheet_of ed w) j)
        ≡ evaluate (sheet_field (sheet_of ed w)) (round_poly (sheet_of ed w) f coins i) (point (sheet_field (sheet_of ed w)) (sheet_root (sheet_of ed w)) (level_of (sheet_of ed w) i) j)
    unfolding message_of count_of
    table_entry i j d l =
        entry (table i) j d l
        ∙ ap (get_or (table_of (sheet_field (sheet_of ed w)) (sheet_root (sheet_of ed w)) (level_of (sheet_of ed w) i) (round_poly (sheet_of ed w) f coins i)) j) (sym (zero_in (sheet_of ed w).spelling (sheet_of ed w).prime))
        ∙ table_at (sheet_field (sheet_of ed w)) (sheet_root (sheet_of ed w)) (level_of (sheet_of ed w) i) (round_poly (sheet_of ed w) f coins i) j l

    pub reply_entry : (i j : ℕ) → 1 ≤ i → i ≤ M → j < s →
        element_at (sheet_of ed w).spelling (honest_stream ed w f coins ++ z) (start_of ed (sheet_of ed w) (replies i) + words_for (sheet_of ed w) j)
        ≡ evaluate (sheet_field (sheet_of ed w)) (round_poly (sheet_of ed w) f coins i) (get_or (out_coins_of (sheet_of ed w) coins i) j (number_in (sheet_of ed w).spelling 0))
    unfolding message_of count_of
    reply_entry zero j a d l = absurd (omega arith)
    reply_entry (suc i) j a d l =
        entry (replies (suc i)) j (a, d) l
        ∙ get_d_map (evaluate (sheet_field (sheet_of ed w)) (round_poly (sheet_of ed w) f coins (suc i))) (out_coins_of (sheet_of ed w) coins (suc i)) _ _ j (omega (arith, outs_length i d))

    pub final_entry : (j : ℕ) → j < count_of (sheet_of ed w) final →
        element_at (sheet_of ed w).spelling (honest_stream ed w f coins ++ z) (start_of ed (sheet_of ed w) final + words_for (sheet_of ed w) j)
        ≡ get_or (round_poly (sheet_of ed w) f coins (suc M)) j (number_in (sheet_of ed w).spelling 0)
    unfolding message_of
    final_entry j l = entry final j tt l

-- what follows the stream in each of its copies
unfoldable pub fill_on : Copy → List ℕ → List ℕ
fill_on written stream = []
fill_on read stream = replicate (fill_count stream) 0

pub copy_is : {ed : Edition} {w f coins : List ℕ} → Allowed ed w f coins → (copy : Copy) → stream_on copy ed w f coins ≡ honest_stream ed w f coins ++ fill_on copy (honest_stream ed w f coins)
unfolding stream_on fill_on filled
copy_is {ed} {w} {f} {coins} ok written = sym (append-nil (honest_stream ed w f coins))
copy_is {ed} {w} {f} {coins} ok read = file_stream (honest_stream ed w f coins) (honest_words ok)
