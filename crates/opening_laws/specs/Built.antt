-- THE BUILDER'S FILE PASSES READING AND IS DECIDED AS THE FULL FILE IS (02, CR 13).
use Prim.Native.Nat.{ℕ, zero, suc, ◌+◌, ◌-◌, ◌*◌, ◌/◌, ◌%◌, ◌^◌, ◌≤◌, ◌<◌}
use Rattle.std.proofs.Common.{mul_comm, mul-le-mul_left, arith, ⊎_elim, ap₂, ◌∙◌, subst, lit<, take-append-drop, pow_pos, take-take}
use Rattle.std.specs.Prelude.{Bool, true, cond, ◌≡◌, eqb, take}
use Rattle.std.proofs.Math.Bool.{false, not}
use mathlib.Core.List.{List, [], ◌∷◌, ◌++◌, append_assoc, append-nil, map, flat_map, tail, zip_with}
use Rattle.std.proofs.Math.Path.{refl, sym, ap}
use Rattle.std.proofs.Math.Dec.{leb}
use Rattle.std.proofs.Math.ListN.{length, get_or, drop, replicate, length-append, length-drop}
use Rattle.std.proofs.lemmas.List.{length-replicate}
use Rattle.std.proofs.Math.Pow.{pow-lt}
use Rattle.std.proofs.Math.Seq.{drop_at, length-take-le}
use borrow.Author.Tests.{eq-eqb, lt-leb, ne_eqb}
use Rattle.definition.specs.Block.{block_count, file_of, stream_of}
use Rattle.definition.specs.Field.{Spelling, Element, field_in, number_in, prime_of, word_count}
use Rattle.definition.specs.Lists.{first_true, range}
use Rattle.definition.specs.Sheet.{edition1, Sheet, Level, sheet_of, first_level, later_levels, levels_from, final_count, root_of_unity, shift_count}
use Rattle.definition.specs.Layout.{Kind, message, coin, layout, later_count, limit, read_rest, read_transcript, round_coins, words_due}
use Rattle.definition.specs.Reading.{length_test, check_test, sheet_test, blocks_test, range_test, out_of_range, reading}
use Rattle.definition.specs.Transcript.{Transcript}
use Rattle.definition.specs.Verdict.{Outcome, accepted, Verdict, refuse_if, ◌then◌, then_verdict}
use Rattle.definition.specs.Deciding.{Place, out_tests, decide, counted, deciding}
use Rattle.definition.specs.Convert.{body_of}
use Rattle.definition.specs.Verify.{verify, verify_in}
use Rattle.list_laws.specs.All.{All, all_append, all_flat, all_map, all_of_map}
use Rattle.hash_laws.specs.TreeLaws.{lt_or_le}
use Rattle.layouts.specs.EachWord.{Each, Front, each_append_at, each_join, each_map, each_none, each_same, front_at, front_false, in_range}
use Rattle.layouts.specs.FileTrip.{filled, fill_count, file_checks, file_length, file_stream}
use Rattle.layouts.proofs.Lawful.{lawful}
use Rattle.layouts.specs.LawfulSheets.{Lawful}
use Rattle.layouts.proofs.LayoutFacts.{layout_all}
use Rattle.layouts.specs.LevelSizes.{Chain, Sized, positive_sizes}
use Rattle.layouts.specs.Passed.{Passed, passed}
use Rattle.layouts.specs.SheetRules.{sheet_words_lem}
use Rattle.layouts.proofs.SheetLevels.{rules_same, sheet_chain, sheet_front, sheet_steps}
use Rattle.layouts.specs.Tests.{at_none, at_passes, none_true, verdict_passes}
use Rattle.openings.specs.Openings.{sheet_words, any_word, height_of, swap_tables, tables_in, table_words, opening_layout, number_place, opening_kinds, opening_length, opening_words_due, openings_in, shut_body, opening_blocks_test, opening_range_test, opening_fill_test, opening_body, reading_openings, stray_words, due, table_root, opening_at, built_stream, due_at, due_rest, reached, opening_tests, decided_opened, deciding_openings, verify_openings, roots_in, root_words, hash_words}
use Rattle.opening_laws.specs.Decided.{all_good, built_decided, built_places, built_paths, root_long}
use Rattle.layouts.proofs.PlainSheet.{sheet_plain}
use Rattle.layouts.specs.Spellings.{count_least}
use Rattle.opening_laws.specs.OutsKept.{outs_kept}
use Rattle.opening_laws.specs.Fronts.{front_read, layout_needs}
use Rattle.opening_laws.specs.Lawfully.{first_placed, height_is, later_laid, levels_numbered}
use Rattle.opening_laws.specs.Counts.{Rising, reads_due, rest_rising}
use Rattle.opening_laws.specs.OpeningWords.{opening_each, opening_strays, table_small, tables_small, zeros_none}
use Rattle.opening_laws.specs.Placed.{Good, Laid, PlacedAt, good_long, good_opening}
use Rattle.opening_laws.specs.Ranges.{Fine, any_fine, root_small, swap_each}
use Rattle.opening_laws.specs.Streams.{built_long, built_openings, built_roots, built_shut}
use Rattle.opening_laws.specs.Swaps.{need}

-- the prime of a sheet has 32 bits
prime_small : (field : ℕ) → prime_of field < 4294967296
unfolding prime_of
prime_small zero = lit< tt
prime_small (suc zero) = lit< tt
prime_small (suc (suc field)) = lit< tt

-- a level has at most as many points and shift points as level 0
size_most : (a : ℕ) (b : Level) → Sized a b → b.size ≤ 2 ^ a
size_most a b s =
    let n : b.size * 1 ≤ b.size * 2 ^ b.number = mul-le-mul_left b.size (pow_pos b.number) in omega (arith, n, s.whole, mul_comm (2 ^ b.number) b.size)

few_points : (a : ℕ) (b : Level) → Sized a b → 2 ^ a ≤ 4096 → shift_count b ≤ 4294967296
unfolding shift_count
few_points a b s k =
    let m : b.size / b.fold * 1 ≤ b.size / b.fold * b.fold = mul-le-mul_left (b.size / b.fold) (positive_sizes a b s).1 in
    omega (arith, m, s.folds, size_most a b s)

-- the number of places due
at_most_one : (c : Bool) (p : Place) → length (cond c (p ∷ []) []) ≤ 1
at_most_one true p = omega arith
at_most_one false p = omega arith

flat_most : (f : ℕ → List Place) (from count : ℕ) → ((m : ℕ) → length (f m) ≤ 1) → length (flat_map f (range from count)) ≤ count
unfolding flat_map range
flat_most f from zero k = omega arith
flat_most f from (suc count) k = omega (arith, length-append (f from) (flat_map f (range (suc from) count)), k from, flat_most f (suc from) count k)

due_most : (l : Level) (js : List ℕ) → length (due_at l js) ≤ l.size
unfolding due_at
due_most l js = flat_most (λ m. cond (reached l js m) (record { table = l.number; number = m } ∷ []) []) 0 l.size (λ m. at_most_one (reached l js m) (record { table = l.number; number = m }))

rest_most : (σ : Spelling) (a s : ℕ) (b : Level) (ls : List Level) (v : List ℕ) → 2 ^ a ≤ 4096 → Chain a b ls → length (due_rest b (read_rest σ s b ls v)) ≤ 4096 + 4096 * length ls
unfolding due_rest read_rest round_coins
rest_most σ a s b [] v k c = omega (arith, due_most b (take b.repetitions (drop (word_count σ (final_count b)) v)), size_most a b c)
rest_most σ a s b (l ∷ ls) v k c =
    let js = drop (word_count σ 2) (take (later_count σ b) (drop (word_count σ s) (drop (word_count σ s) (drop (word_count σ l.size) v)))) in
    let d : length (due_at b js) ≤ b.size = due_most b js in
    let r = rest_most σ a s l ls (drop (later_count σ b) (drop (word_count σ s) (drop (word_count σ s) (drop (word_count σ l.size) v)))) k c.2 in
    omega (arith, length-append (due_at b js) (due_rest l (read_rest σ s l ls (drop (later_count σ b) (drop (word_count σ s) (drop (word_count σ s) (drop (word_count σ l.size) v)))))), d, size_most a b c.0, r)

levels_count : (i n d : ℕ) (ks ts : List ℕ) → length (levels_from i n d ks ts) ≤ length ks
unfolding levels_from
levels_count i n d [] ts = omega arith
levels_count i n d (k ∷ ks) [] = omega arith
levels_count i n d (k ∷ ks) (t ∷ ts) = omega (arith, levels_count (suc i) (n / 2) (d / k) ks ts)

tail_most : (ks : List ℕ) → length (tail ks) ≤ length ks
tail_most [] = omega arith
tail_most (k ∷ ks) = omega arith

root_eight : (h : Sheet) (l : Level) (v : List ℕ) → length (table_root h l v) ≡ hash_words
unfolding root_words
root_eight h l v = root_long h l v

-- openings one after the other, with their kinds
flat_each : (R : Kind → ℕ → Type 0) (ks : List Kind) (f : Place → List ℕ) (ps : List Place) → All (λ p. Each R ks (f p)) ps → Each R (flat_map (λ _. ks) (map f ps)) (flat_map f ps)
unfolding flat_map
flat_each R ks f [] a = tt
flat_each R ks f (p ∷ ps) a = each_join R ks (flat_map (λ _. ks) (map f ps)) (f p) (flat_map f ps) a.0 (flat_each R ks f ps a.1)

-- words in range below limits of 32 bits
each_fine : (h : Sheet) (ks : List Kind) (v : List ℕ) → Each (λ k x. out_of_range h k x ≡ false) ks v → All (λ k. limit h.prime k ≤ 4294967296) ks → Each (Fine h) ks v
each_fine h [] [] e a = tt
each_fine h [] (x ∷ v) e a = e
each_fine h (k ∷ ks) [] e a = e
each_fine h (k ∷ ks) (x ∷ v) e a = ((e.0, let b = in_range h k x e.0 in omega (arith, a.0, b)), each_fine h ks v e.1 a.1)

each_words : (h : Sheet) (ks : List Kind) (v : List ℕ) → Each (Fine h) ks v → All (λ x. x < 4294967296) v
each_words h [] [] e = tt
each_words h [] (x ∷ v) e = absurd e
each_words h (k ∷ ks) [] e = tt
each_words h (k ∷ ks) (x ∷ v) e = (e.0.1, each_words h ks v e.1)

module _ (bytes : List ℕ) (read : reading edition1 bytes ≡ accepted) where
  abbrev w : List ℕ
  w = stream_of bytes

  abbrev h : Sheet
  h = sheet_of edition1 (stream_of bytes)

  ok : Passed edition1 bytes
  ok = passed edition1 bytes read

  abbrev body : List ℕ
  body = body_of edition1 (stream_of bytes)

  enough : 12 + length (layout h) ≤ length w
  unfolding words_due
  enough = ok.due

  law : Lawful h
  law = lawful edition1 w (omega (arith, enough)) ok.sheet

  body_long : length body ≡ length (layout h)
  unfolding body_of
  body_long = length-take-le (length (layout h)) (drop 12 w) (omega (arith, length-drop 12 w, enough))

  room : need (table_words h) h ≤ length body
  room = omega (arith, body_long, layout_needs h)

  twelve : suc law.a ≤ 12
  twelve = ⊎_elim (λ b. absurd (omega (arith, pow-lt b, law.size, law.small))) (λ b. b) (lt_or_le 12 (suc law.a))

  chain : Chain (suc law.a) (first_level h) (later_levels h)
  chain = sheet_chain h law

  limits : All (λ k. limit h.prime k ≤ 4294967296) (layout h)
  unfolding limit sheet_of shift_count
  limits =
      let p = prime_small (get_or w 0 0) in
      layout_all (λ k. limit h.prime k ≤ 4294967296) (suc law.a) (omega (arith, p)) (omega (arith, p)) (λ l before e. omega (arith, p)) (λ b s. few_points (suc law.a) b s (omega (arith, law.size, law.small))) h chain (sheet_steps h law)

  body_each : Each (Fine h) (layout h) body
  unfolding range_test body_of
  body_each =
      let n : length (layout h) ≤ length (drop 12 w) = omega (arith, length-drop 12 w, enough) in
      let f = front_false (out_of_range h) 12 (layout h) (drop 12 w) n (at_passes 5 _ ok.range) in
      let e = front_at (λ k x. out_of_range h k x ≡ false) (length (layout h)) (layout h) [] (drop 12 w) refl (subst (λ (ks : List Kind). Front (λ k x. out_of_range h k x ≡ false) ks (drop 12 w)) (sym (append-nil (layout h))) f) in
      each_fine h (layout h) (take (length (layout h)) (drop 12 w)) e.0 limits

  -- ---- the places due, and their openings
  abbrev σ : Spelling
  σ = h.spelling

  abbrev tables : List (List ℕ)
  tables = tables_in (table_words h) h body

  placed : PlacedAt h tables 0 (first_level h) (take (word_count σ h.size) body)
  placed = first_placed h (suc law.a) law.size twelve chain body room

  laid : Laid h tables 1 h.out_coins (first_level h) (later_levels h) (drop (word_count σ 1) (drop (word_count σ h.size) body))
  laid = later_laid h (suc law.a) law.size twelve chain body room

  abbrev D : List Place
  D = due h (read_transcript σ h body)

  good : All (Good h tables) D
  good = all_good h body room placed laid

  few_places : length D < 4294967296
  unfolding due read_transcript later_levels
  few_places =
      let r = rest_most σ (suc law.a) h.out_coins (first_level h) (later_levels h) (drop (word_count σ 1) (drop (word_count σ h.size) body)) (omega (arith, law.size, law.small)) chain in
      let n = levels_count 1 (h.size / 2) (h.degree / get_or h.folds 0 0) (tail h.folds) (tail h.repetitions) in
      omega (arith, r, n, tail_most h.folds, law.most)

  low_height : height_of h ≤ 12
  low_height = omega (arith, height_is h (suc law.a) law.size twelve chain body room, twelve)

  each_opening : (p : Place) → Good h tables p → Each (Fine h) (opening_kinds h) (opening_at h tables p)
  each_opening p g =
      let a = g.at in
      let small : All (Fine h message) g.t = subst (All (Fine h message)) a.table (table_small (Fine h message) tables p.table (tables_small (Fine h) h body body_each)) in
      let k : height_of h - g.l.number < 13 = omega (arith, low_height) in
      let q = pow-lt k in
      subst (Each (Fine h) (opening_kinds h)) (sym (good_opening h tables p g))
      (opening_each h g.l g.t p.number a.long g.inside a.low small (omega (arith, a.low, low_height)) (omega (arith, g.inside, a.tall, q)))

  strays : (p : Place) → Good h tables p → All (λ (b : Bool). b ≡ false) (stray_words h (opening_at h tables p))
  strays p g =
      let a = g.at in
      subst (λ (o : List ℕ). All (λ (b : Bool). b ≡ false) (stray_words h o)) (sym (good_opening h tables p g)) (opening_strays h g.l g.t p.number a.long g.inside a.low)

  -- ---- the stream, with anything behind it
  abbrev front : List ℕ
  front = take 12 w

  front_long : length front ≡ sheet_words
  front_long = length-take-le 12 w (omega (arith, enough))

  openings_long : All (λ p. length (opening_at h tables p) ≡ opening_length h) D
  openings_long = all_map D good (λ p g. good_long h tables p g)

  abbrev B : List ℕ
  B = swap_tables (table_words h) (table_root h) h body

  abbrev O : List ℕ
  O = flat_map (opening_at h tables) D

  abbrev built : List ℕ
  built = front ++ (B ++ (length D ∷ O))

  built_is : built_stream w ≡ built
  unfolding built_stream
  built_is = refl

  -- each word after the sheet, with its kind
  roots_each : Each (Fine h) (opening_layout h) B
  unfolding opening_layout
  roots_each =
      swap_each (Fine h) (table_words h) (λ _ _. replicate hash_words any_word) (table_root h)
      (λ l ks v. each_same (Fine h) hash_words any_word (table_root h l v) (eight_words l v) (all_map (table_root h l v) (root_small h l v) (any_fine h))) h (layout h) body body_each
    where
      eight_words : (l : Level) (v : List ℕ) → length (table_root h l v) ≡ hash_words
      eight_words l v = root_eight h l v

  abbrev kinds : List Kind
  kinds = opening_layout h ++ (any_word ∷ flat_map (λ _. opening_kinds h) (map (opening_at h tables) D))

  body_fine : Each (Fine h) kinds (B ++ (length D ∷ O))
  body_fine =
      each_join (Fine h) (opening_layout h) (any_word ∷ flat_map (λ _. opening_kinds h) (map (opening_at h tables) D)) B (length D ∷ O) roots_each
      (any_fine h (length D) few_places, flat_each (Fine h) (opening_kinds h) (opening_at h tables) D (all_map D good each_opening))

  sheet_passes : sheet_test edition1 front ≡ accepted
  sheet_passes = sym (ap (sheet_test edition1) (sym (take-append-drop 12 w)) ∙ rules_same edition1 front front_long (drop 12 w)) ∙ ok.sheet

  built_words : All (λ x. x < 4294967296) built
  built_words = all_append (λ x. x < 4294967296) front (B ++ (length D ∷ O)) (sheet_words_lem edition1 front front_long sheet_passes) (each_words h kinds (B ++ (length D ∷ O)) body_fine)

  same_sheet : (z : List ℕ) → sheet_of edition1 (built ++ z) ≡ h
  same_sheet z =
      ap (sheet_of edition1) (append_assoc front (B ++ (length D ∷ O)) z) ∙ sheet_front edition1 front front_long sheet_passes ((B ++ (length D ∷ O)) ++ z)
      ∙ sym (ap (sheet_of edition1) (sym (take-append-drop 12 w)) ∙ sheet_front edition1 front front_long sheet_passes (drop 12 w))

  -- ---- reading
  module _ (z : List ℕ) (zeros : All (λ (b : Bool). b ≡ false) (map (λ x. not (eqb x 0)) z)) where
    abbrev x : List ℕ
    x = built ++ z

    long_is : length built ≡ opening_words_due h x
    long_is = built_long h front body D (opening_at h tables) z front_long body_long openings_long

    given : openings_in h x ≡ map (opening_at h tables) D
    given = built_openings h front body D (opening_at h tables) z front_long body_long openings_long

    blocks_pass : (blocks : ℕ) → blocks ≡ block_count (length built) → opening_blocks_test h blocks x ≡ accepted
    unfolding opening_blocks_test blocks_test opening_words_due refuse_if ◌then◌
    blocks_pass blocks e =
        let a : length x ≡ length built + length z = length-append built z in
        let f : leb (length x) (number_place h) ≡ false = lt-leb (length x) (number_place h) (omega (arith, a, long_is)) in
        rw (f, eq-eqb blocks (block_count (opening_words_due h x)) (e ∙ ap block_count long_is))

    after_sheet : drop 12 x ≡ (B ++ (length D ∷ O)) ++ z
    after_sheet = ap (drop 12) (append_assoc front (B ++ (length D ∷ O)) z) ∙ drop_at front ((B ++ (length D ∷ O)) ++ z) 12 front_long

    range_pass : opening_range_test h x ≡ accepted
    unfolding opening_range_test range_test
    range_pass =
        at_none 5 _
        (ap₂ (λ (os : List (List ℕ)) (v : List ℕ). first_true 12 (zip_with (out_of_range h) (opening_layout h ++ (any_word ∷ flat_map (λ _. opening_kinds h) os)) v)) given after_sheet
        ∙ each_none (out_of_range h) 12 kinds (B ++ (length D ∷ O)) z (each_map kinds (B ++ (length D ∷ O)) body_fine (λ k v f. f.0)))

    fill_pass : opening_fill_test h x ≡ accepted
    unfolding opening_fill_test
    fill_pass =
        let d : drop (opening_words_due h x) x ≡ z = drop_at built z (opening_words_due h x) long_is in
        at_none 6 _
        (ap₂ (λ (os : List (List ℕ)) (v : List ℕ). first_true (number_place h + 1) (flat_map (stray_words h) os ++ map (λ y. not (eqb y 0)) v)) given d
        ∙ none_true (number_place h + 1) _
        (all_append (λ (b : Bool). b ≡ false) (flat_map (stray_words h) (map (opening_at h tables) D)) (map (λ y. not (eqb y 0)) z)
        (all_flat (λ (b : Bool). b ≡ false) (stray_words h) (map (opening_at h tables) D) (all_of_map (λ (o : List ℕ). All (λ (b : Bool). b ≡ false) (stray_words h o)) (opening_at h tables) D (all_map D good strays))) zeros))

    body_passes : (blocks : ℕ) → blocks ≡ block_count (length built) → opening_body h blocks x ≡ accepted
    unfolding opening_body ◌then◌
    body_passes blocks e = rw (blocks_pass blocks e, range_pass, fill_pass)

    sheet_same : sheet_test edition1 x ≡ accepted
    sheet_same = ap (sheet_test edition1) (append_assoc front (B ++ (length D ∷ O)) z) ∙ rules_same edition1 front front_long ((B ++ (length D ∷ O)) ++ z) ∙ sheet_passes

    -- ---- deciding
    roots_are : roots_in h x ≡ zip_with (table_root h) (first_level h ∷ later_levels h) tables
    roots_are = built_roots h front body D (opening_at h tables) z front_long body_long openings_long room

    shut_is : shut_body h x ≡ B
    shut_is = built_shut h front body D (opening_at h tables) z front_long body_long openings_long

    decided_is : out_tests h sheet_words (opening_layout h) x ≡ accepted
        → deciding_openings x ≡ counted (decide (field_in σ h.prime) (number_in σ (root_of_unity h)) (first_level h) (read_transcript σ h body))
    unfolding deciding_openings opening_tests then_verdict ◌then◌
    decided_is outs =
        (λ i. then_verdict (opening_tests (same_sheet z i) x) (decided_opened (same_sheet z i) x))
        ∙ rw (outs, built_places h body room placed laid x shut_is given roots_are, built_paths h body room placed laid x shut_is given roots_are)
        (built_decided h body room placed laid x shut_is given roots_are)

  -- ---- the file
  abbrev fill : List ℕ
  fill = replicate (fill_count built) 0

  stream_is : stream_of (file_of built) ≡ built ++ fill
  unfolding filled
  stream_is = file_stream built built_words

  fill_zeros : All (λ (b : Bool). b ≡ false) (map (λ x. not (eqb x 0)) fill)
  fill_zeros = zeros_none (fill_count built)

  blocks_are : length (file_of built) / 512 ≡ block_count (length built)
  blocks_are = omega (arith, file_length built)

  some_blocks : 0 < block_count (length built)
  unfolding block_count
  some_blocks = omega (arith, front_long, length-append front (B ++ (length D ∷ O)))

  length_pass : length_test (file_of built) ≡ accepted
  unfolding length_test refuse_if
  length_pass =
      let n = file_length built in
      rw (ne_eqb (length (file_of built)) 0 (λ e. omega (arith, n, some_blocks)), eq-eqb (length (file_of built) % 512) 0 (omega (arith, n)))

  check_pass : check_test (file_of built) ≡ accepted
  unfolding check_test
  check_pass = at_none 2 _ (none_true 0 _ (file_checks built built_words))

  -- THE BUILDER'S FILE PASSES READING.
  pub built_reads : reading_openings (file_of (built_stream (stream_of bytes))) ≡ accepted
  unfolding reading_openings built_stream ◌then◌
  built_reads =
      (λ i. length_test (file_of built) then check_test (file_of built) then sheet_test edition1 (stream_is i)
      then opening_body (sheet_of edition1 (stream_is i)) (length (file_of built) / 512) (stream_is i))
      ∙ (λ i. length_test (file_of built) then check_test (file_of built) then sheet_test edition1 (built ++ fill) then opening_body (same_sheet fill i) (length (file_of built) / 512) (built ++ fill))
      ∙ rw (length_pass, check_pass, sheet_same fill fill_zeros, body_passes fill fill_zeros (length (file_of built) / 512) blocks_are)

  full_is : read_transcript σ h body ≡ read_transcript σ h (drop 12 w)
  unfolding body_of
  full_is = front_read h body (drop 12 w) (take-take (length (layout h)) (length (layout h)) (drop 12 w) (omega arith))

  outs_some : 0 < word_count h.spelling h.out_coins
  unfolding sheet_of
  outs_some = omega (arith, count_least h.spelling h.out_coins, (sheet_plain edition1 w ok.sheet).plain.outs_range)

  built_outs : out_tests h sheet_words (layout h) w ≡ accepted → out_tests h sheet_words (opening_layout h) (built ++ fill) ≡ accepted
  unfolding body_of
  built_outs a =
      let e : drop 12 w ≡ body ++ drop (length (layout h)) (drop 12 w) = sym (take-append-drop (length (layout h)) (drop 12 w)) in
      let f : drop 12 (built ++ fill) ≡ B ++ ((length D ∷ O) ++ fill) = after_sheet fill fill_zeros ∙ append_assoc B (length D ∷ O) fill in
      outs_kept h (table_root h) (root_eight h) outs_some w (built ++ fill) body (drop (length (layout h)) (drop 12 w)) ((length D ∷ O) ++ fill) e f (omega (arith, body_long)) a

  -- AND ITS VERDICT IS THE FULL FILE'S, WITH THE SAME COUNT, where no out coin is refused by 7 or 14.
  decided_verdict : out_tests h sheet_words (layout h) w ≡ accepted → verify_openings (file_of (built_stream (stream_of bytes))) ≡ verify bytes
  unfolding verify_openings built_stream verify_in deciding then_verdict
  decided_verdict plain =
      ap (λ (o : Outcome). then_verdict o (deciding_openings (stream_of (file_of built)))) built_reads
      ∙ ap deciding_openings stream_is ∙ decided_is fill fill_zeros (built_outs plain)
      ∙ sym (rw (read, plain) (ap (λ (τ : Transcript (Element σ)). counted (decide (field_in σ h.prime) (number_in σ (root_of_unity h)) (first_level h) τ)) (sym full_is)))

  -- as many places due as reads, where deciding accepts
  rising : Rising (first_level h) (read_transcript σ h body).rest
  unfolding read_transcript layout later_levels first_level
  rising =
      let n = word_count σ h.size in
      let o = word_count σ 1 in
      let R : Kind → ℕ → Type 0 = λ k x. x < limit h.prime k in
      let e : Each R (layout h) body = each_map (layout h) body body_each (λ k x f. in_range h k x f.0) in
      let p = each_append_at R n (replicate n message) _ body (length-replicate n message) e in
      let q = each_append_at R o (replicate o coin) _ (drop n body) (length-replicate o coin) p.1 in
      rest_rising h.prime σ (suc law.a) h.out_coins 0 (first_level h) (later_levels h) (drop o (drop n body)) chain refl
      (levels_numbered 1 (h.size / 2) (h.degree / get_or h.folds 0 0) (tail h.folds) (tail h.repetitions)) q.1

  number_due : (deciding edition1 w).outcome ≡ accepted → out_tests h sheet_words (layout h) w ≡ accepted → (deciding edition1 w).reads ≡ length D
  unfolding deciding counted due then_verdict
  number_due a plain =
      let run : Transcript (Element σ) → Verdict = λ τ. counted (decide (field_in σ h.prime) (number_in σ (root_of_unity h)) (first_level h) τ) in
      let e : deciding edition1 w ≡ run (read_transcript σ h body) = rw plain (ap run (sym full_is)) in
      ap (λ (v : Verdict). v.reads) e
      ∙ reads_due (field_in σ h.prime) (number_in σ (root_of_unity h)) (first_level h) (read_transcript σ h body) rising (sym (ap (λ (v : Verdict). v.outcome) e) ∙ a)

-- THE BUILDER'S FILE OF AN ACCEPTED FULL FILE IS ACCEPTED, WITH THE SAME COUNT.
pub built_accepted : (bytes : List ℕ) → (verify bytes).outcome ≡ accepted → verify_openings (file_of (built_stream (stream_of bytes))) ≡ verify bytes
unfolding verify_in deciding
built_accepted bytes a =
    let p = verdict_passes (reading edition1 bytes) (deciding edition1 (stream_of bytes)) a in
    let q = verdict_passes (out_tests (sheet_of edition1 (stream_of bytes)) 12 (layout (sheet_of edition1 (stream_of bytes))) (stream_of bytes)) _ p.1 in
    decided_verdict bytes p.0 q.0

-- AS MANY OPENINGS AS READS: the builder knows the length of its file from the verdict.
pub opening_number : (bytes : List ℕ) → (verify bytes).outcome ≡ accepted
    → length (due (sheet_of edition1 (stream_of bytes)) (read_transcript (sheet_of edition1 (stream_of bytes)).spelling (sheet_of edition1 (stream_of bytes)) (body_of edition1 (stream_of bytes))))
    ≡ (verify bytes).reads
unfolding verify_in deciding then_verdict
opening_number bytes a =
    let p = verdict_passes (reading edition1 bytes) (deciding edition1 (stream_of bytes)) a in
    let q = verdict_passes (out_tests (sheet_of edition1 (stream_of bytes)) 12 (layout (sheet_of edition1 (stream_of bytes))) (stream_of bytes)) _ p.1 in
    sym (ap (λ (o : Outcome). (then_verdict o (deciding edition1 (stream_of bytes))).reads) p.0 ∙ number_due bytes p.0 p.1 q.0)
