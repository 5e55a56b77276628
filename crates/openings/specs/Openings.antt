-- Opening files (02, CR 13): a root in place of each table, and after the final indices the openings of the places that coins reach. Edition 1 alone.
use Rattle.std.specs.Prelude.{ℕ, zero, suc, ◌+◌, ◌-◌, ◌*◌, ◌/◌, ◌^◌, Bool, true, false, not, cond, ◌&&◌, eqb, ltb, leb, length, get_or, take, drop, replicate}
use mathlib.Core.List.{List, [], ◌∷◌, ◌++◌, map, flat_map}
use Rattle.std.proofs.Math.Option.{Option, none, some}
use Rattle.definition.specs.Lists.{member, range, chunks, first_true}
use Rattle.definition.specs.Field.{Spelling, Element, field_in, number_in, word_count}
use Rattle.definition.specs.Sheet.{edition1, Sheet, Level, sheet_of, first_level, later_levels, root_of_unity}
use Rattle.definition.specs.Domain.{root_numbers}
use Rattle.definition.specs.Transcript.{Rest, final, round, Transcript}
use Rattle.definition.specs.Layout.{Kind, message, index, layout, later_count, read_transcript}
use Rattle.definition.specs.Block.{bytes_of, word_of, block_count, stream_of}
use Rattle.definition.specs.Verdict.{Outcome, Verdict, refuse_at, refuse_if, ◌then◌, then_verdict}
use Rattle.definition.specs.Reading.{length_test, check_test, sheet_test, blocks_test, range_test}
use Rattle.definition.specs.Deciding.{Place, same_place, out_tests, decide, counted}
use Rattle.definition.specs.Verify.{verify}
use Rattle.definition.specs.Prove.{Result}
use Rattle.definition.specs.Convert.{body_of, convert}
use Rattle.hashing.specs.Tree.{leaf_of, root_of, path_of, climb}

-- ---- LAYOUT

-- the number of words of a sheet, of a hash, and of an entry
abbrev pub sheet_words : ℕ
sheet_words = 12

abbrev pub hash_words : ℕ
hash_words = 8

unfoldable pub entry_words : Sheet → ℕ
entry_words h = word_count h.spelling 1

-- a word that refusal 5 does not test
unfoldable pub any_word : Kind
any_word = index (2 ^ 32)

-- log2 of a power of two up to 2^most
unfoldable pub log2 : ℕ → ℕ → ℕ
log2 zero n = 0
log2 (suc most) n = cond (leb n 1) 0 (suc (log2 most (n / 2)))

-- the height of table 0's tree, log2 n0; table i's is i less
unfoldable pub height_of : Sheet → ℕ
height_of h = log2 12 h.size

-- the number of words after a round's table: out coins, replies, combination coin, fold coin and shift indices
unfoldable pub beside_table : Spelling → ℕ → Level → ℕ
beside_table σ s b = word_count σ s + (word_count σ s + later_count σ b)

-- A list laid out as the words after a sheet, but with `size l` places for the table of level l: each table replaced by `new`, all else kept.
module _ {A : Type 0} (size : Level → ℕ) (new : Level → List A → List A) where
  unfoldable pub swap_rest : Spelling → ℕ → Level → List Level → List A → List A
  swap_rest σ s b [] w = w
  swap_rest σ s b (l ∷ ls) w =
      let w₁ = drop (size l) w in
      new l (take (size l) w) ++ (take (beside_table σ s b) w₁ ++ swap_rest σ s l ls (drop (beside_table σ s b) w₁))

  unfoldable pub swap_tables : Sheet → List A → List A
  swap_tables h w =
      let first = first_level h in
      let w₁ = drop (size first) w in
      new first (take (size first) w)
      ++ (take (entry_words h) w₁ ++ swap_rest h.spelling h.out_coins first (later_levels h) (drop (entry_words h) w₁))

-- the tables of such a list, table 0 first
module _ (size : Level → ℕ) where
  unfoldable pub rest_tables : Spelling → ℕ → Level → List Level → List ℕ → List (List ℕ)
  rest_tables σ s b [] w = []
  rest_tables σ s b (l ∷ ls) w = take (size l) w ∷ rest_tables σ s l ls (drop (size l + beside_table σ s b) w)

  unfoldable pub tables_in : Sheet → List ℕ → List (List ℕ)
  tables_in h w =
      let first = first_level h in
      take (size first) w ∷ rest_tables h.spelling h.out_coins first (later_levels h) (drop (size first + entry_words h) w)

-- the number of words of a table, and of a root
unfoldable pub table_words : Sheet → Level → ℕ
table_words h l = word_count h.spelling l.size

unfoldable pub root_words : Level → ℕ
root_words l = hash_words

-- the kinds of the words after the sheet, up to the number of openings: as in a plain stream, with eight words for each table
unfoldable pub opening_layout : Sheet → List Kind
opening_layout h = swap_tables (table_words h) (λ _ _. replicate hash_words any_word) h (layout h)

-- where the number of openings stands
unfoldable pub number_place : Sheet → ℕ
number_place h = sheet_words + length (opening_layout h)

-- the words of one opening: table number, point number, entry, log2 n0 nodes
unfoldable pub opening_kinds : Sheet → List Kind
opening_kinds h = any_word ∷ any_word ∷ (replicate (entry_words h) message ++ replicate (hash_words * height_of h) any_word)

unfoldable pub opening_length : Sheet → ℕ
opening_length h = 2 + (entry_words h + hash_words * height_of h)

-- the number of openings given, and the words due with it
unfoldable pub opening_count : Sheet → List ℕ → ℕ
opening_count h w = get_or w (number_place h) 0

unfoldable pub opening_words_due : Sheet → List ℕ → ℕ
opening_words_due h w = number_place h + 1 + opening_count h w * opening_length h

-- the words of each opening, and what they say
unfoldable pub openings_in : Sheet → List ℕ → List (List ℕ)
openings_in h w = chunks (opening_count h w) (opening_length h) (drop (number_place h + 1) w)

unfoldable pub place_in : List ℕ → Place
place_in o = record { table = get_or o 0 0; number = get_or o 1 0 }

unfoldable pub entry_in : Sheet → List ℕ → List ℕ
entry_in h o = take (entry_words h) (drop 2 o)

unfoldable pub nodes_in : Sheet → List ℕ → List ℕ
nodes_in h o = drop (2 + entry_words h) o

-- ---- READING

-- 4: the blocks differ from what sheet and number need; a stream too short to hold the number needs the blocks up to it
unfoldable pub opening_blocks_test : Sheet → ℕ → List ℕ → Outcome
opening_blocks_test h blocks w =
    refuse_if 4 (block_count (number_place h + 1)) (leb (length w) (number_place h)) then blocks_test (opening_words_due h w) blocks

-- 5: no root, node, number of openings or number in one is tested
unfoldable pub opening_range_test : Sheet → List ℕ → Outcome
opening_range_test h w = range_test h sheet_words (opening_layout h ++ (any_word ∷ flat_map (λ _. opening_kinds h) (openings_in h w))) w

-- 6: a word of an unused node, or of the fill, that is not zero. Of an opening's nodes the last i are unused for a table number i up to M, and else none.
unfoldable pub unused_nodes : Sheet → ℕ → ℕ
unused_nodes h table = cond (ltb table (length h.folds)) table 0

unfoldable pub stray_words : Sheet → List ℕ → List Bool
stray_words h o =
    let used = opening_length h - hash_words * unused_nodes h (place_in o).table in
    replicate used false ++ map (λ x. not (eqb x 0)) (drop used o)

unfoldable pub opening_fill_test : Sheet → List ℕ → Outcome
opening_fill_test h w =
    refuse_at 6 (first_true (number_place h + 1) (flat_map (stray_words h) (openings_in h w) ++ map (λ x. not (eqb x 0)) (drop (opening_words_due h w) w)))

unfoldable pub opening_body : Sheet → ℕ → List ℕ → Outcome
opening_body h blocks w = opening_blocks_test h blocks w then opening_range_test h w then opening_fill_test h w

unfoldable pub reading_openings : List ℕ → Outcome
reading_openings bytes =
    length_test bytes then check_test bytes then sheet_test edition1 (stream_of bytes)
    then opening_body (sheet_of edition1 (stream_of bytes)) (length bytes / 512) (stream_of bytes)

-- ---- THE PLACES DUE: of each table, in point order, those that a coin at its level leads to.
unfoldable pub reached : Level → List ℕ → ℕ → Bool
reached l js m = member eqb m (flat_map (root_numbers l) js)

unfoldable pub due_at : Level → List ℕ → List Place
due_at l js = flat_map (λ m. cond (reached l js m) (record { table = l.number; number = m } ∷ []) []) (range 0 l.size)

unfoldable pub due_rest : {A : Type 0} → Level → Rest A → List Place
due_rest b (final coefficients js) = due_at b js
due_rest b (round ρ rest) = due_at b ρ.coins.shifts ++ due_rest ρ.coins.level rest

unfoldable pub due : {A : Type 0} → Sheet → Transcript A → List Place
due h τ = due_rest (first_level h) τ.rest

-- ---- THE PLAIN STREAM with the opened entries in the tables, zero where none is opened.
unfoldable pub opened_entry : Sheet → List (List ℕ) → Place → List ℕ
opened_entry h [] p = replicate (entry_words h) 0
opened_entry h (o ∷ os) p = cond (same_place (place_in o) p) (entry_in h o) (opened_entry h os p)

unfoldable pub opened_table : Sheet → List (List ℕ) → Level → List ℕ
opened_table h os l = flat_map (λ m. opened_entry h os (record { table = l.number; number = m })) (range 0 l.size)

-- the words after the sheet
unfoldable pub shut_body : Sheet → List ℕ → List ℕ
shut_body h w = take (length (opening_layout h)) (drop sheet_words w)

unfoldable pub opened_body : Sheet → List ℕ → List ℕ
opened_body h w = swap_tables root_words (λ l _. opened_table h (openings_in h w) l) h (shut_body h w)

unfoldable pub opened_transcript : (h : Sheet) → List ℕ → Transcript (Element h.spelling)
opened_transcript h w = read_transcript h.spelling h (opened_body h w)

-- ---- DECIDING

-- the first number at which two lists of places differ, from q on
unfoldable pub first_other : ℕ → List Place → List Place → Option ℕ
first_other q [] [] = none
first_other q [] (y ∷ ys) = some q
first_other q (x ∷ xs) [] = some q
first_other q (x ∷ xs) (y ∷ ys) = cond (same_place x y) (first_other (suc q) xs ys) (some q)

-- 18: openings not exactly those due, at the first wrong or missing one
unfoldable pub places_test : {A : Type 0} → Sheet → Transcript A → List (List ℕ) → Outcome
places_test h τ os = refuse_at 18 (first_other 0 (due h τ) (map place_in os))

-- 17: a path misses its root, at the first such opening
unfoldable pub same_words : List ℕ → List ℕ → Bool
same_words [] [] = true
same_words [] (y ∷ ys) = false
same_words (x ∷ xs) [] = false
same_words (x ∷ xs) (y ∷ ys) = eqb x y && same_words xs ys

-- the bytes of words, and a hash's words
unfoldable pub bytes_in : List ℕ → List ℕ
bytes_in w = flat_map bytes_of w

unfoldable pub words_in : List ℕ → List ℕ
words_in bytes = map word_of (chunks hash_words 4 bytes)

unfoldable pub reached_root : Sheet → List ℕ → List ℕ
reached_root h o =
    climb (leaf_of (bytes_in (entry_in h o))) (place_in o).number (map bytes_in (chunks (height_of h - (place_in o).table) hash_words (nodes_in h o)))

unfoldable pub misses_root : Sheet → List (List ℕ) → List ℕ → Bool
misses_root h roots o = not (same_words (reached_root h o) (bytes_in (get_or roots (place_in o).table [])))

unfoldable pub paths_test : Sheet → List (List ℕ) → List (List ℕ) → Outcome
paths_test h roots os = refuse_at 17 (first_true 0 (map (misses_root h roots) os))

unfoldable pub roots_in : Sheet → List ℕ → List (List ℕ)
roots_in h w = tables_in root_words h (drop sheet_words w)

-- 7, 14, 18 and 17, and then 8 and 9 and the reads with the opened entries, of a stream that passes reading
unfoldable pub opening_tests : Sheet → List ℕ → Outcome
opening_tests h w =
    out_tests h sheet_words (opening_layout h) w then places_test h (opened_transcript h w) (openings_in h w)
    then paths_test h (roots_in h w) (openings_in h w)

unfoldable pub decided_opened : Sheet → List ℕ → Verdict
decided_opened h w =
    let σ = h.spelling in
    counted (decide (field_in σ h.prime) (number_in σ (root_of_unity h)) (first_level h) (opened_transcript h w))

unfoldable pub deciding_openings : List ℕ → Verdict
deciding_openings w = then_verdict (opening_tests (sheet_of edition1 w) w) (decided_opened (sheet_of edition1 w) w)

-- Verify, of an opening file given as its bytes.
unfoldable pub verify_openings : List ℕ → Verdict
verify_openings bytes = then_verdict (reading_openings bytes) (deciding_openings (stream_of bytes))

-- ---- THE BUILDER

-- the leaves of a table given as its words, and the words of its root
unfoldable pub leaves_of : Sheet → Level → List ℕ → List (List ℕ)
leaves_of h l table = map (λ e. leaf_of (bytes_in e)) (chunks l.size (entry_words h) table)

unfoldable pub table_root : Sheet → Level → List ℕ → List ℕ
table_root h l table = words_in (root_of (height_of h - l.number) (leaves_of h l table))

-- the opening of point m of a level's table
unfoldable pub opening_of : Sheet → Level → List ℕ → ℕ → List ℕ
opening_of h l table m =
    l.number ∷ m ∷ (take (entry_words h) (drop (entry_words h * m) table)
    ++ (flat_map words_in (path_of (height_of h - l.number) (leaves_of h l table) m) ++ replicate (hash_words * l.number) 0))

-- the opening of a place, from all levels and tables
unfoldable pub opening_at : Sheet → List (List ℕ) → Place → List ℕ
opening_at h tables p =
    opening_of h (get_or (first_level h ∷ later_levels h) p.table (first_level h)) (get_or tables p.table []) p.number

-- the words of the opening file of a full stream
unfoldable pub built_stream : List ℕ → List ℕ
built_stream w =
    let h = sheet_of edition1 w in
    let body = body_of edition1 w in
    let places = due h (read_transcript h.spelling h body) in
    take sheet_words w
    ++ (swap_tables (table_words h) (table_root h) h body
    ++ (length places ∷ flat_map (opening_at h (tables_in (table_words h) h body)) places))

-- The builder, of a full file and output bytes: the file's own refusal, then 11, or done with the blocks of its opening file.
unfoldable pub build_openings : List ℕ → List ℕ → Result
build_openings bytes output = convert (verify bytes).outcome (built_stream (stream_of bytes)) output
