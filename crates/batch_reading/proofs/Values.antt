-- The first function's values from the combined values of the tables: the points, the bounds, the tables and r are those that the definition reads from the words.
-- Assumes nothing.
use Prim.Native.Nat.{ℕ, suc, ◌+◌, ◌-◌, ◌*◌, ◌^◌, ◌≤◌, ◌<◌}
use native.Mathlib.Nat.{add-zero, zero-add}
use native.Mathlib.Omega.{arith}
use mathlib.Core.List.{List, map}
use mathlib.Core.Path.{◌≡◌, sym, ap, ◌∙◌, subst}
use lib.ListN.{length, get_or, take, drop, length-drop}
use lib.Seq.{drop-drop, get_or-drop, length-take-le}
use Rattle.algebra.specs.FieldIn.{zero_in}
use Rattle.batch_definition.specs.Batch.{Batch, batch_function, combine_at, most_entries, read_batch}
use Rattle.batches.specs.BatchRules.{bounds_within, entries_few, entry_words_lem, tables_few}
use Rattle.batches.specs.Batched.{combined_table}
use Rattle.batches.proofs.PlainStream as plain
use Rattle.combination.specs.Asked.{Bounded, Tabled, TablesFit}
use Rattle.definition.specs.Domain.{point}
use Rattle.definition.specs.Field.{Element, Field, Spelling, elements_in, field_of, four, number_in, one, power, prime_field, spelling_of, word_count, words_of}
use Rattle.definition.specs.Lists.{chunks, range}
use Rattle.definition.specs.Sheet.{Sheet, edition1, first_level, root_of_unity, sheet_of}
use Rattle.domain.specs.Powers.{Powers}
use Rattle.layouts.proofs.Lawful.{lawful}
use Rattle.layouts.specs.LawfulSheets.{Lawful}
use Rattle.layouts.specs.Levels.{sheet_field, sheet_root, words_for}
use Rattle.layouts.proofs.PlainSheet.{sheet_plain}
use Rattle.layouts.specs.Spellings.{count_add, count_least, words_read}
use Rattle.list_laws.specs.All.{All}
use Rattle.list_laws.specs.Lists.{by_number, get_d_map_range, rest_all}
use Rattle.spelling.specs.ByField.{elements_at, field_at, words_at}
use Rattle.spelling.specs.Points.{number_power}
use Rattle.spelling.specs.Words.{elements_drop, elements_many}
use Rattle.batch_reading.specs.Stages.{Ruled}

-- the words of half as many elements
half_words : (σ : Spelling) (d n : ℕ) → d + d ≤ n → word_count σ n ≤ 4096 → word_count σ d ≤ 2048
unfolding word_count
half_words one d n l k = omega arith
half_words four d n l k = omega arith

module _ (w : List ℕ) (ok : Ruled w) where
  abbrev field : ℕ
  field = get_or w 0 0

  abbrev σ : Spelling
  σ = spelling_of (get_or w 0 0)

  abbrev n₀ : ℕ
  n₀ = get_or w 1 0

  abbrev N : ℕ
  N = get_or w 12 0

  abbrev h : Sheet
  h = sheet_of edition1 w

  pub few_tables : (1 ≤ get_or w 12 0) × (get_or w 12 0 ≤ 8)
  few_tables = tables_few h N (drop 13 w) ok.rules

  pub sheet_there : 12 ≤ length w
  sheet_there = plain.enough w ok.sheet few_tables.0 ok.full

  law : Lawful (sheet_of edition1 w)
  law = lawful edition1 w sheet_there ok.sheet

  pub entries_small : get_or w 12 0 * get_or w 1 0 ≤ 8192
  unfolding sheet_of
  entries_small = omega (arith, entry_words_lem h.spelling (N * h.size) (entries_few h N (drop 13 w) ok.rules), count_least h.spelling (N * h.size))

  pub size_small : (get_or w 1 0 ≤ 4096) × (word_count (spelling_of (get_or w 0 0)) (get_or w 1 0) ≤ 4096)
  unfolding sheet_of
  size_small = (law.small, law.words)

  -- d0 is at most n0/2
  pub degree_small : (get_or w 2 0 ≤ 2048) × (word_count (spelling_of (get_or w 0 0)) (get_or w 2 0) ≤ 2048)
  degree_small =
      let l : get_or w 2 0 + get_or w 2 0 ≤ n₀ = omega (arith, (sheet_plain edition1 w ok.sheet).plain.degree_range.1) in
      (omega (arith, size_small.0), half_words σ (get_or w 2 0) n₀ l size_small.1)

  -- the words of the tables, of r and of fold coin 0 are there
  words_there : 13 + N + (word_count σ (N * n₀) + word_count σ 1) ≤ length w
  unfolding sheet_of
  words_there = omega (arith, plain.long w ok.sheet few_tables.0 ok.full, plain.at_is w ok.sheet few_tables.0 ok.full)

  pub tables_there : 13 + get_or w 12 0 ≤ length w
  tables_there = omega (arith, words_there)

  pub r_there : get_or w 12 0 * get_or w 1 0 < length (elements_at (get_or w 0 0) (drop (13 + get_or w 12 0) w))
  r_there =
      let more : N * n₀ + 1 ≤ length (elements_at field (drop (13 + N) w)) = plain.many σ (N * n₀ + 1) (drop (13 + N) w) (omega (arith, count_add σ (N * n₀) 1, length-drop (13 + N) w, words_there)) in
      omega arith

  bounds_long : length (take N (drop 13 w)) ≡ N
  bounds_long = length-take-le N (drop 13 w) (omega (arith, length-drop 13 w, words_there))

  -- what the combination asks
  pub combination_asks : {d : ℕ} {bounds tables l list multipliers out : List ℕ} → d ≡ get_or w 2 0 → bounds ≡ take (get_or w 12 0) (drop 13 w) → tables ≡ drop (13 + get_or w 12 0) w →
      Powers (get_or w 0 0) (root_of_unity (sheet_of edition1 w)) l → length l ≡ get_or w 1 0 → length list ≡ word_count (spelling_of (get_or w 0 0)) d →
      length out ≡ word_count (spelling_of (get_or w 0 0)) (get_or w 1 0) → length multipliers ≡ length out →
      ((Bounded d bounds) × (TablesFit (get_or w 0 0) bounds l tables)) × (Tabled (get_or w 0 0) d l list multipliers out)
  unfolding sheet_of
  combination_asks {d} {bounds} {tables} {l} {list} {multipliers} {out} ed eb et powers points places whole room =
      let all : All (λ b. (1 ≤ b) × (b ≤ get_or w 2 0)) (take N (drop 13 w)) = bounds_within h N (drop 13 w) ok.rules in
      let long : length bounds ≡ N = ap length eb ∙ bounds_long in (
        (
          record { each = subst (λ (k : ℕ). All (λ b. (1 ≤ b) × (b ≤ k)) bounds) (sym ed) (subst (All (λ b. (1 ≤ b) × (b ≤ get_or w 2 0))) (sym eb) all); few = omega (arith, long, few_tables.1) },
          rw (long, points, et) (let l : N * n₀ ≤ length (elements_at field (drop (13 + N) w)) = omega (arith, r_there) in l),
        ),
        record {
          root = root_of_unity h;
          powers = powers;
          halves = record { log = law.b; log_size = suc law.a; count_is = ed ∙ law.degree; size_is = points ∙ law.size; fits = omega (arith, law.below) };
          degree = elements_many σ d list places;
          room = room ∙ whole ∙ ap (words_at field) (sym points);
          whole = whole ∙ ap (words_at field) (sym points);
          small = omega (arith, whole, size_small.1);
        },
      )

  -- the places of r, and of the bounds, as the code cuts them from the words
  pub entries_of : {n : ℕ} → n ≡ get_or w 1 0 → get_or w 12 0 * n ≤ 8192
  entries_of e = rw e entries_small

  pub r_inside : {n : ℕ} → n ≡ get_or w 1 0 → get_or w 12 0 * n < length (elements_at (get_or w 0 0) (take (length w - (13 + get_or w 12 0)) (drop (13 + get_or w 12 0) w)))
  r_inside e = rw (e, rest_all (13 + N) w) r_there

  pub bounds_cut : take (13 + get_or w 12 0 - 13) (drop 13 w) ≡ take (get_or w 12 0) (drop 13 w)
  bounds_cut = ap (λ (k : ℕ). take k (drop 13 w)) (let e : 13 + N - 13 ≡ N = omega arith in e)

  -- what the shift asks
  pub shift_asked : (12 ≤ length w) × ((1 ≤ get_or w 12 0) × ((get_or w 12 0 ≤ 8) × (get_or w 12 0 * (sheet_of edition1 w).size ≤ most_entries (sheet_of edition1 w).spelling)))
  shift_asked = (sheet_there, (few_tables.0, (few_tables.1, entries_few h N (drop 13 w) ok.rules)))

  -- ---- the values

  abbrev F : Field (Element (sheet_of edition1 w).spelling)
  F = sheet_field (sheet_of edition1 w)

  abbrev τ : Spelling
  τ = (sheet_of edition1 w).spelling

  abbrev β : Batch (Element (sheet_of edition1 w).spelling)
  β = read_batch (sheet_of edition1 w).spelling (sheet_of edition1 w) (drop 12 w)

  number_there : get_or (drop 12 w) 0 0 ≡ N
  number_there = get_or-drop 12 w 0 0

  after_bounds : drop (suc (get_or (drop 12 w) 0 0)) (drop 12 w) ≡ drop (13 + N) w
  after_bounds = ap (λ (k : ℕ). drop (suc k) (drop 12 w)) number_there ∙ drop-drop (suc N) 12 w ∙ ap (λ (k : ℕ). drop k w) (let e : 12 + suc N ≡ 13 + N = omega arith in e)

  bounds_are : take N (drop 13 w) ≡ β.bounds
  unfolding read_batch
  bounds_are = sym (ap (λ (k : ℕ). take k (drop 1 (drop 12 w))) number_there ∙ ap (take N) (drop-drop 1 12 w))

  tables_are : chunks N h.size (elements_in τ (drop (13 + N) w)) ≡ β.tables
  unfolding read_batch
  tables_are = sym (λ i. chunks (number_there i) h.size (elements_in τ (after_bounds i)))

  r_is : get_or (elements_in τ (drop (13 + N) w)) (N * h.size) F.𝟘 ≡ β.combination
  unfolding read_batch
  r_is =
      let xs = elements_in τ (drop (13 + N) w) in
      ap (get_or xs (N * h.size)) (zero_in τ h.prime)
      ∙ ap (λ (k : ℕ). get_or xs k (number_in τ 0)) (sym (add-zero (N * h.size))) ∙ sym (get_or-drop (N * h.size) xs 0 (number_in τ 0))
      ∙ ap (λ (ys : List (Element (sheet_of edition1 w).spelling)). get_or ys 0 (number_in τ 0)) (sym (elements_drop τ (N * h.size) (drop (13 + N) w)))
      ∙ sym (λ i. get_or (elements_in τ (drop (word_count τ (number_there i * h.size)) (after_bounds i))) 0 (number_in τ 0))

  -- r as the code reads it
  pub r_given : {n : ℕ} → n ≡ get_or w 1 0 → get_or (elements_in (sheet_of edition1 w).spelling (take (length w - (13 + get_or w 12 0)) (drop (13 + get_or w 12 0) w))) (get_or w 12 0 * n) (sheet_field (sheet_of edition1 w)).𝟘
      ≡ get_or (elements_in (sheet_of edition1 w).spelling (drop (13 + get_or w 12 0) w)) (get_or w 12 0 * (sheet_of edition1 w).size) (sheet_field (sheet_of edition1 w)).𝟘
  unfolding sheet_of
  r_given e = λ i. get_or (elements_in τ (rest_all (13 + N) w i)) (N * e i) F.𝟘

  point_is : (l : List ℕ) → Powers (get_or w 0 0) (root_of_unity h) l → (j : ℕ) → j < length l → number_in τ (get_or l j 0) ≡ point F (sheet_root h) (first_level h) j
  unfolding sheet_of point first_level field_of prime_field
  point_is l powers j u =
      ap (number_in σ) (powers.entry j u) ∙ sym (number_power field (root_of_unity h) (1 + j)) ∙ ap (power (field_at field) (number_in σ (root_of_unity h))) (let e : 1 + j ≡ 1 + 2 ^ 0 * j = omega arith in e)

  abbrev given : ℕ → Element (sheet_of edition1 w).spelling → List ℕ → List ℕ → ℕ → ℕ → List ℕ → ℕ → Element (sheet_of edition1 w).spelling
  given d r bounds l c n v j = combine_at (sheet_field (sheet_of edition1 w)) d 0 r (number_in (sheet_of edition1 w).spelling (get_or l j 0)) bounds (map (λ t. get_or t j (sheet_field (sheet_of edition1 w)).𝟘) (chunks c n (elements_in (sheet_of edition1 w).spelling v)))

  -- the words written are those of the first function's values
  pub values_are : (d : ℕ) (r : Element (sheet_of edition1 w).spelling) (bounds tables l out₀ out : List ℕ) → d ≡ (sheet_of edition1 w).degree → bounds ≡ take (get_or w 12 0) (drop 13 w) → tables ≡ drop (13 + get_or w 12 0) w →
      r ≡ get_or (elements_in (sheet_of edition1 w).spelling (drop (13 + get_or w 12 0) w)) (get_or w 12 0 * (sheet_of edition1 w).size) (sheet_field (sheet_of edition1 w)).𝟘 →
      Powers (get_or w 0 0) (root_of_unity (sheet_of edition1 w)) l → length l ≡ (sheet_of edition1 w).size → length out₀ ≡ words_for (sheet_of edition1 w) (sheet_of edition1 w).size → length out ≡ length out₀ →
      elements_in (sheet_of edition1 w).spelling out ≡ map (λ j. combine_at (sheet_field (sheet_of edition1 w)) d 0 r (number_in (sheet_of edition1 w).spelling (get_or l j 0)) bounds (map (λ t. get_or t j (sheet_field (sheet_of edition1 w)).𝟘) (chunks (length bounds) (length (elements_in (sheet_of edition1 w).spelling out₀)) (elements_in (sheet_of edition1 w).spelling tables)))) (range 0 (length (elements_in (sheet_of edition1 w).spelling out₀))) →
      out ≡ words_of (sheet_of edition1 w).spelling (combined_table (sheet_of edition1 w) (read_batch (sheet_of edition1 w).spelling (sheet_of edition1 w) (drop 12 w)))
  unfolding combined_table batch_function first_level
  values_are d r bounds tables l out₀ out ed eb et er powers points whole same values =
      let many : length (elements_in τ out₀) ≡ h.size = elements_many τ h.size out₀ whole in
      let long : length bounds ≡ N = ap length eb ∙ bounds_long in
      sym (words_read τ h.size out (same ∙ whole))
      ∙ ap (words_of τ) (by_number F.𝟘 (elements_in τ out) (batch_function F (sheet_root h) (first_level h) β).value h.size (elements_many τ h.size out (same ∙ whole)) (λ j u.
      ap (λ (xs : List (Element (sheet_of edition1 w).spelling)). get_or xs j F.𝟘) values
      ∙ get_d_map_range (given d r bounds l (length bounds) (length (elements_in τ out₀)) tables) F.𝟘 0 (length (elements_in τ out₀)) j (omega (arith, u, many))
      ∙ ap (given d r bounds l (length bounds) (length (elements_in τ out₀)) tables) (zero-add j) ∙ (λ i. given d r bounds l (long i) (many i) (et i) j)
      ∙ (λ i. combine_at F (ed i) 0 ((er ∙ r_is) i) (point_is l powers j (omega (arith, u, points)) i) ((eb ∙ bounds_are) i) (map (λ t. get_or t j F.𝟘) (tables_are i)))))
