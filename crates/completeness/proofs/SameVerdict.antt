-- Two files that pass reading, with the same words outside the tables and the same table words where deciding uses them in the first, get one verdict.
use Prim.Native.Nat.{ℕ, zero, suc, ◌+◌, ◌-◌, ◌/◌, ◌≤◌, ◌<◌}
use Rattle.std.proofs.Math.Decide.{dec_lt}
use native.Mathlib.Omega.{arith}
use Rattle.std.specs.Prelude.{Bool, true, ◌≡◌, length, take, drop}
use Rattle.std.proofs.Math.Bool.{false, not, true≢false}
use mathlib.Core.List.{List, map}
use Rattle.std.proofs.Math.Option.{none}
use Rattle.std.proofs.Math.Path.{refl, sym, ap, subst}
use Rattle.std.proofs.Common.{◌∙◌, take-append-drop, ext_get_or, get_or-take, length-take-le}
use Rattle.std.proofs.Math.ListN.{get_or, length-drop}
use Rattle.definition.specs.Block.{stream_of}
use Rattle.definition.specs.Deciding.{counted, decide, deciding, equal_test, out_test, out_tests}
use Rattle.definition.specs.Field.{Element, Spelling, begun_by, elements_in, number_in}
use Rattle.definition.specs.Layout.{Kind, later_count, layout, message, out_layout, read_transcript, words_due}
use Rattle.definition.specs.Lists.{first_true}
use Rattle.definition.specs.Reading.{blocks_test, body_tests, check_test, length_test, reading, sheet_test, stream_tests}
use Rattle.definition.specs.Sheet.{Edition, Sheet, first_level, sheet_length, sheet_of, sheet_rules, test_order}
use Rattle.definition.specs.Verdict.{Outcome, Verdict, ◌then◌, accepted, refuse_at, refused, then_verdict}
use Rattle.definition.specs.Verify.{verify_in}
use Rattle.list_laws.specs.All.{at_place}
use Rattle.layouts.proofs.LayoutByRound.{starts_after, starts_grow}
use Rattle.layouts.specs.Levels.{element_at, level_of, out_coin_count, round_count, round_start, rounds_of, sheet_field, sheet_root, words_for}
use Rattle.layouts.specs.LawfulSheets.{Paired}
use Rattle.layouts.proofs.RulesByWord.{rules_counted, rules_length}
use Rattle.layouts.proofs.SheetLevels.{rules_back, sheet_front}
use Rattle.layouts.specs.Spellings.{at_drop, begun_at, begun_length, count_below, count_one}
use Rattle.layouts.specs.Tests.{all_false, if_passes, none_of, then_passes}
use Rattle.completeness.specs.DecidedByNumber.{decide_rounds}
use Rattle.completeness.proofs.Dependence.{Beside, decided_same}
use Rattle.completeness.specs.EqualOuts.{SameOuts, repeated_same}
use Rattle.completeness.specs.Faults.{BlocksFault, DomainFault, EqualFault, LengthFault, OutsPass, Part, PartDue, RuleFault, SameOutside, SameWhereUsed, combination, due_of, finals, fold, outs, part_element, part_elements, part_length, part_start, part_word, part_words, sheet_in, shifts, words}
use Rattle.completeness.specs.FrontOfStream.{inside_front}
use Rattle.completeness.specs.Numbered.{count_of, final, length_of, replies, start_of, table}
use Rattle.completeness.specs.PairsByNumber.{part_element_lem, part_length_lem, part_word_lem}
use Rattle.completeness.specs.PartsByNumber.{ends, every_word, outs_cases, outs_first, part_below, part_kind_lem, part_kind}
use Rattle.completeness.specs.Ready.{sheet_laws}
use Rattle.completeness.proofs.VerifyExactly

-- what reading's acceptance leaves: a sheet without a fault, and all words due
pub record Ordered (ed : Edition) (w : List ℕ) : Type 0 where
  pub sheet : sheet_test ed w ≡ accepted
  pub long : Paired (sheet_of ed w)
  pub full : due_of ed (sheet_of ed w) ≤ length w
  pub kinds : sheet_length ed + length (layout (sheet_of ed w)) ≡ due_of ed (sheet_of ed w)

module _ (ed : Edition) (file : List ℕ) (passed : reading ed file ≡ accepted) where
  whole : (q : ℕ) → LengthFault file q → ⊥
  unfolding reading length_test
  whole q p = true≢false (sym (VerifyExactly.length_complete ed file q p).1 ∙ if_passes 1 0 _ (then_passes (length_test file) _ passed).0)

  sheet_passed : (sheet_test ed (stream_of file) ≡ accepted) × (blocks_test (words_due ed (sheet_in ed file)) (length file / 512) ≡ accepted)
  unfolding reading stream_tests body_tests words_due
  sheet_passed =
      let a = then_passes (check_test file) _ (then_passes (length_test file) _ passed).1 in
      let b = then_passes (sheet_test ed (stream_of file)) _ a.1 in
      (b.0, (then_passes (blocks_test (words_due ed (sheet_in ed file)) (length file / 512)) _ b.1).0)

  ruled : (q : ℕ) → RuleFault ed (stream_of file) q → ⊥
  unfolding sheet_test
  ruled q p =
      let c = VerifyExactly.rule_complete ed (stream_of file) q p in
      let bs = map not (sheet_rules ed (stream_of file)) in
      true≢false (sym c.3 ∙ at_place (λ (b : Bool). b ≡ false) bs false (none_of 3 (test_order ed) bs (omega (arith, rules_length ed (stream_of file), rules_counted ed)) sheet_passed.0) c.0 c.2)

  all_blocks : (q : ℕ) → BlocksFault ed file q → ⊥
  unfolding blocks_test
  all_blocks q p = true≢false (sym (VerifyExactly.blocks_complete ed file whole ruled q p).1 ∙ if_passes 4 _ _ sheet_passed.1)

  pub ordered : Ordered ed (stream_of file)
  ordered = record {
    sheet = sheet_passed.0;
    long = VerifyExactly.long ed file whole ruled;
    full = VerifyExactly.all_due ed file whole ruled all_blocks;
    kinds = VerifyExactly.kinds_length ed file whole ruled all_blocks;
  }

  -- no fault 7 and no fault 14, where their tests pass
  no_faults : (n : ℕ) (bs : List Bool) (P : ℕ → Type 0) → refuse_at n (first_true (sheet_length ed) bs) ≡ accepted →
      ((q : ℕ) → P q → (j : ℕ) × (q ≡ sheet_length ed + j) × (j < length bs) × (get_or bs j false ≡ true)) → (q : ℕ) → P q → ⊥
  no_faults n bs P e complete q p =
      let c = complete q p in
      true≢false (sym c.3 ∙ at_place (λ (b : Bool). b ≡ false) bs false (all_false n (sheet_length ed) bs e) c.0 c.2)

  pub outside : out_tests (sheet_in ed file) (sheet_length ed) (layout (sheet_in ed file)) (stream_of file) ≡ accepted → OutsPass ed (sheet_in ed file) (stream_of file)
  unfolding out_tests out_test equal_test
  outside e =
      let p = then_passes _ _ e in (
        no_faults 7 _ (DomainFault ed (sheet_in ed file) (stream_of file)) p.0 (VerifyExactly.domain_complete ed file whole ruled all_blocks),
        no_faults 14 _ (EqualFault ed (sheet_in ed file) (stream_of file)) p.1 (VerifyExactly.equal_complete ed file whole ruled all_blocks),
      )

-- a part that is no table
abbrev NoTable : Part → Type 0
NoTable (words (table i)) = ⊥
NoTable (words (replies i)) = Unit {0}
NoTable (words final) = Unit {0}
NoTable (outs i) = Unit {0}
NoTable (combination i) = Unit {0}
NoTable (fold i) = Unit {0}
NoTable (shifts i) = Unit {0}
NoTable finals = Unit {0}

module _ (ed : Edition) (h : Sheet) where
  table_ends : (i : ℕ) → round_start ed h i + words_for h (level_of h i).size ≤ round_start ed h (suc i)
  unfolding round_start round_count
  table_ends zero = omega arith
  table_ends (suc i) = omega arith

  round_ends : (i : ℕ) → round_start ed h (suc i) ≡ round_start ed h i + round_count h i
  unfolding round_start
  round_ends i = refl

  ordered_starts : (i j : ℕ) → i ≤ j → round_start ed h i ≤ round_start ed h j
  ordered_starts i j l = let e : i + (j - i) ≡ j = omega arith in rw e at (starts_grow ed h i (j - i))

  -- the words of a round after its table are in no table
  past_table : (i y : ℕ) → words_for h (level_of h i).size ≤ y → y < round_count h i → (k m : ℕ) → m < words_for h (level_of h k).size → round_start ed h i + y ≡ round_start ed h k + m → ⊥
  past_table i y l u k m g e = go (dec_lt k i) (dec_lt i k)
    where
      go : Dec (k < i) → Dec (i < k) → ⊥
      go (yes a) b = omega (arith, table_ends k, ordered_starts (suc k) i a)
      go (no a) (yes b) = omega (arith, round_ends i, ordered_starts (suc i) k b)
      go (no a) (no b) = let q : k ≡ i = omega arith in omega (arith, ap (λ (n : ℕ). round_start ed h n) q, ap (λ (n : ℕ). words_for h (level_of h n).size) q)

  off_tables : (x : Part) → PartDue h x → NoTable x → (j : ℕ) → j < part_length h x → (k m : ℕ) → k ≤ rounds_of h → m < length_of h (table k) → part_start ed h x + j ≡ start_of ed h (table k) + m → ⊥
  unfolding part_start part_length start_of count_of round_count later_count
  off_tables (words (table i)) d t j l k m u g e = t
  off_tables (words (replies zero)) d t j l k m u g e = omega (arith, d.0)
  off_tables (words (replies (suc i))) d t j l k m u g e =
      let n = (level_of h (suc i)).size in
      let c = ends ed h n in
      past_table (suc i) (words_for h (n + out_coin_count h) + j) (omega (arith, c)) (omega (arith, c)) k m g (omega arith)
  off_tables (words final) d t j l k m u g e = omega (arith, table_ends k, ordered_starts (suc k) (suc (rounds_of h)) (omega arith))
  off_tables (outs i) d t j l k m u g e = past_table (suc i) (words_for h (level_of h (suc i)).size + j) (omega arith) (omega arith) k m g (omega arith)
  off_tables (combination i) d t j l k m u g e =
      let n = (level_of h (suc i)).size in
      let c = ends ed h n in
      past_table (suc i) (words_for h (n + (out_coin_count h + out_coin_count h)) + j) (omega (arith, c)) (omega (arith, c)) k m g (omega arith)
  off_tables (fold zero) d t j l k m u g e = past_table 0 (words_for h (level_of h 0).size + j) (omega arith) (omega arith) k m g (omega arith)
  off_tables (fold (suc i)) d t j l k m u g e =
      let n = (level_of h (suc i)).size in
      let c = ends ed h n in
      past_table (suc i) (words_for h (n + (out_coin_count h + (out_coin_count h + 1))) + j) (omega (arith, c)) (omega (arith, c)) k m g (omega arith)
  off_tables (shifts i) d t j l k m u g e =
      let n = (level_of h (suc i)).size in
      let c = ends ed h n in
      past_table (suc i) (words_for h (n + (out_coin_count h + (out_coin_count h + 2))) + j) (omega (arith, c)) (omega (arith, c)) k m g (omega arith)
  off_tables finals d t j l k m u g e = omega (arith, table_ends k, ordered_starts (suc k) (suc (rounds_of h)) (omega arith))

module _ (ed : Edition) (v w : List ℕ) (ov : Ordered ed v) (ow : Ordered ed w) (same : SameOutside ed (sheet_of ed v) v w) where
  abbrev h : Sheet
  h = sheet_of ed v

  abbrev n₀ : ℕ
  n₀ = sheet_length ed

  -- the words of the sheets
  sheet_word : (n : ℕ) → n < n₀ → get_or v n 0 ≡ get_or w n 0
  unfolding start_of
  sheet_word n l = same n (λ i j u g e. omega (arith, starts_after ed h i))

  long_v : length (take n₀ v) ≡ n₀
  long_v = length-take-le n₀ v (omega (arith, ov.full, ov.kinds))

  long_w : length (take n₀ w) ≡ n₀
  long_w = length-take-le n₀ w (omega (arith, ow.full, ow.kinds))

  front_same : take n₀ v ≡ take n₀ w
  front_same = ext_get_or 0 (take n₀ v) (take n₀ w) (long_v ∙ sym long_w)
      (λ i l. let u : i < n₀ = omega (arith, long_v) in get_or-take n₀ v i 0 u ∙ sheet_word i u ∙ sym (get_or-take n₀ w i 0 u))

  -- a sheet is that of its own words
  sheet_of_front : (u : List ℕ) → length (take n₀ u) ≡ n₀ → sheet_test ed u ≡ accepted → sheet_of ed u ≡ sheet_of ed (take n₀ u)
  sheet_of_front u long passed =
      ap (sheet_of ed) (sym (take-append-drop n₀ u)) ∙ sheet_front ed (take n₀ u) long (rules_back ed (take n₀ u) long (drop n₀ u) (ap (sheet_test ed) (take-append-drop n₀ u) ∙ passed)) (drop n₀ u)

  pub sheet_same : sheet_of ed v ≡ sheet_of ed w
  sheet_same = sheet_of_front v long_v ov.sheet ∙ ap (sheet_of ed) front_same ∙ sym (sheet_of_front w long_w ow.sheet)

  full_w : due_of ed h ≤ length w
  full_w = subst (λ (g : Sheet). due_of ed g ≤ length w) (sym sheet_same) ow.full

  word_same : (x : Part) → PartDue h x → NoTable x → (j : ℕ) → j < part_length h x → part_word ed h v x j ≡ part_word ed h w x j
  word_same x d t j l = same (part_start ed h x + j) (λ k m u g e. off_tables ed h x d t j l k m u g e)

  part_same : (x : Part) → PartDue h x → NoTable x → part_words ed h v x ≡ part_words ed h w x
  part_same x d t =
      let p = part_length_lem ed h v ov.full x d in
      ext_get_or 0 (part_words ed h v x) (part_words ed h w x) (p ∙ sym (part_length_lem ed h w full_w x d))
      (λ j l. let u : j < part_length h x = omega (arith, p) in part_word_lem ed h v ov.full x j u ∙ word_same x d t j u ∙ sym (part_word_lem ed h w full_w x j u))

  elements_same : (x : Part) → PartDue h x → NoTable x → part_elements ed h v x ≡ part_elements ed h w x
  elements_same x d t = ap (elements_in (sheet_of ed v).spelling) (part_same x d t)

  -- the first element of a part of one
  one_element : (x : Part) → PartDue h x → NoTable x → part_length h x ≡ words_for h 1 → part_element ed h v x 0 ≡ part_element ed h w x 0
  one_element x d t e =
      sym (part_element_lem ed h v ov.full x 0 1 e (omega arith))
      ∙ ap (λ (xs : List (Element (sheet_of ed v).spelling)). get_or xs 0 (number_in (sheet_of ed v).spelling 0)) (elements_same x d t) ∙ part_element_lem ed h w full_w x 0 1 e (omega arith)

  pub beside : Beside ed (sheet_of ed v) v w
  unfolding part_length
  beside = record {
    outs_same = λ i l. elements_same (outs i) l tt;
    replies_same = λ i l. elements_same (words (replies (suc i))) (omega arith, l) tt;
    combination_same = λ i l. one_element (combination i) l tt refl;
    fold_same_case = λ i l. one_element (fold i) l tt refl;
    shifts_same = λ i l. part_same (shifts i) l tt;
    final_same = elements_same (words final) tt tt;
    finals_same = part_same finals tt tt;
  }

  -- the tests of out coins see no table
  abbrev ks : List Kind
  ks = layout (sheet_of ed v)

  enough : (length ks ≤ length (drop n₀ v)) × (length ks ≤ length (drop n₀ w))
  enough = (omega (arith, length-drop n₀ v, ov.full, ov.kinds), omega (arith, length-drop n₀ w, full_w, ov.kinds))

  abbrev σ : Spelling
  σ = (sheet_of ed v).spelling

  abbrev begun_v : List (Element (sheet_of ed v).spelling)
  begun_v = begun_by (sheet_of ed v).spelling (drop (sheet_length ed) v)

  abbrev begun_w : List (Element (sheet_of ed v).spelling)
  begun_w = begun_by (sheet_of ed v).spelling (drop (sheet_length ed) w)

  many : (length ks ≤ length begun_v) × (length ks ≤ length begun_w)
  many = (omega (arith, enough.0, begun_length σ (drop n₀ v)), omega (arith, enough.1, begun_length σ (drop n₀ w)))

  -- an out coin of a round, at its first word
  coin_same : (k m j : ℕ) → k < rounds_of h → m < out_coin_count h → n₀ + j ≡ part_start ed h (outs k) + words_for h m → get_or begun_v j (number_in σ 0) ≡ get_or begun_w j (number_in σ 0)
  unfolding part_length
  coin_same k m j d u s =
      let n = count_below σ m (out_coin_count h) u in
      let o = (count_one σ).0 in
      let last : words_for h m + (words_for h 1 - 1) < words_for h (out_coin_count h) = omega (arith, n, o) in
      let p = part_below ed h (outs k) d (words_for h m + (words_for h 1 - 1)) last in
      let here = sym (part_element_lem ed h v ov.full (outs k) m (out_coin_count h) refl u)
      ∙ ap (λ (xs : List (Element (sheet_of ed v).spelling)). get_or xs m (number_in σ 0)) (elements_same (outs k) d tt) ∙ part_element_lem ed h w full_w (outs k) m (out_coin_count h) refl u in
      begun_at σ (drop n₀ v) j (omega (arith, s, p.1, ov.full, length-drop n₀ v, o)) ∙ at_drop σ v n₀ j ∙ ap (element_at σ v) s ∙ here
      ∙ sym (begun_at σ (drop n₀ w) j (omega (arith, s, p.1, full_w, length-drop n₀ w, o)) ∙ at_drop σ w n₀ j ∙ ap (element_at σ w) s)

  by_part : (j : ℕ) (x : Part) → PartDue h x → (i : ℕ) → i < part_length h x → n₀ + j ≡ part_start ed h x + i → SameOuts (part_kind h x i) (get_or begun_v j (number_in σ 0)) (get_or begun_w j (number_in σ 0))
  unfolding part_kind part_length
  by_part j (words m) d i l e = tt
  by_part j (outs k) d i l e =
      let o = out_layout σ (out_coin_count h) (level_of h (suc k)) in
      outs_cases σ (out_coin_count h) (level_of h (suc k)) i l
      (λ m u q. let s : n₀ + j ≡ part_start ed h (outs k) + words_for h m = omega (arith, e, q) in
      subst (λ (t : Kind). SameOuts t (get_or begun_v j (number_in σ 0)) (get_or begun_w j (number_in σ 0))) (sym (ap (λ (n : ℕ). get_or o n message) q ∙ outs_first σ (out_coin_count h) (level_of h (suc k)) m u)) (coin_same k m j d u s))
      (λ c. subst (λ (t : Kind). SameOuts t (get_or begun_v j (number_in σ 0)) (get_or begun_w j (number_in σ 0))) (sym c) tt)
  by_part j (combination k) d i l e = tt
  by_part j (fold k) d i l e = tt
  by_part j (shifts k) d i l e = tt
  by_part j finals d i l e = tt

  outs_same_lem : (j : ℕ) → j < length ks → SameOuts (get_or ks j message) (get_or begun_v j (number_in σ 0)) (get_or begun_w j (number_in σ 0))
  outs_same_lem j l =
      let p = every_word ed h (n₀ + j) (omega arith) (omega (arith, ov.kinds)) in
      let k = part_kind_lem ed h ov.long p.0 p.1 p.2.0 p.2.1 j p.2.2 in
      rw k (by_part j p.0 p.1 p.2.0 p.2.1 p.2.2)

  pub out_same : out_tests (sheet_of ed v) (sheet_length ed) (layout (sheet_of ed v)) v ≡ out_tests (sheet_of ed v) (sheet_length ed) (layout (sheet_of ed v)) w
  unfolding out_tests out_test equal_test
  out_same = λ i. refuse_at 7 (first_true n₀ (inside_front σ h (number_in σ 0) ks begun_v begun_w many.0 many.1 outs_same_lem i))
      then refuse_at 14 (first_true n₀ (repeated_same (sheet_field h) (number_in σ 0) none ks begun_v begun_w many.0 many.1 outs_same_lem i))

then_same : (o : Outcome) (a b : Verdict) → (o ≡ accepted → a ≡ b) → then_verdict o a ≡ then_verdict o b
unfolding then_verdict
then_same accepted a b h = h refl
then_same (refused n q) a b h = refl

-- deciding's verdict on a stream, by its sheet
decided_by : Edition → List ℕ → Sheet → Verdict
decided_by ed w h = then_verdict (out_tests h (sheet_length ed) (layout h) w) (counted (decide (sheet_field h) (sheet_root h) (first_level h) (read_transcript h.spelling h (drop (sheet_length ed) w))))

-- Dependence: the verdicts are equal, outcome and reads.
pub dependence : (ed : Edition) (x y : List ℕ) → reading ed x ≡ accepted → reading ed y ≡ accepted → SameOutside ed (sheet_in ed x) (stream_of x) (stream_of y) →
    SameWhereUsed ed (sheet_in ed x) (stream_of x) (stream_of y) → verify_in ed x ≡ verify_in ed y
unfolding verify_in deciding decided_by
dependence ed x y rx ry same used =
    let v = stream_of x in
    let w = stream_of y in
    let h = sheet_in ed x in
    let ov = ordered ed x rx in
    let ow = ordered ed y ry in
    (λ t. then_verdict ((rx ∙ sym ry) t) (deciding ed v))
    ∙ ap (then_verdict (reading ed y)) (then_same (out_tests h (sheet_length ed) (layout h) v) _ _ (λ e.
    ap counted (decide_rounds ed h v ov.long ∙ decided_same ed h (sheet_laws ed v) v w (beside ed v w ov ow same) ov.full used (outside ed x rx e) ∙ sym (decide_rounds ed h w ov.long)))
    ∙ ap (λ (o : Outcome). then_verdict o (counted (decide (sheet_field h) (sheet_root h) (first_level h) (read_transcript h.spelling h (drop (sheet_length ed) w))))) (out_same ed v w ov ow same)
    ∙ ap (decided_by ed w) (sheet_same ed v w ov ow same))
