-- The parts of a batch's stream are the words after its bounds, all of them, each with the kind that the batch's layout has there.
use Rattle.std.specs.Prelude.{ℕ, zero, suc, ◌+◌, ◌-◌, ◌*◌, ◌≤◌, ◌<◌, Bool, ◌≡◌, drop}
use Rattle.std.proofs.Math.Decide.{dec_lt}
use native.Mathlib.Omega.{arith}
use Rattle.std.proofs.Math.Bool.{true, false}
use mathlib.Core.List.{List, ◌++◌, append_assoc, zip_with}
use Rattle.std.proofs.Math.Path.{sym, ap}
use Rattle.std.proofs.Common.{◌∙◌, get_or-drop}
use Rattle.std.proofs.Math.Dec.{leb}
use Rattle.std.proofs.Math.ListN.{length, get_or, replicate, length-drop}
use borrow.Author.Tests.{le-leb, leb-true}
use Rattle.batch_definition.specs.Batch.{batch_layout, batch_start, batch_words}
use Rattle.definition.specs.Layout.{Kind, coin, layout, limit, message, rest_layout}
use Rattle.definition.specs.Reading.{out_of_range, sheet_test}
use Rattle.definition.specs.Sheet.{Sheet, edition1, first_level, later_levels, sheet_of}
use Rattle.definition.specs.Verdict.{accepted}
use Rattle.list_laws.specs.Lists.{get_d_after_run, get_d_run}
use Rattle.layouts.proofs.LayoutByRound.{starts_grow}
use Rattle.layouts.proofs.Lawful.{lawful}
use Rattle.layouts.specs.LawfulSheets.{Lawful, Paired}
use Rattle.layouts.specs.Levels.{level_of, round_count, round_start, rounds_of, words_for}
use Rattle.layouts.proofs.LevelsByNumber.{level_first}
use Rattle.layouts.specs.Spellings.{count_add, count_one}
use Rattle.completeness.specs.Faults.{Part, PartDue, combination, finals, fold, outs, part_length, part_limit, part_start, shifts, words}
use Rattle.completeness.specs.Numbered.{count_of, final, replies, start_of, table}
use Rattle.completeness.specs.PartsByNumber.{due_is, every_word, part_below, part_kind_lem}
use Rattle.completeness.specs.TestsByNumber.{zip_at, zip_length}
use Rattle.completeness.proofs.VerifyExactly.{kind_limit}
use Rattle.batches.proofs.AllowedBatches.{runs}
use Rattle.batches.specs.Batched.{higher_by}
use Rattle.batches.proofs.PlainStream.{at_is, enough, higher_is, words_higher}
use Rattle.batch_refusals.specs.BatchFaults.{BatchRangeFault, batch_due, batch_part_length, batch_part_limit, batch_part_start, joint, run, tables}
use Rattle.batch_refusals.specs.DecidedFaults.{Finds}

-- ---- the kinds

module _ (h : Sheet) (count : ℕ) where
  abbrev m : ℕ
  m = words_for h (count * h.size)

  abbrev n : ℕ
  n = words_for h h.size

  abbrev o : ℕ
  o = words_for h 1

  abbrev rest : List Kind
  rest = rest_layout h.spelling h.out_coins (first_level h) (later_levels h)

  table_kind : (j : ℕ) → j < words_for h (count * h.size) → get_or (batch_layout h count) j message ≡ message
  unfolding batch_layout
  table_kind j l = get_d_run message m message (replicate (words_for h 2) coin ++ rest) j l

  joint_kind : (j : ℕ) → j < words_for h 1 → get_or (batch_layout h count) (words_for h (count * h.size) + j) message ≡ coin
  unfolding batch_layout
  joint_kind j l =
      get_d_after_run message m message (replicate (words_for h 2) coin ++ rest) j ∙ get_d_run message (words_for h 2) coin rest j (omega (arith, count_add h.spelling 1 1))

  -- from fold coin 0 on the kinds are those of a plain stream
  run_kind : (z : ℕ) → get_or (batch_layout h count) (words_for h (count * h.size) + (words_for h 1 + z)) message ≡ get_or (layout h) (words_for h h.size + z) message
  unfolding batch_layout layout
  run_kind z =
      get_d_after_run message m message (replicate (words_for h 2) coin ++ rest) (o + z)
      ∙ ap (λ (ks : List Kind). get_or (ks ++ rest) (o + z) message) (ap (λ (k : ℕ). replicate k coin) (count_add h.spelling 1 1) ∙ runs o o coin)
      ∙ ap (λ (ks : List Kind). get_or ks (o + z) message) (append_assoc (replicate o coin) (replicate o coin) rest)
      ∙ get_d_after_run message o coin (replicate o coin ++ rest) z
      ∙ sym (get_d_after_run message n message (replicate o coin ++ rest) z)

-- ---- where the parts of a plain stream stand

first_size : (h : Sheet) → (level_of h 0).size ≡ h.size
unfolding first_level
first_size h = sym (λ i. (level_first h i).size)

-- the number of fold coin 0
pub fold_start : (h : Sheet) → part_start edition1 h (fold 0) ≡ 12 + words_for h h.size
unfolding part_start round_start
fold_start h = ap (λ (k : ℕ). 12 + words_for h k) (first_size h)

-- round i + 1 begins after it
round_after : (h : Sheet) (i : ℕ) → part_start edition1 h (fold 0) ≤ round_start edition1 h (suc i)
unfolding part_start round_start round_count
round_after h i =
    let e : 1 + i ≡ suc i = omega arith in
    let g : round_start edition1 h 1 ≤ round_start edition1 h (suc i) = rw e at (starts_grow edition1 h 1 i) in
    omega (arith, g)

pub outs_after : (h : Sheet) (i : ℕ) → part_start edition1 h (fold 0) ≤ part_start edition1 h (outs i)
unfolding part_start round_start
outs_after h i = omega (arith, round_after h i)

-- a due part with a word from there on stands there or later
pub part_after : (h : Sheet) (x : Part) → PartDue h x → (j : ℕ) → j < part_length h x → part_start edition1 h (fold 0) ≤ part_start edition1 h x + j → part_start edition1 h (fold 0) ≤ part_start edition1 h x
unfolding part_start part_length start_of count_of round_start
part_after h (words (table zero)) d j l u = absurd (omega arith)
part_after h (words (table (suc i))) d j l u = round_after h i
part_after h (words (replies zero)) d j l u = absurd (omega (arith, d.0))
part_after h (words (replies (suc i))) d j l u = omega (arith, round_after h i)
part_after h (words final) d j l u = round_after h (rounds_of h)
part_after h (outs i) d j l u = omega (arith, round_after h i)
part_after h (combination i) d j l u = omega (arith, round_after h i)
part_after h (fold zero) d j l u = omega arith
part_after h (fold (suc i)) d j l u = omega (arith, round_after h i)
part_after h (shifts i) d j l u = omega (arith, round_after h i)
part_after h finals d j l u = omega (arith, round_after h (rounds_of h))

-- the words due
pub batch_words_lem : (h : Sheet) → Paired h → (count : ℕ) → 1 ≤ count → batch_words h count ≡ batch_due h count
batch_words_lem h long count some = words_higher h count some ∙ ap (λ (k : ℕ). k + higher_by h count) (due_is edition1 h long)

-- ---- 5

module _ (w : List ℕ) (passed : sheet_test edition1 w ≡ accepted) (some : 1 ≤ get_or w 12 0) (full : batch_words (sheet_of edition1 w) (get_or w 12 0) ≤ length w) where
  abbrev g : Sheet
  g = sheet_of edition1 w

  abbrev N : ℕ
  N = get_or w 12 0

  abbrev K : ℕ
  K = higher_by (sheet_of edition1 w) (get_or w 12 0)

  abbrev kinds : List Kind
  kinds = batch_layout (sheet_of edition1 w) (get_or w 12 0)

  pub law : Lawful (sheet_of edition1 w)
  law = lawful edition1 w (enough w passed some full) passed

  -- the number of fold coin 0
  pub fold_number_lem : 12 + words_for (sheet_of edition1 w) (sheet_of edition1 w).size + higher_by (sheet_of edition1 w) (get_or w 12 0)
      ≡ batch_start (get_or w 12 0) + (words_for (sheet_of edition1 w) (get_or w 12 0 * (sheet_of edition1 w).size) + words_for (sheet_of edition1 w) 1)
  fold_number_lem = omega (arith, higher_is w passed some full, at_is w passed some full)

  kinds_due : batch_start N + length kinds ≡ batch_due g N
  unfolding batch_words
  kinds_due = batch_words_lem g law.paired N some

  abbrev ranges : List Bool
  ranges = zip_with (out_of_range (sheet_of edition1 w)) (batch_layout (sheet_of edition1 w) (get_or w 12 0)) (drop (batch_start (get_or w 12 0)) w)

  there : length kinds ≤ length (drop (batch_start N) w)
  unfolding batch_words
  there = omega (arith, full, length-drop (batch_start N) w)

  ranges_length : length ranges ≡ length kinds
  ranges_length = zip_length (out_of_range g) message 0 kinds (drop (batch_start N) w) there

  -- a word of a kind with a limit
  range_at : (j a : ℕ) → j < length kinds → limit g.prime (get_or kinds j message) ≡ a → get_or ranges j false ≡ leb a (get_or w (batch_start N + j) 0)
  unfolding out_of_range
  range_at j a l e =
      zip_at (out_of_range g) message 0 kinds (drop (batch_start N) w) j l there ∙ (λ i. leb (e i) (get_or-drop (batch_start N) w j 0 i))

  -- tables and r are among them
  room : m g N + o g N ≤ length kinds
  unfolding part_length
  room = omega (arith, kinds_due, fold_number_lem, fold_start g, part_below edition1 g (fold 0) (omega arith) 0 (omega (arith, (count_one g.spelling).0)))

  table_limit : (j : ℕ) → j < m g N → limit g.prime (get_or kinds j message) ≡ g.prime
  unfolding limit
  table_limit j l = ap (limit g.prime) (table_kind g N j l)

  joint_limit : (j : ℕ) → j < o g N → limit g.prime (get_or kinds (m g N + j) message) ≡ g.prime
  unfolding limit
  joint_limit j l = ap (limit g.prime) (joint_kind g N j l)

  run_limit : (x : Part) → PartDue g x → (j z : ℕ) → j < part_length g x → 12 + (n g N + z) ≡ part_start edition1 g x + j → limit g.prime (get_or kinds (m g N + (o g N + z)) message) ≡ part_limit g x
  run_limit x d j z l e = ap (limit g.prime) (run_kind g N z ∙ part_kind_lem edition1 g law.paired x d j l (n g N + z) e) ∙ kind_limit g x j l

  pub range_finds : Finds (BatchRangeFault (sheet_of edition1 w) (get_or w 12 0) w) (batch_start (get_or w 12 0)) ranges
  unfolding batch_part_start batch_part_length batch_part_limit
  range_finds = (λ j l e. sound j (omega (arith, ranges_length)) e (dec_lt j (m g N)) (dec_lt j (m g N + o g N)), complete)
    where
      sound : (j : ℕ) → j < length kinds → get_or ranges j false ≡ true → Dec (j < m g N) → Dec (j < m g N + o g N) → BatchRangeFault g N w (batch_start N + j)
      sound j l e (yes u) v = (tables, tt, (j, u, omega arith, leb-true _ _ (sym (range_at j g.prime l (table_limit j u)) ∙ e)))
      sound j l e (no u) (yes v) =
          let i = j - m g N in
          let s : j ≡ m g N + i = omega arith in
          let b : i < o g N = omega arith in
          (joint, tt, (i, b, omega (arith, s), leb-true _ _ (sym (range_at j g.prime l (ap (λ (k : ℕ). limit g.prime (get_or kinds k message)) s ∙ joint_limit i b)) ∙ e)))
      sound j l e (no u) (no v) =
          let z = j - (m g N + o g N) in
          let s : j ≡ m g N + (o g N + z) = omega arith in
          let p = every_word edition1 g (12 + (n g N + z)) (omega arith) (omega (arith, kinds_due, fold_number_lem)) in
          let x = p.0 in
          let i = p.2.0 in
          let a = part_after g x p.1 i p.2.1 (omega (arith, p.2.2, fold_start g)) in (
            run x,
            (p.1, a),
            (
              i,
              p.2.1,
              omega (arith, s, p.2.2, fold_number_lem),
              leb-true _ _ (sym (range_at j (part_limit g x) l (ap (λ (k : ℕ). limit g.prime (get_or kinds k message)) s ∙ run_limit x p.1 i z p.2.1 p.2.2)) ∙ e),
            ),
          )

      found : (j a q : ℕ) → j < length kinds → q ≡ batch_start N + j → limit g.prime (get_or kinds j message) ≡ a → a ≤ get_or w q 0 → (j : ℕ) × (q ≡ batch_start N + j) × (j < length ranges) × (get_or ranges j false ≡ true)
      found j a q l s e k = (j, s, omega (arith, ranges_length), range_at j a l e ∙ le-leb a (get_or w (batch_start N + j) 0) (let t : get_or w q 0 ≡ get_or w (batch_start N + j) 0 = ap (λ (i : ℕ). get_or w i 0) s in omega (arith, t)))

      complete : (q : ℕ) → BatchRangeFault g N w q → (j : ℕ) × (q ≡ batch_start N + j) × (j < length ranges) × (get_or ranges j false ≡ true)
      complete q (tables, d, (j, l, s, k)) = found j g.prime q (omega (arith, l, room)) s (table_limit j l) k
      complete q (joint, d, (j, l, s, k)) = found (m g N + j) g.prime q (omega (arith, l, room)) (omega (arith, s)) (joint_limit j l) k
      complete q (run x, d, (j, l, s, k)) =
          let z = part_start edition1 g x + j - (12 + n g N) in
          let b = part_below edition1 g x d.0 j l in
          let e : 12 + (n g N + z) ≡ part_start edition1 g x + j = omega (arith, d.1, fold_start g) in
          found (m g N + (o g N + z)) (part_limit g x) q (omega (arith, b, e, kinds_due, fold_number_lem)) (omega (arith, s, e, fold_number_lem)) (run_limit x d.0 j z l e) k
