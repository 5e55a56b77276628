-- Where round 1's shift indices stand in a plain stream, and how many reads they make in one table. Assumes nothing.
use Prim.Native.Nat.{ℕ, suc, ◌+◌, ◌-◌, ◌*◌, ◌/◌, ◌≤◌, ◌<◌}
use native.Mathlib.Nat.{div-mul-le_self, mul-le-mul_left}
use native.Mathlib.Omega.{arith}
use mathlib.Core.List.{List}
use mathlib.Core.Path.{◌≡◌, refl, sym, ap, ◌∙◌, subst}
use lib.Dec.{eqb}
use lib.ListN.{length, get_or, take, drop}
use lib.Seq.{get_or-take}
use borrow.Author.Tests.{eq-eqb, ne_eqb}
use Rattle.definition.specs.Field.{spelling_of, word_count}
use Rattle.definition.specs.Lists.{different}
use Rattle.definition.specs.Sheet.{Sheet, edition1, fold_places, fold_words, sheet_of, shift_count}
use Rattle.list_laws.specs.All.{All, all_map}
use Rattle.layouts.proofs.Lawful.{lawful, rounds_word, times_word}
use Rattle.layouts.specs.LawfulSheets.{Lawful}
use Rattle.layouts.specs.Levels.{level_of, round_count, round_start, rounds_of}
use Rattle.layouts.proofs.LevelsByNumber.{undivided}
use Rattle.layouts.specs.PlainRules.{PlainSheet}
use Rattle.layouts.proofs.PlainSheet.{sheet_plain}
use Rattle.layouts.specs.Spellings.{count_add}
use Rattle.completeness.specs.Faults.{part_length, part_start, part_words, shifts}
use Rattle.completeness.specs.Numbered.{level_reads}
use Rattle.completeness.specs.PartsByNumber.{part_below}
use Rattle.batches.specs.FirstIndices.{enough, indices_below}
use Rattle.level_words.specs.Reads.{reads_most}
use Rattle.batch_verify.specs.ByPlain.{Handed, all_reads, first_reads}
use Rattle.batch_verify.proofs.DecidedSizes.{part_few, sheet_there}

half_most : (n k : ℕ) → n ≤ 4096 → 2 ≤ k → n / k ≤ 2048
half_most n k small large = omega (arith, div-mul-le_self n k, mul-le-mul_left (n / k) large)

module _ (w : List ℕ) (ready : Handed w) where
  abbrev h : Sheet
  h = sheet_of edition1 w

  long : 12 ≤ length w
  long = sheet_there edition1 w ready.sheet ready.there

  law : Lawful (sheet_of edition1 w)
  law = lawful edition1 w long ready.sheet

  plain : PlainSheet edition1 w
  plain = sheet_plain edition1 w ready.sheet

  -- the words that the code reads are there, and small
  pub numbers : (12 ≤ length w) × (get_or w 1 0 ≤ 4096) × (get_or w 5 0 ≤ 2) × (get_or w 6 0 ≤ 48) × (get_or w 3 0 ≤ 16)
  unfolding sheet_of fold_words fold_places
  numbers = (long, law.small, plain.plain.outs_range.1, (plain.plain.times_range 0 (omega arith)).1, (plain.fold_range 0 (omega arith)).1)

  two : 2 ≤ get_or w 3 0
  unfolding fold_words fold_places
  two = (plain.fold_range 0 (omega arith)).0

  -- k and t of level 0
  fold_word : get_or (sheet_of edition1 w).folds 0 0 ≡ get_or w 3 0
  unfolding sheet_of fold_words fold_places
  fold_word = get_or-take (suc (get_or w 4 0)) (fold_words edition1 w) 0 0 (omega arith)

  times : get_or (sheet_of edition1 w).repetitions 0 0 ≡ get_or w 6 0
  times = times_word edition1 w long ready.sheet 0 (omega arith)

  few : length (part_words edition1 (sheet_of edition1 w) w (shifts 0)) ≤ 48
  unfolding part_words part_length
  few = omega (arith, part_few (level_of h 0).repetitions (drop (part_start edition1 h (shifts 0)) w), times, numbers.3)

  pub start_is : {v : ℕ} → v ≡ word_count (spelling_of (get_or w 0 0)) (get_or w 1 0 + 1 + get_or w 1 0 / 2 + get_or w 5 0 + get_or w 5 0 + 2) → 12 + v ≡ part_start edition1 (sheet_of edition1 w) (shifts 0)
  unfolding part_start round_start round_count sheet_of
  start_is {v} e =
      let σ = spelling_of (get_or w 0 0) in
      let n = get_or w 1 0 in
      let s = get_or w 5 0 in
      let rest = n / 2 + (s + (s + 2)) in
      let q : n + 1 + n / 2 + s + s + 2 ≡ n + (1 + rest) = omega arith in
      omega (arith, e, ap (word_count σ) q, count_add σ n (1 + rest), count_add σ 1 rest, ap (word_count σ) (undivided n))

  module _ (rounds : 0 < rounds_of (sheet_of edition1 w)) where
    pub indices_there : part_start edition1 (sheet_of edition1 w) (shifts 0) + get_or w 6 0 ≤ length w
    unfolding part_length
    indices_there =
        let t : 1 ≤ get_or w 6 0 = (plain.plain.times_range 0 (omega arith)).0 in
        let j = get_or w 6 0 - 1 in
        let b = (part_below edition1 h (shifts 0) rounds j (omega (arith, times))).1 in
        omega (arith, b, enough h w law.paired ready.there ready.range)

    module _ {at : ℕ} (start : at ≡ part_start edition1 (sheet_of edition1 w) (shifts 0)) where
      pub indices_are : take (at + get_or w 6 0 - at) (drop at w) ≡ part_words edition1 (sheet_of edition1 w) w (shifts 0)
      unfolding part_words part_length
      indices_are = let e : at + get_or w 6 0 - at ≡ get_or w 6 0 = omega arith in λ i. take ((e ∙ sym times) i) (drop (start i) w)

      pub indices_few : All (λ j. j < 2048) (take (at + get_or w 6 0 - at) (drop at w))
      unfolding shift_count
      indices_few =
          let js = part_words edition1 h w (shifts 0) in
          let most : h.size / get_or h.folds 0 0 ≤ 2048 = half_most h.size (get_or h.folds 0 0) law.small (omega (arith, fold_word, two)) in
          let u = ap (λ (n : ℕ). n / get_or h.folds 0 0) (undivided h.size) in
          subst (All (λ j. j < 2048)) (sym indices_are) (all_map {Q = λ j. j < 2048} js (indices_below h w law.paired ready.there ready.range rounds) (λ j l. omega (arith, l, most, u)))

      pub reads_are : {n : ℕ} → n ≡ length (different eqb (take (at + get_or w 6 0 - at) (drop at w))) → (n * get_or w 3 0 ≡ first_reads w) × (n * get_or w 3 0 ≤ 768)
      unfolding first_reads level_reads
      reads_are {n} e =
          let js = part_words edition1 h w (shifts 0) in
          let same : n * get_or w 3 0 ≡ length (different eqb js) * get_or h.folds 0 0 = λ i. (e ∙ ap (λ (l : List ℕ). length (different eqb l)) indices_are) i * sym fold_word i in
          (same, omega (arith, same, reads_most js (get_or h.folds 0 0) few (omega (arith, fold_word, numbers.4))))

  -- ---- the reads in all tables

  module _ (count reads : ℕ) where
    rounds_are : rounds_of (sheet_of edition1 w) ≡ get_or w 4 0
    rounds_are = rounds_word edition1 w long ready.sheet

    pub no_round_lem : get_or w 4 0 ≡ 0 → count * reads ≡ all_reads count w reads
    unfolding all_reads
    no_round_lem e = rw (eq-eqb (rounds_of h) 0 (rounds_are ∙ e)) refl

    pub some_round : (get_or w 4 0 ≡ 0 → ⊥) → {r : ℕ} → r ≡ first_reads w → reads + (count - 1) * r ≡ all_reads count w reads
    unfolding all_reads
    some_round differs e = rw (ne_eqb (rounds_of h) 0 (λ z. differs (sym rounds_are ∙ z))) (ap (λ (n : ℕ). reads + (count - 1) * n) e)

    pub rounds_there : (get_or w 4 0 ≡ 0 → ⊥) → 0 < rounds_of (sheet_of edition1 w)
    rounds_there differs = omega (arith, rounds_are, differs)
