-- A sheet's words in the other edition: those of edition 1 spread to edition 2's, and those of edition 2, where its folding numbers are equal, cut to 12. No rule is
-- broken, and they say the same.
use Prim.Native.Nat.{ℕ, zero, suc, ◌+◌, ◌-◌, ◌/◌, ◌%◌, ◌≤◌, ◌<◌}
use Rattle.std.proofs.Math.Decide.{dec_lt}
use Rattle.std.proofs.Common.{arith, ◌∙◌, ext_get_or, get_or-append-add, take-take}
use Rattle.std.proofs.Math.Bool.{Bool, false, not}
use mathlib.Core.List.{List, [], ◌∷◌, ◌++◌, map, append_assoc, append-nil}
use Rattle.std.specs.Prelude.{◌≡◌, eqb}
use Rattle.std.proofs.Math.Path.{sym, ap}
use lib.ListN.{length, get_or, take, replicate, get_or-replicate, length-append, length-replicate, get_or-append}
use Rattle.std.proofs.Math.Seq.{get_or-take, length-take-le, take-length}
use borrow.Author.Tests.{eqb-true, not-false}
use Rattle.definition.specs.Convert.{folds_test, spread}
use Rattle.definition.specs.Field.{prime_of, spelling_of}
use Rattle.definition.specs.Lists.{product_of}
use Rattle.definition.specs.Reading.{sheet_test}
use Rattle.definition.specs.Sheet.{Edition, edition1, edition2, fold_words, largest_size, sheet_of}
use Rattle.definition.specs.Verdict.{accepted}
use Rattle.list_laws.specs.All.{at_place}
use Rattle.list_laws.specs.Lists.{get_d_map}
use Rattle.layouts.specs.PlainRules.{LaterWords, PlainSheet, PlainWords}
use Rattle.layouts.proofs.PlainSheet.{first_word, fold_one, later_word, plain_sheet, sheet_plain}
use Rattle.layouts.proofs.SheetLevels.{sheet_moved}
use Rattle.layouts.specs.SheetRules.{fold_count, rounds_most}
use Rattle.layouts.specs.Tests.{all_false}

-- the plain facts go by words 0 to 11 and the folding numbers
plain_moved : (ed ed' : Edition) (v u : List ℕ) → ((j : ℕ) → j < 12 → get_or v j 0 ≡ get_or u j 0) →
    take (suc (get_or v 4 0)) (fold_words ed v) ≡ take (suc (get_or u 4 0)) (fold_words ed' u) → LaterWords ed' u → PlainSheet ed v → PlainSheet ed' u
plain_moved ed ed' v u same folds later s = record {
  plain = record {
    field = omega (arith, same 0 (omega arith), p.field);
    size_power = (p.size_power.0, sym (same 1 (omega arith)) ∙ p.size_power.1);
    size_range = (omega (arith, same 1 (omega arith), p.size_range.0), omega (arith, same 1 (omega arith), p.size_range.1, ap (λ (x : ℕ). largest_size (spelling_of x)) (same 0 (omega arith))));
    size_divides = sym (λ t. (prime_of (same 0 (omega arith) t) - 1) % same 1 (omega arith) t) ∙ p.size_divides;
    degree_power = (p.degree_power.0, sym (same 2 (omega arith)) ∙ p.degree_power.1);
    degree_range = (omega (arith, same 2 (omega arith), p.degree_range.0), omega (arith, same 1 (omega arith), same 2 (omega arith), p.degree_range.1));
    rounds_range = omega (arith, M, p.rounds_range);
    outs_range = (omega (arith, same 5 (omega arith), p.outs_range.0), omega (arith, same 5 (omega arith), p.outs_range.1));
    times_range = λ i l. let c = p.times_range i (omega (arith, M)) in
        let e = same (6 + i) (omega (arith, M, p.rounds_range)) in
        (omega (arith, e, c.0), omega (arith, e, c.1));
    times_zero = λ i l b. omega (arith, same (6 + i) (omega arith), p.times_zero i (omega (arith, M)) b);
  };
  fold_power = λ i l. let c = s.fold_power i (omega (arith, M)) in (c.0, sym (fold i (omega (arith, M))) ∙ c.1);
  fold_range = λ i l. let c = s.fold_range i (omega (arith, M)) in
      let e = fold i (omega (arith, M)) in
      (omega (arith, e, c.0), omega (arith, e, c.1), omega (arith, e, c.2, same 2 (omega arith)));
  fold_product = omega (arith, ap product_of folds, s.fold_product, same 2 (omega arith));
  times_few = λ i l. let e = same (6 + i) (omega (arith, M, p.rounds_range)) in
      let d : get_or v 2 0 / product_of (take (suc i) (fold_words ed v)) ≡ get_or u 2 0 / product_of (take (suc i) (fold_words ed' u)) = λ t. same 2 (omega arith) t / product_of (front (suc i) (omega (arith, M)) t) in
      omega (arith, s.times_few i (omega (arith, M)), e, d, same 5 (omega arith));
  later_words = later;
}
  where
    p : PlainWords v
    p = s.plain

    M : get_or v 4 0 ≡ get_or u 4 0
    M = same 4 (omega arith)

    front : (i : ℕ) → i ≤ suc (get_or v 4 0) → take i (fold_words ed v) ≡ take i (fold_words ed' u)
    front i l = sym (take-take i (suc (get_or v 4 0)) (fold_words ed v) l) ∙ ap (take i) folds ∙ take-take i (suc (get_or u 4 0)) (fold_words ed' u) (omega (arith, M))

    fold : (i : ℕ) → i ≤ get_or v 4 0 → get_or (fold_words ed v) i 0 ≡ get_or (fold_words ed' u) i 0
    fold i l =
        sym (get_or-take (suc (get_or v 4 0)) (fold_words ed v) i 0 (omega arith)) ∙ ap (λ (x : List ℕ). get_or x i 0) folds ∙ get_or-take (suc (get_or u 4 0)) (fold_words ed' u) i 0 (omega (arith, M))

-- folding numbers that are all k, in either edition
equal_lists : (ed ed' : Edition) (v u : List ℕ) (k : ℕ) → get_or v 4 0 ≡ get_or u 4 0 → get_or v 4 0 ≤ 5 → ((i : ℕ) → i ≤ get_or v 4 0 → get_or (fold_words ed v) i 0 ≡ k) →
    ((i : ℕ) → i ≤ get_or v 4 0 → get_or (fold_words ed' u) i 0 ≡ k) → take (suc (get_or v 4 0)) (fold_words ed v) ≡ take (suc (get_or u 4 0)) (fold_words ed' u)
equal_lists ed ed' v u k m most hv hu =
    let M = get_or v 4 0 in
    let a = length-take-le (suc M) (fold_words ed v) (omega (arith, fold_count ed v)) in
    let b = length-take-le (suc M) (fold_words ed' u) (omega (arith, fold_count ed' u)) in
    ext_get_or 0 (take (suc M) (fold_words ed v)) (take (suc M) (fold_words ed' u)) (a ∙ sym b)
    (λ i l. let h : i < suc M = omega (arith, a) in
    get_or-take (suc M) (fold_words ed v) i 0 h ∙ hv i (omega arith) ∙ sym (hu i (omega arith)) ∙ sym (get_or-take (suc M) (fold_words ed' u) i 0 h))
    ∙ ap (λ (n : ℕ). take (suc n) (fold_words ed' u)) m

-- THE WORDS OF EDITION 1, SPREAD
module _ (v : List ℕ) (long : length v ≡ 12) (most : get_or v 4 0 ≤ 5) (e : List ℕ) where
  abbrev M : ℕ
  M = get_or v 4 0

  abbrev k : ℕ
  k = get_or v 3 0

  -- k_1 to k_5
  abbrev laters : List ℕ
  laters = take 5 (replicate M k ++ replicate 5 0)

  laters_long : length laters ≡ 5
  laters_long =
      length-take-le 5 (replicate M k ++ replicate 5 0)
      (omega (arith, length-append (replicate M k) (replicate 5 0), length-replicate M k))

  parts : spread v ++ e ≡ v ++ (laters ++ (2 ∷ e))
  unfolding spread
  parts =
      let whole : take 12 v ≡ v = ap (λ (n : ℕ). take n v) (sym long) ∙ take-length v in
      append_assoc (take 12 v) (laters ++ (2 ∷ [])) e ∙ (λ t. whole t ++ append_assoc laters (2 ∷ []) e t)

  spread_same : (j : ℕ) → j < 12 → get_or v j 0 ≡ get_or (spread v ++ e) j 0
  spread_same j l = sym (ap (λ (x : List ℕ). get_or x j 0) parts ∙ get_or-append v (laters ++ (2 ∷ e)) 0 j (omega (arith, long)))

  after : (j : ℕ) → get_or (spread v ++ e) (12 + j) 0 ≡ get_or (laters ++ (2 ∷ e)) j 0
  after j = (λ t. get_or (parts t) (sym long t + j) 0) ∙ get_or-append-add v (laters ++ (2 ∷ e)) j 0

  later_at : (j : ℕ) → j < 5 → get_or (spread v ++ e) (12 + j) 0 ≡ get_or (replicate M k ++ replicate 5 0) j 0
  later_at j l = after j ∙ get_or-append laters (2 ∷ e) 0 j (omega (arith, laters_long)) ∙ get_or-take 5 (replicate M k ++ replicate 5 0) j 0 l

  spread_front : (j : ℕ) → j < M → get_or (spread v ++ e) (12 + j) 0 ≡ k
  spread_front j l = later_at j (omega (arith, most)) ∙ get_or-append (replicate M k) (replicate 5 0) 0 j (omega (arith, length-replicate M k)) ∙ get_or-replicate M j k 0 l

  spread_past : (j : ℕ) → M ≤ j → j < 5 → get_or (spread v ++ e) (12 + j) 0 ≡ 0
  spread_past j l u =
      let n : j ≡ length (replicate M k) + (j - M) = omega (arith, length-replicate M k) in
      later_at j u ∙ ap (λ (i : ℕ). get_or (replicate M k ++ replicate 5 0) i 0) n ∙ get_or-append-add (replicate M k) (replicate 5 0) (j - M) 0 ∙ get_or-replicate 5 (j - M) 0 0 (omega arith)

  spread_last : get_or (spread v ++ e) 17 0 ≡ 2
  spread_last =
      let n : 5 ≡ length laters + 0 = omega (arith, laters_long) in
      after 5 ∙ ap (λ (i : ℕ). get_or (laters ++ (2 ∷ e)) i 0) n ∙ get_or-append-add laters (2 ∷ e) 0 0

  -- k_0 to k_M are k
  spread_folds : (i : ℕ) → i ≤ M → get_or (fold_words edition2 (spread v ++ e)) i 0 ≡ k
  spread_folds zero l = first_word edition2 (spread v ++ e) ∙ sym (spread_same 3 (omega arith))
  spread_folds (suc i) l =
      later_word (spread v ++ e) (suc i) (omega arith) (omega (arith, most)) ∙ ap (λ (n : ℕ). get_or (spread v ++ e) n 0) (let n : 11 + suc i ≡ 12 + i = omega arith in n) ∙ spread_front i l

  folds : take (suc (get_or v 4 0)) (fold_words edition1 v) ≡ take (suc (get_or (spread v ++ e) 4 0)) (fold_words edition2 (spread v ++ e))
  folds = equal_lists edition1 edition2 v (spread v ++ e) k (spread_same 4 (omega arith)) most (λ i l. fold_one v i (omega (arith, most))) spread_folds

  later : LaterWords edition2 (spread v ++ e)
  later = (past, spread_last)
    where
      past : (i : ℕ) → get_or (spread v ++ e) 4 0 < i → i < 6 → get_or (spread v ++ e) (11 + i) 0 ≡ 0
      past zero l u = absurd (omega arith)
      past (suc i) l u =
          ap (λ (n : ℕ). get_or (spread v ++ e) n 0) (let n : 11 + suc i ≡ 12 + i = omega arith in n) ∙ spread_past i (omega (arith, spread_same 4 (omega arith))) (omega arith)

  spread_long : 12 ≤ length (spread v ++ e)
  spread_long = omega (arith, ap length parts, length-append v (laters ++ (2 ∷ e)))

  pub spread_sheet : sheet_of edition2 (spread v ++ e) ≡ sheet_of edition1 v
  spread_sheet = sym (sheet_moved edition1 edition2 v (spread v ++ e) (omega (arith, long)) spread_long most spread_same folds)

  pub spread_passes : sheet_test edition1 v ≡ accepted → sheet_test edition2 (spread v ++ e) ≡ accepted
  spread_passes passed = plain_sheet edition2 (spread v ++ e) (plain_moved edition1 edition2 v (spread v ++ e) spread_same folds later (sheet_plain edition1 v passed))

pub spread_count : (v : List ℕ) → length v ≡ 12 → get_or v 4 0 ≤ 5 → length (spread v) ≡ 18
spread_count v long most =
    let m = get_or v 4 0 in
    let k = get_or v 3 0 in
    let l = take 5 (replicate m k ++ replicate 5 0) in
    omega (arith, ap length (sym (append-nil (spread v)) ∙ parts v long most []), length-append v (l ++ (2 ∷ [])), length-append l (2 ∷ []), laters_long v long most [], long)

-- THE WORDS OF EDITION 2 WITH EQUAL FOLDING NUMBERS, CUT
module _ (w : List ℕ) (long : 18 ≤ length w) (passed : sheet_test edition2 w ≡ accepted) (equal : folds_test (sheet_of edition2 w) ≡ accepted) where
  abbrev front : List ℕ
  front = take 12 w

  cut_long : length (take 12 w) ≡ 12
  cut_long = length-take-le 12 w (omega arith)

  cut_same : (j : ℕ) → j < 12 → get_or w j 0 ≡ get_or (take 12 w) j 0
  cut_same j l = sym (get_or-take 12 w j 0 l)

  few : get_or w 4 0 ≤ 5
  few = rounds_most edition2 w passed

  few_front : get_or (take 12 w) 4 0 ≤ 5
  few_front = omega (arith, cut_same 4 (omega arith), few)

  -- k_i is k_0
  equal_folds : (i : ℕ) → i ≤ get_or w 4 0 → get_or (fold_words edition2 w) i 0 ≡ get_or w 3 0
  unfolding folds_test sheet_of
  equal_folds i l =
      let m = get_or w 4 0 in
      let l₁ = take (suc m) (fold_words edition2 w) in
      let n : length l₁ ≡ suc m = length-take-le (suc m) (fold_words edition2 w) (omega (arith, fold_count edition2 w, few)) in
      let t : ℕ → Bool = λ k. not (eqb k (get_or l₁ 0 0)) in
      let h : t (get_or l₁ i 0) ≡ false = sym (get_d_map t l₁ 0 false i (omega arith)) ∙ at_place (λ (b : Bool). b ≡ false) (map t l₁) false (all_false 13 0 (map t l₁) equal) i
      (omega (arith, lib.ListN.length-map l₁ t)) in
      sym (get_or-take (suc m) (fold_words edition2 w) i 0 (omega arith)) ∙ eqb-true _ _ (not-false _ h) ∙ get_or-take (suc m) (fold_words edition2 w) 0 0 (omega arith) ∙ first_word edition2 w

  folds_cut : take (suc (get_or w 4 0)) (fold_words edition2 w) ≡ take (suc (get_or (take 12 w) 4 0)) (fold_words edition1 (take 12 w))
  folds_cut =
      equal_lists edition2 edition1 w front (get_or w 3 0) (cut_same 4 (omega arith)) few equal_folds
      (λ i l. fold_one front i (omega (arith, few)) ∙ sym (cut_same 3 (omega arith)))

  pub cut_sheet : sheet_of edition1 (take 12 w) ≡ sheet_of edition2 w
  cut_sheet = sym (sheet_moved edition2 edition1 w front (omega arith) (omega (arith, cut_long)) few cut_same folds_cut)

  pub cut_passes : sheet_test edition1 (take 12 w) ≡ accepted
  cut_passes = plain_sheet edition1 front (plain_moved edition2 edition1 w front cut_same folds_cut tt (sheet_plain edition2 w passed))

  -- and spread they are what they were
  pub spread_cut : spread (take 12 w) ≡ take 18 w
  spread_cut = ext_get_or 0 (spread front) (take 18 w) (count ∙ sym whole) (λ i l. same i (omega (arith, count)) (dec_lt i 12) (dec_lt i 17) ∙ sym (get_or-take 18 w i 0 (omega (arith, count))))
    where
      count : length (spread front) ≡ 18
      count = spread_count front cut_long few_front

      whole : length (take 18 w) ≡ 18
      whole = length-take-le 18 w long

      ended : (i : ℕ) → get_or (spread front) i 0 ≡ get_or (spread front ++ []) i 0
      ended i = ap (λ (x : List ℕ). get_or x i 0) (sym (append-nil (spread front)))

      plain : PlainSheet edition2 w
      plain = sheet_plain edition2 w passed

      later : (j : ℕ) → j < 5 → Dec (j < get_or w 4 0) → get_or (spread front ++ []) (12 + j) 0 ≡ get_or w (12 + j) 0
      later j l (yes h) =
          spread_front front cut_long few_front [] j (omega (arith, cut_same 4 (omega arith))) ∙ sym (cut_same 3 (omega arith)) ∙ sym (equal_folds (suc j) h)
          ∙ later_word w (suc j) (omega arith) (omega arith) ∙ ap (λ (n : ℕ). get_or w n 0) (let n : 11 + suc j ≡ 12 + j = omega arith in n)
      later j l (no h) =
          spread_past front cut_long few_front [] j (omega (arith, cut_same 4 (omega arith))) l
          ∙ sym (ap (λ (n : ℕ). get_or w n 0) (let n : 12 + j ≡ 11 + suc j = omega arith in n) ∙ plain.later_words.0 (suc j) (omega arith) (omega arith))

      same : (i : ℕ) → i < 18 → Dec (i < 12) → Dec (i < 17) → get_or (spread front) i 0 ≡ get_or w i 0
      same i l (yes a) b = ended i ∙ sym (spread_same front cut_long few_front [] i a) ∙ sym (cut_same i a)
      same i l (no a) (yes b) =
          let n : i ≡ 12 + (i - 12) = omega arith in
          ended i ∙ ap (λ (m : ℕ). get_or (spread front ++ []) m 0) n ∙ later (i - 12) (omega arith) (dec_lt (i - 12) (get_or w 4 0)) ∙ ap (λ (m : ℕ). get_or w m 0) (sym n)
      same i l (no a) (no b) =
          let n : i ≡ 17 = omega arith in
          ended i ∙ ap (λ (m : ℕ). get_or (spread front ++ []) m 0) n ∙ spread_last front cut_long few_front [] ∙ sym (ap (λ (m : ℕ). get_or w m 0) n ∙ plain.later_words.1)
