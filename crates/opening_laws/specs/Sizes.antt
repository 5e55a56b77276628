-- HOW MANY WORDS OF AN OPENING FILE COME BEFORE THE NUMBER OF OPENINGS: those of a plain stream, with eight in place of each table.
use Prim.Native.Nat.{ℕ, suc, ◌+◌, ◌-◌, ◌*◌, ◌/◌, ◌^◌, ◌≤◌}
use Rattle.std.proofs.Common.{pow-suc, arith, ◌∙◌, subst}
use mathlib.Core.List.{List, [], ◌∷◌, ◌++◌, map, tail}
use Rattle.std.specs.Prelude.{◌≡◌}
use Rattle.std.proofs.Math.Path.{refl, sym, ap}
use Rattle.std.proofs.Math.ListN.{length, get_or, take, drop, replicate, length-append, length-drop, length-replicate}
use Rattle.std.proofs.lemmas.List.{length-map}
use Rattle.std.proofs.Math.Seq.{length-take-le}
use Rattle.definition.specs.Field.{Spelling, word_count}
use Rattle.definition.specs.Lists.{range}
use Rattle.definition.specs.Layout.{layout, words_due}
use Rattle.definition.specs.Reading.{sheet_test}
use Rattle.definition.specs.Sheet.{edition1, Sheet, Level, sheet_of, first_level, later_levels}
use Rattle.definition.specs.Verdict.{accepted}
use Rattle.list_laws.specs.Lists.{range_length}
use Rattle.layouts.proofs.Lawful.{lawful, rounds_word}
use Rattle.layouts.specs.LawfulSheets.{Lawful}
use Rattle.layouts.specs.Levels.{level_of, rounds_of, total}
use Rattle.layouts.proofs.LevelsByNumber.{levels_later}
use Rattle.layouts.specs.LevelSizes.{Chain, chain_head, quotient}
use Rattle.layouts.proofs.SheetLevels.{sheet_chain}
use Rattle.layouts.specs.SheetRules.{pow_most}
use Rattle.layouts.specs.Spellings.{count_add, count_zero}
use Rattle.openings.specs.Openings.{entry_words, hash_words, any_word, beside_table, swap_rest, swap_tables, table_words, opening_layout, number_place, height_of, log2}
use Rattle.opening_laws.specs.Swaps.{need, rest_need}
use Rattle.opening_laws.specs.Fronts.{layout_needs}
use Rattle.opening_laws.specs.Lawfully.{Numbered, levels_numbered, log2_power, sized_tall}

-- the sum over levels
abbrev pub sum_of : (Level → ℕ) → List Level → ℕ
sum_of f ls = total (map f ls)

module _ {A : Type 0} (size other : Level → ℕ) (f : Level → List A → List A) (fits : (l : Level) (x : List A) → length (f l x) ≡ other l) where
  rest_count : (σ : Spelling) (s : ℕ) (b : Level) (ls : List Level) (w : List A) → rest_need size σ s b ls ≤ length w
      → length (swap_rest size f σ s b ls w) + sum_of size ls ≡ length w + sum_of other ls
  unfolding swap_rest rest_need total
  rest_count σ s b [] w h = refl
  rest_count σ s b (l ∷ ls) w h =
      let n = beside_table σ s b in
      let t = take (size l) w in
      let w₁ = drop (size l) w in
      let r = swap_rest size f σ s l ls (drop n w₁) in
      let k : length w₁ ≡ length w - size l = length-drop (size l) w in
      let k₂ : length (drop n w₁) ≡ length w₁ - n = length-drop n w₁ in
      let u : length (take n w₁) ≡ n = length-take-le n w₁ (omega (arith, k)) in
      let ih = rest_count σ s l ls (drop n w₁) (omega (arith, k, k₂)) in
      omega (arith, length-append (f l t) (take n w₁ ++ r), length-append (take n w₁) r, fits l t, u, ih, k, k₂)

  pub swap_count : (h : Sheet) (w : List A) → need size h ≤ length w
      → length (swap_tables size f h w) + sum_of size (first_level h ∷ later_levels h) ≡ length w + sum_of other (first_level h ∷ later_levels h)
  unfolding swap_tables need total
  swap_count h w e =
      let l = first_level h in
      let ls = later_levels h in
      let n = entry_words h in
      let t = take (size l) w in
      let w₁ = drop (size l) w in
      let r = swap_rest size f h.spelling h.out_coins l ls (drop n w₁) in
      let k : length w₁ ≡ length w - size l = length-drop (size l) w in
      let k₂ : length (drop n w₁) ≡ length w₁ - n = length-drop n w₁ in
      let u : length (take n w₁) ≡ n = length-take-le n w₁ (omega (arith, k)) in
      let ih = rest_count h.spelling h.out_coins l ls (drop n w₁) (omega (arith, k, k₂)) in
      omega (arith, length-append (f l t) (take n w₁ ++ r), length-append (take n w₁) r, fits l t, u, ih, k, k₂)

sum_words : (σ : Spelling) (ls : List Level) → sum_of (λ l. word_count σ l.size) ls ≡ word_count σ (sum_of (λ l. l.size) ls)
unfolding total
sum_words σ [] = sym (count_zero σ)
sum_words σ (l ∷ ls) = ap (λ (n : ℕ). word_count σ l.size + n) (sum_words σ ls) ∙ sym (count_add σ l.size (sum_of (λ l. l.size) ls))

sum_eight : (ls : List Level) → sum_of (λ _. 8) ls ≡ 8 * length ls
unfolding total
sum_eight [] = refl
sum_eight (l ∷ ls) = omega (arith, sum_eight ls)

-- the sizes halve: their sum and the last one are twice the first
sizes_sum : (a i : ℕ) (b : Level) (ls : List Level) → Chain a b ls → b.number ≡ i → Numbered (suc i) ls
    → (i + length ls ≤ a) × (b.size + sum_of (λ l. l.size) ls + 2 ^ (a - (i + length ls)) ≡ 2 * b.size)
unfolding Numbered total
sizes_sum a i b [] c e n =
    let t = sized_tall a b c in
    let q : a - b.number ≡ a - (i + 0) = omega (arith, e) in
    let p : b.size ≡ 2 ^ (a - (i + 0)) = t.1 ∙ ap (λ (k : ℕ). 2 ^ k) q in
    (omega (arith, t.0, e), omega (arith, p))
sizes_sum a i b (l ∷ ls) c e n =
    let t = sized_tall a b c.0 in
    let u = sized_tall a l (chain_head a l ls c.2) in
    let ih = sizes_sum a (suc i) l ls c.2 n.0 n.1 in
    let q : a - b.number ≡ suc (a - l.number) = omega (arith, e, n.0, u.0) in
    let p : b.size ≡ 2 ^ suc (a - l.number) = t.1 ∙ ap (λ (k : ℕ). 2 ^ k) q in
    let z : a - (suc i + length ls) ≡ a - (i + suc (length ls)) = omega arith in
    let y : 2 ^ (a - (suc i + length ls)) ≡ 2 ^ (a - (i + suc (length ls))) = ap (λ (k : ℕ). 2 ^ k) z in
    (omega (arith, ih.0), omega (arith, ih.1, y, p, u.1, pow-suc 2 (a - l.number)))

module _ (w : List ℕ) (long : 12 ≤ length w) (passed : sheet_test edition1 w ≡ accepted) where
  abbrev h : Sheet
  h = sheet_of edition1 w

  law : Lawful h
  law = lawful edition1 w long passed

  rounds : length (later_levels h) ≡ get_or w 4 0
  rounds =
      ap length (levels_later h law.paired) ∙ length-map (range 1 (rounds_of h)) (level_of h) ∙ range_length 1 (rounds_of h) ∙ rounds_word edition1 w long passed

  all_sizes : sum_of (λ l. l.size) (first_level h ∷ later_levels h) ≡ 2 * get_or w 1 0 - get_or w 1 0 / 2 ^ get_or w 4 0
  unfolding total first_level later_levels sheet_of
  all_sizes =
      let a = suc law.a in
      let s = sizes_sum a 0 (first_level h) (later_levels h) (sheet_chain h law) refl (levels_numbered 1 (h.size / 2) (h.degree / get_or h.folds 0 0) (tail h.folds) (tail h.repetitions)) in
      let M = get_or w 4 0 in
      let q : a - (0 + length (later_levels h)) ≡ a - M = omega (arith, rounds) in
      let m : M ≤ a = omega (arith, s.0, rounds) in
      let r : a - M + M ≡ a = omega (arith, m) in
      let v : 2 ^ (a - M) ≡ get_or w 1 0 / 2 ^ M = sym (ap (λ (n : ℕ). n / 2 ^ M) (law.size ∙ ap (λ (k : ℕ). 2 ^ k) (sym r)) ∙ quotient (a - M) M) in
      let y : 2 ^ (a - (0 + length (later_levels h))) ≡ 2 ^ (a - M) = ap (λ (k : ℕ). 2 ^ k) q in
      omega (arith, s.1, y, v)

  -- WHERE THE NUMBER OF OPENINGS STANDS
  pub number_place_lem : number_place (sheet_of edition1 w) + word_count (sheet_of edition1 w).spelling (2 * get_or w 1 0 - get_or w 1 0 / 2 ^ get_or w 4 0)
      ≡ words_due edition1 (sheet_of edition1 w) + 8 * (get_or w 4 0 + 1)
  unfolding number_place opening_layout words_due table_words total
  number_place_lem =
      let c = swap_count (table_words h) (λ _. 8) (λ _ _. replicate hash_words any_word) (λ l x. length-replicate 8 any_word) h (layout h) (layout_needs h) in
      let u : sum_of (table_words h) (first_level h ∷ later_levels h) ≡ word_count h.spelling (2 * get_or w 1 0 - get_or w 1 0 / 2 ^ get_or w 4 0) =
      sum_words h.spelling (first_level h ∷ later_levels h) ∙ ap (word_count h.spelling) all_sizes in
      omega (arith, c, u, sum_eight (first_level h ∷ later_levels h), rounds)

  -- the height of table 0, and so the words of an opening
  pub height_of_lem : (k : ℕ) → get_or w 1 0 ≡ 2 ^ k → k ≤ 12 → height_of (sheet_of edition1 w) ≡ k
  unfolding height_of sheet_of
  height_of_lem k e l = ap (log2 12) e ∙ log2_power 12 k l

  pub folds_count : length (sheet_of edition1 w).folds ≡ suc (get_or w 4 0)
  folds_count = omega (arith, law.paired.some, rounds_word edition1 w long passed)

  -- there are fewer rounds than nodes on a path
  pub rounds_low : get_or w 4 0 ≤ height_of (sheet_of edition1 w)
  unfolding later_levels first_level sheet_of
  rounds_low =
      let a = suc law.a in
      let s = sizes_sum a 0 (first_level h) (later_levels h) (sheet_chain h law) refl (levels_numbered 1 (h.size / 2) (h.degree / get_or h.folds 0 0) (tail h.folds) (tail h.repetitions)) in
      let k : a ≤ 12 = pow_most a 12 (subst (λ (x : ℕ). x ≤ 4096) law.size law.small) in
      omega (arith, s.0, rounds, height_of_lem a law.size k)
