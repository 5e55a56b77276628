-- THE LEVELS AND TABLES OF A STREAM WHOSE SHEET PASSES: each has the number that its place says, and its size is the power of two that its tree asks for.
use Prim.Native.Nat.{ℕ, zero, suc, ◌+◌, ◌-◌, ◌*◌, ◌/◌, ◌^◌, ◌≤◌, ◌<◌}
use Rattle.std.proofs.Common.{add-suc, mul_comm, mul-div_cancel, mul-le-mul_left, mul-zero, pow-suc, suc-add, zero-add, ⊎_elim, ◌∙◌, pow_pos}
use native.Mathlib.Omega.{arith}
use Rattle.std.specs.Prelude.{false, ◌⊎◌, ◌≡◌, refl, leb, take}
use mathlib.Core.List.{List, [], ◌∷◌, tail}
use Rattle.std.proofs.Math.Path.{sym, ap, subst}
use Rattle.std.proofs.Math.ListN.{length, get_or, drop, length-drop}
use Rattle.std.proofs.Math.Pow.{pow-lt}
use Rattle.std.proofs.Math.Seq.{drop-drop, length-take-le}
use Rattle.std.proofs.lemmas.Bool.{lt-leb}
use Rattle.definition.specs.Field.{Spelling, word_count}
use Rattle.definition.specs.Sheet.{Sheet, Level, levels_from, first_level, later_levels}
use Rattle.layouts.specs.LevelSizes.{Chain, Sized, chain_head, quotient}
use Rattle.layouts.specs.Spellings.{count_times}
use Rattle.hash_laws.specs.TreeLaws.{lt_or_le}
use Rattle.openings.specs.Openings.{entry_words, log2, height_of, beside_table, rest_tables, tables_in, table_words}
use Rattle.opening_laws.specs.Swaps.{need, rest_need}
use Rattle.opening_laws.specs.Placed.{PlacedAt, Laid}

-- log2 of a power of two
pub log2_power : (most k : ℕ) → k ≤ most → log2 most (2 ^ k) ≡ k
unfolding log2
log2_power zero k h = omega arith
log2_power (suc most) zero h = refl
log2_power (suc most) (suc k) h =
    let p : 2 ^ suc k ≡ 2 ^ k * 2 = pow-suc 2 k in
    let q : 0 < 2 ^ k = pow_pos k in
    let e : 2 ^ suc k / 2 ≡ 2 ^ k = omega (arith, p) in
    let f : leb (2 ^ suc k) 1 ≡ false = lt-leb (2 ^ suc k) 1 (omega (arith, p, q)) in
    rw f (ap suc (ap (log2 most) e ∙ log2_power most k (omega arith)))

-- a level's size, by its number
positive : (i s a : ℕ) → 2 ^ i * s ≡ 2 ^ a → 0 < s
positive i zero a e = absurd (omega (arith, pow_pos a, mul-zero (2 ^ i)))
positive i (suc s) a e = omega arith

pub sized_tall : (a : ℕ) (l : Level) → Sized a l → (l.number ≤ a) × (l.size ≡ 2 ^ (a - l.number))
sized_tall a l s =
    let i = l.number in
    let z : 0 < l.size = positive i l.size a s.whole in
    let far : (a < i) ⊎ (i ≤ a) = lt_or_le a i in
    let below : i ≤ a =
    ⊎_elim (λ b. let m : 2 ^ i * 1 ≤ 2 ^ i * l.size = mul-le-mul_left (2 ^ i) z in absurd (omega (arith, pow-lt b, m, s.whole))) (λ b. b) far in
    let k : a ≡ a - i + i = omega arith in
    (below, sym (mul-div_cancel l.size (pow_pos i)) ∙ ap (λ (n : ℕ). n / 2 ^ i) (mul_comm l.size (2 ^ i) ∙ s.whole ∙ ap (λ (n : ℕ). 2 ^ n) k) ∙ quotient (a - i) i)

-- levels numbered one after the other
unfoldable pub Numbered : ℕ → List Level → Type 0
Numbered i [] = Unit {0}
Numbered i (l ∷ ls) = (l.number ≡ i) × Numbered (suc i) ls

pub levels_numbered : (i n d : ℕ) (ks ts : List ℕ) → Numbered i (levels_from i n d ks ts)
unfolding levels_from Numbered
levels_numbered i n d [] ts = tt
levels_numbered i n d (k ∷ ks) [] = tt
levels_numbered i n d (k ∷ ks) (t ∷ ts) = (refl, levels_numbered (suc i) (n / 2) (d / k) ks ts)

-- A SHEET WITH n0 = 2^a, a at most 12, AND A BODY LONG ENOUGH
module _ (h : Sheet) (a : ℕ) (power : h.size ≡ 2 ^ a) (small : a ≤ 12) (chain : Chain a (first_level h) (later_levels h)) (body : List ℕ) (long : need (table_words h) h ≤ length body) where
  pub height_is : height_of h ≡ a
  unfolding height_of
  height_is = ap (log2 12) power ∙ log2_power 12 a small

  abbrev σ : Spelling
  σ = h.spelling

  abbrev size : Level → ℕ
  size l = word_count σ l.size

  abbrev tables : List (List ℕ)
  tables = tables_in (table_words h) h body

  abbrev levels : List Level
  levels = first_level h ∷ later_levels h

  part_long : (l : Level) (w : List ℕ) → size l ≤ length w → length (take (size l) w) ≡ entry_words h * l.size
  unfolding entry_words
  part_long l w b = length-take-le (size l) w b ∙ count_times σ l.size

  laid_from : (i : ℕ) (b : Level) (ls : List Level) (w : List ℕ) → ((j : ℕ) → j < length ls → get_or levels (i + j) (first_level h) ≡ get_or ls j (first_level h))
      → ((j : ℕ) → get_or tables (i + j) [] ≡ get_or (rest_tables size σ h.out_coins b ls w) j []) → i + length ls ≤ length levels → Numbered i ls → Chain a b ls
      → rest_need size σ h.out_coins b ls ≤ length w → Laid h tables i h.out_coins b ls w
  unfolding Laid Numbered rest_need rest_tables
  laid_from i b [] w lv tb n num c r = tt
  laid_from i b (l ∷ ls) w lv tb n num c r =
      let n₁ = beside_table σ h.out_coins b in
      let zero_here : i + 0 ≡ i = omega arith in
      let sized : Sized a l = chain_head a l ls c.2 in
      let up = sized_tall a l sized in
      let d : length (drop (size l + n₁) w) ≡ length w - (size l + n₁) = length-drop (size l + n₁) w in
      let here : PlacedAt h tables i l (take (size l) w) = record {
        within = omega arith;
        level = ap (λ (k : ℕ). get_or levels k (first_level h)) (sym zero_here) ∙ lv 0 (omega arith);
        table = ap (λ (k : ℕ). get_or tables k []) (sym zero_here) ∙ tb 0;
        number = num.0;
        long = part_long l w (omega arith);
        low = omega (arith, up.0, height_is);
        tall = up.1 ∙ ap (λ (k : ℕ). 2 ^ (k - l.number)) (sym height_is);
      } in (
        here,
        laid_from (suc i) l ls (drop (size l + n₁) w)
            (λ j b₁. ap (λ (k : ℕ). get_or levels k (first_level h)) (suc-add i j ∙ sym (add-suc i j)) ∙ lv (suc j) (omega arith))
            (λ j. ap (λ (k : ℕ). get_or tables k []) (suc-add i j ∙ sym (add-suc i j)) ∙ tb (suc j)) (omega arith) num.1 c.2 (omega (arith, d)),
      )

  first_sized : Sized a (first_level h)
  first_sized = chain_head a (first_level h) (later_levels h) chain

  pub first_placed : PlacedAt h tables 0 (first_level h) (take (word_count h.spelling h.size) body)
  unfolding first_level tables_in table_words need
  first_placed =
      let up = sized_tall a (first_level h) first_sized in
      record {
        within = omega arith;
        level = refl;
        table = refl;
        number = refl;
        long = part_long (first_level h) body (omega arith);
        low = omega arith;
        tall = up.1 ∙ ap (λ (k : ℕ). 2 ^ (k - (first_level h).number)) (sym height_is);
      }

  pub later_laid : Laid h tables 1 h.out_coins (first_level h) (later_levels h) (drop (word_count h.spelling 1) (drop (word_count h.spelling h.size) body))
  unfolding first_level later_levels tables_in table_words need entry_words
  later_laid =
      let n = word_count σ h.size in
      let e = word_count σ 1 in
      let q : drop e (drop n body) ≡ drop (n + e) body = drop-drop e n body in
      let d : length (drop (n + e) body) ≡ length body - (n + e) = length-drop (n + e) body in
      subst (λ (x : List ℕ). Laid h tables 1 h.out_coins (first_level h) (later_levels h) x) (sym q)
      (laid_from 1 (first_level h) (later_levels h) (drop (n + e) body) (λ j b. ap (λ (k : ℕ). get_or levels k (first_level h)) (suc-add 0 j ∙ ap suc (zero-add j)))
      (λ j. ap (λ (k : ℕ). get_or tables k []) (suc-add 0 j ∙ ap suc (zero-add j))) (omega arith)
      (levels_numbered 1 (h.size / 2) (h.degree / get_or h.folds 0 0) (tail h.folds) (tail h.repetitions)) chain (omega (arith, d)))
