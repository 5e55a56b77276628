-- A TRANSCRIPT READ FROM WORDS WHOSE TABLES WERE REPLACED: it is alike where the new tables agree with the old ones at the places that coins lead to.
use Prim.Native.Nat.{ℕ, ◌+◌, ◌-◌, ◌≤◌}
use Rattle.std.proofs.Common.{add_assoc, arith, ◌∙◌}
use Rattle.std.specs.Prelude.{◌≡◌, refl}
use Rattle.std.proofs.Math.Path.{sym, ap, ap₂, subst}
use mathlib.Core.List.{List, [], ◌∷◌, ◌++◌}
use Rattle.std.proofs.Math.ListN.{length, get_or, take, drop, length-drop}
use Rattle.std.proofs.Math.Seq.{take_at, drop_at, drop-drop, length-take-le}
use Rattle.definition.specs.Field.{Spelling, Element, Field, field_in, number_in, word_count, elements_in}
use Rattle.definition.specs.Sheet.{Sheet, Level, first_level, later_levels, root_of_unity}
use Rattle.definition.specs.Transcript.{Rest, final, round, Transcript}
use Rattle.definition.specs.Layout.{later_count, round_coins, read_rest, read_transcript}
use Rattle.definition.specs.Deciding.{Place, decide}
use Rattle.layouts.specs.Levels.{element_at}
use Rattle.layouts.specs.Spellings.{read_at_lem, at_take, count_zero}
use Rattle.list_laws.specs.Lists.{same_fewer, same_part}
use Rattle.openings.specs.Openings.{entry_words, beside_table, swap_rest, swap_tables, table_words, due_at, due_rest}
use Rattle.opening_laws.specs.Locality.{AgreeAt, Alike, indices, decide_alike}
use Rattle.opening_laws.specs.Swaps.{rest_need, need}

module _ (σ : Spelling) (p : ℕ) (ω : Element σ) (T : Level → List ℕ) (fits : (l : Level) → length (T l) ≡ word_count σ l.size) where
  -- the words of a level's table
  abbrev size : Level → ℕ
  size l = word_count σ l.size

  abbrev F : Field (Element σ)
  F = field_in σ p

  abbrev zero_in : Element σ
  zero_in = F.𝟘

  -- the new tables agree with those of a rest at the places that its coins lead to
  unfoldable pub Fitting : Rest (Element σ) → Type 0
  Fitting (final c js) = Unit {0}
  Fitting (round ρ rest) =
      AgreeAt F ω ρ.coins.level (λ m. get_or ρ.table m zero_in) (λ m. get_or (elements_in σ (T ρ.coins.level)) m zero_in) (indices F ω rest) × Fitting rest

  -- the words behind a table: those of its round, and what follows
  module _ (s : ℕ) (b : Level) (w r : List ℕ) (long : beside_table σ s b ≤ length w) where
    abbrev n : ℕ
    n = beside_table σ s b

    abbrev v : List ℕ
    v = take n w ++ r

    same : take n v ≡ take n w
    same = take_at (take n w) r n (length-take-le n w long)

    outs_same_lem : take (word_count σ s) v ≡ take (word_count σ s) w
    unfolding beside_table
    outs_same_lem = same_fewer (word_count σ s) n v w (omega arith) same

    replies_same : take (word_count σ s) (drop (word_count σ s) v) ≡ take (word_count σ s) (drop (word_count σ s) w)
    unfolding beside_table
    replies_same = same_part (word_count σ s) (word_count σ s) n v w (omega arith) same

    later_same : take (later_count σ b) (drop (word_count σ s) (drop (word_count σ s) v)) ≡ take (later_count σ b) (drop (word_count σ s) (drop (word_count σ s) w))
    unfolding beside_table
    later_same =
        ap (take (later_count σ b)) (drop-drop (word_count σ s) (word_count σ s) v)
        ∙ same_part (word_count σ s + word_count σ s) (later_count σ b) n v w (omega arith) same
        ∙ sym (ap (take (later_count σ b)) (drop-drop (word_count σ s) (word_count σ s) w))

    behind : (x : List ℕ) → drop (later_count σ b) (drop (word_count σ s) (drop (word_count σ s) x)) ≡ drop n x
    unfolding beside_table
    behind x =
        ap (drop (later_count σ b)) (drop-drop (word_count σ s) (word_count σ s) x) ∙ drop-drop (later_count σ b) (word_count σ s + word_count σ s) x
        ∙ ap (λ (k : ℕ). drop k x) (add_assoc (word_count σ s) (word_count σ s) (later_count σ b))

    rest_is : drop n v ≡ r
    rest_is = drop_at (take n w) r n (length-take-le n w long)

  pub rest_read : (s : ℕ) (b : Level) (ls : List Level) (w : List ℕ) → rest_need size σ s b ls ≤ length w → Fitting (read_rest σ s b ls w)
      → Alike F ω (read_rest σ s b ls w) (read_rest σ s b ls (swap_rest size (λ l _. T l) σ s b ls w))
  unfolding read_rest swap_rest rest_need Alike Fitting round_coins
  rest_read s b [] w h f = (refl, refl)
  rest_read s b (l ∷ ls) w h f =
      let n = beside_table σ s b in
      let o = word_count σ s in
      let w₁ = drop (size l) w in
      let k : length w₁ ≡ length w - size l = length-drop (size l) w in
      let k₂ : length (drop n w₁) ≡ length w₁ - n = length-drop n w₁ in
      let long : n ≤ length w₁ = omega (arith, k) in
      let r = swap_rest size (λ l _. T l) σ s l ls (drop n w₁) in
      let u : List ℕ = take n w₁ ++ r in
      let d : drop (size l) (T l ++ u) ≡ u = drop_at (T l) u (size l) (fits l) in
      let t : take (size l) (T l ++ u) ≡ T l = take_at (T l) u (size l) (fits l) in
      let e₁ : take o w₁ ≡ take o (drop (size l) (T l ++ u)) = sym (ap (take o) d ∙ outs_same_lem s b w₁ r long) in
      let e₂ : take o (drop o w₁) ≡ take o (drop o (drop (size l) (T l ++ u))) = sym (ap (λ (x : List ℕ). take o (drop o x)) d ∙ replies_same s b w₁ r long) in
      let e₃ : take (later_count σ b) (drop o (drop o w₁)) ≡ take (later_count σ b) (drop o (drop o (drop (size l) (T l ++ u)))) =
      sym (ap (λ (x : List ℕ). take (later_count σ b) (drop o (drop o x))) d ∙ later_same s b w₁ r long) in
      let q : drop (later_count σ b) (drop o (drop o w₁)) ≡ drop n w₁ = behind s b w₁ r long w₁ in
      let q₂ : drop (later_count σ b) (drop o (drop o (drop (size l) (T l ++ u)))) ≡ r =
      ap (λ (x : List ℕ). drop (later_count σ b) (drop o (drop o x))) d ∙ behind s b w₁ r long u ∙ rest_is s b w₁ r long in
      let ih = rest_read s l ls (drop n w₁) (omega (arith, k, k₂)) (subst (λ (x : List ℕ). Fitting (read_rest σ s l ls x)) q f.1) in (
        ap₂ (round_coins σ l) e₁ e₃,
        (
          ap (elements_in σ) e₂,
          (
            subst (λ (x : List ℕ). AgreeAt F ω l (λ m. get_or (elements_in σ (take (size l) w)) m zero_in) (λ m. get_or (elements_in σ x) m zero_in)
                (indices F ω (read_rest σ s l ls (drop (later_count σ b) (drop o (drop o w₁)))))) (sym t) f.0,
            subst (λ (x : List ℕ). Alike F ω (read_rest σ s l ls x) (read_rest σ s l ls (drop (later_count σ b) (drop o (drop o (drop (size l) (T l ++ u))))))) (sym q)
                (subst (λ (x : List ℕ). Alike F ω (read_rest σ s l ls (drop n w₁)) (read_rest σ s l ls x)) (sym q₂) ih),
          ),
        ),
      )

-- of a whole transcript: it is decided alike
module _ (h : Sheet) (T : Level → List ℕ) (fits : (l : Level) → length (T l) ≡ word_count h.spelling l.size) (w : List ℕ) (long : need (table_words h) h ≤ length w) where
  abbrev spelling : Spelling
  spelling = h.spelling

  abbrev sheet_omega : Element h.spelling
  sheet_omega = number_in h.spelling (root_of_unity h)

  abbrev old : Transcript (Element h.spelling)
  old = read_transcript h.spelling h w

  -- the new tables agree with the old ones at the places due
  unfoldable pub Fits : Type 0
  Fits =
      AgreeAt (field_in spelling h.prime) sheet_omega (first_level h) (λ m. get_or old.table m (field_in spelling h.prime).𝟘)
      (λ m. get_or (elements_in spelling (T (first_level h))) m (field_in spelling h.prime).𝟘) (indices (field_in spelling h.prime) sheet_omega old.rest)
      × Fitting spelling h.prime sheet_omega T fits old.rest

  -- the rest that is read is alike
  pub opened_alike : Fits → Alike (field_in spelling h.prime) sheet_omega old.rest (read_transcript spelling h (swap_tables (table_words h) (λ l _. T l) h w)).rest
  unfolding read_transcript swap_tables need first_level table_words entry_words Fits
  opened_alike f =
      let σ = h.spelling in
      let first = first_level h in
      let n = word_count σ h.size in
      let e = word_count σ 1 in
      let w₁ = drop n w in
      let k : length w₁ ≡ length w - n = length-drop n w in
      let k₂ : length (drop e w₁) ≡ length w₁ - e = length-drop e w₁ in
      let r = swap_rest (table_words h) (λ l _. T l) σ h.out_coins first (later_levels h) (drop e w₁) in
      let u : List ℕ = take e w₁ ++ r in
      let d : drop n (T first ++ u) ≡ u = drop_at (T first) u n (fits first) in
      let front : length (take e w₁) ≡ e = length-take-le e w₁ (omega (arith, k)) in
      let q : drop e (drop n (T first ++ u)) ≡ r = ap (drop e) d ∙ drop_at (take e w₁) r e front in
      subst (λ (x : List ℕ). Alike (field_in σ h.prime) sheet_omega old.rest (read_rest σ h.out_coins first (later_levels h) x)) (sym q)
      (rest_read σ h.prime sheet_omega T fits h.out_coins first (later_levels h) (drop e w₁) (omega (arith, k, k₂)) f.1)

  pub opened_decided : Fits → decide (field_in spelling h.prime) sheet_omega (first_level h) (read_transcript spelling h (swap_tables (table_words h) (λ l _. T l) h w))
      ≡ decide (field_in spelling h.prime) sheet_omega (first_level h) old
  unfolding read_transcript swap_tables need first_level table_words entry_words Fits
  opened_decided f =
      let σ = h.spelling in
      let first = first_level h in
      let n = word_count σ h.size in
      let e = word_count σ 1 in
      let z = number_in σ 0 in
      let w₁ = drop n w in
      let k : length w₁ ≡ length w - n = length-drop n w in
      let k₂ : length (drop e w₁) ≡ length w₁ - e = length-drop e w₁ in
      let long₁ : e ≤ length w₁ = omega (arith, k) in
      let r = swap_rest (table_words h) (λ l _. T l) σ h.out_coins first (later_levels h) (drop e w₁) in
      let u : List ℕ = take e w₁ ++ r in
      let d : drop n (T first ++ u) ≡ u = drop_at (T first) u n (fits first) in
      let t : take n (T first ++ u) ≡ T first = take_at (T first) u n (fits first) in
      let front : length (take e w₁) ≡ e = length-take-le e w₁ long₁ in
      let same : take e u ≡ take e w₁ = take_at (take e w₁) r e front in
      let at : (x : List ℕ) → get_or (elements_in σ x) 0 z ≡ element_at σ (take e x) (word_count σ 0) = λ x. read_at_lem σ x 0 ∙ sym (at_take σ x e (word_count σ 0) (omega (arith, count_zero σ))) in
      let fold : get_or (elements_in σ w₁) 0 z ≡ get_or (elements_in σ (drop n (T first ++ u))) 0 z =
      at w₁ ∙ ap (λ (x : List ℕ). element_at σ x (word_count σ 0)) (sym same) ∙ sym (at u) ∙ ap (λ (x : List ℕ). get_or (elements_in σ x) 0 z) (sym d) in
      sym (decide_alike (field_in σ h.prime) sheet_omega first old (read_transcript σ h (T first ++ u))
      (subst (λ (x : List ℕ). AgreeAt (field_in σ h.prime) sheet_omega first (λ m. get_or old.table m (field_in σ h.prime).𝟘)
      (λ m. get_or (elements_in σ x) m (field_in σ h.prime).𝟘) (indices (field_in σ h.prime) sheet_omega old.rest)) (sym t) f.0)
      fold (opened_alike f))

-- the places due are the same
pub due_alike : {A : Type 0} (F : Field A) (ω : A) (b : Level) (x y : Rest A) → Alike F ω x y → due_rest b x ≡ due_rest b y
unfolding due_rest Alike
due_alike F ω b (final c js) (final d ks) a = ap (due_at b) a.1
due_alike F ω b (final c js) (round π y) a = absurd a
due_alike F ω b (round ρ x) (final d ks) a = absurd a
due_alike F ω b (round ρ x) (round π y) a =
    (λ i. due_at b (a.0 i).shifts ++ due_rest (a.0 i).level x) ∙ ap (λ (ps : List Place). due_at b π.coins.shifts ++ ps) (due_alike F ω π.coins.level x y a.1.1.1)
