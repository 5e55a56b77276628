-- THE TESTS OF OUT COINS, 7 AND 14, FIND NO FAULT IN THE BUILDER'S STREAM where they found none in the full one.
use Prim.Native.Nat.{ℕ, ◌+◌, ◌-◌, ◌^◌, ◌≤◌, ◌<◌}
use Rattle.std.proofs.Common.{arith, sym, ◌∙◌}
use Rattle.std.specs.Prelude.{Bool, false, ◌≡◌}
use mathlib.Core.List.{List, [], ◌∷◌, ◌++◌, append_assoc, append-nil, zip_with}
use Rattle.std.proofs.Math.Option.{Option, none}
use Rattle.std.proofs.Math.Path.{refl, ap, ap₂, subst}
use Rattle.std.proofs.Math.ListN.{length, take, drop, replicate, length-append, length-drop, take-append-drop}
use Rattle.std.proofs.lemmas.List.{length-replicate}
use Rattle.std.proofs.Math.Seq.{drop_at, length-take-le, take_at}
use Rattle.definition.specs.Field.{Spelling, Element, Field, field_in, word_count, begun_by}
use Rattle.definition.specs.Lists.{first_true}
use Rattle.definition.specs.Sheet.{Sheet, Level, first_level, later_levels, shift_count, final_count}
use Rattle.definition.specs.Layout.{Kind, message, coin, index, layout, later_count, out_layout, rest_layout, round_layout}
use Rattle.definition.specs.Verdict.{accepted, refuse_at, ◌then◌}
use Rattle.definition.specs.Deciding.{out_before, out_in_domain, out_test, out_repeated, repeated_outs, equal_test, out_tests}
use Rattle.list_laws.specs.All.{All}
use Rattle.layouts.proofs.LayoutFacts.{outs_length}
use Rattle.layouts.specs.Tests.{all_false, at_none, none_true, then_passes}
use Rattle.openings.specs.Openings.{entry_words, hash_words, any_word, beside_table, swap_rest, swap_tables, table_words, opening_layout}
use Rattle.opening_laws.specs.Outs.{Clear, Quiet, begun_drop, messages_off, messages_on, outs_move, run_off, run_on, scan}

module _ (σ : Spelling) (t : Option (Element σ) → Kind → Element σ → Bool) (qm : Quiet t message) (qc : Quiet t coin) (qi : (n : ℕ) → Quiet t (index n))
    (g : Level → List ℕ → List ℕ) (eight : (l : Level) (x : List ℕ) → length (g l x) ≡ hash_words) (s : ℕ) (some-outs : 0 < word_count σ s) where
  abbrev size : Level → ℕ
  size l = word_count σ l.size

  abbrev free : Level → List Kind → List Kind
  free _ _ = replicate hash_words any_word

  any_quiet : Quiet t any_word
  unfolding any_word
  any_quiet = qi (2 ^ 32)

  -- a run of quiet kinds over the words that it takes
  off : (k : Kind) → Quiet t k → (n : ℕ) (ks : List Kind) (u v : List ℕ) → length u ≡ n → Clear t none (replicate n k ++ ks) (begun_by σ (u ++ v)) → Clear t none ks (begun_by σ v)
  off k q n ks u v e h = subst (Clear t none ks) (begun_drop σ n (u ++ v) ∙ ap (begun_by σ) (drop_at u v n e)) (run_off t k q n ks (begun_by σ (u ++ v)) h)

  on : (k : Kind) → Quiet t k → (n : ℕ) (ks : List Kind) (u v : List ℕ) → length u ≡ n → Clear t none ks (begun_by σ v) → Clear t none (replicate n k ++ ks) (begun_by σ (u ++ v))
  on k q n ks u v e h = run_on t k q n ks (begun_by σ (u ++ v)) (subst (Clear t none ks) (sym (begun_drop σ n (u ++ v) ∙ ap (begun_by σ) (drop_at u v n e))) h)

  replies_off : (b : Option (Element σ)) (n : ℕ) (ks : List Kind) (u v : List ℕ) → 0 < n → length u ≡ n → Clear t b (replicate n message ++ ks) (begun_by σ (u ++ v)) → Clear t none ks (begun_by σ v)
  replies_off b n ks u v l e h = subst (Clear t none ks) (begun_drop σ n (u ++ v) ∙ ap (begun_by σ) (drop_at u v n e)) (messages_off t qm b n ks (begun_by σ (u ++ v)) l h)

  replies_on : (b : Option (Element σ)) (n : ℕ) (ks : List Kind) (u v : List ℕ) → 0 < n → length u ≡ n → Clear t none ks (begun_by σ v) → Clear t b (replicate n message ++ ks) (begun_by σ (u ++ v))
  replies_on b n ks u v l e h = messages_on t qm b n ks (begun_by σ (u ++ v)) l (subst (Clear t none ks) (sym (begun_drop σ n (u ++ v) ∙ ap (begun_by σ) (drop_at u v n e))) h)

  -- the words beside a table, before other words: o of the out coins, r of the replies, c of the coins and j of the indices
  module _ (b l : Level) (o r c j : List ℕ) (no : length o ≡ word_count σ s) (nr : length r ≡ word_count σ s) (nc : length c ≡ word_count σ 2) (nj : length j ≡ b.repetitions) where
    abbrev beside : List Kind
    beside = replicate (word_count σ s) message ++ (replicate (word_count σ 2) coin ++ replicate b.repetitions (index (shift_count b)))

    regroup : (ks : List Kind) → beside ++ ks ≡ replicate (word_count σ s) message ++ (replicate (word_count σ 2) coin ++ (replicate b.repetitions (index (shift_count b)) ++ ks))
    regroup ks =
        append_assoc (replicate (word_count σ s) message) _ ks
        ∙ ap (λ (x : List Kind). replicate (word_count σ s) message ++ x) (append_assoc (replicate (word_count σ 2) coin) (replicate b.repetitions (index (shift_count b))) ks)

    round_move : (ks js : List Kind) (v u : List ℕ) → (Clear t none ks (begun_by σ v) → Clear t none js (begun_by σ u))
        → Clear t none (out_layout σ s l ++ (beside ++ ks)) (begun_by σ (o ++ (r ++ (c ++ (j ++ v))))) → Clear t none (out_layout σ s l ++ (beside ++ js)) (begun_by σ (o ++ (r ++ (c ++ (j ++ u)))))
    round_move ks js v u f h =
        outs_move σ t qc l s none (beside ++ ks) (beside ++ js) o (r ++ (c ++ (j ++ v))) (r ++ (c ++ (j ++ u))) no h
        (λ d k.
        let k₁ = subst (λ (x : List Kind). Clear t d x (begun_by σ (r ++ (c ++ (j ++ v))))) (regroup ks) k in
        let k₂ = replies_off d (word_count σ s) _ r (c ++ (j ++ v)) some-outs nr k₁ in
        let k₃ = off coin qc (word_count σ 2) _ c (j ++ v) nc k₂ in
        let k₄ = f (off (index (shift_count b)) (qi (shift_count b)) b.repetitions ks j v nj k₃) in
        subst (λ (x : List Kind). Clear t d x (begun_by σ (r ++ (c ++ (j ++ u))))) (sym (regroup js))
        (replies_on d (word_count σ s) _ r (c ++ (j ++ u)) some-outs nr
        (on coin qc (word_count σ 2) _ c (j ++ u) nc (on (index (shift_count b)) (qi (shift_count b)) b.repetitions js j u nj k₄))))

  -- ---- the lists of a round, taken apart
  abbrev seg : Level → Level → List Kind
  seg b l = out_layout σ s l ++ (replicate (word_count σ s) message ++ (replicate (word_count σ 2) coin ++ replicate b.repetitions (index (shift_count b))))

  seg_long : (b l : Level) → length (seg b l) ≡ beside_table σ s b
  unfolding beside_table later_count
  seg_long b l =
      length-append (out_layout σ s l) _ ∙ ap₂ ◌+◌ (outs_length σ s l)
      (length-append (replicate (word_count σ s) message) _ ∙ ap₂ ◌+◌ (length-replicate (word_count σ s) message)
      (length-append (replicate (word_count σ 2) coin) (replicate b.repetitions (index (shift_count b)))
      ∙ ap₂ ◌+◌ (length-replicate (word_count σ 2) coin) (length-replicate b.repetitions (index (shift_count b)))))

  module _ (b l : Level) (R : List Kind) where
    abbrev K : List Kind
    K = (replicate (size l) message ++ seg b l) ++ R

    table_off : drop (size l) K ≡ seg b l ++ R
    table_off = ap (drop (size l)) (append_assoc (replicate (size l) message) (seg b l) R) ∙ drop_at (replicate (size l) message) (seg b l ++ R) (size l) (length-replicate (size l) message)

    seg_is : take (beside_table σ s b) (drop (size l) K) ≡ seg b l
    seg_is = ap (take (beside_table σ s b)) table_off ∙ take_at (seg b l) R (beside_table σ s b) (seg_long b l)

    rest_is : drop (beside_table σ s b) (drop (size l) K) ≡ R
    rest_is = ap (drop (beside_table σ s b)) table_off ∙ drop_at (seg b l) R (beside_table σ s b) (seg_long b l)

  -- the words beside a table, in their four parts
  module _ (b : Level) (u : List ℕ) (nu : length u ≡ beside_table σ s b) where
    abbrev o : List ℕ
    o = take (word_count σ s) u

    abbrev u₁ : List ℕ
    u₁ = drop (word_count σ s) u

    abbrev r : List ℕ
    r = take (word_count σ s) u₁

    abbrev u₂ : List ℕ
    u₂ = drop (word_count σ s) u₁

    abbrev c : List ℕ
    c = take (word_count σ 2) u₂

    abbrev j : List ℕ
    j = drop (word_count σ 2) u₂

    abbrev Whole : ℕ
    Whole = word_count σ s + (word_count σ s + (word_count σ 2 + b.repetitions))

    whole : length u ≡ Whole
    unfolding beside_table later_count
    whole = nu

    n₁ : length u₁ ≡ length u - word_count σ s
    n₁ = length-drop (word_count σ s) u

    n₂ : length u₂ ≡ length u₁ - word_count σ s
    n₂ = length-drop (word_count σ s) u₁

    o_long : length o ≡ word_count σ s
    o_long = length-take-le (word_count σ s) u (omega (arith, whole))

    r_long : length r ≡ word_count σ s
    r_long = length-take-le (word_count σ s) u₁ (omega (arith, whole, n₁))

    c_long : length c ≡ word_count σ 2
    c_long = length-take-le (word_count σ 2) u₂ (omega (arith, whole, n₁, n₂))

    j_long : length j ≡ b.repetitions
    j_long = length-drop (word_count σ 2) u₂ ∙ omega (arith, whole, n₁, n₂)

    parts : (v : List ℕ) → u ++ v ≡ o ++ (r ++ (c ++ (j ++ v)))
    parts v =
        let a : u ≡ o ++ (r ++ (c ++ j)) =
        sym (ap (λ (y : List ℕ). o ++ (r ++ y)) (take-append-drop (word_count σ 2) u₂) ∙ ap (λ (y : List ℕ). o ++ y) (take-append-drop (word_count σ s) u₁) ∙ take-append-drop (word_count σ s) u) in
        ap (λ (y : List ℕ). y ++ v) a ∙ append_assoc o (r ++ (c ++ j)) v ∙ ap (λ (y : List ℕ). o ++ y) (append_assoc r (c ++ j) v ∙ ap (λ (y : List ℕ). r ++ y) (append_assoc c j v))

  rest_move : (b : Level) (ls : List Level) (w z x : List ℕ) → length (rest_layout σ s b ls) ≤ length w → Clear t none (rest_layout σ s b ls) (begun_by σ (w ++ z))
      → Clear t none (swap_rest size free σ s b ls (rest_layout σ s b ls)) (begun_by σ (swap_rest size g σ s b ls w ++ x))
  unfolding rest_layout swap_rest round_layout scan
  rest_move b [] w z x n h =
      let ys = begun_by σ (w ++ x) in
      run_on t message qm (word_count σ (final_count b)) (replicate b.repetitions (index (shift_count b))) ys
      (subst (λ (ks : List Kind). Clear t none ks (drop (word_count σ (final_count b)) ys)) (append-nil (replicate b.repetitions (index (shift_count b))))
      (run_on t (index (shift_count b)) (qi (shift_count b)) b.repetitions [] (drop (word_count σ (final_count b)) ys) tt))
  rest_move b (l ∷ ls) w z x n h =
      let R = rest_layout σ s l ls in
      let m = beside_table σ s b in
      let T = take (size l) w in
      let w₁ = drop (size l) w in
      let u = take m w₁ in
      let w₂ = drop m w₁ in
      let k : length ((replicate (size l) message ++ seg b l) ++ R) ≡ (size l + m) + length R =
      length-append (replicate (size l) message ++ seg b l) R ∙ ap (λ (i : ℕ). i + length R) (length-append (replicate (size l) message) (seg b l) ∙ ap₂ ◌+◌ (length-replicate (size l) message) (seg_long b l)) in
      let d₁ : length w₁ ≡ length w - size l = length-drop (size l) w in
      let d₂ : length w₂ ≡ length w₁ - m = length-drop m w₁ in
      let nT : length T ≡ size l = length-take-le (size l) w (omega (arith, k)) in
      let nu : length u ≡ m = length-take-le m w₁ (omega (arith, k, d₁)) in
      let Rw = swap_rest size g σ s l ls w₂ in
      let R₁ = swap_rest size free σ s l ls R in
      let source : w ++ z ≡ T ++ (u ++ (w₂ ++ z)) =
      ap (λ (y : List ℕ). y ++ z) (sym (ap (λ (y : List ℕ). T ++ y) (take-append-drop m w₁) ∙ take-append-drop (size l) w)) ∙ append_assoc T (u ++ w₂) z ∙ ap (λ (y : List ℕ). T ++ y) (append_assoc u w₂ z) in
      let target : (g l T ++ (u ++ Rw)) ++ x ≡ g l T ++ (u ++ (Rw ++ x)) = append_assoc (g l T) (u ++ Rw) x ∙ ap (λ (y : List ℕ). g l T ++ y) (append_assoc u Rw x) in
      let h₁ : Clear t none (replicate (size l) message ++ (seg b l ++ R)) (begun_by σ (T ++ (u ++ (w₂ ++ z)))) =
      subst (λ (ks : List Kind). Clear t none ks (begun_by σ (T ++ (u ++ (w₂ ++ z))))) (append_assoc (replicate (size l) message) (seg b l) R)
      (subst (λ (y : List ℕ). Clear t none ((replicate (size l) message ++ seg b l) ++ R) (begun_by σ y)) source h) in
      let h₂ : Clear t none (seg b l ++ R) (begun_by σ (u ++ (w₂ ++ z))) = off message qm (size l) (seg b l ++ R) T (u ++ (w₂ ++ z)) nT h₁ in
      let h₃ = subst (λ (ks : List Kind). Clear t none ks (begun_by σ (o b u nu ++ (r b u nu ++ (c b u nu ++ (j b u nu ++ (w₂ ++ z))))))) (append_assoc (out_layout σ s l) _ R)
      (subst (λ (y : List ℕ). Clear t none (seg b l ++ R) (begun_by σ y)) (parts b u nu (w₂ ++ z)) h₂) in
      let h₄ = round_move b l (o b u nu) (r b u nu) (c b u nu) (j b u nu) (o_long b u nu) (r_long b u nu) (c_long b u nu) (j_long b u nu) R R₁ (w₂ ++ z) (Rw ++ x)
      (rest_move l ls w₂ z x (omega (arith, k, d₁, d₂))) h₃ in
      let h₅ : Clear t none (seg b l ++ R₁) (begun_by σ (u ++ (Rw ++ x))) =
      subst (λ (y : List ℕ). Clear t none (seg b l ++ R₁) (begun_by σ y)) (sym (parts b u nu (Rw ++ x)))
      (subst (λ (ks : List Kind). Clear t none ks (begun_by σ (o b u nu ++ (r b u nu ++ (c b u nu ++ (j b u nu ++ (Rw ++ x))))))) (sym (append_assoc (out_layout σ s l) _ R₁)) h₄) in
      let h₆ = on any_word any_quiet hash_words (seg b l ++ R₁) (g l T) (u ++ (Rw ++ x)) (eight l T) h₅ in
      subst (λ (y : List ℕ). Clear t none (replicate hash_words any_word ++ (take m (drop (size l) ((replicate (size l) message ++ seg b l) ++ R)) ++ swap_rest size free σ s l ls (drop m (drop (size l) ((replicate (size l) message ++ seg b l) ++ R))))) (begun_by σ y)) (sym target)
      (subst (λ (ks : List Kind). Clear t none ks (begun_by σ (g l T ++ (u ++ (Rw ++ x))))) (λ i. replicate hash_words any_word ++ (sym (seg_is b l R) i ++ swap_rest size free σ s l ls (sym (rest_is b l R) i))) h₆)

-- ---- a whole stream
module _ (h : Sheet) (t : Option (Element h.spelling) → Kind → Element h.spelling → Bool) (qm : Quiet t message) (qc : Quiet t coin) (qi : (n : ℕ) → Quiet t (index n))
    (g : Level → List ℕ → List ℕ) (eight : (l : Level) (x : List ℕ) → length (g l x) ≡ hash_words) (some-outs : 0 < word_count h.spelling h.out_coins) where
  whole_move : (v z x : List ℕ) → length (layout h) ≤ length v → Clear t none (layout h) (begun_by h.spelling (v ++ z))
      → Clear t none (opening_layout h) (begun_by h.spelling (swap_tables (table_words h) g h v ++ x))
  unfolding opening_layout layout swap_tables table_words entry_words first_level
  whole_move v z x n e =
      let σ = h.spelling in
      let first = first_level h in
      let a = word_count σ h.size in
      let o = word_count σ 1 in
      let R = rest_layout σ h.out_coins first (later_levels h) in
      let T = take a v in
      let v₁ = drop a v in
      let u = take o v₁ in
      let v₂ = drop o v₁ in
      let k : length (replicate a message ++ (replicate o coin ++ R)) ≡ a + (o + length R) =
      length-append (replicate a message) (replicate o coin ++ R) ∙ ap₂ ◌+◌ (length-replicate a message) (length-append (replicate o coin) R ∙ ap (λ (i : ℕ). i + length R) (length-replicate o coin)) in
      let d₁ : length v₁ ≡ length v - a = length-drop a v in
      let d₂ : length v₂ ≡ length v₁ - o = length-drop o v₁ in
      let nT : length T ≡ a = length-take-le a v (omega (arith, k)) in
      let nu : length u ≡ o = length-take-le o v₁ (omega (arith, k, d₁)) in
      let Rw = swap_rest (table_words h) g σ h.out_coins first (later_levels h) v₂ in
      let R₁ = swap_rest (table_words h) (λ _ _. replicate hash_words any_word) σ h.out_coins first (later_levels h) R in
      let source : v ++ z ≡ T ++ (u ++ (v₂ ++ z)) =
      ap (λ (y : List ℕ). y ++ z) (sym (ap (λ (y : List ℕ). T ++ y) (take-append-drop o v₁) ∙ take-append-drop a v)) ∙ append_assoc T (u ++ v₂) z ∙ ap (λ (y : List ℕ). T ++ y) (append_assoc u v₂ z) in
      let target : (g first T ++ (u ++ Rw)) ++ x ≡ g first T ++ (u ++ (Rw ++ x)) = append_assoc (g first T) (u ++ Rw) x ∙ ap (λ (y : List ℕ). g first T ++ y) (append_assoc u Rw x) in
      let h₁ = subst (λ (y : List ℕ). Clear t none (replicate a message ++ (replicate o coin ++ R)) (begun_by σ y)) source e in
      let h₂ = off σ t qm qc qi g eight h.out_coins some-outs message qm a (replicate o coin ++ R) T (u ++ (v₂ ++ z)) nT h₁ in
      let h₃ = off σ t qm qc qi g eight h.out_coins some-outs coin qc o R u (v₂ ++ z) nu h₂ in
      let h₄ : Clear t none R₁ (begun_by σ (Rw ++ x)) = rest_move σ t qm qc qi g eight h.out_coins some-outs first (later_levels h) v₂ z x (omega (arith, k, d₁, d₂)) h₃ in
      let h₅ = on σ t qm qc qi g eight h.out_coins some-outs coin qc o R₁ u (Rw ++ x) nu h₄ in
      let h₆ = on σ t qm qc qi g eight h.out_coins some-outs any_word (any_quiet σ t qm qc qi g eight h.out_coins some-outs) hash_words (replicate o coin ++ R₁) (g first T) (u ++ (Rw ++ x)) (eight first T) h₅ in
      let K = replicate a message ++ (replicate o coin ++ R) in
      let b₁ : drop a K ≡ replicate o coin ++ R = drop_at (replicate a message) (replicate o coin ++ R) a (length-replicate a message) in
      let b₂ : take o (drop a K) ≡ replicate o coin = ap (take o) b₁ ∙ take_at (replicate o coin) R o (length-replicate o coin) in
      let b₃ : drop o (drop a K) ≡ R = ap (drop o) b₁ ∙ drop_at (replicate o coin) R o (length-replicate o coin) in
      subst (λ (y : List ℕ). Clear t none (replicate hash_words any_word ++ (take o (drop a K) ++ swap_rest (table_words h) (λ _ _. replicate hash_words any_word) σ h.out_coins first (later_levels h) (drop o (drop a K)))) (begun_by σ y)) (sym target)
      (subst (λ (ks : List Kind). Clear t none ks (begun_by σ (g first T ++ (u ++ (Rw ++ x)))))
      (λ i. replicate hash_words any_word ++ (sym b₂ i ++ swap_rest (table_words h) (λ _ _. replicate hash_words any_word) σ h.out_coins first (later_levels h) (sym b₃ i))) h₆)

-- the two tests as such walks
zip_scan : {A : Type 0} (f : Kind → A → Bool) (b : Option A) (ks : List Kind) (ys : List A) → zip_with f ks ys ≡ scan (λ _. f) b ks ys
unfolding zip_with scan
zip_scan f b [] ys = refl
zip_scan f b (k ∷ ks) [] = refl
zip_scan f b (k ∷ ks) (y ∷ ys) = ap (λ (r : List Bool). f k y ∷ r) (zip_scan f (out_before b k y) ks ys)

repeated_scan : {A : Type 0} (F : Field A) (b : Option A) (ks : List Kind) (ys : List A) → repeated_outs F b ks ys ≡ scan (out_repeated F) b ks ys
unfolding repeated_outs scan
repeated_scan F b [] ys = refl
repeated_scan F b (k ∷ ks) [] = refl
repeated_scan F b (k ∷ ks) (y ∷ ys) = ap (λ (r : List Bool). out_repeated F b k y ∷ r) (repeated_scan F (out_before b k y) ks ys)

module _ (h : Sheet) (g : Level → List ℕ → List ℕ) (eight : (l : Level) (x : List ℕ) → length (g l x) ≡ hash_words) (some-outs : 0 < word_count h.spelling h.out_coins) where
  abbrev inside : Option (Element h.spelling) → Kind → Element h.spelling → Bool
  inside _ = out_in_domain h.spelling h

  abbrev repeats : Option (Element h.spelling) → Kind → Element h.spelling → Bool
  repeats = out_repeated (field_in h.spelling h.prime)

  inside_move : (v z x : List ℕ) → length (layout h) ≤ length v → Clear inside none (layout h) (begun_by h.spelling (v ++ z))
      → Clear inside none (opening_layout h) (begun_by h.spelling (swap_tables (table_words h) g h v ++ x))
  unfolding out_in_domain out_before
  inside_move =
      whole_move h inside (record { asks = λ b y. refl; keeps = λ y. refl }) (record { asks = λ b y. refl; keeps = λ y. refl }) (λ n. record { asks = λ b y. refl; keeps = λ y. refl }) g eight some-outs

  repeats_move : (v z x : List ℕ) → length (layout h) ≤ length v → Clear repeats none (layout h) (begun_by h.spelling (v ++ z))
      → Clear repeats none (opening_layout h) (begun_by h.spelling (swap_tables (table_words h) g h v ++ x))
  unfolding out_repeated out_before
  repeats_move =
      whole_move h repeats (record { asks = λ b y. refl; keeps = λ y. refl }) (record { asks = λ b y. refl; keeps = λ y. refl }) (λ n. record { asks = λ b y. refl; keeps = λ y. refl }) g eight some-outs

  -- 7 AND 14 FIND NO FAULT, where they found none
  pub outs_kept : (w y v z x : List ℕ) → drop 12 w ≡ v ++ z → drop 12 y ≡ swap_tables (table_words h) g h v ++ x → length (layout h) ≤ length v
      → out_tests h 12 (layout h) w ≡ accepted → out_tests h 12 (opening_layout h) y ≡ accepted
  unfolding out_tests out_test equal_test ◌then◌
  outs_kept w y v z x e f n a =
      let σ = h.spelling in
      let F = field_in σ h.prime in
      let p = then_passes (refuse_at 7 (first_true 12 (zip_with (out_in_domain σ h) (layout h) (begun_by σ (drop 12 w))))) _ a in
      let i₁ = subst (λ (q : List ℕ). All (λ (c : Bool). c ≡ false) (zip_with (out_in_domain σ h) (layout h) (begun_by σ q))) e (all_false 7 12 _ p.0) in
      let i₂ = inside_move v z x n (subst (All (λ (c : Bool). c ≡ false)) (zip_scan (out_in_domain σ h) none (layout h) (begun_by σ (v ++ z))) i₁) in
      let i₃ = subst (λ (q : List ℕ). All (λ (c : Bool). c ≡ false) (zip_with (out_in_domain σ h) (opening_layout h) (begun_by σ q))) (sym f)
      (subst (All (λ (c : Bool). c ≡ false)) (sym (zip_scan (out_in_domain σ h) none (opening_layout h) (begun_by σ (swap_tables (table_words h) g h v ++ x)))) i₂) in
      let r₁ = subst (λ (q : List ℕ). All (λ (c : Bool). c ≡ false) (repeated_outs F none (layout h) (begun_by σ q))) e (all_false 14 12 _ p.1) in
      let r₂ = repeats_move v z x n (subst (All (λ (c : Bool). c ≡ false)) (repeated_scan F none (layout h) (begun_by σ (v ++ z))) r₁) in
      let r₃ = subst (λ (q : List ℕ). All (λ (c : Bool). c ≡ false) (repeated_outs F none (opening_layout h) (begun_by σ q))) (sym f)
      (subst (All (λ (c : Bool). c ≡ false)) (sym (repeated_scan F none (opening_layout h) (begun_by σ (swap_tables (table_words h) g h v ++ x)))) r₂) in
      let seven : refuse_at 7 (first_true 12 (zip_with (out_in_domain σ h) (opening_layout h) (begun_by σ (drop 12 y)))) ≡ accepted = at_none 7 _ (none_true 12 _ i₃) in
      let fourteen : refuse_at 14 (first_true 12 (repeated_outs F none (opening_layout h) (begun_by σ (drop 12 y)))) ≡ accepted = at_none 14 _ (none_true 12 _ r₃) in
      rw (seven, fourteen)
