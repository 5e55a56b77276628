-- The tables of a batch: a polynomial with zeros behind its coefficients has the same table, and the tables are written one after the other.
use Prim.Native.Nat.{ℕ, zero, suc, ◌+◌, ◌-◌, ◌*◌, ◌/◌, ◌≤◌, ◌<◌}
use native.Mathlib.Nat.{mul-add, mul_comm, mul-le-mul_left, mul-one, mul-zero}
use native.Mathlib.Omega.{arith}
use mathlib.Core.List.{List, [], ◌∷◌, ◌++◌, append_assoc, append-nil, flat_map, map}
use mathlib.Core.Path.{◌≡◌, refl, sym, ap, ◌∙◌, subst}
use lib.ListN.{length, get_or, take, drop, set, drop_of_length-le, length-append, length-drop}
use lib.Seq.{drop-cons, drop-drop, get_or-append-add, length-take-le, take_all, take-append-add, take_at}
use borrow.Rule.Slice.PartMut.{put_mid}
use Rattle.batch_definition.specs.Batch.{cut_by, sum_of}
use Rattle.definition.specs.Domain.{domain}
use Rattle.definition.specs.Field.{Element, Field, Spelling, elements_in, embed, field_in, four, one, prime_field, quads, quartic, word_count, words_of}
use Rattle.definition.specs.Polynomial.{evaluate}
use Rattle.definition.specs.Prover.{table_of, table_words}
use Rattle.definition.specs.Reading.{sheet_test}
use Rattle.definition.specs.Sheet.{Sheet, edition1, first_level, sheet_of}
use Rattle.definition.specs.Verdict.{accepted}
use Rattle.list_laws.specs.All.{All, all_drop, all_replicate, at_place}
use Rattle.list_laws.specs.Lists.{part_length_lem}
use Rattle.list_laws.specs.Zeros.{zeros}
use Rattle.algebra.specs.Laws.{FieldLaws}
use Rattle.algebra.specs.Quartic.{quad_path}
use Rattle.layouts.proofs.Lawful.{lawful}
use Rattle.layouts.specs.Levels.{sheet_field, sheet_root, words_for}
use Rattle.layouts.proofs.PlainSheet.{sheet_plain}
use Rattle.layouts.specs.Spellings.{count_add, count_mono}
use Rattle.batches.specs.BatchRules.{bounds_within, entries_few, entry_words_lem}
use Rattle.spelling.specs.ByField.{laws_at}
use Rattle.spelling.specs.Words.{elements_append, elements_drop, elements_many, elements_take}
use Rattle.sums.specs.ZeroPadding.{ZeroFrom, zeros_behind, zeros_taken}
use Rattle.batch_sheet.proofs.SizeLaws.{sum_next}
use Rattle.root_values.proofs.Parts.{count_product}
use Rattle.batch_front.specs.Words.{Ordered, tables_of}

-- ---- one table

-- zeros spell zeros
spelt_zero : (σ : Spelling) (p : ℕ) (v : List ℕ) → All (λ x. x ≡ 0) v → All (λ e. e ≡ (field_in σ p).𝟘) (elements_in σ v)
unfolding elements_in field_in prime_field quartic embed quads
spelt_zero one p v z = z
spelt_zero four p v z = go v z
  where
    go : (u : List ℕ) → All (λ x. x ≡ 0) u → All (λ e. e ≡ embed (prime_field p) 0) (quads u)
    go [] k = tt
    go (a ∷ []) k = tt
    go (a ∷ b ∷ []) k = tt
    go (a ∷ b ∷ c ∷ []) k = tt
    go (a ∷ b ∷ c ∷ d ∷ u) k = (quad_path k.0 k.1.0 k.1.1.0 k.1.1.1.0, go u k.1.1.1.1)

only_zeros : {A : Type 0} (z : A) (l : List A) → All (λ x. x ≡ z) l → (m : ℕ) → get_or l m z ≡ z
only_zeros z [] k m = refl
only_zeros z (x ∷ l) k zero = k.0
only_zeros z (x ∷ l) k (suc m) = only_zeros z l k.1 m

half_words : (σ : Spelling) (d n : ℕ) → d ≤ n / 2 → word_count σ d + word_count σ d ≤ word_count σ n
unfolding word_count
half_words one d n l = omega arith
half_words four d n l = omega arith

module _ (w : List ℕ) (passed : sheet_test edition1 w ≡ accepted) where
  abbrev h : Sheet
  h = sheet_of edition1 w

  abbrev σ : Spelling
  σ = (sheet_of edition1 w).spelling

  -- the words of d0 coefficients are at most 2,048
  pub degree_small : 12 ≤ length w → words_for (sheet_of edition1 w) (sheet_of edition1 w).degree ≤ 2048
  unfolding sheet_of
  degree_small long = omega (arith, half_words σ h.degree h.size (sheet_plain edition1 w passed).plain.degree_range.1, (lawful edition1 w long passed).words)

  laws : FieldLaws (sheet_field h)
  unfolding sheet_of
  laws = laws_at (get_or w 0 0)

  module _ (f : List ℕ) (whole : length f ≡ words_for (sheet_of edition1 w) (length (elements_in (sheet_of edition1 w).spelling f)))
      (few : length (elements_in (sheet_of edition1 w).spelling f) ≤ (sheet_of edition1 w).degree) where
    pub coefficients_inside : length f ≤ words_for (sheet_of edition1 w) (sheet_of edition1 w).degree
    coefficients_inside = omega (arith, whole, count_mono σ (length (elements_in σ f)) h.degree few)

    -- zeros behind the coefficients
    pub padded_table : {d : ℕ} → d ≡ words_for (sheet_of edition1 w) (sheet_of edition1 w).degree →
        table_words (sheet_of edition1 w) (take d (f ++ drop (length f) (zeros 2048))) ≡ table_words (sheet_of edition1 w) f
    unfolding table_words table_of
    padded_table {d} e =
        ap (λ (g : Element σ → Element σ). words_of σ (map g (domain F (sheet_root h) (first_level h)))) (λ i x. same x i)
      where
        F : Field (Element (sheet_of edition1 w).spelling)
        F = sheet_field (sheet_of edition1 w)

        E : List (Element (sheet_of edition1 w).spelling)
        E = elements_in (sheet_of edition1 w).spelling f

        Z : List (Element (sheet_of edition1 w).spelling)
        Z = elements_in (sheet_of edition1 w).spelling (drop (length f) (zeros 2048))

        none_behind : ZeroFrom F Z 0
        none_behind m l =
            only_zeros F.𝟘 Z (spelt_zero σ h.prime (drop (length f) (zeros 2048)) (all_drop (λ (x : ℕ). x ≡ 0) (length f) (zeros 2048) (all_replicate (λ (x : ℕ). x ≡ 0) 2048 0 refl))) m

        none_from : ZeroFrom F (E ++ Z) h.degree
        none_from m l =
            let s : length E + (m - length E) ≡ m = omega (arith, few, l) in
            ap (λ (k : ℕ). get_or (E ++ Z) k F.𝟘) (sym s) ∙ get_or-append-add E Z (m - length E) F.𝟘 ∙ none_behind (m - length E) (omega arith)

        elements : elements_in σ (take d (f ++ drop (length f) (zeros 2048))) ≡ take h.degree (E ++ Z)
        elements =
            ap (λ (n : ℕ). elements_in σ (take n (f ++ drop (length f) (zeros 2048)))) e ∙ elements_take σ h.degree (f ++ drop (length f) (zeros 2048))
            ∙ ap (take h.degree) (elements_append σ (length E) f (drop (length f) (zeros 2048)) whole)

        same : (x : Element (sheet_of edition1 w).spelling) → evaluate F (elements_in σ (take d (f ++ drop (length f) (zeros 2048)))) x ≡ evaluate F E x
        same x = ap (λ (p : List (Element σ)). evaluate F p x) elements ∙ zeros_taken F laws (E ++ Z) h.degree x none_from ∙ zeros_behind F laws E Z x none_behind

-- ---- all tables

-- so many tables in words
pub tables_words : (σ : Spelling) (count size : ℕ) → word_count σ (count * size) ≡ word_count σ size * count
tables_words σ count size = count_product σ count size ∙ mul_comm count (word_count σ size)

-- a first word, and the others
pub first_and_others : (x : ℕ) (out others : List ℕ) → 0 < length out → put_mid 1 (length (set out 0 x) - 1) (set out 0 x) others ≡ x ∷ others
first_and_others x [] others l = absurd (omega arith)
first_and_others x (y ∷ out) others l =
    ap {B = List ℕ} (λ t. x ∷ (others ++ t)) (drop_of_length-le out {i = suc (length out) - 1} (omega arith)) ∙ ap {B = List ℕ} (λ t. x ∷ t) (append-nil others)

-- m tables are written, whose coefficients are the first `at` words
abbrev pub Written : List ℕ → List ℕ → List ℕ → ℕ → ℕ → ℕ → List ℕ → Type 0
Written w bounds f size m at out =
    (m ≤ length bounds) × (length out ≡ size * length bounds) × (at + words_for (sheet_of edition1 w) (sum_of (drop m bounds)) ≡ length f)
    × (take (size * m) out ++ tables_of (sheet_of edition1 w) (drop m bounds) (elements_in (sheet_of edition1 w).spelling (drop at f))
    ≡ tables_of (sheet_of edition1 w) bounds (elements_in (sheet_of edition1 w).spelling f))

module _ (w bounds f : List ℕ) (ok : Ordered w bounds f) where
  abbrev h₁ : Sheet
  h₁ = sheet_of edition1 w

  abbrev σ₁ : Spelling
  σ₁ = (sheet_of edition1 w).spelling

  -- the words of all tables are at most 8,192
  pub tables_small : {size : ℕ} → size ≡ words_for (sheet_of edition1 w) (sheet_of edition1 w).size → size * length bounds ≤ 8192
  tables_small {size} e =
      let N = length bounds in
      omega (arith, ap (λ (n : ℕ). n * N) e, tables_words σ₁ N h₁.size, entry_words_lem σ₁ (N * h₁.size) (entries_few h₁ N bounds ok.ruled))

  pub none_written : (size : ℕ) (out : List ℕ) → length out ≡ size * length bounds → Written w bounds f size 0 0 out
  none_written size out e = (
    omega arith,
    e,
    omega (arith, ok.count),
    ap (λ (n : ℕ). take n out ++ tables_of h₁ bounds (elements_in σ₁ f)) (mul-zero size),
  )

  pub all_written : (size m at : ℕ) (out : List ℕ) → Written w bounds f size m at out → length bounds ≤ m → out ≡ tables_of (sheet_of edition1 w) bounds (elements_in (sheet_of edition1 w).spelling f)
  unfolding cut_by flat_map
  all_written size m at out v l =
      let full : length out ≤ size * m = omega (arith, v.1, mul-le-mul_left size l) in
      sym (append-nil out) ∙ (λ i. sym (take_all (size * m) out full) i ++ tables_of h₁ (sym (drop_of_length-le bounds {i = m} l) i) (elements_in σ₁ (drop at f))) ∙ v.3

  module _ (size m at count : ℕ) (out : List ℕ) (v : Written w bounds f size m at out) (more : m < length bounds) (is : count ≡ words_for (sheet_of edition1 w) (get_or bounds m 0)) where
    sums : at + count + words_for h₁ (sum_of (drop (m + 1) bounds)) ≡ length f
    sums = omega (arith, v.2, is, ap (word_count σ₁) (sum_next bounds m more), count_add σ₁ (get_or bounds m 0) (sum_of (drop (m + 1) bounds)))

    pub part_inside : at + count ≤ length f
    part_inside = omega (arith, sums)

    part_long : length (take count (drop at f)) ≡ count
    part_long = part_length_lem at count f part_inside

    part_elements : length (elements_in σ₁ (take count (drop at f))) ≡ get_or bounds m 0
    part_elements = elements_many σ₁ (get_or bounds m 0) (take count (drop at f)) (part_long ∙ is)

    -- what the table's function asks of the part
    pub part_whole : {n : ℕ} → n ≡ count → length (take n (drop at f)) ≡ words_for (sheet_of edition1 w) (length (elements_in (sheet_of edition1 w).spelling (take n (drop at f))))
    part_whole e =
        subst (λ (n : ℕ). length (take n (drop at f)) ≡ words_for h₁ (length (elements_in σ₁ (take n (drop at f))))) (sym e) (part_long ∙ is ∙ ap (word_count σ₁) (sym part_elements))

    pub part_few : {n : ℕ} → n ≡ count → length (elements_in (sheet_of edition1 w).spelling (take n (drop at f))) ≤ (sheet_of edition1 w).degree
    part_few e =
        let within : All (λ b. (1 ≤ b) × (b ≤ h₁.degree)) bounds =
        subst (All (λ b. (1 ≤ b) × (b ≤ h₁.degree))) (take_all (length bounds) bounds (omega arith)) (bounds_within h₁ (length bounds) bounds ok.ruled) in
        subst (λ (n : ℕ). length (elements_in σ₁ (take n (drop at f))) ≤ h₁.degree) (sym e)
        (omega (arith, part_elements, (at_place (λ b. (1 ≤ b) × (b ≤ h₁.degree)) bounds 0 within m more).1))

    -- its place in the output
    pub place_inside : size * m + size ≤ length out
    place_inside = let u : m + 1 ≤ length bounds = omega arith in omega (arith, v.1, mul-le-mul_left size u, mul-add size m 1, mul-one size)

    turn : tables_of h₁ (drop m bounds) (elements_in σ₁ (drop at f)) ≡ table_words h₁ (take count (drop at f)) ++ tables_of h₁ (drop (m + 1) bounds) (elements_in σ₁ (drop (at + count) f))
    unfolding cut_by flat_map table_words
    turn =
        let X = elements_in σ₁ (drop at f) in
        let s : suc m ≡ m + 1 = omega arith in
        let b = get_or bounds m 0 in
        let tbl : List (Element σ₁) → List ℕ = λ p. words_of σ₁ (table_of (sheet_field h₁) (sheet_root h₁) (first_level h₁) p) in
        let front : take b X ≡ elements_in σ₁ (take count (drop at f)) = sym (elements_take σ₁ b (drop at f)) ∙ ap (λ (n : ℕ). elements_in σ₁ (take n (drop at f))) (sym is) in
        let back : drop b X ≡ elements_in σ₁ (drop (at + count) f) =
        sym (elements_drop σ₁ b (drop at f)) ∙ ap (λ (n : ℕ). elements_in σ₁ (drop n (drop at f))) (sym is) ∙ ap (elements_in σ₁) (drop-drop count at f) in
        ap (λ (bs : List ℕ). tables_of h₁ bs X) (drop-cons bounds m 0 more) ∙ (λ i. tbl (front i) ++ tables_of h₁ (drop (s i) bounds) (back i))

    one_written : (table : List ℕ) → length table ≡ size → table ≡ table_words h₁ (take count (drop at f)) → Written w bounds f size (m + 1) (at + count) (put_mid (size * m) size out table)
    one_written table long e =
        let T = take (size * m) out in
        let R = drop size (drop (size * m) out) in
        let lt : length T ≡ size * m = length-take-le (size * m) out (omega (arith, place_inside)) in
        let n : size * (m + 1) ≡ length T + size = omega (arith, lt, mul-add size m 1, mul-one size) in
        let front : take (size * (m + 1)) (T ++ (table ++ R)) ≡ T ++ table =
        ap (λ (k : ℕ). take k (T ++ (table ++ R))) n ∙ take-append-add T (table ++ R) size ∙ ap (λ (l : List ℕ). T ++ l) (take_at table R size long) in
        let rest = tables_of h₁ (drop (m + 1) bounds) (elements_in σ₁ (drop (at + count) f)) in (
          omega arith,
          length-append T (table ++ R)
              ∙ omega (arith, lt, length-append table R, long, length-drop size (drop (size * m) out), length-drop (size * m) out, place_inside, v.1),
          sums,
          ap (λ (l : List ℕ). l ++ rest) front ∙ append_assoc T table rest ∙ ap (λ (l : List ℕ). T ++ (l ++ rest)) e ∙ ap (λ (l : List ℕ). T ++ l) (sym turn) ∙ v.3,
        )

    pub one_more : {n k : ℕ} → n ≡ count → k ≡ size → (table : List ℕ) → length table ≡ size → table ≡ table_words (sheet_of edition1 w) (take n (drop at f)) →
        Written w bounds f size (m + 1) (at + count) (put_mid (size * m) k out table)
    one_more en ek table long e =
        subst (λ (k : ℕ). Written w bounds f size (m + 1) (at + count) (put_mid (size * m) k out table)) (sym ek)
        (one_written table long (e ∙ ap (λ (n : ℕ). table_words h₁ (take n (drop at f))) en))
