-- The combined values by one table after the other, in either spelling. Assumes nothing.
use Prim.Native.Nat.{ℕ, suc, ◌+◌, ◌-◌, ◌*◌, ◌^◌, ◌≤◌, ◌<◌}
use native.Mathlib.Nat.{mul-le-mul_left}
use native.Mathlib.Numerals.{add-one}
use native.Mathlib.Omega.{arith}
use mathlib.Core.Path.{◌≡◌, refl, sym, ap, ap₂, ◌∙◌, subst}
use mathlib.Core.List.{List}
use lib.ListN.{length, get_or, take, drop, drop_of_length-le, length-map}
use lib.Pow.{pow_mono}
use Rattle.definition.specs.Domain.{domain, point}
use Rattle.definition.specs.Field.{Field, field_of, number_in, power, prime_field, spelling_of}
use Rattle.definition.specs.Lists.{chunks, range}
use Rattle.definition.specs.Polynomial.{evaluate, geometric}
use Rattle.definition.specs.Prover.{table_of}
use Rattle.definition.specs.Sheet.{Level}
use Rattle.domain.specs.Powers.{Powers}
use Rattle.list_laws.specs.All.{at_place}
use Rattle.list_laws.specs.Chunks.{chunks_at, chunks_length}
use Rattle.list_laws.specs.Filled.{FilledOver}
use Rattle.list_laws.specs.Lists.{get_d_map, get_d_map_range, range_length}
use Rattle.plane_tables.specs.FourTable.{DomainTableAt}
use Rattle.tables.specs.Halving.{Halves}
use Rattle.sums.specs.ZeroPadding.{ZeroFrom}
use Rattle.spelling.specs.ByField.{ElementOf, field_at, elements_at, words_at, laws_at}
use Rattle.spelling.specs.Points.{number_power}
use Rattle.spelling.specs.Words.{elements_even, elements_few, elements_many}
use Rattle.combination.specs.Asked.{Bounded, Tabled}
use Rattle.combination.specs.Added.{AddedAt, entry_at, factored_at, product_at}
use Rattle.combination.specs.LastToFirst.{combined_over, values_none, values_turn}

-- ---- what is asked of one table

module _ {field d : ℕ} {pw list multipliers out : List ℕ} (t : Tabled field d pw list multipliers out) where
  -- the places stay as long as they are
  pub tabled_kept : (list₁ multipliers₁ out₁ : List ℕ) → length list₁ ≡ length list → length multipliers₁ ≡ length multipliers → length out₁ ≡ length out →
      Tabled field (length (elements_at field list₁)) pw list₁ multipliers₁ out₁
  tabled_kept list₁ multipliers₁ out₁ el em eo =
      let same : length (elements_at field list₁) ≡ d = elements_even (spelling_of field) list₁ list el ∙ t.degree in
      record {
        root = t.root;
        powers = t.powers;
        halves = rw same t.halves;
        degree = refl;
        room = em ∙ t.room;
        whole = eo ∙ t.whole;
        small = omega (arith, eo, t.small);
      }

  -- as many entries as points
  pub entries : length (elements_at field out) ≡ length pw
  entries = elements_many (spelling_of field) (length pw) out t.whole

  pub factors : length (elements_at field multipliers) ≡ length pw
  factors = elements_many (spelling_of field) (length pw) multipliers t.room

  pub degree_few : d ≤ 4096
  degree_few =
      let h = t.halves in
      omega (arith, entries, elements_few (spelling_of field) out, t.small, h.count_is, h.size_is, pow_mono h.fits)

  -- what the table of the factors asks
  pub factors_asked : (list₁ : List ℕ) → length list₁ ≡ length list →
      Halves (length (elements_at field list₁)) (length (elements_at field multipliers))
      × (((0 < 1) × (1 * length (elements_at field multipliers) ≡ length pw)) × ((length multipliers ≡ words_at field (length (elements_at field multipliers))) × (length multipliers ≤ 4096)))
  factors_asked list₁ e =
      let same : length (elements_at field list₁) ≡ d = elements_even (spelling_of field) list₁ list e ∙ t.degree in (
        rw (same, factors) t.halves,
        ((omega arith, omega (arith, factors)), (t.room ∙ ap (words_at field) (sym factors), omega (arith, t.room, t.whole, t.small))),
      )

-- ---- a table over domain 0, at its points

pub table_at : (field : ℕ) (f pw out : List ℕ) (ω n : ℕ) → Powers field ω pw → n ≡ length pw → DomainTableAt field f pw 1 n out → (j : ℕ) → j < n →
    get_or (elements_at field out) j (field_at field).𝟘 ≡ evaluate (field_at field) (elements_at field f) (number_in (spelling_of field) (get_or pw j 0))
unfolding table_of domain point field_of prime_field
table_at field f pw out ω n w size t j l =
    ap (λ (v : List (ElementOf field)). get_or v j F.𝟘) (t ω first w refl refl)
    ∙ get_d_map (evaluate F (elements_at field f)) (domain F ω₁ first) F.𝟘 F.𝟘 j (omega (arith, l, long))
    ∙ ap (evaluate F (elements_at field f)) (get_d_map_range (point F ω₁ first) F.𝟘 0 n j l ∙ ap (power F ω₁) (place j) ∙ number_power field ω (1 + j) ∙ ap (number_in (spelling_of field)) (sym (w.entry j (omega (arith, l, size)))))
  where
    F : Field (ElementOf field)
    F = field_at field

    ω₁ : ElementOf field
    ω₁ = number_in (spelling_of field) ω

    first : Level
    first = record { number = 0; size = n; degree = 0; fold = 0; repetitions = 0 }

    long : length (domain F ω₁ first) ≡ n
    long = length-map (range 0 n) (point F ω₁ first) ∙ range_length 0 n

    place : (k : ℕ) → 1 + 2 ^ 0 * (0 + k) ≡ 1 + k
    place k = omega arith

module _ (field : ℕ) where
  -- one table more: by its products with the factors
  pub products_are : (r s : ElementOf field) (e : ℕ) (table list pw multipliers old new : List ℕ) (ω : ℕ) → Powers field ω pw → length (elements_at field old) ≡ length pw →
      length (elements_at field multipliers) ≡ length pw → s ≡ power (field_at field) r (e + 1) →
      ((x : ElementOf field) → evaluate (field_at field) (elements_at field list) x ≡ evaluate (field_at field) (geometric (field_at field) r e) x) →
      (m₁ : List ℕ) → DomainTableAt field list pw 1 (length (elements_at field multipliers)) m₁ →
      AddedAt field (product_at field table m₁) s old new →
      AddedAt field (factored_at field r e pw table) (power (field_at field) r (suc e)) old new
  products_are r s e table list pw multipliers old new ω w eo em es sum m₁ t filled = record {
    same = filled.same;
    passed = λ j l. filled.passed j l
        ∙ ap₂ (λ (u v : ElementOf field). (field_at field).◌⊕◌ ((field_at field).◌⊗◌ (entry_at field table j) u) ((field_at field).◌⊗◌ v (entry_at field old j)))
        (table_at field list pw m₁ ω (length (elements_at field multipliers)) w em t j (omega (arith, l, eo, em)) ∙ sum (number_in (spelling_of field) (get_or pw j 0)))
        (es ∙ ap (power (field_at field) r) (add-one e));
    left = filled.left;
  }

-- ---- the loop over the tables

-- the part of number m lies in the tables
pub table_inside : (count n m all : ℕ) → m < count → count * n ≤ all → n * m + n ≤ all
table_inside count n m all l h =
    let a : n * (m + 1) ≤ n * count = mul-le-mul_left n (omega arith) in
    omega (arith, a, h)

pub bound_at : (d m : ℕ) (bounds : List ℕ) → Bounded d bounds → m < length bounds → (1 ≤ get_or bounds m 0) × (get_or bounds m 0 ≤ d)
bound_at d m bounds h l = at_place (λ b. (1 ≤ b) × (b ≤ d)) bounds 0 h.each m l

module _ (field d : ℕ) (r : ElementOf field) (bounds pw tables : List ℕ) (n : ℕ) where
  -- the combined values of the tables from number m on
  abbrev pub from_table : ℕ → List (ElementOf field)
  from_table m =
      combined_over (field_at field) d r (λ j. number_in (spelling_of field) (get_or pw j 0)) n (drop m bounds) (drop m (chunks (length bounds) n (elements_at field tables)))

  pub no_table : (out : List ℕ) → length (elements_at field out) ≡ n → ZeroFrom (field_at field) (elements_at field out) 0 → elements_at field out ≡ from_table (length bounds)
  no_table out size zeros =
      values_none (field_at field) (laws_at field) d r (λ j. number_in (spelling_of field) (get_or pw j 0)) n (drop (length bounds) bounds) (drop (length bounds) (chunks (length bounds) n (elements_at field tables))) (elements_at field out) size (λ j l. zeros j (omega arith)) (drop_of_length-le bounds {i = length bounds} (omega arith))

  pub table_turn : (i : ℕ) (table old new : List ℕ) → 0 < i → i ≤ length bounds → n ≡ length pw → length (elements_at field old) ≡ n → elements_at field old ≡ from_table i →
      elements_at field table ≡ take (length pw) (drop (length pw * (i - 1)) (elements_at field tables)) →
      AddedAt field (factored_at field r (d - get_or bounds (i - 1) 0) pw table) (power (field_at field) r (suc (d - get_or bounds (i - 1) 0))) old new →
      elements_at field new ≡ from_table (i - 1)
  table_turn i table old new some few points size before is filled =
      let back : i ≡ i - 1 + 1 = omega arith in
      values_turn (field_at field) (laws_at field) d r (λ j. number_in (spelling_of field) (get_or pw j 0)) n (i - 1) bounds (chunks (length bounds) n (elements_at field tables)) (elements_at field table) (elements_at field old) (elements_at field new)
      (omega arith) (chunks_length (length bounds) n (elements_at field tables)) (before ∙ ap from_table back) size
      (is ∙ ap (λ (k : ℕ). take k (drop (k * (i - 1)) (elements_at field tables))) (sym points) ∙ sym (chunks_at (length bounds) n (elements_at field tables) (i - 1) (omega arith)))
      (subst (FilledOver (field_at field).𝟘 _ (elements_at field old) (elements_at field new)) size filled)

-- all of them
pub all_tables : (field d : ℕ) (r : ElementOf field) (bounds pw tables : List ℕ) (n n₁ i : ℕ) (out : List ℕ) → n₁ ≡ n → i ≤ 0 → elements_at field out ≡ from_table field d r bounds pw tables n i →
    elements_at field out ≡ combined_over (field_at field) d r (λ j. number_in (spelling_of field) (get_or pw j 0)) n₁ bounds (chunks (length bounds) n₁ (elements_at field tables))
all_tables field d r bounds pw tables n n₁ i out size end e =
    let none : i ≡ 0 = omega arith in
    e ∙ ap (from_table field d r bounds pw tables n) none ∙ ap (λ (k : ℕ). from_table field d r bounds pw tables k 0) (sym size)
