-- Tests 7 and 14 by place, of a list of kinds with its words, a stream's or a coin list's: given where the out coins of each round begin in it,
-- what the tests find is an out coin that is a point of its domain, and one that is equal to one before it.
use Prim.Native.Nat.{ℕ, zero, suc, ◌+◌, ◌-◌, ◌≤◌, ◌<◌}
use native.Mathlib.Omega.{arith}
use Rattle.std.specs.Prelude.{Bool, true, false, ◌≡◌}
use Rattle.std.proofs.Common.{true≢false, sym, ◌∙◌}
use mathlib.Core.List.{List, zip_with}
use Rattle.std.proofs.Math.Option.{Option, none, some}
use Rattle.std.proofs.Math.Path.{ap, subst}
use Rattle.std.proofs.Math.ListN.{length, get_or}
use Rattle.definition.specs.Deciding.{out_before, out_in_domain, out_repeated, repeated_outs, same_as}
use Rattle.definition.specs.Domain.{point}
use Rattle.definition.specs.Field.{Element, Field, Spelling, begun_by, number_in}
use Rattle.definition.specs.Layout.{Kind, coin, index, message, out, out_layout}
use Rattle.definition.specs.Sheet.{Sheet}
use Rattle.algebra.specs.Laws.{FieldLaws}
use Rattle.layouts.specs.Levels.{element_at, level_of, out_coin_count, rounds_of, sheet_field, sheet_root, words_for}
use Rattle.layouts.specs.Spellings.{begun_at, begun_length, count_below, count_least, count_mono, count_one, count_zero}
use Rattle.layouts.specs.WholeCoins.{IsOut}
use Rattle.completeness.specs.EqualOuts.{at_next, out_at, repeated_at, repeated_length}
use Rattle.completeness.specs.PartsByNumber.{outs_cases, outs_first, outs_other, outs_start}
use Rattle.completeness.specs.TestsByNumber.{domain_point, equal_same, point_inside, zip_at, zip_length}

-- the out coins of round i + 1 stand from `start i` on, with their kinds; there are no others; and the first of a round has none before it
pub record Placed (h : Sheet) (kinds : List Kind) (start : ℕ → ℕ) : Type 0 where
  pub inside : (i m : ℕ) → i < rounds_of h → m < words_for h (out_coin_count h) → start i + m < length kinds
  pub kind : (i m : ℕ) → i < rounds_of h → m < words_for h (out_coin_count h) → get_or kinds (start i + m) message ≡ get_or (out_layout h.spelling (out_coin_count h) (level_of h (suc i))) m message
  pub every : (j : ℕ) → j < length kinds → IsOut (get_or kinds j message) → (i : ℕ) × (i < rounds_of h) × ((m : ℕ) × (m < words_for h (out_coin_count h)) × (j ≡ start i + m))
  pub fresh : (xs : List (Element h.spelling)) → length kinds ≤ length xs → (i : ℕ) → i < rounds_of h → out_at none kinds xs (start i) ≡ none

-- word j begins out coin m of round i + 1, which is a point of domain i + 1, or is equal to out coin a before it
abbrev pub DomainAt : (h : Sheet) → (ℕ → ℕ) → List ℕ → ℕ → Type 0
DomainAt h start v j =
    (i : ℕ) × (i < rounds_of h) × ((m : ℕ) × (m < out_coin_count h) × (j ≡ start i + words_for h m)
    × ((a : ℕ) × (a < (level_of h (suc i)).size) × (element_at h.spelling v j ≡ point (sheet_field h) (sheet_root h) (level_of h (suc i)) a)))

abbrev pub EqualAt : (h : Sheet) → (ℕ → ℕ) → List ℕ → ℕ → Type 0
EqualAt h start v j =
    (i : ℕ) × (i < rounds_of h) × ((m : ℕ) × (m < out_coin_count h) × (j ≡ start i + words_for h m)
    × ((a : ℕ) × (a < m) × (element_at h.spelling v j ≡ element_at h.spelling v (start i + words_for h a))))

-- only a word of an out coin's kind is refused
domain_out : (h : Sheet) (k : Kind) (x : Element h.spelling) → out_in_domain h.spelling h k x ≡ true → IsOut k
unfolding out_in_domain
domain_out h message x e = absurd (true≢false (sym e))
domain_out h coin x e = absurd (true≢false (sym e))
domain_out h (out l) x e = tt
domain_out h (index n) x e = absurd (true≢false (sym e))

repeated_out : {A : Type 0} (F : Field A) (before : Option A) (k : Kind) (x : A) → out_repeated F before k x ≡ true → IsOut k
unfolding out_repeated
repeated_out F before message x e = absurd (true≢false (sym e))
repeated_out F before coin x e = absurd (true≢false (sym e))
repeated_out F before (out l) x e = tt
repeated_out F before (index n) x e = absurd (true≢false (sym e))

module _ (h : Sheet) (kinds : List Kind) (start : ℕ → ℕ) (placed : Placed h kinds start) (L : FieldLaws (sheet_field h)) (few : out_coin_count h ≤ 2) (v : List ℕ) (full : length kinds ≤ length v) where
  abbrev σ : Spelling
  σ = h.spelling

  abbrev F : Field (Element h.spelling)
  F = sheet_field h

  abbrev s : ℕ
  s = out_coin_count h

  -- the kinds of the out coins of round i + 1
  abbrev out_kinds : ℕ → List Kind
  out_kinds i = out_layout h.spelling (out_coin_count h) (level_of h (suc i))

  -- the elements that the words begin
  abbrev begun : List (Element h.spelling)
  begun = begun_by h.spelling v

  abbrev here : ℕ → Element h.spelling
  here j = get_or (begun_by h.spelling v) j (number_in h.spelling 0)

  -- out coin m of round i + 1
  abbrev coin_at : ℕ → ℕ → Element h.spelling
  coin_at i m = element_at h.spelling v (start i + words_for h m)

  enough : length kinds ≤ length begun
  enough = omega (arith, full, begun_length σ v)

  -- its first word is one of the words, and begins it
  first_word : (m : ℕ) → m < s → words_for h m < words_for h s
  first_word m u = omega (arith, count_below σ m s u, (count_one σ).0)

  coin_here : (i m : ℕ) → i < rounds_of h → m < s → here (start i + words_for h m) ≡ coin_at i m
  coin_here i m l u =
      let o = (count_one σ).0 in
      let last : words_for h m + (words_for h 1 - 1) < words_for h s = omega (arith, count_below σ m s u, o) in
      begun_at σ v (start i + words_for h m) (omega (arith, placed.inside i (words_for h m + (words_for h 1 - 1)) l last, full, o))

  -- ---- 7

  abbrev domain_tests : List Bool
  domain_tests = zip_with (out_in_domain h.spelling h) kinds (begun_by h.spelling v)

  domain_length : length domain_tests ≡ length kinds
  domain_length = zip_length (out_in_domain σ h) message (number_in σ 0) kinds begun enough

  domain_test : (j : ℕ) → j < length kinds → get_or domain_tests j false ≡ out_in_domain σ h (get_or kinds j message) (here j)
  domain_test j l = zip_at (out_in_domain σ h) message (number_in σ 0) kinds begun j l enough

  -- at the first word of out coin m
  domain_first : (i m : ℕ) → i < rounds_of h → m < s → get_or domain_tests (start i + words_for h m) false ≡ out_in_domain σ h (out (level_of h (suc i))) (coin_at i m)
  domain_first i m l u =
      let a = first_word m u in
      domain_test (start i + words_for h m) (placed.inside i (words_for h m) l a)
      ∙ (λ y. out_in_domain σ h ((placed.kind i (words_for h m) l a ∙ outs_first σ s (level_of h (suc i)) m u) y) (coin_here i m l u y))

  pub domain_sound : (j : ℕ) → j < length domain_tests → get_or domain_tests j false ≡ true → DomainAt h start v j
  unfolding out_in_domain
  domain_sound j l e = go (placed.every j below (domain_out h (get_or kinds j message) (here j) (sym (domain_test j below) ∙ e)))
    where
      below : j < length kinds
      below = omega (arith, domain_length)

      go : (i : ℕ) × (i < rounds_of h) × ((m : ℕ) × (m < words_for h (out_coin_count h)) × (j ≡ start i + m)) → DomainAt h start v j
      go r =
          let i = r.0 in
          let b = level_of h (suc i) in
          outs_cases σ s b r.2.0 r.2.1
          (λ m u q. let t : j ≡ start i + words_for h m = omega (arith, r.2.2, q) in
          let f : get_or domain_tests (start i + words_for h m) false ≡ true = subst (λ (n : ℕ). get_or domain_tests n false ≡ true) t e in
          (i, r.1, (m, u, t, domain_point F L (sheet_root h) b (element_at σ v j) (ap (λ (n : ℕ). out_in_domain σ h (out b) (element_at σ v n)) t ∙ sym (domain_first i m r.1 u) ∙ f))))
          (λ c. absurd (true≢false (sym e ∙ domain_test j below ∙ (λ y. out_in_domain σ h ((ap (λ (n : ℕ). get_or kinds n message) r.2.2 ∙ placed.kind i r.2.0 r.1 r.2.1 ∙ c) y) (here j)))))

  pub domain_complete : (j : ℕ) → DomainAt h start v j → (j < length domain_tests) × (get_or domain_tests j false ≡ true)
  unfolding out_in_domain
  domain_complete j p =
      let i = p.0 in
      let c = p.2.0 in
      let u = p.2.1 in
      let t = p.2.2 in
      let m = p.2.3 in (
        omega (arith, t, domain_length, placed.inside i (words_for h c) p.1 (first_word c u)),
        ap (λ (n : ℕ). get_or domain_tests n false) t ∙ domain_first i c p.1 u
            ∙ point_inside F L (sheet_root h) (level_of h (suc i)) m.0 (coin_at i c) m.1 (ap (element_at σ v) (sym t) ∙ m.2),
      )

  -- ---- 14

  abbrev equal_tests : List Bool
  equal_tests = repeated_outs (sheet_field h) none kinds (begun_by h.spelling v)

  equal_length : length equal_tests ≡ length kinds
  equal_length = repeated_length F none kinds begun enough

  -- the out coin before word j
  before : ℕ → Option (Element h.spelling)
  before j = out_at none kinds begun j

  equal_test : (j : ℕ) → j < length kinds → get_or equal_tests j false ≡ out_repeated F (before j) (get_or kinds j message) (here j)
  unfolding before
  equal_test j l = repeated_at F (number_in σ 0) none kinds begun j l (omega (arith, enough))

  before_next : (i m : ℕ) → i < rounds_of h → m < words_for h s → before (suc (start i + m)) ≡ out_before (before (start i + m)) (get_or (out_kinds i) m message) (here (start i + m))
  unfolding before
  before_next i m l u =
      at_next (number_in σ 0) none kinds begun (start i + m) (placed.inside i m l u) (omega (arith, placed.inside i m l u, enough))
      ∙ (λ y. out_before (before (start i + m)) (placed.kind i m l u y) (here (start i + m)))

  -- none stands before the first out coin of a round, and the first before the second
  first_out : (i : ℕ) → i < rounds_of h → before (start i) ≡ none
  unfolding before
  first_out i l = placed.fresh begun enough i l

  after_first : (i m : ℕ) → i < rounds_of h → 0 < s → m < words_for h 1 → before (start i + suc m) ≡ some (coin_at i 0)
  unfolding out_before
  after_first i zero l o u =
      let e : suc (start i + 0) ≡ start i + suc 0 = omega arith in
      let z : start i + 0 ≡ start i + words_for h 0 = omega (arith, count_zero σ) in
      subst (λ (n : ℕ). before n ≡ some (coin_at i 0)) e
      (before_next i 0 l (omega (arith, o, count_least σ s)) ∙ (λ y. out_before (before (start i + 0)) (outs_start σ s (level_of h (suc i)) o y) (here (start i + 0)))
      ∙ ap (λ (n : ℕ). some (here n)) z ∙ ap some (coin_here i 0 l o))
  after_first i (suc m) l o u =
      let e : suc (start i + suc m) ≡ start i + suc (suc m) = omega arith in
      let within : suc m < words_for h s = omega (arith, u, count_mono σ 1 s o) in
      subst (λ (n : ℕ). before n ≡ some (coin_at i 0)) e
      (before_next i (suc m) l within ∙ (λ y. out_before (before (start i + suc m)) (outs_other σ s (level_of h (suc i)) m o u y) (here (start i + suc m))) ∙ after_first i m l o (omega arith))

  second_out : (i : ℕ) → i < rounds_of h → 1 < s → before (start i + words_for h 1) ≡ some (coin_at i 0)
  second_out i l o =
      let e : start i + suc (words_for h 1 - 1) ≡ start i + words_for h 1 = omega (arith, (count_one σ).0) in
      subst (λ (n : ℕ). before n ≡ some (coin_at i 0)) e (after_first i (words_for h 1 - 1) l (omega arith) (omega (arith, (count_one σ).0)))

  -- so the test at the second out coin compares the two, and no other is true
  equal_first : (i m : ℕ) → i < rounds_of h → m < s → get_or equal_tests (start i + words_for h m) false ≡ same_as F (before (start i + words_for h m)) (coin_at i m)
  unfolding out_repeated
  equal_first i m l u =
      let a = first_word m u in
      equal_test (start i + words_for h m) (placed.inside i (words_for h m) l a)
      ∙ (λ y. out_repeated F (before (start i + words_for h m)) ((placed.kind i (words_for h m) l a ∙ outs_first σ s (level_of h (suc i)) m u) y) (coin_here i m l u y))

  equal_second : (i : ℕ) → i < rounds_of h → 1 < s → get_or equal_tests (start i + words_for h 1) false ≡ same_as F (some (coin_at i 0)) (coin_at i 1)
  equal_second i l o = equal_first i 1 l o ∙ ap (λ (b : Option (Element h.spelling)). same_as F b (coin_at i 1)) (second_out i l o)

  pub equal_sound : (j : ℕ) → j < length equal_tests → get_or equal_tests j false ≡ true → EqualAt h start v j
  unfolding out_repeated same_as
  equal_sound j l e = go (placed.every j below (repeated_out F (before j) (get_or kinds j message) (here j) (sym (equal_test j below) ∙ e)))
    where
      below : j < length kinds
      below = omega (arith, equal_length)

      coin_first : (i m : ℕ) → i < rounds_of h → m < s → j ≡ start i + words_for h m → get_or equal_tests (start i + words_for h m) false ≡ true → EqualAt h start v j
      coin_first i zero d u t f =
          let z : start i + words_for h 0 ≡ start i = omega (arith, count_zero σ) in
          absurd (true≢false (sym f ∙ equal_first i 0 d u ∙ ap (λ (n : ℕ). same_as F (before n) (coin_at i 0)) z ∙ ap (λ (b : Option (Element h.spelling)). same_as F b (coin_at i 0)) (first_out i d)))
      coin_first i (suc zero) d u t f = (i, d, (1, u, t, (0, omega arith, ap (element_at σ v) t ∙ L.equal_true _ _ (sym (equal_second i d u) ∙ f))))
      coin_first i (suc (suc m)) d u t f = absurd (omega (arith, few))

      go : (i : ℕ) × (i < rounds_of h) × ((m : ℕ) × (m < words_for h (out_coin_count h)) × (j ≡ start i + m)) → EqualAt h start v j
      go r =
          let i = r.0 in
          outs_cases σ s (level_of h (suc i)) r.2.0 r.2.1
          (λ m u q. let t : j ≡ start i + words_for h m = omega (arith, r.2.2, q) in coin_first i m r.1 u t (subst (λ (n : ℕ). get_or equal_tests n false ≡ true) t e))
          (λ c. absurd (true≢false (sym e ∙ equal_test j below ∙ (λ y. out_repeated F (before j) ((ap (λ (n : ℕ). get_or kinds n message) r.2.2 ∙ placed.kind i r.2.0 r.1 r.2.1 ∙ c) y) (here j)))))

  pub equal_complete : (j : ℕ) → EqualAt h start v j → (j < length equal_tests) × (get_or equal_tests j false ≡ true)
  unfolding same_as
  equal_complete j p =
      let i = p.0 in
      let r = p.2 in
      let a = r.3 in
      let single : r.0 ≡ 1 = omega (arith, r.1, a.1, few) in
      let none_before : a.0 ≡ 0 = omega (arith, a.1, single) in
      let two : 1 < s = omega (arith, r.1, single) in
      let t : j ≡ start i + words_for h 1 = r.2 ∙ ap (λ (m : ℕ). start i + words_for h m) single in
      let same : coin_at i 1 ≡ coin_at i 0 = ap (element_at σ v) (sym t) ∙ a.2 ∙ ap (coin_at i) none_before in (
        omega (arith, t, equal_length, placed.inside i (words_for h 1) p.1 (first_word 1 two)),
        ap (λ (n : ℕ). get_or equal_tests n false) t ∙ equal_second i p.1 two ∙ equal_same F L _ _ same,
      )
