-- Tests 7 and 14 by number: what they find in a stream is an out coin of a round that is a point of the round's domain, or is equal to one before it.
use Prim.Native.Nat.{ℕ, suc, ◌+◌, ◌-◌, ◌≤◌, ◌<◌}
use Rattle.std.proofs.Common.{div-le_self, arith, sym, ap, ◌∙◌, length-drop}
use Rattle.std.specs.Prelude.{true, false, ◌≡◌, get_or, drop}
use mathlib.Core.List.{List, zip_with}
use Rattle.std.proofs.Math.Option.{none}
use Rattle.std.proofs.Math.Path.{subst}
use Rattle.std.proofs.Math.ListN.{length}
use Rattle.definition.specs.Deciding.{out_before, out_in_domain, repeated_outs}
use Rattle.definition.specs.Field.{Element, Spelling, begun_by, number_in}
use Rattle.definition.specs.Layout.{Kind, layout, message, words_due}
use Rattle.definition.specs.Sheet.{Edition, Sheet, sheet_length}
use Rattle.algebra.specs.Laws.{FieldLaws}
use Rattle.layouts.specs.LawfulSheets.{Lawful}
use Rattle.layouts.proofs.LayoutByRound.{starts_after}
use Rattle.layouts.specs.LevelSizes.{positive_sizes}
use Rattle.layouts.specs.Levels.{element_at, level_of, out_coin_count, rounds_of, sheet_field, words_for}
use Rattle.layouts.proofs.SheetLevels.{sized}
use Rattle.layouts.specs.Spellings.{at_drop, count_least}
use Rattle.layouts.specs.WholeCoins.{IsOut}
use Rattle.completeness.specs.EqualOuts.{at_next, out_at}
use Rattle.completeness.specs.Faults.{DomainFault, EqualFault, Part, PartDue, combination, due_of, finals, fold, outs, part_length, part_start, shifts, words}
use Rattle.completeness.specs.Numbered.{count_of, start_of, table}
use Rattle.completeness.specs.OutCoinsByPlace
use Rattle.completeness.specs.OutCoinsByPlace.{Placed}
use Rattle.completeness.specs.PartsByNumber.{due_is, every_word, part_below, part_kind_lem, part_kind}

module _ (ed : Edition) (h : Sheet) (w : List ℕ) (L : FieldLaws (sheet_field h)) (law : Lawful h) (full : due_of ed h ≤ length w) where
  abbrev n₀ : ℕ
  n₀ = sheet_length ed

  abbrev σ : Spelling
  σ = h.spelling

  abbrev kinds : List Kind
  kinds = layout h

  -- where the out coins of round i + 1 begin among the words after the sheet
  abbrev start : ℕ → ℕ
  start i = part_start ed h (outs i) - sheet_length ed

  start_is : (i : ℕ) → n₀ + start i ≡ part_start ed h (outs i)
  unfolding part_start
  start_is i = omega (arith, starts_after ed h (suc i))

  kinds_length : n₀ + length kinds ≡ due_of ed h
  unfolding words_due
  kinds_length = due_is ed h law.paired

  some_size : (i : ℕ) → i < rounds_of h → 0 < (level_of h (suc i)).size
  some_size i l =
      let b = level_of h (suc i) in
      omega (arith, (positive_sizes (suc law.a) b (sized h law (suc i) l)).0, div-le_self b.size b.fold)

  every : (j : ℕ) → j < length kinds → IsOut (get_or kinds j message) → (i : ℕ) × (i < rounds_of h) × ((m : ℕ) × (m < words_for h (out_coin_count h)) × (j ≡ start i + m))
  unfolding part_kind part_length
  every j l o = let p = every_word ed h (n₀ + j) (omega arith) (omega (arith, kinds_length)) in go p.0 p.1 p.2.0 p.2.1 p.2.2
    where
      go : (x : Part) → PartDue h x → (i : ℕ) → i < part_length h x → n₀ + j ≡ part_start ed h x + i → (i : ℕ) × (i < rounds_of h) × ((m : ℕ) × (m < words_for h (out_coin_count h)) × (j ≡ start i + m))
      go (words m) d i l s = absurd (subst IsOut (part_kind_lem ed h law.paired (words m) d i l j s) o)
      go (outs k) d i l s = (k, d, (i, l, omega (arith, s, start_is k)))
      go (combination k) d i l s = absurd (subst IsOut (part_kind_lem ed h law.paired (combination k) d i l j s) o)
      go (fold k) d i l s = absurd (subst IsOut (part_kind_lem ed h law.paired (fold k) d i l j s) o)
      go (shifts k) d i l s = absurd (subst IsOut (part_kind_lem ed h law.paired (shifts k) d i l j s) o)
      go finals d i l s = absurd (subst IsOut (part_kind_lem ed h law.paired finals d i l j s) o)

  -- a table stands before the first out coin of a round
  fresh : (xs : List (Element h.spelling)) → length kinds ≤ length xs → (i : ℕ) → i < rounds_of h → out_at none kinds xs (start i) ≡ none
  unfolding part_start part_length start_of count_of part_kind out_before
  fresh xs enough i l =
      let x = words (table (suc i)) in
      let n = words_for h (level_of h (suc i)).size in
      let p : 0 < n = omega (arith, some_size i l, count_least σ (level_of h (suc i)).size) in
      let j = start i - 1 in
      let e : suc j ≡ start i = omega (arith, start_is i, p, starts_after ed h (suc i)) in
      let s : n₀ + j ≡ part_start ed h x + (n - 1) = omega (arith, start_is i, p, starts_after ed h (suc i)) in
      let u : j < length kinds = omega (arith, s, part_below ed h x l (n - 1) (omega (arith, p)), kinds_length) in
      subst (λ (m : ℕ). out_at none kinds xs m ≡ none) e
      (at_next (number_in σ 0) none kinds xs j u (omega (arith, u, enough)) ∙ (λ y. out_before (out_at none kinds xs j) (part_kind_lem ed h law.paired x l (n - 1) (omega (arith, p)) j s y) (get_or xs j (number_in σ 0))))

  placed : Placed h (layout h) start
  unfolding part_kind part_length
  placed = record {
    inside = λ i m l u. omega (arith, start_is i, part_below ed h (outs i) l m u, kinds_length);
    kind = λ i m l u. part_kind_lem ed h law.paired (outs i) l m u (start i + m) (omega (arith, start_is i));
    every = every;
    fresh = fresh;
  }

  body_full : length kinds ≤ length (drop (sheet_length ed) w)
  body_full = omega (arith, length-drop n₀ w, full, kinds_length)

  -- a word after the sheet by its number in the stream
  numbered : (i m j : ℕ) → j ≡ start i + words_for h m → n₀ + j ≡ part_start ed h (outs i) + words_for h m
  numbered i m j t = omega (arith, t, start_is i)

  unnumbered : (i m q : ℕ) → q ≡ part_start ed h (outs i) + words_for h m → (q ≡ n₀ + (q - n₀)) × (q - n₀ ≡ start i + words_for h m)
  unnumbered i m q t = omega (arith, t, start_is i)

  element : (j q : ℕ) → n₀ + j ≡ q → element_at h.spelling (drop (sheet_length ed) w) j ≡ element_at h.spelling w q
  element j q s = at_drop σ w n₀ j ∙ ap (element_at σ w) s

  pub domain_sound : (j : ℕ) → j < length (zip_with (out_in_domain h.spelling h) (layout h) (begun_by h.spelling (drop (sheet_length ed) w))) →
      get_or (zip_with (out_in_domain h.spelling h) (layout h) (begun_by h.spelling (drop (sheet_length ed) w))) j false ≡ true → DomainFault ed h w (sheet_length ed + j)
  domain_sound j l e =
      let p = OutCoinsByPlace.domain_sound h kinds start placed L law.outs (drop n₀ w) body_full j l e in
      let r = p.2 in
      (p.0, p.1, (r.0, r.1, numbered p.0 r.0 j r.2, (r.3.0, r.3.1, sym (at_drop σ w n₀ j) ∙ r.3.2)))

  pub domain_complete : (q : ℕ) → DomainFault ed h w q → (j : ℕ) × (q ≡ sheet_length ed + j)
      × (j < length (zip_with (out_in_domain h.spelling h) (layout h) (begun_by h.spelling (drop (sheet_length ed) w))))
      × (get_or (zip_with (out_in_domain h.spelling h) (layout h) (begun_by h.spelling (drop (sheet_length ed) w))) j false ≡ true)
  domain_complete q p =
      let r = p.2 in
      let s = unnumbered p.0 r.0 q r.2 in
      let c = OutCoinsByPlace.domain_complete h kinds start placed L law.outs (drop n₀ w) body_full (q - n₀)
      (p.0, p.1, (r.0, r.1, s.1, (r.3.0, r.3.1, element (q - n₀) q (sym s.0) ∙ r.3.2))) in
      (q - n₀, s.0, c.0, c.1)

  pub equal_sound : (j : ℕ) → j < length (repeated_outs (sheet_field h) none (layout h) (begun_by h.spelling (drop (sheet_length ed) w))) →
      get_or (repeated_outs (sheet_field h) none (layout h) (begun_by h.spelling (drop (sheet_length ed) w))) j false ≡ true → EqualFault ed h w (sheet_length ed + j)
  equal_sound j l e =
      let p = OutCoinsByPlace.equal_sound h kinds start placed L law.outs (drop n₀ w) body_full j l e in
      let i = p.0 in
      let r = p.2 in
      let a = r.3.0 in (
        i,
        p.1,
        (
          r.0,
          r.1,
          numbered i r.0 j r.2,
          (a, r.3.1, sym (at_drop σ w n₀ j) ∙ r.3.2 ∙ element (start i + words_for h a) (part_start ed h (outs i) + words_for h a) (omega (arith, start_is i))),
        ),
      )

  pub equal_complete : (q : ℕ) → EqualFault ed h w q → (j : ℕ) × (q ≡ sheet_length ed + j)
      × (j < length (repeated_outs (sheet_field h) none (layout h) (begun_by h.spelling (drop (sheet_length ed) w))))
      × (get_or (repeated_outs (sheet_field h) none (layout h) (begun_by h.spelling (drop (sheet_length ed) w))) j false ≡ true)
  equal_complete q p =
      let i = p.0 in
      let r = p.2 in
      let a = r.3.0 in
      let s = unnumbered i r.0 q r.2 in
      let same = element (q - n₀) q (sym s.0) ∙ r.3.2 ∙ sym (element (start i + words_for h a) (part_start ed h (outs i) + words_for h a) (omega (arith, start_is i))) in
      let c = OutCoinsByPlace.equal_complete h kinds start placed L law.outs (drop n₀ w) body_full (q - n₀) (i, p.1, (r.0, r.1, s.1, (a, r.3.1, same))) in
      (q - n₀, s.0, c.0, c.1)
