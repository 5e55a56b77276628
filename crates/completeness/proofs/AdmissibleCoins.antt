-- Coins that pass the tests on words are fair: every out coin is an element, and neither an out coin nor a shift point lies in the round's domain.
use Rattle.std.specs.Prelude.{ℕ, suc, ◌/◌, ◌^◌, ◌≤◌, ◌<◌, false, ◌≡◌}
use Rattle.std.proofs.Math.Nat
use Rattle.std.proofs.Common.{arith, ap, ◌∙◌, subst}
use mathlib.Core.List.{List, [], ◌∷◌, map}
use lib.ListN.{length, take, drop}
use Rattle.definition.specs.Deciding.{out_in_domain}
use Rattle.definition.specs.Domain.{domain, in_domain, point, shift_point}
use Rattle.definition.specs.Field.{Element, Field, Spelling, begun_by, elements_in, power, word_count}
use Rattle.definition.specs.Layout.{coin, index, later_count, limit, out, out_layout, read_finals, read_rounds, round_coins}
use Rattle.definition.specs.Lists.{range}
use Rattle.definition.specs.Sheet.{Level, Sheet, shift_count}
use Rattle.list_laws.specs.All.{All, all_append, all_at, all_in_map, all_map, all_map₂, all_of_map}
use Rattle.list_laws.specs.Members.{none_same}
use Rattle.algebra.specs.Different
use Rattle.algebra.specs.Different.{Differ}
use Rattle.algebra.specs.FieldIn.{Below, read_below, reduced_in}
use Rattle.algebra.specs.Laws.{FieldLaws}
use Rattle.algebra.specs.RingLaws
use Rattle.algebra.specs.RootsOfUnity.{minus_one}
use Rattle.layouts.specs.EachWord.{Each, InRange, Outside, each_later, each_length, each_outs, each_replicate, in_range, outs_begun}
use Rattle.layouts.proofs.LayoutFacts.{outs_length}
use Rattle.layouts.specs.KindsAfter.{CoinRuns, later_layout}
use Rattle.layouts.specs.LevelSizes.{Chain, Sized, chain_head}
use Rattle.layouts.specs.Levels.{sheet_field, sheet_root}
use Rattle.layouts.specs.LawfulSheets.{Step, Steps}
use Rattle.layouts.specs.Spellings.{begun_drop, read_length}
use Rattle.completeness.specs.DecidingAccepts.{Admissible, AdmissibleRound}
use Rattle.completeness.specs.DistinctPoints
use Rattle.completeness.proofs.Domains.{foldable, never_meet}

-- an element outside a domain is none of its points
pub outside_differs : {A : Type 0} (F : Field A) (L : FieldLaws F) (ω : A) (l : Level) (x : A) → L.reduce x ≡ x → in_domain F ω l x ≡ false →
    (m : ℕ) → m < l.size → Differ F (point F ω l m) x
unfolding in_domain domain point
outside_differs F L ω l x e k m hm =
    let apart = all_at (λ j. F.equal x (point F ω l j) ≡ false) 0 l.size
    (all_in_map (λ y. F.equal x y ≡ false) (point F ω l) (range 0 l.size) (none_same F.equal x (map (point F ω l) (range 0 l.size)) k)) m hm in
    Different.differ_sym F L x (point F ω l m)
    (DistinctPoints.unequal_differ F L x (point F ω l m) e (RingLaws.reduce_power F L ω _) (subst (λ (j : ℕ). F.equal x (point F ω l j) ≡ false) (Nat.zero-add m) apart))

module _ (h : Sheet) (L : FieldLaws (sheet_field h)) (signs : minus_one (sheet_field h) ≡ (sheet_field h).𝟙 → ⊥)
    (e : ℕ) (root : power (sheet_field h) (sheet_root h) (2 ^ e) ≡ minus_one (sheet_field h)) where
  abbrev σ : Spelling
  σ = h.spelling

  abbrev F : Field (Element h.spelling)
  F = sheet_field h

  abbrev ω : Element h.spelling
  ω = sheet_root h

  -- from refusal 7 not given: no point of the domain is the out coin
  out_off : (l : Level) (m : ℕ) (x : Element h.spelling) → m < l.size → Below h.spelling h.prime x → Outside h (out l) x → Differ F (point F ω l m) x
  unfolding out_in_domain
  out_off l m x hm b p = outside_differs F L ω l x (reduced_in σ h.prime L x b) p m hm

  outs_below : (s : ℕ) (l : Level) (u : List ℕ) → Each (InRange h) (out_layout σ s l) u → All (Below h.spelling h.prime) (elements_in σ u)
  unfolding limit
  outs_below s l u e = read_below σ h.prime u (each_outs (λ x. x < h.prime) (InRange h) σ s l (λ x p. in_range h (out l) x p) (λ x p. in_range h coin x p) u e)

  pub admissible_round : (s : ℕ) (b l : Level) (outs v : List ℕ) → l.degree ≡ b.degree / b.fold → Sized (suc e) l → Step s b l →
      Each (InRange h) (out_layout h.spelling s l) outs → All (Outside h (out l)) (elements_in h.spelling outs) → Each (InRange h) (later_layout h.spelling b) v →
      AdmissibleRound F L ω b (round_coins h.spelling l outs v)
  unfolding round_coins limit
  admissible_round s b l outs v eq r st ho away hv =
      let xs = elements_in σ outs in
      let o = outs_below s l outs ho in
      let n : length (elements_in σ outs) ≡ s = read_length σ s outs (each_length (InRange h) (out_layout σ s l) outs ho ∙ outs_length σ s l) in
      let t = each_later (InRange h) (word_count σ 2) b.repetitions (shift_count b) v hv in
      let js = drop (word_count σ 2) v in
      record {
        indices = all_map js t.1 (λ j p. in_range h (index (shift_count b)) j p);
        elements = all_map xs o (λ x p. reduced_in σ h.prime L x p);
        off = λ m hm. all_append _ xs _ (all_map₂ xs o away (λ x p q. out_off l m x hm p q))
            (all_of_map _ (shift_point F ω b) js (all_map js t.1 (λ j p. never_meet F L ω signs e root s b l m j st)));
        degree = eq;
        few = omega (arith, st.few, n, t.0, lib.ListN.length-drop (word_count σ 2) v);
        next = foldable F L ω signs e root l r;
      }

  -- coins that pass are fair
  pub admissible : (s : ℕ) (b : Level) (ls : List Level) (w : List ℕ) → Chain (suc e) b ls → Steps s b ls → CoinRuns (InRange h) h.spelling s b ls w →
      CoinRuns (Outside h) h.spelling s b ls (begun_by h.spelling w) → Admissible F L ω b (read_rounds h.spelling s b ls w) (read_finals h.spelling s b ls w)
  unfolding read_rounds read_finals round_coins limit
  admissible s b [] w ch st d o = all_map w (each_replicate (InRange h) b.repetitions (index (shift_count b)) w d).1 (λ j p. in_range h (index (shift_count b)) j p)
  admissible s b (l ∷ ls) w ch st d o =
      let long : word_count σ s ≤ length w = omega (arith, each_length (InRange h) (out_layout σ s l) (take (word_count σ s) w) d.0, outs_length σ s l, Nat.min-le_right (word_count σ s) (length w), lib.ListN.length-take (word_count σ s) w) in
      let rest = drop (later_count σ b) (drop (word_count σ s) w) in (
        admissible_round s b l (take (word_count σ s) w) (take (later_count σ b) (drop (word_count σ s) w)) ch.1 (chain_head (suc e) l ls ch.2) st.0 d.0
            (outs_begun σ (Outside h) s l w long o.0) d.1,
        admissible s l ls rest ch.2 st.1 d.2
            (subst (CoinRuns (Outside h) σ s l ls) (ap (drop (later_count σ b)) (begun_drop σ (word_count σ s) w) ∙ begun_drop σ (later_count σ b) (drop (word_count σ s) w)) o.2),
      )
