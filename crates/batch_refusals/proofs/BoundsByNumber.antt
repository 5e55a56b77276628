-- Refusal 15 by number: what its test finds is a number of tables, or a bound, that is out of range.
use Prim.Native.Nat.{ℕ, zero, suc, ◌+◌, ◌*◌, ◌≤◌, ◌<◌}
use Rattle.std.proofs.Common.{zero-add, sym, ap, ◌∙◌, length-take, get_or-take, length-take-le, le-leb, leb-true}
use native.Mathlib.Omega.{arith}
use Rattle.std.specs.Prelude.{Bool, ◌&&◌, ◌≡◌, leb, length, get_or, take}
use Rattle.std.proofs.Math.Bool.{true, false, not, true≢false}
use mathlib.Core.List.{List, ◌∷◌, map}
use Rattle.std.proofs.Math.Path.{refl}
use Rattle.std.proofs.lemmas.List.{length-map}
use Rattle.std.proofs.lemmas.Bool.{not-true}
use Rattle.batch_definition.specs.Batch.{batch_rules, most_entries}
use Rattle.definition.specs.Lists.{first_true}
use Rattle.definition.specs.Sheet.{Sheet, between}
use Rattle.definition.specs.Verdict.{Outcome, ◌then◌, refuse_at}
use Rattle.list_laws.specs.Booleans.{and_true, is_false}
use Rattle.list_laws.specs.Lists.{get_d_map}
use Rattle.layouts.specs.SheetRules.{between_true}
use Rattle.completeness.specs.FirstFaults.{Exact, exact_at}
use Rattle.refusals.proofs.InOrder.{own}
use Rattle.batch_refusals.specs.BatchFaults
use Rattle.batch_refusals.specs.BatchFaults.{BoundFault}

true_between : (l u x : ℕ) → l ≤ x → x ≤ u → between l u x ≡ true
unfolding between
true_between l u x a b = λ i. le-leb l x a i && le-leb x u b i

module _ (h : Sheet) (count : ℕ) (bounds : List ℕ) where
  -- the number's rule, and those of the bounds
  abbrev number_rule : Bool
  number_rule = between 1 8 count && leb (count * h.size) (most_entries h.spelling)

  abbrev bound_rules : List Bool
  bound_rules = map (between 1 h.degree) (take count bounds)

  bounds_length : length (map not bound_rules) ≡ length (take count bounds)
  bounds_length = length-map bound_rules not ∙ length-map (take count bounds) (between 1 h.degree)

  bound_at : (m : ℕ) → m < length (take count bounds) → m < count → get_or (map not bound_rules) m false ≡ not (between 1 h.degree (get_or bounds m 0))
  bound_at m l u =
      get_d_map not bound_rules true false m (omega (arith, length-map (take count bounds) (between 1 h.degree)))
      ∙ ap not (get_d_map (between 1 h.degree) (take count bounds) 0 true m l ∙ ap (between 1 h.degree) (get_or-take count bounds m 0 u))

  -- the number is right
  kept : number_rule ≡ true → (1 ≤ count) × (count ≤ 8) × (count * h.size ≤ most_entries h.spelling)
  kept e =
      let a = and_true (between 1 8 count) _ e in
      let b = between_true 1 8 count a.0 in
      (b.0, b.1, leb-true _ _ a.1)

  keeps : (1 ≤ count) × (count ≤ 8) × (count * h.size ≤ most_entries h.spelling) → number_rule ≡ true
  keeps g = λ i. true_between 1 8 count g.0 g.1 i && le-leb _ _ g.2 i

  -- the faults of test t, where as many bounds are given as a right number says
  module _ (P : ℕ → (ℕ → Type 0)) (T : ℕ → ℕ → ℕ) (t : ℕ) (places : (q : ℕ) → T t q ≡ q) (to : (q : ℕ) → BoundFault h count bounds q → P t q)
      (of : (q : ℕ) → P t q → BoundFault h count bounds q) (enough : count ≤ 8 → count ≤ length bounds) where
    sound : (j : ℕ) → j < length (false ∷ map not bound_rules) → get_or (false ∷ map not bound_rules) j false ≡ true → P t (0 + j)
    sound zero l e = absurd (true≢false (sym e))
    sound (suc j) l e =
        let u : j < length (take count bounds) = omega (arith, bounds_length) in
        let v : j < count = omega (arith, length-take count bounds) in
        to (0 + suc j) (BatchFaults.BoundFault.bound j v (zero-add (suc j)) (λ g. true≢false (sym (true_between 1 h.degree _ g.0 g.1) ∙ not-true _ (sym (bound_at j u v) ∙ e))))

    complete : number_rule ≡ true → (q : ℕ) → BoundFault h count bounds q → (j : ℕ) × (q ≡ 0 + j) × (j < length (false ∷ map not bound_rules)) × (get_or (false ∷ map not bound_rules) j false ≡ true)
    complete r q (BatchFaults.BoundFault.number e k) = absurd (k (kept r))
    complete r q (BatchFaults.BoundFault.bound m l e k) =
        let u : m < length (take count bounds) = omega (arith, length-take-le count bounds (enough (kept r).1)) in
        (suc m, e ∙ sym (zero-add (suc m)), omega (arith, bounds_length), bound_at m u l ∙ ap not (is_false _ (λ b. k (between_true 1 h.degree _ b))))

    pub exact_bounds : (rest : Outcome) → (((q : ℕ) → P t q → ⊥) → Exact P T suc own (suc (suc t)) rest) →
        Exact P T suc own (suc t) (refuse_at t (first_true 0 (map not (batch_rules h count bounds))) then rest)
    unfolding batch_rules first_true refuse_at ◌then◌
    exact_bounds rest next = go number_rule refl
      where
        go : (b : Bool) → number_rule ≡ b → Exact P T suc own (suc t) (refuse_at t (first_true 0 (not b ∷ map not bound_rules)) then rest)
        go true r = exact_at P T suc own t 0 (false ∷ map not bound_rules) rest places sound (λ q p. complete r q (of q p)) next
        go false r = (
          omega arith,
          to 0 (BatchFaults.BoundFault.number refl (λ g. true≢false (sym (keeps g) ∙ r))),
          λ x l p. absurd (omega (arith, places x, places 0)),
          λ m x l u p. absurd (omega arith),
        )

  -- what it is to have none
  pub number_kept : ((q : ℕ) → BoundFault h count bounds q → ⊥) → (1 ≤ count) × (count ≤ 8)
  number_kept clear = go number_rule refl
    where
      go : (b : Bool) → number_rule ≡ b → (1 ≤ count) × (count ≤ 8)
      go true r = ((kept r).0, (kept r).1)
      go false r = absurd (clear 0 (BatchFaults.BoundFault.number refl (λ g. true≢false (sym (keeps g) ∙ r))))
