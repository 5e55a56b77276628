-- The turns of `cut`, `put` and `candidates_in`, over plain lists.
use Prim.Native.Nat.{ℕ, suc, ◌+◌, ◌*◌, ◌≤◌, ◌<◌}
use mathlib.Core.Logic.{⊎_elim}
use native.Mathlib.Nat.{eq-or-lt_of_le}
use native.Mathlib.Omega.{arith}
use mathlib.Core.Path.{◌≡◌, refl, sym, ap, ◌∙◌, subst}
use mathlib.Core.List.{List}
use mathlib.Core.Option.{Option, some}
use lib.ListN.{length, get_or, set, length-set}
use lib.Seq.{get_or-set_same, get_or-set_other}
use Rattle.definition.specs.Field.{field_of}
use Rattle.definition.specs.Lists.{range}
use Rattle.list_laws.specs.All.{all_range, map_all}
use Rattle.list_laws.specs.Filled.{Filled}
use Rattle.list_laws.specs.Lists.{by_number}
use Rattle.algebra.specs.PrimeField.{laws}
use Rattle.algebra.specs.Coefficients.{Elements}
use Rattle.decoder.specs.Answer.{polynomial_of}
use Rattle.decoder.specs.Steps.{OfElements}
use mathlib.Core.Bool.{Bool, true, false}
use Rattle.candidate.specs.Tables.{Candidate}
use Rattle.nearest_planes.specs.Planes.{plane, FourCandidates}

pub cut_end : (w old new : List ℕ) (k n : ℕ) {i : ℕ} → Filled (λ j. get_or w (4 * j + k) 0) old new i → length old ≡ n → n ≤ i → new ≡ plane k n w
unfolding plane
cut_end w old new k n {i} f e h = by_number 0 new (λ j. get_or w (4 * j + k) 0) n (f.same ∙ e) (λ j u. f.passed j (omega arith))

-- the first i elements of f stand at word k of theirs, and all other words are as before
pub record Placed (f old new : List ℕ) (k i : ℕ) : Type 0 where
  pub same : length new ≡ length old
  pub there : (j : ℕ) → j < i → get_or new (4 * j + k) 0 ≡ get_or f j 0
  pub others : (m : ℕ) → ((j : ℕ) → j < i → m ≡ 4 * j + k → ⊥) → get_or new m 0 ≡ get_or old m 0

pub put_first : (f old : List ℕ) (k : ℕ) → Placed f old old k 0
put_first f old k = record { same = refl; there = λ j u. absurd (omega arith); others = λ m h. refl }

pub put_next : (f old new : List ℕ) (k i : ℕ) {v : ℕ} → Placed f old new k i → 4 * i + k < length old → v ≡ get_or f i 0 → Placed f old (set new (4 * i + k) v) k (i + 1)
put_next f old new k i {v} p room e = record {
  same = length-set new (4 * i + k) v ∙ p.same;
  there = λ j u. ⊎_elim (λ (z : suc j ≡ i + 1). let q : j ≡ i = omega arith in
      ap (λ (m : ℕ). get_or (set new (4 * i + k) v) (4 * m + k) 0) q ∙ get_or-set_same new (4 * i + k) v 0 (omega (arith, p.same)) ∙ e ∙ ap (λ (m : ℕ). get_or f m 0) (sym q))
      (λ (z : suc j < i + 1). get_or-set_other new (4 * i + k) (4 * j + k) v 0 (λ s. omega arith) ∙ p.there j (omega arith)) (eq-or-lt_of_le u);
  others = λ m h. get_or-set_other new (4 * i + k) m v 0 (λ s. h i (omega arith) s) ∙ p.others m (λ j u s. h j (omega arith) s);
}

pub put_end : (f old new : List ℕ) (k i : ℕ) → Placed f old new k i → length f ≤ i → plane k (length f) new ≡ f
unfolding plane
put_end f old new k i p h = sym (by_number 0 f (λ j. get_or new (4 * j + k) 0) (length f) refl (λ j u. sym (p.there j (omega arith))))

pub put_others : (f old new : List ℕ) (k i : ℕ) → Placed f old new k i → k < 4 → (j : ℕ) → j < 4 → (j ≡ k → ⊥) → plane j (length f) new ≡ plane j (length f) old
unfolding plane
put_others f old new k i p hk j hj ne =
    map_all (λ m. m < length f) (λ m. get_or new (4 * m + j) 0) (λ m. get_or old (4 * m + j) 0) (range 0 (length f)) (all_range (λ m. m < length f) 0 (length f) (λ m _ u. omega arith))
    (λ m u. p.others (4 * m + j) (λ a b s. apart m a j k hj hk ne s))
  where
    apart : (m a j k : ℕ) → j < 4 → k < 4 → (j ≡ k → ⊥) → 4 * m + j ≡ 4 * a + k → ⊥
    apart m a j k hj hk ne s = ne (omega arith)

-- ---- the planes one after the other

-- those below k are done
abbrev pub Done : ℕ → List ℕ → List ℕ → ℕ → List ℕ → ℕ → Type 0
Done field pw table d out k =
    (j : ℕ) → j < k → Candidate field pw (plane j (length pw) table) d (some (plane j d out)) × Elements (field_of field) (laws field) (plane j d out)

pub done_none : (field : ℕ) (pw table : List ℕ) (d : ℕ) (out : List ℕ) → Done field pw table d out 0
done_none field pw table d out j u = absurd (omega arith)

module _ (field : ℕ) (pw table : List ℕ) (d k : ℕ) {one : List ℕ} (part : List ℕ) (r : Bool) (is : one ≡ plane k (length pw) table) (c : Candidate field pw one d (polynomial_of r part)) where
  pub plane_none : (out : List ℕ) → k < 4 → r ≡ false → FourCandidates field pw table d out false
  unfolding polynomial_of
  plane_none out u e =
      (k, (u, subst (λ (o : Option (List ℕ)). Candidate field pw (plane k (length pw) table) d o) (ap (λ (x : Bool). polynomial_of x part) e) (subst (λ (t : List ℕ). Candidate field pw t d (polynomial_of r part)) is c)))

  pub plane_next : (out out' : List ℕ) → k < 4 → r ≡ true → OfElements field (polynomial_of r part) → plane k d out' ≡ part →
      ((j : ℕ) → j < 4 → (j ≡ k → ⊥) → plane j d out' ≡ plane j d out) → Done field pw table d out k → Done field pw table d out' (k + 1)
  unfolding polynomial_of
  plane_next out out' u e elements ep eo h j l = ⊎_elim
      (λ (z : suc j ≡ k + 1). let q : k ≡ j = omega arith in subst (λ (m : ℕ). Candidate field pw (plane m (length pw) table) d (some (plane m d out')) × Elements (field_of field) (laws field) (plane m d out')) q here)
      (λ (z : suc j < k + 1). let s = eo j (omega arith) (λ q. omega arith) in
      subst (λ (p : List ℕ). Candidate field pw (plane j (length pw) table) d (some p) × Elements (field_of field) (laws field) p) (sym s) (h j (omega arith))) (eq-or-lt_of_le l)
    where
      found : polynomial_of r part ≡ some (plane k d out')
      found = ap (λ (x : Bool). polynomial_of x part) e ∙ ap {B = Option (List ℕ)} some (sym ep)

      here : Candidate field pw (plane k (length pw) table) d (some (plane k d out')) × Elements (field_of field) (laws field) (plane k d out')
      here = (subst (λ (o : Option (List ℕ)). Candidate field pw (plane k (length pw) table) d o) found (subst (λ (t : List ℕ). Candidate field pw t d (polynomial_of r part)) is c), elements (plane k d out') found)
