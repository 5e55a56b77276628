-- The folding numbers, level by level, as the code tests them. Assumes nothing.
use Prim.Native.Nat.{ℕ, zero, suc, ◌+◌, ◌*◌, ◌/◌, ◌≤◌, ◌<◌}
use native.Mathlib.Nat.{div-lt_iff_lt-mul, le-div_iff_mul-le, mul_comm}
use native.Mathlib.Decide.{dec_lt}
use native.Mathlib.Omega.{arith}
use mathlib.Core.Bool.{Bool, true, false, not}
use mathlib.Core.List.{List, map}
use mathlib.Core.Option.{none}
use mathlib.Core.Path.{◌≡◌, refl, sym, ap, ◌∙◌, subst}
use lib.Dec.{eqb, leb}
use lib.ListN.{get_or, take}
use lib.Pow.{pow_pos}
use borrow.Author.Tests.{le-leb, leb-false, leb-true, lt-leb, not-false}
use Rattle.list_laws.specs.All.{All, all_in_map, all_map}
use Rattle.layouts.proofs.LevelsByNumber.{product_next}
use Rattle.layouts.specs.Levels.{total}
use Rattle.layouts.proofs.PlainSheet.{first_word, fold_one, later_word}
use Rattle.layouts.specs.SheetRules.{fold_count, later_fold, logs, product_powers}
use Rattle.layouts.specs.Tests.{at_none, none_of}
use Rattle.list_laws.specs.Booleans.{and_true}
use Rattle.definition.specs.Lists.{first_of, product_of, range}
use Rattle.definition.specs.Sheet.{Edition, edition1, edition2, fold_rule, fold_words, folding_number, later_fold_rule, later_rules}
use Rattle.sizes.specs.Degrees.{DegreeAt, Folds}
use Rattle.sheet.specs.Rules.{Shape, front_rules, later_words}
use Rattle.sheet.proofs.FirstBroken.{broken_from, later_count_lem}

-- k_1 to k_(i-1) of edition 2 are tested, and d is d_i
pub record Tested (w : List ℕ) (d i : ℕ) : Type 0 where
  pub some : 1 ≤ i
  pub most : i ≤ 6
  pub folds : Folds edition2 w i
  pub degree : DegreeAt edition2 w i d
  pub same : broken_from 11 (later_fold_rule w) i ≡ broken_from 11 (later_fold_rule w) 1

-- ---- what each part that holds leaves for the next

-- no rule of words 0 to 5 is broken
pub shape : (ed : Edition) (w : List ℕ) → none ≡ first_of (range 0 6) (map not (front_rules ed w)) → Shape ed w
unfolding range
shape ed w e =
    let h = none_of 3 (range 0 6) (map not (front_rules ed w)) (omega arith) (at_none 3 _ (sym e)) in
    record {
      degree = not-false _ h.1.1.0;
      fold = not-false _ h.1.1.1.0;
      rounds = not-false _ h.1.1.1.1.0;
      out_coins = not-false _ h.1.1.1.1.1.0;
    }

pub first_fold : {ed : Edition} {w : List ℕ} → Shape ed w → Folds ed w 1
unfolding fold_rule
first_fold {ed} {w} s = record {
  folding = λ j l m.
      let z : 0 ≡ j = omega arith in
      subst (λ (n : ℕ). folding_number w (get_or (fold_words ed w) n 0) ≡ true) z (subst (λ (k : ℕ). folding_number w k ≡ true) (sym (first_word ed w)) s.fold);
}

-- k_i is a folding number where its rule holds and i is at most M
is_folding : (w : List ℕ) (i : ℕ) → i ≤ get_or w 4 0 → later_fold_rule w i ≡ true → folding_number w (get_or w (11 + i) 0) ≡ true
unfolding later_fold_rule
is_folding w i l e = (and_true (folding_number w (get_or w (11 + i) 0)) _ (rw (le-leb i (get_or w 4 0) l) at e)).0

pub next_fold : {w : List ℕ} (i : ℕ) → 1 ≤ i → i < 6 → Folds edition2 w i → later_fold_rule w i ≡ true → Folds edition2 w (i + 1)
next_fold {w} i one few f e = record { folding = λ j l m. go j l m (dec_lt j i) }
  where
    go : (j : ℕ) → j < i + 1 → j ≤ get_or w 4 0 → Dec (j < i) → folding_number w (get_or (fold_words edition2 w) j 0) ≡ true
    go j l m (yes u) = f.folding j u m
    go j l m (no u) =
        let z : i ≡ j = omega arith in
        subst (λ (n : ℕ). folding_number w (get_or (fold_words edition2 w) n 0) ≡ true) z
        (subst (λ (k : ℕ). folding_number w k ≡ true) (sym (later_word w i one few)) (is_folding w i (omega arith) e))

-- no rule past word 11 is broken
rules_later : (ed : Edition) (w : List ℕ) → none ≡ first_of (later_words ed) (map not (later_rules ed w)) → All (λ (b : Bool). b ≡ true) (later_rules ed w)
rules_later ed w e =
    all_map (later_rules ed w) (all_in_map (λ (b : Bool). b ≡ false) not (later_rules ed w)
    (none_of 3 (later_words ed) (map not (later_rules ed w)) (omega (arith, later_count_lem ed w)) (at_none 3 _ (sym e)))) not-false

-- the folding number of level 0 is that of all in edition 1, and edition 2 has a rule for each other
by_edition : (ed : Edition) (w : List ℕ) → All (λ (b : Bool). b ≡ true) (later_rules ed w) → folding_number w (get_or w 3 0) ≡ true → (j : ℕ) → j < 6 → j ≤ get_or w 4 0 →
    folding_number w (get_or (fold_words ed w) j 0) ≡ true
by_edition edition1 w h e j l m = subst (λ (k : ℕ). folding_number w k ≡ true) (sym (fold_one w j l)) e
by_edition edition2 w h e zero l m = subst (λ (k : ℕ). folding_number w k ≡ true) (sym (first_word edition2 w)) e
by_edition edition2 w h e (suc j) l m =
    subst (λ (k : ℕ). folding_number w k ≡ true) (sym (later_word w (suc j) (omega arith) l)) (is_folding w (suc j) m (later_fold w h j (omega arith)))

pub all_folds : {ed : Edition} {w : List ℕ} → Shape ed w → none ≡ first_of (later_words ed) (map not (later_rules ed w)) → Folds ed w 6
unfolding fold_rule
all_folds {ed} {w} s e = record { folding = by_edition ed w (rules_later ed w e) s.fold }

-- ---- the rule of k_i, i from 1 on

-- k ≤ n/p is p·k ≤ n
divided : (k n p : ℕ) → 0 < p → leb k (n / p) ≡ leb (p * k) n
divided k n p h = go (leb k (n / p)) refl
  where
    go : (b : Bool) → leb k (n / p) ≡ b → b ≡ leb (p * k) n
    go true e = sym (le-leb (p * k) n (subst (λ (x : ℕ). x ≤ n) (mul_comm k p) ((le-div_iff_mul-le h).0 (leb-true k (n / p) e))))
    go false e = sym (lt-leb (p * k) n (subst (λ (x : ℕ). n < x) (mul_comm k p) ((div-lt_iff_lt-mul h).0 (leb-false k (n / p) e))))

module _ (w : List ℕ) (i : ℕ) where
  pub fold_past : get_or w 4 0 < i → eqb (get_or w (11 + i) 0) 0 ≡ later_fold_rule w i
  unfolding later_fold_rule
  fold_past h = simp (lt-leb i (get_or w 4 0) h)

  module _ (within : i ≤ get_or w 4 0) where
    pub no_folding : folding_number w (get_or w (11 + i) 0) ≡ false → false ≡ later_fold_rule w i
    unfolding later_fold_rule
    no_folding e = simp (le-leb i (get_or w 4 0) within, e)

    some_product : i < 6 → Folds edition2 w i → 0 < product_of (take i (fold_words edition2 w))
    some_product few f =
        let c = logs w i (fold_words edition2 w) (omega (arith, fold_count edition2 w)) (λ j u. f.folding j u (omega arith)) in
        omega (arith, ap product_of c.1, product_powers c.0, pow_pos (total (map suc c.0)))

    pub product_rule : {d : ℕ} → 1 ≤ i → i < 6 → Folds edition2 w i → DegreeAt edition2 w i d → folding_number w (get_or w (11 + i) 0) ≡ true →
        leb (get_or w (11 + i) 0) d ≡ later_fold_rule w i
    unfolding later_fold_rule
    product_rule one few f d e =
        let l = fold_words edition2 w in
        let k = get_or w (11 + i) 0 in
        let whole : product_of (take i l) * k ≡ product_of (take (suc i) l) =
        ap (λ (x : ℕ). product_of (take i l) * x) (sym (later_word w i one few)) ∙ sym (product_next i l (omega (arith, fold_count edition2 w))) in
        ap (leb k) (d.degree (omega arith)) ∙ divided k (get_or w 2 0) (product_of (take i l)) (some_product few f) ∙ ap (λ (x : ℕ). leb x (get_or w 2 0)) whole
        ∙ simp (le-leb i (get_or w 4 0) within, e)
