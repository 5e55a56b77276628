-- Elements whose difference is not 0, and lists whose elements are pairwise different.
use Prim.Native.Nat.{ℕ, zero, suc, ◌+◌, ◌-◌, ◌≤◌, ◌<◌}
use native.Mathlib.Omega.{arith}
use Rattle.std.specs.Prelude.{◌≡◌, refl, List, [], ◌∷◌, map, length, get_or}
use Rattle.std.proofs.Common.{sym, ap, ◌∙◌, subst}
use Rattle.definition.specs.Lists.{range}
use Rattle.definition.specs.Field.{Field}
use Rattle.list_laws.specs.All.{All, all_of_map, all_range, at_place}
use Rattle.algebra.specs.Laws.{FieldLaws}
use Rattle.algebra.specs.RingLaws.{sub_self, sub_zero}

module _ {A : Type 0} (F : Field A) where
  infixl 65 ◌⊖◌
  open F use {𝟘, ◌⊖◌}

  -- two elements with a difference that is not 0
  abbrev pub Differ : A → A → Type 0
  Differ x y = x ⊖ y ≡ 𝟘 → ⊥

  -- pairwise different
  abbrev pub Apart : List A → Type 0
  Apart [] = Unit {0}
  Apart (a ∷ xs) = All (λ b. Differ a b) xs × Apart xs

module _ {A : Type 0} (F : Field A) (L : FieldLaws F) where
  infixl 65 ◌⊕◌ ◌⊖◌
  open F use {𝟘, ◌⊕◌, ◌⊖◌}
  open L use {add_comm, sub_def, neg_add, add_reduce}

  pub differ_sym : (x y : A) → Differ F x y → Differ F y x
  differ_sym x y h e = h
      (sub_def x y ∙ add_comm x (𝟘 ⊖ y) ∙ sym (add_reduce (𝟘 ⊖ y) x) ∙ ap (λ (v : A). (𝟘 ⊖ y) ⊕ v) (sym (sub_zero F L y x e)) ∙ add_reduce (𝟘 ⊖ y) y ∙ neg_add y)

  -- values at different numbers of a range
  pub apart_range : (g : ℕ → A) (from n : ℕ) → ((a c : ℕ) → a + c < from + n → 0 < c → Differ F (g (a + c)) (g a)) → Apart F (map g (range from n))
  unfolding range
  apart_range g from zero h = tt
  apart_range g from (suc n) h = (
    all_of_map _ g (range (suc from) n) (all_range _ (suc from) n
        (λ m l u. differ_sym (g m) (g from) (subst (λ (k : ℕ). Differ F (g k) (g from)) (back m l) (h from (m - from) (omega arith) (omega arith))))),
    apart_range g (suc from) n (λ a c u k. h a c (omega arith) k),
  )
    where
      back : (m : ℕ) → suc from ≤ m → from + (m - from) ≡ m
      back m l = omega arith

  -- elements of a list that is pairwise different, by place
  pub same_place_lem : (xs : List A) (d : A) → Apart F xs → (a b : ℕ) → a < length xs → b < length xs → get_or xs a d ≡ get_or xs b d → a ≡ b
  same_place_lem [] d h a b la lb e = absurd (omega arith)
  same_place_lem (x ∷ xs) d h zero zero la lb e = refl
  same_place_lem (x ∷ xs) d h zero (suc b) la lb e = absurd (at_place (λ y. Differ F x y) xs d h.0 b (omega arith) (ap (λ (y : A). x ⊖ y) (sym e) ∙ sub_self F L x))
  same_place_lem (x ∷ xs) d h (suc a) zero la lb e = absurd (at_place (λ y. Differ F x y) xs d h.0 a (omega arith) (ap (λ (y : A). x ⊖ y) e ∙ sub_self F L x))
  same_place_lem (x ∷ xs) d h (suc a) (suc b) la lb e = ap suc (same_place_lem xs d h.1 a b (omega arith) (omega arith) e)
