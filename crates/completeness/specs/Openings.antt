-- The reads as openings: the coins of a level read k places for each different index, in each of their tables; those of a table not used so far add to the reads.
use Prim.Native.Nat.{ℕ, zero, suc, ◌+◌, ◌*◌, ◌%◌, ◌<◌}
use Rattle.std.proofs.Math.Nat.{add-mul-mod_self_right, mul-le-mul_right, suc-mul}
use Rattle.std.proofs.Common.{mod-eq_of_lt, mul-one, arith, sym, ap, ◌∙◌, subst}
use Rattle.std.specs.Prelude.{Bool, true, false, cond, ◌&&◌, ◌||◌, ◌≡◌, length}
use Rattle.std.proofs.Math.Bool.{and-or_distrib_right, and-true}
use mathlib.Core.List.{List, [], ◌∷◌, ◌++◌, map, flat_map}
use Rattle.std.proofs.Math.Path.{refl}
use Rattle.std.proofs.Math.Dec.{eqb}
use borrow.Author.Tests.{eqb-false, eqb-true, eq-eqb, ne_eqb}
use Rattle.definition.specs.Deciding.{Place, coin_places, own_place, places_of, reads_of, same_place}
use Rattle.definition.specs.Domain.{root_numbers}
use Rattle.definition.specs.Lists.{different, member, range}
use Rattle.definition.specs.Sheet.{Level, shift_count}
use Rattle.list_laws.specs.All.{All, all_flat, all_map, all_of_map, all_range, everywhere}
use Rattle.list_laws.specs.Lists.{flat_map_append}
use Rattle.list_laws.specs.Members.{absent, add_all, all_members, flat_different}

-- ---- the roots of different indices are different

module _ (n : ℕ) (some : 0 < n) where
  -- k roots of index j, from the m-th on
  abbrev roots_from : ℕ → ℕ → ℕ → List ℕ
  roots_from j m k = map (λ i. j + i * n) (range m k)

  remainder : (j m : ℕ) → j < n → (j + m * n) % n ≡ j
  remainder j m h = add-mul-mod_self_right j m n ∙ mod-eq_of_lt h

  own_different : (j m k : ℕ) → length (different eqb (roots_from j m k)) ≡ k
  unfolding different range
  own_different j m zero = refl
  own_different j m (suc k) = rw (absent eqb (j + m * n) (roots_from j (suc m) k) later) (ap suc (own_different j (suc m) k))
    where
      later : All (λ y. eqb (j + m * n) y ≡ false) (roots_from j (suc m) k)
      later = all_of_map _ _ (range (suc m) k) (all_range _ (suc m) k (λ l u v. ne_eqb (j + m * n) (j + l * n) (λ e. omega (arith, e, some, mul-le-mul_right n u, suc-mul m n))))

  roots_shared : (k j i : ℕ) → j < n → i < n → All (λ y. member eqb y (roots_from i 0 k) ≡ eqb j i) (roots_from j 0 k)
  roots_shared k j i hj hi = go (eqb j i) refl
    where
      go : (b : Bool) → eqb j i ≡ b → All (λ y. member eqb y (roots_from i 0 k) ≡ b) (roots_from j 0 k)
      go true e = subst (λ x. All (λ y. member eqb y (roots_from i 0 k) ≡ true) (roots_from x 0 k)) (sym (eqb-true j i e)) (all_members (roots_from i 0 k))
      go false e = all_of_map _ _ (range 0 k) (everywhere (range 0 k) (λ l. absent eqb (j + l * n) (roots_from i 0 k) (all_of_map _ _ (range 0 k) (everywhere (range 0 k) (λ m.
          ne_eqb (j + l * n) (i + m * n) (λ q. eqb-false j i e (sym (remainder j l hj) ∙ ap (λ (x : ℕ). x % n) q ∙ remainder i m hi)))))))

-- ---- one place in each of some tables

abbrev pub in_tables : List ℕ → ℕ → List Place
in_tables ts j = map (λ t. record { table = t; number = j }) ts

member_place : (ts : List ℕ) (t x z : ℕ) → member same_place (record { table = t; number = x }) (in_tables ts z) ≡ (member eqb t ts && eqb x z)
unfolding member same_place
member_place [] t x z = refl
member_place (u ∷ ts) t x z = ap (λ (b : Bool). (eqb t u && eqb x z) || b) (member_place ts t x z) ∙ sym (and-or_distrib_right (eqb t u) (member eqb t ts) (eqb x z))

pub places_shared : (ts : List ℕ) (x z : ℕ) → All (λ p. member same_place p (in_tables ts z) ≡ eqb x z) (in_tables ts x)
places_shared ts x z = all_of_map _ _ ts (all_map ts (all_members ts) (λ t e. member_place ts t x z ∙ ap (λ (b : Bool). b && eqb x z) e))

pub places_different : (ts : List ℕ) (x : ℕ) → length (different same_place (in_tables ts x)) ≡ length (different eqb ts)
unfolding different
places_different [] x = refl
places_different (t ∷ ts) x =
    rw (member_place ts t x x ∙ ap (λ (b : Bool). member eqb t ts && b) (eq-eqb x x refl) ∙ and-true (member eqb t ts)) (go (member eqb t ts) (places_different ts x))
  where
    go : (b : Bool) → length (different same_place (in_tables ts x)) ≡ length (different eqb ts) →
        length (cond b (different same_place (in_tables ts x)) (record { table = t; number = x } ∷ different same_place (in_tables ts x))) ≡ length (cond b (different eqb ts) (t ∷ different eqb ts))
    go true r = r
    go false r = ap suc r

-- ---- the reads

-- the places of coins are those of all their roots
pub places_flat : (b : Level) (places : ℕ → List Place) (js : List ℕ) → places_of b places js ≡ flat_map places (flat_map (root_numbers b) js)
unfolding places_of coin_places flat_map
places_flat b places [] = refl
places_flat b places (j ∷ js) = ap (λ (ps : List Place). flat_map places (root_numbers b j) ++ ps) (places_flat b places js) ∙ sym (flat_map_append places (root_numbers b j) (flat_map (root_numbers b) js))

-- Where a point has one place in each of some tables: k reads for each different index, in each different table.
pub tables_read : (b : Level) (ts js : List ℕ) → 0 < shift_count b → All (λ j. j < shift_count b) js →
    reads_of (places_of b (in_tables ts) js) ≡ length (different eqb js) * b.fold * length (different eqb ts)
unfolding reads_of root_numbers
tables_read b ts js some below =
    ap (λ (ps : List Place). length (different same_place ps)) (places_flat b (in_tables ts) js)
    ∙ flat_different eqb same_place (in_tables ts) (λ x. Unit {0}) (λ x z p q. places_shared ts x z) (length (different eqb ts)) (places_different ts) (flat_map (root_numbers b) js) (everywhere (flat_map (root_numbers b) js) (λ x. tt))
    ∙ ap (λ (m : ℕ). m * length (different eqb ts))
    (flat_different eqb eqb (root_numbers b) (λ j. j < shift_count b) (roots_shared (shift_count b) some b.fold) b.fold (λ j. own_different (shift_count b) some j 0 b.fold) js below)

-- In a level's own table: k reads for each different index.
pub reads_are : (b : Level) (js : List ℕ) → 0 < shift_count b → All (λ j. j < shift_count b) js → reads_of (places_of b (own_place b) js) ≡ length (different eqb js) * b.fold
unfolding own_place different member
reads_are b js some below = tables_read b (b.number ∷ []) js some below ∙ mul-one (length (different eqb js) * b.fold)

pub own_table : (b : Level) (js : List ℕ) → All (λ p. p.table ≡ b.number) (places_of b (own_place b) js)
unfolding places_of coin_places own_place
own_table b js = all_flat _ (coin_places b (own_place b)) js (everywhere js (λ j. all_flat _ (own_place b) (root_numbers b j) (everywhere (root_numbers b j) (λ n. (refl, tt)))))

-- After places that are none of this table: that many more.
pub reads_next : (used : List Place) (b : Level) (js : List ℕ) → 0 < shift_count b → All (λ j. j < shift_count b) js → All (λ p. p.table ≡ b.number → ⊥) used →
    reads_of (used ++ places_of b (own_place b) js) ≡ reads_of used + length (different eqb js) * b.fold
unfolding reads_of same_place
reads_next used b js some below other =
    add_all same_place used (places_of b (own_place b) js)
    (all_map used other (λ p d. absent same_place p (places_of b (own_place b) js) (all_map (places_of b (own_place b) js) (own_table b js) (λ q e.
    ap (λ (t : Bool). t && eqb p.number q.number) (ne_eqb p.table q.table (λ s. d (s ∙ e)))))))
    ∙ ap (λ (n : ℕ). reads_of used + n) (reads_are b js some below)
