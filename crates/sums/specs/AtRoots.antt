-- What a walk over every k-th coefficient gives is a residue, so that k such words are a polynomial with the list's values at the k roots.
use Prim.Native.Nat.{ℕ, zero, suc, ◌+◌, ◌*◌, ◌≤◌, ◌<◌}
use Rattle.std.proofs.Math.Nat
use Rattle.std.proofs.Common.{not-suc-le-zero, le_of_suc-le-suc, arith, ◌∙◌, get_or-take}
use Rattle.std.specs.Prelude.{◌≡◌, length, drop}
use Rattle.std.proofs.Math.Path.{refl, sym, ap}
use mathlib.Core.List.{List, [], ◌∷◌}
use Rattle.std.proofs.Math.ListN.{get_or, get_or-eq_default}
use Rattle.std.proofs.Math.Seq.{get_or-drop}
use Rattle.definition.specs.Field.{Field, power}
use Rattle.definition.specs.Lists.{chunks}
use Rattle.definition.specs.Polynomial.{evaluate, geometric}
use Rattle.list_laws.specs.Lists.{by_number}
use Rattle.algebra.specs.Laws.{FieldLaws}
use Rattle.sums.specs.Sums.{products, products_powers}
use Rattle.sums.specs.Residues.{column, residues, residues_at}

module _ {A : Type 0} (F : Field A) where
  open F use {𝟘}

  -- the count elements of f at from, from + stride, ..
  unfoldable pub every_nth : List A → ℕ → ℕ → ℕ → List A
  every_nth f from stride zero = []
  every_nth f from stride (suc count) = get_or f from 𝟘 ∷ every_nth f (from + stride) stride count

module _ {A : Type 0} (F : Field A) (L : FieldLaws F) where
  open F use {𝟘}

  every_drop : (f : List A) (j m k n : ℕ) → every_nth F (drop j f) m k n ≡ every_nth F f (j + m) k n
  unfolding every_nth
  every_drop f j m k zero = refl
  every_drop f j m k (suc n) =
      λ i. get_or-drop j f m 𝟘 i ∷ (every_drop f j (m + k) k n ∙ ap (λ (s : ℕ). every_nth F f s k n) (sym (Nat.add_assoc j m k))) i

  every_column : (f : List A) (m k n : ℕ) → m < k → every_nth F f m k n ≡ column F m (chunks n k f)
  unfolding every_nth column chunks
  every_column f m k zero h = refl
  every_column f m k (suc n) h =
      λ i. sym (get_or-take k f m 𝟘 h) i ∷ (ap (λ (s : ℕ). every_nth F f s k n) (Nat.add_comm m k) ∙ sym (every_drop f k m k n) ∙ every_column (drop k f) m k n h) i

  pub every_number : (f : List A) (m k n i : ℕ) → i < n → get_or (every_nth F f m k n) i 𝟘 ≡ get_or f (m + k * i) 𝟘
  unfolding every_nth
  every_number f m k zero i h = absurd (not-suc-le-zero h)
  every_number f m k (suc n) zero h = ap (λ (s : ℕ). get_or f s 𝟘) (sym (ap (λ (s : ℕ). m + s) (Nat.mul-zero k) ∙ Nat.add-zero m))
  every_number f m k (suc n) (suc i) h =
      every_number f (m + k) k n i (le_of_suc-le-suc h)
      ∙ ap (λ (s : ℕ). get_or f s 𝟘) (Nat.add_assoc m k (k * i) ∙ ap (λ (s : ℕ). m + s) (Nat.add_comm k (k * i) ∙ sym (Nat.mul-suc k i)))

  pub every_length : (f : List A) (m k n : ℕ) → length (every_nth F f m k n) ≡ n
  unfolding every_nth
  every_length f m k zero = refl
  every_length f m k (suc n) = ap suc (every_length f (m + k) k n)

  -- THE VALUES AT THE ROOTS, as a loop has them: word m of r is the sum over every k-th coefficient from number m on, times the powers of y
  pub sums_at : (f r : List A) (n k : ℕ) (x y : A) → length f ≤ suc n * k → length r ≡ k → power F x k ≡ y →
      ((m : ℕ) → m < k → get_or r m 𝟘 ≡ products F (every_nth F f m k (suc n)) (geometric F y n)) → evaluate F r x ≡ evaluate F f x
  unfolding residues
  sums_at f r n k x y few size root sums =
      ap (λ (l : List A). evaluate F l x)
      (by_number 𝟘 r (λ m. evaluate F (column F m (chunks (suc n) k f)) y) k size
      (λ m h. sums m h ∙ products_powers F L (every_nth F f m k (suc n)) y n (λ i l. get_or-eq_default (every_nth F f m k (suc n)) 𝟘 (omega (arith, every_length f m k (suc n))))
      ∙ ap (λ (l : List A). evaluate F l y) (every_column f m k (suc n) h)))
      ∙ residues_at F L (suc n) k f x y few root
