-- The residues of a polynomial of four words, taken over its words as `sums::residues` takes them, have its values at the k roots of a point.
use Prim.Native.Nat.{ℕ, suc, ◌+◌, ◌*◌, ◌≤◌, ◌<◌}
use Rattle.std.proofs.Math.Nat
use Rattle.std.proofs.Common.{arith, sym, ◌∙◌}
use Rattle.std.specs.Prelude.{◌≡◌, length, get_or}
use Rattle.std.proofs.Math.Path.{ap}
use mathlib.Core.List.{List}
use Rattle.definition.specs.Field.{Field, prime_field, power, embed, quads}
use Rattle.definition.specs.Polynomial.{evaluate, geometric}
use Rattle.algebra.specs.Quartic.{quad_path}
use Rattle.spelling.specs.Field3.{field3, base, base_laws}
use Rattle.sums.specs.AtRoots.{every_nth, sums_at}
use Rattle.sums.specs.Sums.{products}
use Rattle.planes.specs.Planes.{plane, plane_at, plane_length, every_plane, evaluate_at}

module _ (f sums : List ℕ) (n k x y : ℕ) (long : length (quads f) ≡ suc n * k) (size : length (quads sums) ≡ k) (root : power base x k ≡ y)
    (each : (i : ℕ) → i < 4 * k → get_or sums i 0 ≡ products base (every_nth base f i (4 * k) (suc n)) (geometric base y n)) where
  one_plane : (c : ℕ) → c < 4 → evaluate base (plane c sums) x ≡ evaluate base (plane c f) x
  unfolding prime_field
  one_plane c h =
      let turned : k * suc n ≡ suc n * k = Nat.mul_comm k (suc n) in
      sums_at base base_laws (plane c f) (plane c sums) n k x y (omega (arith, plane_length c f, long)) (plane_length c sums ∙ size) root
      (λ m l. plane_at c sums m h (omega (arith, size)) ∙ each (4 * m + c) (omega arith)
      ∙ ap (λ (t : List ℕ). products base t (geometric base y n)) (sym (every_plane c f m k (suc n) h l (omega (arith, turned, long)))))

  pub residues_of_four : evaluate field3 (quads sums) (embed base x) ≡ evaluate field3 (quads f) (embed base x)
  residues_of_four =
      evaluate_at sums x ∙ quad_path (one_plane 0 (omega arith)) (one_plane 1 (omega arith)) (one_plane 2 (omega arith)) (one_plane 3 (omega arith)) ∙ sym (evaluate_at f x)
