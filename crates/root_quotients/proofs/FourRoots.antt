-- A polynomial of four words at the k roots of a point: by residues of its words, and by planes. Assumes nothing.
use Prim.Native.Nat.{ℕ, suc, ◌+◌, ◌-◌, ◌*◌, ◌≤◌, ◌<◌}
use native.Mathlib.Nat.{mul_comm}
use native.Mathlib.Omega.{arith}
use mathlib.Core.Path.{◌≡◌, sym, ap, ◌∙◌}
use mathlib.Core.List.{List, ◌++◌}
use lib.ListN.{length, get_or, take, drop, get_or-append}
use lib.Seq.{length-take-le, take_at}
use Rattle.definition.specs.Field.{prime_field, prime_of, field_of, Quad, embed, quads}
use Rattle.definition.specs.Polynomial.{evaluate}
use Rattle.spelling.specs.Field3.{field3, base}
use Rattle.planes.specs.Roots.{residues_of_four}
use Rattle.spelling.specs.Words.{quads_append, quads_many, quads_take}
use Rattle.sums.specs.AtRoots.{every_nth}
use Rattle.sums.specs.Sums.{products}
use Rattle.root_quotients.specs.Rooted.{Rooted}
use Rattle.root_quotients.proofs.AtRoots.{every_front}

module _ {pw : List ℕ} {at step k : ℕ} {powers : List ℕ} (r : Rooted (field_of 2) pw at step k powers) where
  -- where the sums are 4k, residues of the words of f, the polynomial of their k elements has the values of f's
  at_root : (f sums : List ℕ) → k * length powers ≤ length (quads f) → length sums ≡ 4 * k →
      ((i : ℕ) → i < 4 * k → get_or sums i 0 ≡ products (field_of 2) (every_nth (field_of 2) f i (4 * k) (length powers)) powers) →
      (m : ℕ) → m < k → evaluate field3 (quads sums) (embed base (get_or pw (at + step * m) 0)) ≡ evaluate field3 (take (k * length powers) (quads f)) (embed base (get_or pw (at + step * m) 0))
  unfolding field_of prime_of prime_field
  at_root f sums long size each m l =
      let words = k * length powers in
      let n = length powers - 1 in
      let x = get_or pw (at + step * m) 0 in
      let whole : length powers ≡ suc n = omega (arith, r.nonempty) in
      let front : quads (take (4 * words) f) ≡ take words (quads f) = quads_take words f in
      let full : length (quads (take (4 * words) f)) ≡ suc n * k = ap length front ∙ length-take-le words (quads f) long ∙ ap (λ (c : ℕ). k * c) whole ∙ mul_comm k (suc n) in
      residues_of_four (take (4 * words) f) sums n k x r.y full (quads_many k sums size) (r.root m l)
      (λ i u. each i u ∙ ap (λ (t : List ℕ). products base t powers) (sym (every_front base f (4 * words) i (4 * k) (length powers) (omega arith)))
      ∙ (λ j. products base (every_nth base (take (4 * words) f) i (4 * k) (whole j)) (r.list j)))
      ∙ ap (λ (t : List (Quad ℕ)). evaluate field3 t (embed base x)) front

  -- by a part of a scratch array for the sums, into a part of a longer list
  pub at_roots_four_is : (f room sums old front : List ℕ) → k * length powers ≤ length (quads f) → 4 * k ≤ length room → 4 * k ≤ length old → length sums ≡ length (take (4 * k) room) →
      ((i : ℕ) → i < length (take (4 * k) room) → get_or sums i 0 ≡ products (field_of 2) (every_nth (field_of 2) f i (length (take (4 * k) room)) (length powers)) powers) →
      length front ≡ length (take (4 * k) old) →
      ((m : ℕ) → m < k → get_or (quads front) m field3.𝟘 ≡ evaluate field3 (quads (take (4 * k) (sums ++ drop (4 * k) room))) (embed base (get_or pw (at + step * m) 0))) →
      (m : ℕ) → m < k → get_or (quads (front ++ drop (4 * k) old)) m field3.𝟘 ≡ evaluate field3 (take (k * length powers) (quads f)) (embed base (get_or pw (at + step * m) 0))
  at_roots_four_is f room sums old front long in-room in-old ls each lf table m l =
      let size_room : length (take (4 * k) room) ≡ 4 * k = length-take-le (4 * k) room in-room in
      let size-old : length (take (4 * k) old) ≡ 4 * k = length-take-le (4 * k) old in-old in
      let whole : take (4 * k) (sums ++ drop (4 * k) room) ≡ sums = take_at sums (drop (4 * k) room) (4 * k) (ls ∙ size_room) in
      let size : length (quads front) ≡ k = quads_many k front (lf ∙ size-old) in
      ap (λ (t : List (Quad ℕ)). get_or t m field3.𝟘) (quads_append k front (drop (4 * k) old) (lf ∙ size-old))
      ∙ get_or-append (quads front) (quads (drop (4 * k) old)) field3.𝟘 m (omega (arith, size))
      ∙ table m l ∙ ap (λ (t : List ℕ). evaluate field3 (quads t) (embed base (get_or pw (at + step * m) 0))) whole
      ∙ at_root f sums long (ls ∙ size_room)
      (λ i u. each i (omega (arith, size_room)) ∙ ap (λ (n : ℕ). products (field_of 2) (every_nth (field_of 2) f i n (length powers)) powers) size_room) m l
