-- The list of all elements of a field holds the elements in range, all of them and no other.
use Rattle.std.specs.Prelude.{ℕ, ◌<◌}
use Rattle.std.proofs.Common.{arith}
use Rattle.definition.specs.Field.{Element, Quad, Spelling, four, one}
use Rattle.definition.specs.Lists.{range}
use Rattle.nearest_definition.specs.Nearest.{all_elements}
use Rattle.list_laws.specs.All.{All, all_flat, all_map, all_of_map, all_range}
use Rattle.decoding.specs.Searches.{In, in_flat, in_map, in_range}
use Rattle.algebra.specs.FieldIn.{Below}

in_numbers : (p x : ℕ) → x < p → In x (range 0 p)
in_numbers p x l = in_range x 0 p (omega arith) (omega arith)

below_numbers : (p : ℕ) → All (λ x. x < p) (range 0 p)
below_numbers p = all_range (λ x. x < p) 0 p (λ x l u. omega arith)

pub all_in : (σ : Spelling) (p : ℕ) (x : Element σ) → Below σ p x → In x (all_elements σ p)
unfolding all_elements
all_in one p x l = in_numbers p x l
all_in four p x l =
    in_flat {C = Quad ℕ} _ x x.a (range 0 p) (in_numbers p x.a l.0)
    (in_flat {C = Quad ℕ} _ x x.b (range 0 p) (in_numbers p x.b l.1)
    (in_flat {C = Quad ℕ} _ x x.c (range 0 p) (in_numbers p x.c l.2)
    (in_map {C = Quad ℕ} (λ d. record { a = x.a; b = x.b; c = x.c; d = d }) x.d (range 0 p) (in_numbers p x.d l.3))))

pub all_below : (σ : Spelling) (p : ℕ) → All (Below σ p) (all_elements σ p)
unfolding all_elements
all_below one p = below_numbers p
all_below four p =
    let P : Quad ℕ → Type 0 = Below four p in
    let n = below_numbers p in
    all_flat P _ (range 0 p) (all_map (range 0 p) n (λ a la.
    all_flat P _ (range 0 p) (all_map (range 0 p) n (λ b lb.
    all_flat P _ (range 0 p) (all_map (range 0 p) n (λ c lc.
    all_of_map P (λ d. record { a = a; b = b; c = c; d = d }) (range 0 p) (all_map (range 0 p) n (λ d ld. (la, lb, lc, ld)))))))))
