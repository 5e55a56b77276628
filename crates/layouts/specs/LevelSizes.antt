-- The sizes of a sheet's levels as powers of two: at every level 2^i·n_i = n0, and k divides n_i and d_i.
use Rattle.std.specs.Prelude.{ℕ, zero, suc, ◌+◌, ◌-◌, ◌*◌, ◌/◌, ◌^◌, ◌≤◌, ◌<◌, List, [], ◌∷◌, ◌≡◌}
use Rattle.std.proofs.Math.Nat
use Rattle.std.proofs.Common.{mul-div_cancel, arith, sym, ap, ◌∙◌, pow-add, pow_pos}
use Rattle.definition.specs.Sheet.{Level}

-- 2^(v+c) / 2^c
pub quotient : (v c : ℕ) → 2 ^ (v + c) / 2 ^ c ≡ 2 ^ v
quotient v c = ap (λ (n : ℕ). n / 2 ^ c) (pow-add 2 v c) ∙ mul-div_cancel (2 ^ v) (pow_pos c)

-- a level of a sheet with n0 = 2^a
pub record Sized (a : ℕ) (l : Level) : Type 0 where
  pub whole : 2 ^ l.number * l.size ≡ 2 ^ a
  pub folds : l.size / l.fold * l.fold ≡ l.size
  pub degrees : l.degree / l.fold * l.fold ≡ l.degree

-- such a level has points and shift points, and k is not 0
positive_factors : (q k n : ℕ) → q * k ≡ n → 0 < n → (0 < q) × (0 < k)
positive_factors zero k n e h = absurd (omega (arith, Nat.zero-mul k))
positive_factors (suc q) zero n e h = absurd (omega (arith, Nat.mul-zero (suc q)))
positive_factors (suc q) (suc k) n e h = (omega arith, omega arith)

pub positive_sizes : (a : ℕ) (l : Level) → Sized a l → (0 < l.size / l.fold) × (0 < l.fold)
positive_sizes a l r =
    positive_factors (l.size / l.fold) l.fold l.size r.folds (positive_factors (2 ^ l.number) l.size (2 ^ a) r.whole (pow_pos a)).1

-- every level has its sizes, and its degree bound is the one before over the folding number before
abbrev pub Chain : ℕ → Level → List Level → Type 0
Chain a b [] = Sized a b
Chain a b (l ∷ ls) = Sized a b × (l.degree ≡ b.degree / b.fold) × Chain a l ls

pub chain_head : (a : ℕ) (b : Level) (ls : List Level) → Chain a b ls → Sized a b
chain_head a b [] h = h
chain_head a b (l ∷ ls) h = h.0

sized_powers : (i u v c t : ℕ) → Sized (i + (u + c)) (record { number = i; size = 2 ^ (u + c); degree = 2 ^ (v + c); fold = 2 ^ c; repetitions = t })
sized_powers i u v c t = record {
  whole = sym (pow-add 2 i (u + c));
  folds = ap (λ (n : ℕ). n * 2 ^ c) (quotient u c) ∙ sym (pow-add 2 u c);
  degrees = ap (λ (n : ℕ). n * 2 ^ c) (quotient v c) ∙ sym (pow-add 2 v c);
}

pub sized_at : (a i u v c t n d : ℕ) → i + u ≡ a → c ≤ u → c ≤ v → n ≡ 2 ^ u → d ≡ 2 ^ v → Sized a (record { number = i; size = n; degree = d; fold = 2 ^ c; repetitions = t })
sized_at a i u v c t n d ea hu hv en ed =
    let fu : u ≡ u - c + c = omega arith in
    let fv : v ≡ v - c + c = omega arith in
    let fa : a ≡ i + (u - c + c) = omega arith in
    rw (en ∙ ap (λ (x : ℕ). 2 ^ x) fu, ed ∙ ap (λ (x : ℕ). 2 ^ x) fv, fa) (sized_powers i (u - c) (v - c) c t)
