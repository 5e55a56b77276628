-- The rounds and the blocks, one step each: what the loops' invariants need.
use Rattle.std.specs.Prelude.{ℕ, ◌+◌, ◌%◌, ◌^◌, ◌≤◌, ◌<◌, ◌≡◌, List, [], length, get_or, take, drop, set}
use Rattle.std.proofs.Common.{add-one, arith, sym, ap, ◌∙◌, drop_of_length-le, drop-cons, take_all, take-suc, take-suc-set, take-take}
use Rattle.hashing.specs.Sha256.{State, constants, choose, majority, big_sigma0, big_sigma1, first_sum, second_sum, joined, schedule, turn, turns, compress, hash_blocks}

-- places filled from the front, one more
pub filled_next : (w x : List ℕ) (t : ℕ) {v : ℕ} → t < length w → t < length x → v ≡ get_or x t 0 → take t w ≡ take t x → take (t + 1) (set w t v) ≡ take (t + 1) x
filled_next w x t {v} a b e s = rw (add-one, take-suc-set w t v a, take-suc x t 0 b, e, s)

pub filled_all : (w x : List ℕ) (t : ℕ) → length x ≡ 16 → 16 ≤ t → take t w ≡ take t x → take 16 w ≡ x
filled_all w x t n h s = sym (take-take 16 t w h) ∙ ap (take 16) s ∙ take-take 16 t x h ∙ take_all 16 x (omega arith)

-- one round more
pub turns_next : (s : State) (k w : List ℕ) (t : ℕ) → t < length k → t < length w
    → turns s (drop t k) (drop t w) ≡ turns (turn s (get_or k t 0) (get_or w t 0)) (drop (t + 1) k) (drop (t + 1) w)
unfolding turns
turns_next s k w t a b = rw (add-one, drop-cons k t 0 a, drop-cons w t 0 b)

pub turns_end : (s : State) (k w : List ℕ) (t : ℕ) → length k ≤ t → turns s (drop t k) (drop t w) ≡ s
unfolding turns
turns_end s k w t h = rw (drop_of_length-le k {i = t} h)

-- one block more
pub blocks_next : (s : State) (xs : List (List ℕ)) (b : ℕ) → b < length xs
    → hash_blocks s (drop b xs) ≡ hash_blocks (compress s (get_or xs b [])) (drop (b + 1) xs)
unfolding hash_blocks
blocks_next s xs b h = rw (add-one, drop-cons xs b [] h)

pub blocks_end : (s : State) (xs : List (List ℕ)) (b : ℕ) → length xs ≤ b → hash_blocks s (drop b xs) ≡ s
unfolding hash_blocks
blocks_end s xs b h = rw (drop_of_length-le xs {i = b} h)

-- a round and a sum of states, from their parts
module _ (s : State) (k w : ℕ) {s₁ ch t₁ s₀ mj t₂ a e : ℕ} where
  pub turn_law : s₁ ≡ big_sigma1 s.e → ch ≡ choose s.e s.f s.g → t₁ ≡ (s.h + s₁ + ch + k + w) % 2 ^ 32
      → s₀ ≡ big_sigma0 s.a → mj ≡ majority s.a s.b s.c → t₂ ≡ (s₀ + mj) % 2 ^ 32
      → a ≡ (t₁ + t₂) % 2 ^ 32 → e ≡ (s.d + t₁) % 2 ^ 32
      → record { a = a; b = s.a; c = s.b; d = s.c; e = e; f = s.e; g = s.f; h = s.g } ≡ turn s k w
  unfolding turn first_sum second_sum
  turn_law e₁ e₂ e₃ e₄ e₅ e₆ e₇ e₈ = rw (e₇, e₈, e₃, e₆, e₁, e₂, e₄, e₅)

module _ (s t : State) {a b c d e f g h : ℕ} where
  pub joined_law : a ≡ (t.a + s.a) % 2 ^ 32 → b ≡ (t.b + s.b) % 2 ^ 32 → c ≡ (t.c + s.c) % 2 ^ 32 → d ≡ (t.d + s.d) % 2 ^ 32
      → e ≡ (t.e + s.e) % 2 ^ 32 → f ≡ (t.f + s.f) % 2 ^ 32 → g ≡ (t.g + s.g) % 2 ^ 32 → h ≡ (t.h + s.h) % 2 ^ 32
      → record { a = a; b = b; c = c; d = d; e = e; f = f; g = g; h = h } ≡ joined s t
  unfolding joined
  joined_law e₁ e₂ e₃ e₄ e₅ e₆ e₇ e₈ = rw (e₁, e₂, e₃, e₄, e₅, e₆, e₇, e₈)

-- one block, from its parts
pub compress_law : (s : State) {t r : State} (k block : List ℕ) → k ≡ constants → t ≡ turns s k (schedule 48 block) → r ≡ joined s t → r ≡ compress s block
unfolding compress
compress_law s k block e₁ e₂ e₃ = e₃ ∙ ap (joined s) (e₂ ∙ ap (λ x. turns s x (schedule 48 block)) e₁)

pub constants_length : {k : List ℕ} → k ≡ constants → length k ≡ 64
unfolding constants
constants_length e = ap length e
