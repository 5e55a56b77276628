-- The seed is the word in the first four bytes; those that are missing are 0.
use Prim.Native.Nat.{ℕ, ◌+◌, ◌*◌}
use native.Mathlib.Omega.{arith}
use mathlib.Core.List.{List, [], ◌∷◌}
use mathlib.Core.Path.{◌≡◌, refl, ◌∙◌}
use mir.Syntax.{w32}
use lib.ListN.{get_or}
use Rattle.std.specs.Int.{from_le_bytes}
use Rattle.definition.specs.Block.{word_of}
use Rattle.definition.specs.Load.{seed_of}

weighed : (a b c d : ℕ) → from_le_bytes w32 (a ∷ b ∷ c ∷ d ∷ []) ≡ a + 256 * b + 65536 * c + 16777216 * d
weighed a b c d = omega arith

first_four : (bytes : List ℕ) → get_or bytes 0 0 + 256 * get_or bytes 1 0 + 65536 * get_or bytes 2 0 + 16777216 * get_or bytes 3 0 ≡ seed_of bytes
unfolding seed_of word_of
first_four [] = refl
first_four (a ∷ []) = omega arith
first_four (a ∷ b ∷ []) = omega arith
first_four (a ∷ b ∷ c ∷ []) = omega arith
first_four (a ∷ b ∷ c ∷ d ∷ bytes) = omega arith

pub seed_bytes : (bytes : List ℕ) → from_le_bytes w32 (get_or bytes 0 0 ∷ get_or bytes 1 0 ∷ get_or bytes 2 0 ∷ get_or bytes 3 0 ∷ []) ≡ seed_of bytes
seed_bytes bytes = weighed (get_or bytes 0 0) (get_or bytes 1 0) (get_or bytes 2 0) (get_or bytes 3 0) ∙ first_four bytes
