-- Reading back what was sealed: the words of bytes, and the check of a block.
use Rattle.std.specs.Prelude.{ℕ, suc, ◌<◌, Bool, false, ◌≡◌, refl, length}
use Rattle.std.proofs.Common.{arith, take_at, eq-eqb}
use mathlib.Core.List.{List, [], ◌∷◌, ◌++◌, map, flat_map}
use Rattle.std.proofs.lemmas.List.{get_or_at}
use Rattle.definition.specs.Block.{bytes_of, check_word, low_bytes, word_of, wrong_checks}
use Rattle.definition.specs.Lists.{chunks}
use Rattle.list_laws.specs.All.{All}

word_of_bytes : (w : ℕ) → w < 4294967296 → word_of (bytes_of w) ≡ w
unfolding word_of bytes_of low_bytes
word_of_bytes w h = omega arith

pub words_of_bytes : (ws : List ℕ) → All (λ w. w < 4294967296) ws → map word_of (chunks (length ws) 4 (flat_map bytes_of ws)) ≡ ws
unfolding chunks flat_map bytes_of low_bytes
words_of_bytes [] h = refl
words_of_bytes (w ∷ ws) h = λ i. word_of_bytes w h.0 i ∷ words_of_bytes ws h.1 i

-- the 128 words of each block, from block b on
unfoldable pub checked_words : ℕ → List (List ℕ) → List (List ℕ)
checked_words b [] = []
checked_words b (x ∷ xs) = (x ++ (check_word b x ∷ [])) ∷ checked_words (suc b) xs

pub right_checks : (b : ℕ) (xs : List (List ℕ)) → All (λ x. length x ≡ 127) xs → All (λ (e : Bool). e ≡ false) (wrong_checks b (checked_words b xs))
unfolding wrong_checks checked_words
right_checks b [] h = tt
right_checks b (x ∷ xs) h =
    (rw (get_or_at x (check_word b x) [] 0 127 h.0, take_at x (check_word b x ∷ []) 127 h.0, eq-eqb (check_word b x) (check_word b x) refl), right_checks (suc b) xs h.1)
