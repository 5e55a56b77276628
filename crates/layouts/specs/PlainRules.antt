-- THE RULES OF A SHEET, by word and in plain numbers: when word i is tested, and what the rules of all words ask. It holds no lemma and no proof.
use Rattle.std.specs.Prelude.{ℕ, suc, ◌+◌, ◌-◌, ◌/◌, ◌%◌, ◌^◌, ◌≤◌, ◌<◌, true, false, cond, List, ◌≡◌, length, ltb, get_or, take}
use Rattle.definition.specs.Field.{prime_of, spelling_of}
use Rattle.definition.specs.Lists.{product_of}
use Rattle.definition.specs.Sheet.{Edition, edition1, edition2, fold_words, largest_size, sheet_rules}

-- The turn at which word i is tested: edition 1 goes from word to word, edition 2 through words 0 to 5, 12 to 17 and 6 to 11.
unfoldable pub word_turn : Edition → ℕ → ℕ
word_turn edition1 i = i
word_turn edition2 i = cond (ltb i 6) i (cond (ltb i 12) (i + 6) (i - 6))

-- The rule of word i, which stands at its turn among the definition's rules, holds.
abbrev pub KeepsRule : Edition → List ℕ → ℕ → Type 0
KeepsRule ed w i = get_or (sheet_rules ed w) (word_turn ed i) false ≡ true

-- The rules of edition 1's words hold as far as the words go.
abbrev pub Kept : List ℕ → Type 0
Kept w = (j : ℕ) → j < length w → get_or (sheet_rules edition1 w) j false ≡ true

-- what edition 2 asks of words 12 to 17 besides: zeros past k_M, and 2 at last
abbrev pub LaterWords : Edition → List ℕ → Type 0
LaterWords edition1 w = Unit {0}
LaterWords edition2 w = ((i : ℕ) → get_or w 4 0 < i → i < 6 → get_or w (11 + i) 0 ≡ 0) × (get_or w 17 0 ≡ 2)

-- The rules in plain numbers. Of all words but the folding numbers: the field; n0 and d0, powers of two; M; s; and t_0 to t_M, with zeros after them.
pub record PlainWords (w : List ℕ) : Type 0 where
  pub field : get_or w 0 0 < 4
  pub size_power : (a : ℕ) × (get_or w 1 0 ≡ 2 ^ a)
  pub size_range : (4 ≤ get_or w 1 0) × (get_or w 1 0 ≤ largest_size (spelling_of (get_or w 0 0)))
  pub size_divides : (prime_of (get_or w 0 0) - 1) % get_or w 1 0 ≡ 0
  pub degree_power : (b : ℕ) × (get_or w 2 0 ≡ 2 ^ b)
  pub degree_range : (2 ≤ get_or w 2 0) × (get_or w 2 0 ≤ get_or w 1 0 / 2)
  pub rounds_range : get_or w 4 0 ≤ 5
  pub outs_range : (1 ≤ get_or w 5 0) × (get_or w 5 0 ≤ 2)
  pub times_range : (i : ℕ) → i ≤ get_or w 4 0 → (1 ≤ get_or w (6 + i) 0) × (get_or w (6 + i) 0 ≤ 48)
  pub times_zero : (i : ℕ) → get_or w 4 0 < i → i < 6 → get_or w (6 + i) 0 ≡ 0

-- and with them k_0 to k_M, powers of two whose product is at most d0, and t_i + s < d_(i+1);
pub record PlainSheet (ed : Edition) (w : List ℕ) : Type 0 where
  pub plain : PlainWords w
  pub fold_power : (i : ℕ) → i ≤ get_or w 4 0 → (c : ℕ) × (get_or (fold_words ed w) i 0 ≡ 2 ^ c)
  pub fold_range : (i : ℕ) → i ≤ get_or w 4 0 → (2 ≤ get_or (fold_words ed w) i 0) × (get_or (fold_words ed w) i 0 ≤ 16) × (get_or (fold_words ed w) i 0 ≤ get_or w 2 0)
  pub fold_product : product_of (take (suc (get_or w 4 0)) (fold_words ed w)) ≤ get_or w 2 0
  pub times_few : (i : ℕ) → i < get_or w 4 0 → get_or w (6 + i) 0 + get_or w 5 0 < get_or w 2 0 / product_of (take (suc i) (fold_words ed w))
  pub later_words : LaterWords ed w

-- in edition 1 these are of its one folding number, word 3.
pub record PlainSheet1 (w : List ℕ) : Type 0 where
  pub plain : PlainWords w
  pub fold_power : (c : ℕ) × (get_or w 3 0 ≡ 2 ^ c)
  pub fold_range : (2 ≤ get_or w 3 0) × (get_or w 3 0 ≤ 16) × (get_or w 3 0 ≤ get_or w 2 0)
  pub fold_product : get_or w 3 0 ^ suc (get_or w 4 0) ≤ get_or w 2 0
  pub times_few : (i : ℕ) → i < get_or w 4 0 → get_or w (6 + i) 0 + get_or w 5 0 < get_or w 2 0 / get_or w 3 0 ^ suc i
