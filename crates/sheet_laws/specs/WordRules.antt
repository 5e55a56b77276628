-- THE RULE OF EACH SHEET WORD in plain numbers (01, Fields and the sheet; 02, CR 1, 5 and 11), and the first word that breaks its own. It holds no lemma and no proof.
-- Word i of a list w is `get_or w i 0`: a word that is not there counts as 0.
use Rattle.std.specs.Prelude.{ℕ, zero, suc, ◌+◌, ◌-◌, ◌*◌, ◌/◌, ◌^◌, ◌≤◌, ◌<◌, List, [], ◌∷◌, ◌≡◌, get_or}
use Rattle.definition.specs.Field.{prime_of}
use Rattle.definition.specs.Sheet.{Edition, edition1, edition2, sheet_length}
use Rattle.layouts.specs.PlainRules.{word_turn}

abbrev pub PowerOfTwo : ℕ → Type 0
PowerOfTwo x = (a : ℕ) × (x ≡ 2 ^ a)

abbrev pub Divides : ℕ → ℕ → Type 0
Divides n m = (q : ℕ) × (q * n ≡ m)

-- Word 0, the field: 0 to 3.
abbrev pub FieldRule : List ℕ → Type 0
FieldRule w = get_or w 0 0 < 4

-- Word 1, n0: a power of two from 4 to 4096, in field 3 to 1024, that divides p - 1.
abbrev pub SizeRule : List ℕ → Type 0
SizeRule w =
    PowerOfTwo (get_or w 1 0) × (4 ≤ get_or w 1 0) × (get_or w 1 0 ≤ 4096) × (get_or w 0 0 ≡ 3 → get_or w 1 0 ≤ 1024) × Divides (get_or w 1 0) (prime_of (get_or w 0 0) - 1)

-- Word 2, d0: a power of two from 2 to n0/2.
abbrev pub DegreeRule : List ℕ → Type 0
DegreeRule w = PowerOfTwo (get_or w 2 0) × (2 ≤ get_or w 2 0) × (get_or w 2 0 ≤ get_or w 1 0 / 2)

-- A folding number: a power of two from 2 to 16, at most d0. Word 3, k or k_0, is one.
abbrev pub FoldingNumber : List ℕ → ℕ → Type 0
FoldingNumber w k = PowerOfTwo k × (2 ≤ k) × (k ≤ 16) × (k ≤ get_or w 2 0)

abbrev pub FoldRule : List ℕ → Type 0
FoldRule w = FoldingNumber w (get_or w 3 0)

-- Word 4, M: 0 to 5; in edition 1 with k^(M+1) at most d0.
abbrev pub RoundsRule : Edition → List ℕ → Type 0
RoundsRule edition1 w = (get_or w 4 0 ≤ 5) × (get_or w 3 0 ^ suc (get_or w 4 0) ≤ get_or w 2 0)
RoundsRule edition2 w = get_or w 4 0 ≤ 5

-- Word 5, s: 1 or 2.
abbrev pub OutCoinsRule : List ℕ → Type 0
OutCoinsRule w = (1 ≤ get_or w 5 0) × (get_or w 5 0 ≤ 2)

-- In edition 2 the product of k_0 to k_i, which are word 3 and words 12 to 11 + i.
unfoldable pub fold_product : List ℕ → ℕ → ℕ
fold_product w zero = get_or w 3 0
fold_product w (suc i) = fold_product w i * get_or w (12 + i) 0

-- d_(i+1): d0 over k^(i+1), in edition 2 over the product of k_0 to k_i
abbrev pub next_degree : Edition → List ℕ → ℕ → ℕ
next_degree edition1 w i = get_or w 2 0 / get_or w 3 0 ^ suc i
next_degree edition2 w i = get_or w 2 0 / fold_product w i

-- Word 6 + i, t_i: for i up to M from 1 to 48, and for i below M also t_i + s < d_(i+1); past t_M zero.
abbrev pub RepetitionsRule : Edition → ℕ → List ℕ → Type 0
RepetitionsRule ed i w =
    (i ≤ get_or w 4 0 → (1 ≤ get_or w (6 + i) 0) × (get_or w (6 + i) 0 ≤ 48))
    × (i < get_or w 4 0 → get_or w (6 + i) 0 + get_or w 5 0 < next_degree ed w i)
    × (get_or w 4 0 < i → get_or w (6 + i) 0 ≡ 0)

-- Word 11 + i of edition 2, k_i, i from 1 to 5: for i up to M a folding number, with the product of k_0 to k_i at most d0; past k_M zero.
abbrev pub LaterFoldRule : ℕ → List ℕ → Type 0
LaterFoldRule i w =
    (i ≤ get_or w 4 0 → FoldingNumber w (get_or w (11 + i) 0) × (fold_product w i ≤ get_or w 2 0))
    × (get_or w 4 0 < i → get_or w (11 + i) 0 ≡ 0)

-- Word 17 of edition 2: 2.
abbrev pub EditionRule : List ℕ → Type 0
EditionRule w = get_or w 17 0 ≡ 2

-- The rules by word, from word 0 on: of 12 words, or of 18.
abbrev pub later_word_rules : Edition → List (List ℕ → Type 0)
later_word_rules edition1 = []
later_word_rules edition2 = LaterFoldRule 1 ∷ LaterFoldRule 2 ∷ LaterFoldRule 3 ∷ LaterFoldRule 4 ∷ LaterFoldRule 5 ∷ EditionRule ∷ []

abbrev pub word_rules : Edition → List (List ℕ → Type 0)
word_rules ed =
    FieldRule ∷ SizeRule ∷ DegreeRule ∷ FoldRule ∷ RoundsRule ed ∷ OutCoinsRule
    ∷ RepetitionsRule ed 0 ∷ RepetitionsRule ed 1 ∷ RepetitionsRule ed 2 ∷ RepetitionsRule ed 3 ∷ RepetitionsRule ed 4 ∷ RepetitionsRule ed 5 ∷ later_word_rules ed

-- a number past the sheet is no word's
abbrev pub NoRule : List ℕ → Type 0
NoRule w = ⊥

-- WORD i KEEPS ITS RULE, in plain numbers.
abbrev pub PlainRule : Edition → List ℕ → ℕ → Type 0
PlainRule ed w i = get_or (word_rules ed) i NoRule w

-- WORD p IS THE FIRST THAT BREAKS ITS RULE, in the order of the tests: all words of an earlier turn keep theirs.
pub record FirstBroken (ed : Edition) (w : List ℕ) (p : ℕ) : Type 0 where
  pub word : p < sheet_length ed
  pub broken : PlainRule ed w p → ⊥
  pub kept_before : (i : ℕ) → i < sheet_length ed → word_turn ed i < word_turn ed p → PlainRule ed w i
