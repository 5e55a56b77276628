-- THE VOCABULARY OF THE PAGE ON VERIFY: what stands in a file, by number, and what a fault of each number is. It holds no lemma and no proof.
-- A file, of an edition ed, is the list of its bytes; w is the word stream that it holds, and h the sheet in front of it, whose M, s, levels and rounds are those of
-- Levels, whose messages are Numbered's, and whose rules by word are those of PlainRules (Levels and PlainRules: crate `layouts`).
use Rattle.std.specs.Prelude.{ℕ, zero, suc, ◌+◌, ◌*◌, ◌/◌, ◌%◌, ◌≤◌, ◌<◌, cond, ◌||◌, List, [], ◌∷◌, map, ◌≡◌, eqb, ltb, length, get_or, take, drop}
use Rattle.definition.specs.Block.{block_count, check_word, stream_of, word_of}
use Rattle.definition.specs.Deciding.{Function, answers, next_function, table_function}
use Rattle.definition.specs.Domain.{fold_at, point, shift_point}
use Rattle.definition.specs.Field.{Element, elements_in, number_in}
use Rattle.definition.specs.Layout.{words_due}
use Rattle.definition.specs.Lists.{range}
use Rattle.definition.specs.Polynomial.{Sample, distinct, evaluate}
use Rattle.definition.specs.Sheet.{Edition, Sheet, edition1, final_count, sheet_length, sheet_of, shift_count}
use Rattle.definition.specs.Transcript.{Round}
use Rattle.definition.specs.Verdict.{Outcome, accepted, refused}
use Rattle.layouts.specs.Levels.{element_at, level_of, out_coin_count, round_start, rounds_of, sheet_field, sheet_root, total, words_for}
use Rattle.layouts.specs.PlainRules.{KeepsRule, word_turn}
use Rattle.completeness.specs.Numbered.{Due, Message, final, length_of, level_reads, replies, start_of, table}

-- BLOCKS. The number of blocks; word x of block b, four bytes; and whether the block's word 127 is its check.
abbrev pub blocks_in : List ℕ → ℕ
blocks_in file = length file / 512

unfoldable pub block_word : List ℕ → ℕ → ℕ → ℕ
block_word file b x = word_of (take 4 (drop (512 * b + 4 * x) file))

abbrev pub RightCheck : List ℕ → ℕ → Type 0
RightCheck file b = block_word file b 127 ≡ check_word b (map (block_word file b) (range 0 127))

-- the sheet in front of the stream
abbrev pub sheet_in : Edition → List ℕ → Sheet
sheet_in ed file = sheet_of ed (stream_of file)

-- THE PARTS OF THE STREAM: the messages; the out coins, the combination coin and the shift indices of round i + 1; fold coin i; and the final indices.
pub data Part : Type 0 where
  words : Message → Part
  outs : ℕ → Part
  combination : ℕ → Part
  fold : ℕ → Part
  shifts : ℕ → Part
  finals : Part

-- a part of the sheet
abbrev pub PartDue : Sheet → Part → Type 0
PartDue h (words m) = Due h m
PartDue h (outs i) = i < rounds_of h
PartDue h (combination i) = i < rounds_of h
PartDue h (fold i) = i ≤ rounds_of h
PartDue h (shifts i) = i < rounds_of h
PartDue h finals = Unit {0}

-- the word number of its first word; the number of its words; and the limit below which they are in range
unfoldable pub part_start : Edition → Sheet → Part → ℕ
part_start ed h (words m) = start_of ed h m
part_start ed h (outs i) = round_start ed h (suc i) + words_for h (level_of h (suc i)).size
part_start ed h (combination i) = round_start ed h (suc i) + words_for h ((level_of h (suc i)).size + (out_coin_count h + out_coin_count h))
part_start ed h (fold zero) = round_start ed h 0 + words_for h (level_of h 0).size
part_start ed h (fold (suc i)) = round_start ed h (suc i) + words_for h ((level_of h (suc i)).size + (out_coin_count h + (out_coin_count h + 1)))
part_start ed h (shifts i) = round_start ed h (suc i) + words_for h ((level_of h (suc i)).size + (out_coin_count h + (out_coin_count h + 2)))
part_start ed h finals = round_start ed h (suc (rounds_of h)) + words_for h (final_count (level_of h (rounds_of h)))

unfoldable pub part_length : Sheet → Part → ℕ
part_length h (words m) = length_of h m
part_length h (outs i) = words_for h (out_coin_count h)
part_length h (combination i) = words_for h 1
part_length h (fold i) = words_for h 1
part_length h (shifts i) = (level_of h i).repetitions
part_length h finals = (level_of h (rounds_of h)).repetitions

unfoldable pub part_limit : Sheet → Part → ℕ
part_limit h (words m) = h.prime
part_limit h (outs i) = h.prime
part_limit h (combination i) = h.prime
part_limit h (fold i) = h.prime
part_limit h (shifts i) = shift_count (level_of h i)
part_limit h finals = shift_count (level_of h (rounds_of h))

-- word j of a part, all its words, and the number of words due: those up to the last final index; and where a part is of elements, element j and all of them
abbrev pub part_word : Edition → Sheet → List ℕ → Part → ℕ → ℕ
part_word ed h w x j = get_or w (part_start ed h x + j) 0

unfoldable pub part_words : Edition → Sheet → List ℕ → Part → List ℕ
part_words ed h w x = take (part_length h x) (drop (part_start ed h x) w)

abbrev pub part_element : Edition → (h : Sheet) → List ℕ → Part → ℕ → Element h.spelling
part_element ed h w x j = element_at h.spelling w (part_start ed h x + words_for h j)

abbrev pub part_elements : Edition → (h : Sheet) → List ℕ → Part → List (Element h.spelling)
part_elements ed h w x = elements_in h.spelling (part_words ed h w x)

abbrev pub due_of : Edition → Sheet → ℕ
due_of ed h = part_start ed h finals + part_length h finals

-- THE VERIFIER'S FUNCTIONS. Round i + 1 as it stands in the stream; f_i, with its value at each point number of domain i; and G_(i+1)'s list, a pair for each out coin and each shift
-- index of round i + 1.
abbrev pub round_in : Edition → (h : Sheet) → List ℕ → ℕ → Round (Element h.spelling)
round_in ed h w i = record {
  coins = record {
    level = level_of h (suc i);
    outs = part_elements ed h w (outs i);
    combination = part_element ed h w (combination i) 0;
    fold = part_element ed h w (fold (suc i)) 0;
    shifts = part_words ed h w (shifts i);
  };
  table = part_elements ed h w (words (table (suc i)));
  replies = part_elements ed h w (words (replies (suc i)));
}

unfoldable pub function_in : Edition → (h : Sheet) → List ℕ → ℕ → Function (Element h.spelling)
function_in ed h w zero = table_function (sheet_field h) (sheet_root h) (level_of h 0) (part_elements ed h w (words (table 0)))
function_in ed h w (suc i) =
    next_function (sheet_field h) (sheet_root h)
    (distinct (sheet_field h) (answers (sheet_field h) (sheet_root h) (level_of h i) (function_in ed h w i).value (part_element ed h w (fold i) 0) (round_in ed h w i)))
    (round_in ed h w i)

unfoldable pub pairs_in : Edition → (h : Sheet) → List ℕ → ℕ → List (Sample (Element h.spelling))
pairs_in ed h w i = answers (sheet_field h) (sheet_root h) (level_of h i) (function_in ed h w i).value (part_element ed h w (fold i) 0) (round_in ed h w i)

abbrev pub pair_in : Edition → (h : Sheet) → List ℕ → ℕ → ℕ → Sample (Element h.spelling)
pair_in ed h w i a = get_or (pairs_in ed h w i) a (record { point = number_in h.spelling 0; value = number_in h.spelling 0 })

-- two pairs of round i + 1 agree: with equal points they have equal values
abbrev pub Agree : Edition → Sheet → List ℕ → ℕ → ℕ → ℕ → Type 0
Agree ed h w i a b = (pair_in ed h w i a).point ≡ (pair_in ed h w i b).point → (pair_in ed h w i a).value ≡ (pair_in ed h w i b).value

-- at final index j, the final polynomial has the value of the fold of f_M
abbrev pub Matches : Edition → Sheet → List ℕ → ℕ → Type 0
Matches ed h w j =
    evaluate (sheet_field h) (part_elements ed h w (words final)) (shift_point (sheet_field h) (sheet_root h) (level_of h (rounds_of h)) (part_word ed h w finals j))
    ≡ fold_at (sheet_field h) (sheet_root h) (level_of h (rounds_of h)) (function_in ed h w (rounds_of h)).value (part_element ed h w (fold (rounds_of h)) 0) (part_word ed h w finals j)

-- WHAT AN ACCEPTED FILE KEEPS, one field for each refusal.
pub record Kept (ed : Edition) (file : List ℕ) : Type 0 where
  -- 1: the length is a positive multiple of 512
  pub length_positive : 1 ≤ length file
  pub length_whole : length file % 512 ≡ 0
  -- 2: every block's check is right
  pub checks : (b : ℕ) → b < blocks_in file → RightCheck file b
  -- 3: every sheet word keeps its rule
  pub rules : (i : ℕ) → i < sheet_length ed → KeepsRule ed (stream_of file) i
  -- 4: the number of blocks is the one due
  pub blocks : blocks_in file ≡ block_count (due_of ed (sheet_in ed file))
  -- 5: every word of every part is below its limit
  pub range : (x : Part) → PartDue (sheet_in ed file) x → (j : ℕ) → j < part_length (sheet_in ed file) x → part_word ed (sheet_in ed file) (stream_of file) x j < part_limit (sheet_in ed file) x
  -- 6: every fill word is 0
  pub fill : (n : ℕ) → due_of ed (sheet_in ed file) ≤ n → n < 127 * blocks_in file → get_or (stream_of file) n 0 ≡ 0
  -- 7: every out coin of every round i + 1 is different from every point of domain i + 1
  pub outside : (i : ℕ) → i < rounds_of (sheet_in ed file) → (j : ℕ) → j < out_coin_count (sheet_in ed file) → (m : ℕ) → m < (level_of (sheet_in ed file) (suc i)).size →
      part_element ed (sheet_in ed file) (stream_of file) (outs i) j ≡ point (sheet_field (sheet_in ed file)) (sheet_root (sheet_in ed file)) (level_of (sheet_in ed file) (suc i)) m → ⊥
  -- 14: in no round two out coins are equal
  pub apart : (i : ℕ) → i < rounds_of (sheet_in ed file) → (a b : ℕ) → a < out_coin_count (sheet_in ed file) → b < out_coin_count (sheet_in ed file) →
      part_element ed (sheet_in ed file) (stream_of file) (outs i) a ≡ part_element ed (sheet_in ed file) (stream_of file) (outs i) b → a ≡ b
  -- 8: in every round any two pairs agree
  pub agree : (i : ℕ) → i < rounds_of (sheet_in ed file) → (a b : ℕ) → a < length (pairs_in ed (sheet_in ed file) (stream_of file) i) → b < length (pairs_in ed (sheet_in ed file) (stream_of file) i) → Agree ed (sheet_in ed file) (stream_of file) i a b
  -- 9: at every final index the final polynomial is the fold of f_M
  pub match : (j : ℕ) → j < part_length (sheet_in ed file) finals → Matches ed (sheet_in ed file) (stream_of file) j

-- THE FAULTS, each as what it is to be one at place q.
abbrev pub LengthFault : List ℕ → ℕ → Type 0
LengthFault file q = (q ≡ 0) × (((1 ≤ length file) × (length file % 512 ≡ 0)) → ⊥)

abbrev pub CheckFault : List ℕ → ℕ → Type 0
CheckFault file b = (b < blocks_in file) × (RightCheck file b → ⊥)

abbrev pub RuleFault : Edition → List ℕ → ℕ → Type 0
RuleFault ed w i = (i < sheet_length ed) × (KeepsRule ed w i → ⊥)

abbrev pub BlocksFault : Edition → List ℕ → ℕ → Type 0
BlocksFault ed file q = (q ≡ block_count (due_of ed (sheet_in ed file))) × (blocks_in file ≡ q → ⊥)

-- a word number q, of word j of a part
abbrev pub RangeFault : Edition → Sheet → List ℕ → ℕ → Type 0
RangeFault ed h w q = (x : Part) × PartDue h x × ((j : ℕ) × (j < part_length h x) × (q ≡ part_start ed h x + j) × (part_limit h x ≤ get_or w q 0))

abbrev pub FillFault : Edition → List ℕ → ℕ → Type 0
FillFault ed file q = (due_of ed (sheet_in ed file) ≤ q) × (q < 127 * blocks_in file) × (get_or (stream_of file) q 0 ≡ 0 → ⊥)

-- a word number q, of the first word of out coin j of round i + 1, which is point m of domain i + 1
abbrev pub DomainFault : Edition → Sheet → List ℕ → ℕ → Type 0
DomainFault ed h w q =
    (i : ℕ) × (i < rounds_of h) × ((j : ℕ) × (j < out_coin_count h) × (q ≡ part_start ed h (outs i) + words_for h j)
    × ((m : ℕ) × (m < (level_of h (suc i)).size) × (element_at h.spelling w q ≡ point (sheet_field h) (sheet_root h) (level_of h (suc i)) m)))

-- a word number q, of the first word of out coin j of round i + 1, which is equal to out coin a before it
abbrev pub EqualFault : Edition → Sheet → List ℕ → ℕ → Type 0
EqualFault ed h w q =
    (i : ℕ) × (i < rounds_of h) × ((j : ℕ) × (j < out_coin_count h) × (q ≡ part_start ed h (outs i) + words_for h j) × ((a : ℕ) × (a < j) × (element_at h.spelling w q ≡ part_element ed h w (outs i) a)))

-- a round i + 1, in which pairs a and b do not agree
abbrev pub ClashFault : Edition → Sheet → List ℕ → ℕ → Type 0
ClashFault ed h w q = (i : ℕ) × (i < rounds_of h) × (q ≡ suc i) × ((a : ℕ) × (b : ℕ) × (a < length (pairs_in ed h w i)) × (b < length (pairs_in ed h w i)) × (Agree ed h w i a b → ⊥))

abbrev pub FinalFault : Edition → Sheet → List ℕ → ℕ → Type 0
FinalFault ed h w j = (j < part_length h finals) × (Matches ed h w j → ⊥)

-- the turn of number n among the tests: 14 comes after 7 and before 8
abbrev pub number_turn : ℕ → ℕ
number_turn n = cond (eqb n 14) 8 (cond (ltb n 8) n (suc n))

-- a fault of number n at place q: one of these, in the order of their tests
abbrev pub NoFault : ℕ → Type 0
NoFault q = ⊥

abbrev pub faults_of : Edition → List ℕ → List (ℕ → Type 0)
faults_of ed file =
    NoFault ∷ LengthFault file ∷ CheckFault file ∷ RuleFault ed (stream_of file) ∷ BlocksFault ed file ∷ RangeFault ed (sheet_in ed file) (stream_of file) ∷ FillFault ed file
    ∷ DomainFault ed (sheet_in ed file) (stream_of file) ∷ EqualFault ed (sheet_in ed file) (stream_of file) ∷ ClashFault ed (sheet_in ed file) (stream_of file)
    ∷ FinalFault ed (sheet_in ed file) (stream_of file) ∷ []

abbrev pub Fault : Edition → List ℕ → ℕ → (ℕ → Type 0)
Fault ed file n = get_or (faults_of ed file) (number_turn n) NoFault

-- the turn of place q among those of number n: the sheet's words have theirs, all other places go up
unfoldable pub turn_of : Edition → ℕ → ℕ → ℕ
turn_of ed n q = cond (eqb n 3) (word_turn ed q) q

-- it is the first: no number at an earlier turn has one, and its number none at an earlier turn
pub record FirstFault (ed : Edition) (file : List ℕ) (n q : ℕ) : Type 0 where
  pub there : Fault ed file n q
  pub place_first : (r : ℕ) → turn_of ed n r < turn_of ed n q → Fault ed file n r → ⊥
  pub number_first : (m r : ℕ) → number_turn m < number_turn n → Fault ed file m r → ⊥

-- WHAT DECIDING USES. It comes to the shift coins of round i + 1 where there is no fault 7 or 14 and no round before clashes, and to final coin j where no round clashes
-- and no final coin before fails.
abbrev pub OutsPass : Edition → Sheet → List ℕ → Type 0
OutsPass ed h w = ((q : ℕ) → DomainFault ed h w q → ⊥) × ((q : ℕ) → EqualFault ed h w q → ⊥)

abbrev pub ShiftsTreated : Edition → Sheet → List ℕ → ℕ → Type 0
ShiftsTreated ed h w i = OutsPass ed h w × ((q : ℕ) → q < suc i → ClashFault ed h w q → ⊥)

abbrev pub FinalTreated : Edition → Sheet → List ℕ → ℕ → Type 0
FinalTreated ed h w j = OutsPass ed h w × ((q : ℕ) → ClashFault ed h w q → ⊥) × ((r : ℕ) → r < j → FinalFault ed h w r → ⊥)

-- point y of table i is used: it is root m, for some m below k_i, of a coin that is treated
pub data Used (ed : Edition) (h : Sheet) (w : List ℕ) : ℕ → ℕ → Type 0 where
  by_shift : (i j m : ℕ) → i < rounds_of h → j < part_length h (shifts i) → m < (level_of h i).fold → ShiftsTreated ed h w i →
      Used ed h w i (part_word ed h w (shifts i) j + m * shift_count (level_of h i))
  by_final : (j m : ℕ) → j < part_length h finals → m < (level_of h (rounds_of h)).fold → FinalTreated ed h w j →
      Used ed h w (rounds_of h) (part_word ed h w finals j + m * shift_count (level_of h (rounds_of h)))

-- two streams, the first with sheet h, have the same words outside the tables, and the same table entries at every place that deciding uses in the first
abbrev pub SameOutside : Edition → Sheet → List ℕ → List ℕ → Type 0
SameOutside ed h v w = (n : ℕ) → ((i j : ℕ) → i ≤ rounds_of h → j < length_of h (table i) → n ≡ start_of ed h (table i) + j → ⊥) → get_or v n 0 ≡ get_or w n 0

abbrev pub SameWhereUsed : Edition → Sheet → List ℕ → List ℕ → Type 0
SameWhereUsed ed h v w = (i y : ℕ) → Used ed h v i y → part_element ed h v (words (table i)) y ≡ part_element ed h w (words (table i)) y

-- the reads of the shift indices of the first m rounds, k_i for each different index of round i + 1; and the reads that go with an outcome: those of the rounds up to the
-- clash for 8; for 9 those of all rounds, and k_M for each different final index up to and with the failing one; and for accepted those of all indices
unfoldable pub reads_before : Edition → Sheet → List ℕ → ℕ → ℕ
reads_before ed h w m = total (map (λ i. level_reads h i (part_words ed h w (shifts i))) (range 0 m))

unfoldable pub reads_with : Edition → Sheet → List ℕ → Outcome → ℕ
reads_with ed h w accepted = reads_before ed h w (rounds_of h) + level_reads h (rounds_of h) (part_words ed h w finals)
reads_with ed h w (refused n q) =
    cond (eqb n 8) (reads_before ed h w q) (cond (eqb n 9) (reads_before ed h w (rounds_of h) + level_reads h (rounds_of h) (take (suc q) (part_words ed h w finals))) 0)

-- THE OUTCOME OF A CONVERTED FILE is that of the original, but for the word number of a 7 or a 14, which is six higher in edition 2.
unfoldable pub six_higher : Outcome → Outcome
six_higher accepted = accepted
six_higher (refused n q) = refused n (cond (eqb n 7 || eqb n 14) (6 + q) q)

-- THE ANSWERS THAT EXIST, with the range of each place. Verify refuses with one of these,
pub data VerifyRefusal (ed : Edition) (file : List ℕ) : ℕ → ℕ → Type 0 where
  length_wrong : VerifyRefusal ed file 1 0
  check_wrong : (b : ℕ) → b < blocks_in file → VerifyRefusal ed file 2 b
  rule_broken : (i : ℕ) → i < sheet_length ed → VerifyRefusal ed file 3 i
  blocks_differ : VerifyRefusal ed file 4 (block_count (due_of ed (sheet_in ed file)))
  word_over : (q : ℕ) → sheet_length ed ≤ q → q < due_of ed (sheet_in ed file) → VerifyRefusal ed file 5 q
  fill_set : (q : ℕ) → due_of ed (sheet_in ed file) ≤ q → q < 127 * blocks_in file → VerifyRefusal ed file 6 q
  coin_inside : (q : ℕ) → sheet_length ed ≤ q → q < due_of ed (sheet_in ed file) → VerifyRefusal ed file 7 q
  coin_equal : (q : ℕ) → sheet_length ed ≤ q → q < due_of ed (sheet_in ed file) → VerifyRefusal ed file 14 q
  pairs_clash : (i : ℕ) → 1 ≤ i → i ≤ rounds_of (sheet_in ed file) → VerifyRefusal ed file 8 i
  final_differs : (j : ℕ) → j < part_length (sheet_in ed file) finals → VerifyRefusal ed file 9 j

-- prove with one of these,
pub data ProveRefusal (ed : Edition) (w f coins : List ℕ) : ℕ → ℕ → Type 0 where
  sheet_length_case : ProveRefusal ed w f coins 10 0
  rule_broken : (i : ℕ) → i < sheet_length ed → ProveRefusal ed w f coins 3 i
  coefficient_count : ProveRefusal ed w f coins 10 1
  coin_count : ProveRefusal ed w f coins 10 2
  word_over : (q : ℕ) → q < length f + length coins → ProveRefusal ed w f coins 5 q
  coin_inside : (q : ℕ) → q < length coins → ProveRefusal ed w f coins 7 q
  coin_equal : (q : ℕ) → q < length coins → ProveRefusal ed w f coins 14 q
  output_short : ProveRefusal ed w f coins 11 (block_count (words_due ed (sheet_of ed w)))

-- and encode, whose sheets are of edition 1, with one of these.
pub data EncodeRefusal (w f : List ℕ) : ℕ → ℕ → Type 0 where
  sheet_length_case : EncodeRefusal w f 10 0
  rule_broken : (i : ℕ) → i < 12 → EncodeRefusal w f 3 i
  coefficient_count : EncodeRefusal w f 10 1
  word_over : (q : ℕ) → q < length f → EncodeRefusal w f 5 q
  output_short : EncodeRefusal w f 11 (words_for (sheet_of edition1 w) (get_or w 1 0))

-- what encode asks of its input: 12 words that keep their rules, and the words of d0 elements
pub record Encodable (w f : List ℕ) : Type 0 where
  pub words : length w ≡ 12
  pub rules : (i : ℕ) → i < 12 → KeepsRule edition1 w i
  pub count : length f ≡ words_for (sheet_of edition1 w) (get_or w 2 0)
  pub range : (j : ℕ) → j < length f → get_or f j 0 < (sheet_of edition1 w).prime
