-- THE PAGE ON THE SHEET. It holds theorems and nothing else; each proof is one citation, or two where it goes both ways, and no proof need be read.
-- To read it: the definition (crate `definition`), and the vocabulary WordRules.antt, the rule of each sheet word in plain numbers, with Levels.antt and PlainRules.antt of
-- the crate `layouts` and Numbered.antt and Faults.antt of the crate `completeness` beneath it. The domains have their own page, DomainStatements.antt.
-- All theorems are of both editions and of the four fields, of one word and of four, and of every list of words, of any length and content.
use Rattle.std.specs.Prelude.{ℕ, ◌%◌, ◌≤◌, ◌<◌, List, [], ◌∷◌, ◌++◌, map, ◌↔◌, ◌≡◌, length, replicate, take}
use Rattle.definition.specs.Block.{stream_of}
use Rattle.definition.specs.Lists.{range}
use Rattle.definition.specs.Prove.{encode, prove_in, refusal}
use Rattle.definition.specs.Reading.{sheet_test}
use Rattle.definition.specs.Sheet.{Edition, edition1, edition2, sheet_length}
use Rattle.definition.specs.Verdict.{accepted, refused}
use Rattle.definition.specs.Verify.{verify_in}
use Rattle.layouts.specs.PlainRules.{KeepsRule, word_turn}
use Rattle.completeness.specs.Faults.{RightCheck, blocks_in}
use Rattle.sheet_laws.proofs.EachRule
use Rattle.sheet_laws.proofs.Refusal3
use Rattle.sheet_laws.proofs.SheetExactly
use Rattle.sheet_laws.specs.WordRules.{FirstBroken, PlainRule}

-- 1. THE SHEET, WORD BY WORD (document 01: "sheet broken", 3, at the "first sheet word that breaks its rule, given those before").
-- Where the words before it, in the order of the tests, keep their rules, a word keeps its own exactly when the plain rule of that word holds.
pub rule_of_word : (ed : Edition) (w : List ℕ) (i : ℕ) → i < sheet_length ed → ((j : ℕ) → j < sheet_length ed → word_turn ed j < word_turn ed i → PlainRule ed w j) →
    KeepsRule ed w i ↔ PlainRule ed w i
rule_of_word = EachRule.rule_exactly

-- The sheet is refused with 3 at word p exactly when word p breaks its rule and all words before it keep theirs;
pub sheet_refused_exactly : (ed : Edition) (w : List ℕ) (p : ℕ) → (sheet_test ed w ≡ refused 3 p) ↔ FirstBroken ed w p
sheet_refused_exactly = SheetExactly.refused_exactly

-- it passes exactly when every word keeps its rule,
pub sheet_accepted_exactly : (ed : Edition) (w : List ℕ) → (sheet_test ed w ≡ accepted) ↔ ((i : ℕ) → i < sheet_length ed → PlainRule ed w i)
sheet_accepted_exactly = SheetExactly.accepted_exactly

-- and is refused with no other number.
pub sheet_number : (ed : Edition) (w : List ℕ) (n p : ℕ) → sheet_test ed w ≡ refused n p → n ≡ 3
sheet_number = SheetExactly.number_three

-- Before word p in edition 1 are the words of lower numbers; in edition 2 the order is 0 to 5, 12 to 17, 6 to 11 (document 02, CR 5).
pub order_of_edition_1 : (i : ℕ) → word_turn edition1 i ≡ i
order_of_edition_1 = SheetExactly.order_1

pub order_of_edition_2 : map (word_turn edition2) (0 ∷ 1 ∷ 2 ∷ 3 ∷ 4 ∷ 5 ∷ 12 ∷ 13 ∷ 14 ∷ 15 ∷ 16 ∷ 17 ∷ 6 ∷ 7 ∷ 8 ∷ 9 ∷ 10 ∷ 11 ∷ []) ≡ range 0 18
order_of_edition_2 = SheetExactly.order_2

-- A list that is too short is tested as if zeros followed it, and of one that is too long the sheet's words alone.
pub missing_words_zero : (ed : Edition) (w : List ℕ) (n : ℕ) → sheet_test ed (w ++ replicate n 0) ≡ sheet_test ed w
missing_words_zero = SheetExactly.missing_words

pub later_words_untested : (ed : Edition) (w : List ℕ) → sheet_test ed (take (sheet_length ed) w) ≡ sheet_test ed w
later_words_untested = SheetExactly.later_words_lem

-- So verify refuses a file with 3 at place p exactly when its length and every block's check are right and word p of its stream is the first that breaks its rule;
pub verify_refuses_3 : (ed : Edition) (file : List ℕ) (p : ℕ) → ((verify_in ed file).outcome ≡ refused 3 p)
    ↔ ((1 ≤ length file) × (length file % 512 ≡ 0) × ((b : ℕ) → b < blocks_in file → RightCheck file b) × FirstBroken ed (stream_of file) p)
verify_refuses_3 ed file p = (λ e. let k = Refusal3.first_broken ed file p e in (k.0, k.1, k.2, k.3), λ h. Refusal3.broken_first ed file p h.0 h.1 h.2 h.3)

-- prove and encode (document 01: "3: as above") exactly when the sheet has its number of words and word p is the first that breaks its rule.
pub prove_refuses_3 : (ed : Edition) (w f coins output : List ℕ) (p : ℕ) → ((prove_in ed w f coins output).answer ≡ refusal 3 p) ↔ ((length w ≡ sheet_length ed) × FirstBroken ed w p)
prove_refuses_3 = Refusal3.prove_refuses

pub encode_refuses_3 : (w f output : List ℕ) (p : ℕ) → ((encode w f output).answer ≡ refusal 3 p) ↔ ((length w ≡ 12) × FirstBroken edition1 w p)
encode_refuses_3 = Refusal3.encode_refuses
