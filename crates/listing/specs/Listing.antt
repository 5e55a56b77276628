-- What the programs `domains` and `domains2` print: whether a sheet of their edition keeps its rules and, where it does, its evaluation domains, level by level.
-- Texts are in ASCII.
use Rattle.std.specs.Prelude.{ℕ}
use mathlib.Core.List.{List, [], ◌∷◌, ◌++◌, flat_map}
use Rattle.definition.specs.Domain.{domain}
use Rattle.definition.specs.Field.{prime_field}
use Rattle.definition.specs.Line.{decimal, refusal_line}
use Rattle.definition.specs.Prove.{sheet_length_test}
use Rattle.definition.specs.Reading.{sheet_test}
use Rattle.definition.specs.Sheet.{Edition, Level, Sheet, first_level, later_levels, root_of_unity, sheet_of}
use Rattle.definition.specs.Verdict.{Outcome, accepted, refused, ◌then◌}
use Rattle.word_input.specs.Input.{taken, whole_words_test, words_of}

-- what stands before the points of a line: `domain `, a number and a colon
abbrev pub head_text : ℕ → List ℕ
head_text i = (100 ∷ 111 ∷ 109 ∷ 97 ∷ 105 ∷ 110 ∷ 32 ∷ []) ++ (decimal i ++ (58 ∷ []))

-- a point: a blank and a number
abbrev pub point_text : ℕ → List ℕ
point_text x = 32 ∷ decimal x

-- a line: its number, its points and a line end
unfoldable pub points_line : ℕ → List ℕ → List ℕ
points_line i xs = head_text i ++ (flat_map point_text xs ++ (10 ∷ []))

-- the line of a level's domain
unfoldable pub domain_line : Sheet → Level → List ℕ
domain_line h l = points_line l.number (domain (prime_field h.prime) (root_of_unity h) l)

-- `keeps its rules` and a line end
abbrev pub kept_text : List ℕ
kept_text = 107 ∷ 101 ∷ 101 ∷ 112 ∷ 115 ∷ 32 ∷ 105 ∷ 116 ∷ 115 ∷ 32 ∷ 114 ∷ 117 ∷ 108 ∷ 101 ∷ 115 ∷ 10 ∷ []

-- that line, and those of the domains of levels 0 to M
unfoldable pub domains_text : Sheet → List ℕ
domains_text h = kept_text ++ flat_map (domain_line h) (first_level h ∷ later_levels h)

-- a text, where the tests are passed; else the refusal's line
unfoldable pub text_after : Outcome → List ℕ → List ℕ
text_after accepted text = text
text_after (refused number place) text = refusal_line number place

-- of a sheet of an edition, given as its words
unfoldable pub sheet_listing : Edition → List ℕ → List ℕ
sheet_listing e w = text_after (sheet_length_test e w then sheet_test e w) (domains_text (sheet_of e w))

-- of the bytes that the edition's program reads: all their words are the sheet
unfoldable pub listing : Edition → List ℕ → List ℕ
listing e bytes = text_after (whole_words_test (taken bytes)) (sheet_listing e (words_of (taken bytes)))
