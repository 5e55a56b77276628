-- What is known at a place where deciding stands, and what its verdict says from there on.
use Rattle.std.specs.Prelude.{ℕ, suc, ◌/◌, ◌^◌, ◌≤◌, ◌<◌, ◌≡◌, List, length, get_or, drop}
use Rattle.std.proofs.Math.Option.{none}
use Rattle.list_laws.specs.All.{All}
use Rattle.layouts.specs.EachWord.{Front, InRange}
use Rattle.layouts.specs.LawfulSheets.{Lawful}
use Rattle.layouts.specs.Levels.{rounds_of, sheet_field, sheet_root}
use Rattle.definition.specs.Deciding.{Place, counted, decide_rest, own_place, reads_of}
use Rattle.definition.specs.Field.{Element, elements_in}
use Rattle.definition.specs.Sheet.{Sheet}
use Rattle.definition.specs.Verdict.{Verdict}
use Rattle.fractions.specs.declared.Oracle.{Oracle}
use Rattle.fractions.specs.Values.{Clear}
use Rattle.rounds.specs.RoundLaws.{RepresentsOver}
use Rattle.level_words.specs.declared.State.{State}
use Rattle.level_words.specs.State.{current_fold, current_level, current_table, rest_of}
use Rattle.round_words.specs.Handed.{TableInside, sheet_points}
use Rattle.decide_rounds.specs.Kinds.{kinds_of, outs_from}

-- a folding number: a power of two from 2 to 16
pub record Folding (k : ℕ) : Type 0 where
  pub log : ℕ
  pub two : k ≡ 2 ^ suc log
  pub large : 2 ≤ k
  pub small : k ≤ 16

-- a sheet without a fault, and what is left to say of its numbers
pub record Shaped (h : Sheet) : Type 0 where
  pub law : Lawful h
  pub rounds : rounds_of h ≤ 5
  pub folds : (i : ℕ) → i ≤ rounds_of h → Folding (get_or h.folds i 0)

-- At a place: the level is one of the sheet's, of at most 4,096 points; and the words still to come are there, each in range.
pub record Placed (h : Sheet) (w : List ℕ) (st : State) : Type 0 where
  pub sheet : Shaped h
  pub level : st.level ≤ rounds_of h
  pub here : st.at ≤ length w
  pub words : Front (InRange h) (kinds_of h st) (drop st.at w)
  pub points : st.size ≤ 4096

-- At a place with a way to work out the level's function: what the code needs for that, and the sizes, which go down by powers of two. The numbers are those of
-- points, and of the words for A, and for V and the geometric sum.
pub record Invariant (h : Sheet) (w : List ℕ) (points answers factors : ℕ) (st : State) (oracle : Oracle) : Type 0 where
  pub place : Placed h w st
  pub size : st.size ≡ h.size / 2 ^ st.level
  pub scale : oracle.scale ≡ 2 ^ st.level
  pub inside : TableInside h w points answers factors st oracle

-- The words in hand are those of the function f at the level, in the sheet's field.
abbrev pub RepresentsIn : (h : Sheet) → Element h.spelling → (ℕ → Element h.spelling) → List ℕ → List ℕ → List ℕ → List ℕ → State → Oracle → Type 0
RepresentsIn h ω f w pw ac vg st oracle =
    RepresentsOver (sheet_field h) ω (current_level h st) f (sheet_points h pw) (elements_in h.spelling (current_table h w st)) (elements_in h.spelling ac) (elements_in h.spelling vg)
    oracle (current_fold h st)

-- The words in hand are those of some function at the level, for the sheet's field and its ω. At no point of the level's domain is V 0, and no out coin still to
-- come lies in its domain, so that nothing is divided by 0.
pub record Represented (h : Sheet) (w pw ac vg : List ℕ) (st : State) (oracle : Oracle) : Type 0 where
  pub f : ℕ → Element h.spelling
  pub represents : RepresentsIn h (sheet_root h) f w pw ac vg st oracle
  pub clear : Clear (get_or w 0 0) pw st.size vg oracle
  pub outside : outs_from h w st ≡ none

-- v is the definition's verdict from the place on with fold coin r, for every ω and function that the words in hand are those of, and all places in tables of
-- levels before with as many reads
abbrev pub Decided : (h : Sheet) → List ℕ → List ℕ → List ℕ → List ℕ → State → ℕ → Element h.spelling → Oracle → Verdict → Type 0
Decided h w pw ac vg st reads r oracle v =
    (ω : Element h.spelling) (f : ℕ → Element h.spelling) (used : List Place) → RepresentsIn h ω f w pw ac vg st oracle →
    reads ≡ reads_of used → All (λ p. p.table < st.level) used →
    v ≡ counted (decide_rest (sheet_field h) ω (current_level h st) (record { value = f; places = own_place (current_level h st) }) r used (rest_of h w st))
