-- THE PAGE ON THE NEAREST POLYNOMIAL (02, CR 14). It holds theorems and nothing else; each proof is one citation. To read it: the definition (crate `nearest_definition`)
-- and the vocabulary WrongPoints.antt. Polynomials are of elements of the sheet's field, of one word or of four; tables and what is written are words.
use Rattle.std.specs.Prelude.{ℕ, ◌+◌, List, ◌∷◌, ◌++◌, ◌↔◌, ◌≡◌, length, get_or, drop}
use Rattle.definition.specs.Field.{Element, words_of}
use Rattle.nearest_definition.specs.Nearest.{nearest}
use Rattle.definition.specs.Prove.{done, refusal}
use Rattle.definition.specs.Sheet.{edition1, sheet_of}
use Rattle.layouts.specs.Levels.{words_for}
use Rattle.nearest_laws.proofs.NearestExactly
use Rattle.nearest_laws.specs.WrongPoints.{Near, NearestRefusal, Searchable}

module _ (w table output : List ℕ) where
  -- 1. REFUSED WITH 19 EXACTLY IF the order passes all other tests and NO polynomial of degree below d0 differs from the table in at most (n0 - d0)/2 points.
  pub refused_exactly : ((nearest w table output).answer ≡ refusal 19 0)
      ↔ (Searchable w table output × ((f : List (Element (sheet_of edition1 w).spelling)) (ns : List ℕ) → Near (sheet_of edition1 w) table f ns → ⊥))
  refused_exactly = NearestExactly.refused_exactly w table output

  -- 2. DONE ONLY WHERE there is one: its coefficients, the count and the numbers of all points where it differs, in rising order, are written, and nothing else.
  pub done_only : (n : ℕ) → (nearest w table output).answer ≡ done n →
      Searchable w table output × ((f : List (Element (sheet_of edition1 w).spelling)) × ((ns : List ℕ) × (Near (sheet_of edition1 w) table f ns
      × (nearest w table output ≡ record {
        answer = done (words_for (sheet_of edition1 w) (get_or w 2 0) + 1 + length ns);
        output = (words_of (sheet_of edition1 w).spelling f ++ length ns ∷ ns) ++ drop (words_for (sheet_of edition1 w) (get_or w 2 0) + 1 + length ns) output;
      }))))
  done_only = NearestExactly.done_only w table output

  module _ (ok : Searchable w table output) where
    -- 3. DONE WITH IT WHEREVER there is one, whichever it is.
    pub written : (f : List (Element (sheet_of edition1 w).spelling)) (ns : List ℕ) → Near (sheet_of edition1 w) table f ns → nearest w table output ≡ record {
      answer = done (words_for (sheet_of edition1 w) (get_or w 2 0) + 1 + length ns);
      output = (words_of (sheet_of edition1 w).spelling f ++ length ns ∷ ns) ++ drop (words_for (sheet_of edition1 w) (get_or w 2 0) + 1 + length ns) output;
    }
    written = NearestExactly.written w table output ok

    -- 4. THERE IS AT MOST ONE,
    pub at_most_one : (f g : List (Element (sheet_of edition1 w).spelling)) (ns ms : List ℕ) → Near (sheet_of edition1 w) table f ns → Near (sheet_of edition1 w) table g ms → f ≡ g
    at_most_one = NearestExactly.only w table output ok

  -- 5. A refusal leaves the output as it was.
  pub refused_same : (n q : ℕ) → (nearest w table output).answer ≡ refusal n q → (nearest w table output).output ≡ output
  refused_same = NearestExactly.refused_same w table output

  -- 6. A refusal is one of six, with its place in this range.
  pub nearest_refusals : (n q : ℕ) → (nearest w table output).answer ≡ refusal n q → NearestRefusal w table n q
  nearest_refusals = NearestExactly.refusals w table output
