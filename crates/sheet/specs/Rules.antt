-- The rules of the sheet as the code meets them, in three parts: words 0 to 5, those past word 11, words 6 to 11. What it has when it comes to each part, and
-- what its answer says of refusal 3.
use Rattle.std.specs.Prelude.{ℕ, Bool, true, not, List, [], ◌∷◌, map, ◌≡◌}
use Rattle.std.proofs.Math.Option.{Option, none}
use Rattle.std.proofs.Common.{sym, ap}
use Rattle.definition.specs.Lists.{first_of, range}
use Rattle.definition.specs.Reading.{sheet_test}
use Rattle.definition.specs.Sheet.{Edition, degree_rule, edition1, edition2, field_rule, fold_rule, out_coins_rule, rounds_rule, sheet_rules, size_rule, test_order}
use Rattle.definition.specs.Verdict.{accepted, refuse_at}

-- the rules of words 0 to 5
abbrev pub front_rules : Edition → List ℕ → List Bool
front_rules ed w = field_rule w ∷ size_rule w ∷ degree_rule w ∷ fold_rule w ∷ rounds_rule ed w ∷ out_coins_rule w ∷ []

-- the words past word 11
unfoldable pub later_words : Edition → List ℕ
later_words edition1 = []
later_words edition2 = range 12 6

-- words 2 to 5 of w hold their rules
pub record Shape (ed : Edition) (w : List ℕ) : Type 0 where
  pub degree : degree_rule w ≡ true
  pub fold : fold_rule w ≡ true
  pub rounds : rounds_rule ed w ≡ true
  pub out_coins : out_coins_rule w ≡ true

-- The place of the first broken word is that of refusal 3.
pub refusal_of : (ed : Edition) (w : List ℕ) (place : Option ℕ) → place ≡ first_of (test_order ed) (map not (sheet_rules ed w)) → refuse_at 3 place ≡ sheet_test ed w
unfolding sheet_test
refusal_of ed w place e = ap (refuse_at 3) e

-- With no broken word the sheet passes.
pub none_broken : (ed : Edition) (w : List ℕ) → none ≡ first_of (test_order ed) (map not (sheet_rules ed w)) → sheet_test ed w ≡ accepted
unfolding refuse_at
none_broken ed w e = sym (refusal_of ed w none e)
