-- What the place of the first broken rule says of refusal 15. What batches that pass have, in plain numbers, is in BatchRules of the crate `batches`.
use Rattle.std.specs.Prelude.{ℕ, not, List, map, ◌≡◌}
use Rattle.std.proofs.Math.Option.{Option, none}
use Rattle.std.proofs.Math.Path.{sym, ap}
use Rattle.batch_definition.specs.Batch.{batch_rules, batch_test}
use Rattle.definition.specs.Lists.{first_true}
use Rattle.definition.specs.Sheet.{Sheet}
use Rattle.definition.specs.Verdict.{accepted, refuse_at}

module _ (h : Sheet) (count : ℕ) (bounds : List ℕ) where
  -- It is that of refusal 15.
  pub refusal_of : (place : Option ℕ) → place ≡ first_true 0 (map not (batch_rules h count bounds)) → refuse_at 15 place ≡ batch_test h count bounds
  unfolding batch_test
  refusal_of place e = ap (refuse_at 15) e

  -- With no broken rule the batch passes.
  pub none_broken : none ≡ first_true 0 (map not (batch_rules h count bounds)) → batch_test h count bounds ≡ accepted
  unfolding refuse_at
  none_broken e = sym (refusal_of none e)
