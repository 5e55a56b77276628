use Prim.Native.Nat.{ℕ}
use mathlib.Core.Path.{ap, ◌∙◌}
use mathlib.Core.List.{List, [], ◌∷◌, ◌++◌}
use native.Mathlib.Omega.{arith}
use Rattle.definition.specs.Line.{refusal_line}
use Rattle.line.proofs.of_refusal.Goals as goal

pub returns : goal.returns
unfolding refusal_line
returns c = record { bytes_value = c.put.ensures.text ∙ ap (λ (l : List ℕ). l ++ (10 ∷ [])) c.refusal.ensures.0.text; length_bound = omega arith }
