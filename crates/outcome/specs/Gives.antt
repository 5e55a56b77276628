-- What an operation that writes answers and leaves.
use Rattle.std.specs.Prelude.{ℕ, List, ◌≡◌}
use Rattle.definition.specs.Prove.{Answer, Result}

-- an answer, and the output after it, are the definition's for the output before. Being a record it is of one result alone: that of another input is refused as
-- it stands, where for an equation antt would first unfold all that the definition is made of
pub record Gives (result : List ℕ → Result) (before : List ℕ) (a : Answer) (after : List ℕ) : Type 0 where
  pub answer : a ≡ (result before).answer
  pub output : after ≡ (result before).output

pub gives : {result : List ℕ → Result} {before after : List ℕ} {a : Answer} → (a ≡ (result before).answer) × (after ≡ (result before).output) → Gives result before a after
gives h = record { answer = h.0; output = h.1 }
