-- What a program writes of the bytes that it reads.
use Rattle.std.specs.Prelude.{ℕ, List, Option, IfSome, take}
use Rattle.std.specs.Io.KnownBytes.{Appends}

-- where the bytes that can be read are known, what is known of a writer's grows by the text of the first `most` of them
abbrev pub Tells : ℕ → (List ℕ → List ℕ) → Option (List ℕ) → Option (List ℕ) → Option (List ℕ) → Type 0
Tells most text known old new = IfSome known (λ bytes. Appends old new (text (take most bytes)))
