-- How many bytes came of reading, and which.
use Rattle.std.specs.Prelude.{ℕ, ◌≡◌, ⊤, List, Option, IfSome, Result, Ok, Err, length, take}
use Rattle.std.specs.Io.KnownBytes.{Consumes}

abbrev pub count_of : {E : Type 0} → Result ℕ E → ℕ
count_of (Ok n) = n
count_of (Err e) = 0

-- where every read succeeded, the front of the buffer holds the bytes that the reader had left, as many as fit; it says nothing where they are not known
abbrev pub HoldsFront : {E : Type 0} → Option (List ℕ) → Result ℕ E → List ℕ → Type 0
HoldsFront known (Ok n) buffer = IfSome known (λ bytes. take n buffer ≡ take (length buffer) bytes)
HoldsFront known (Err e) buffer = ⊤

-- and no other bytes were read
abbrev pub ReadsFront : {E : Type 0} → Option (List ℕ) → Option (List ℕ) → Result ℕ E → List ℕ → Type 0
ReadsFront old new (Ok n) buffer = Consumes old new (take n buffer)
ReadsFront old new (Err e) buffer = ⊤
