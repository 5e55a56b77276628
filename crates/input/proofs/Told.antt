-- A text that was made of the front of a buffer, and was written, is that of the bytes that could be read.
use Rattle.std.specs.Prelude.{ℕ, ◌≡◌, List, true, Option, None, Some, Result, Ok, Err, OnOk, IfSome, is_ok, length, take}
use Rattle.std.proofs.Common.{ap, ◌∙◌, subst}
use Rattle.std.specs.Io.KnownBytes.{Appends}
use Rattle.input.specs.Told.{Tells}

pub on_ok : {T E P : Type 0} → (r : Result T E) → is_ok r ≡ true → OnOk r P → P
on_ok (Ok x) e p = p
on_ok (Err x) e p = absurd (cc)

pub told : (most : ℕ) (text : List ℕ → List ℕ) (known old new : Option (List ℕ)) (n : ℕ) (buffer written : List ℕ) → length buffer ≡ most →
    IfSome known (λ bytes. take n buffer ≡ take (length buffer) bytes) → written ≡ text (take n buffer) → Appends old new written → Tells most text known old new
told most text None old new n buffer written long front e appended = tt
told most text (Some bytes) old new n buffer written long front e appended =
    let same : written ≡ text (take most bytes) = e ∙ ap text (front ∙ ap (λ m. take m bytes) long) in
    subst (Appends old new) same appended
