use Prim.Native.Nat.{ℕ, ◌+◌, ◌-◌, ◌/◌}
use native.Mathlib.Omega.{arith}
use mathlib.Core.Path.{◌≡◌, sym, ap, ◌∙◌}
use mathlib.Core.List.{List, ◌++◌, append_assoc}
use lib.ListN.{take, drop}
use lib.Seq.{drop-drop}
use Rattle.std.specs.Int.{w32, to_le_bytes}
use Rattle.definition.specs.Block.{bytes_of, low_bytes}
use Rattle.list_laws.specs.Overwriting.{overwrite}
use Rattle.stream.proofs.put_word.Goals as goal

-- the bytes of a word that is w are the definition's
bytes_le : {v w : ℕ} → v ≡ w → to_le_bytes w32 v ≡ bytes_of w
unfolding bytes_of low_bytes
bytes_le {v} {w} same =
    let f2 : w / 65536 ≡ w / 256 / 256 = omega arith in
    let f3 : w / 16777216 ≡ w / 256 / 256 / 256 = omega arith in
    rw (same, f2, f3)

-- four bytes in their places
word_put : (l : List ℕ) (at w : ℕ) → take at l ++ (bytes_of w ++ drop 4 (drop at l)) ≡ overwrite l at (bytes_of w)
unfolding overwrite bytes_of low_bytes
word_put l at w = ap (λ (t : List ℕ). take at l ++ (bytes_of w ++ t)) (drop-drop 4 at l) ∙ sym (append_assoc (take at l) (bytes_of w) (drop (at + 4) l))

pub returns : goal.returns
returns c =
    let a = c.args in
    let k : a.at + 4 - a.at ≡ 4 = omega arith in
    let e : c.copy_from_slice.new.self ≡ bytes_of a.w = c.copy_from_slice.ensures.after ∙ c.to_le_bytes.ensures ∙ bytes_le {w = a.w} (omega arith) in
    rw (k, e) (word_put a.out.now a.at a.w)
