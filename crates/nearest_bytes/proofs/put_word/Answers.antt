use Prim.Native.Nat.{ℕ, ◌+◌, ◌/◌}
use native.Mathlib.Omega.{arith}
use borrow.Rule.Slice.PartMut.{put_mid}
use mathlib.Core.List.{List, ◌++◌, append_assoc}
use mathlib.Core.Path.{◌≡◌, sym, ap, ap₂, ◌∙◌, refl}
use lib.ListN.{length, take, drop}
use lib.Seq.{drop-drop}
use Rattle.std.specs.Int.{to_le_bytes, w32}
use Rattle.definition.specs.Block.{bytes_of, low_bytes}
use Rattle.list_laws.specs.Overwriting.{overwrite}
use Rattle.nearest_bytes.proofs.put_word.Goals as goal

le_bytes_are : (v : ℕ) → to_le_bytes w32 v ≡ bytes_of v
unfolding bytes_of low_bytes
le_bytes_are v =
    let f2 : v / 65536 ≡ v / 256 / 256 = omega arith in
    let f3 : v / 16777216 ≡ v / 256 / 256 / 256 = omega arith in
    rw (f2, f3) refl

four_bytes : (v : ℕ) → length (bytes_of v) ≡ 4
unfolding bytes_of low_bytes
four_bytes v = refl

part_written : (l q ys : List ℕ) (at k : ℕ) → ys ≡ q → k ≡ length q → put_mid at k l ys ≡ overwrite l at q
unfolding overwrite
part_written l q ys at k e n =
    ap₂ (λ (y : List ℕ) (m : ℕ). take at l ++ (y ++ drop m (drop at l))) e n
    ∙ ap (λ (z : List ℕ). take at l ++ (q ++ z)) (drop-drop (length q) at l) ∙ sym (append_assoc (take at l) q (drop (at + length q) l))

pub returns : goal.returns
returns c =
    let a = c.args in
    part_written a.out.now (bytes_of a.w) c.copy_from_slice.new.self a.at _ (c.copy_from_slice.ensures.after ∙ c.to_le_bytes-bytes.ensures ∙ le_bytes_are a.w) (omega (arith, four_bytes a.w))
