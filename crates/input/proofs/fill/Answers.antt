-- What one more read gave follows what had been filled.
use Rattle.std.proofs.Common.{◌≡◌, ℕ, ◌+◌, ◌-◌, ◌≤◌, List, ◌++◌, rules, length, take, sym, ap, ◌∙◌, subst, length-take-le}
use Rattle.std.proofs.KnownBytes.{Consumes-trans}
use Rattle.std.proofs.Math.Seq.{take-append-add, take-append-le}
use Rattle.std.specs.Io.KnownBytes.{Consumes}
use borrow.Rule.Slice.PartMut.{put_mid, post_of}
use Rattle.input.proofs.fill.Goals as goal

take-put_mid_past : (a k n : ℕ) (xs ys : List ℕ) → a ≤ length xs → n ≤ length ys → take a xs ++ take n ys ≡ take (a + n) (put_mid a k xs ys)
take-put_mid_past a k n xs ys within fits =
    let front : length (take a xs) ≡ a = length-take-le a xs within in
    let rest = post_of a k xs in
    ap (λ l. take a xs ++ l) (sym (take-append-le n ys rest fits)) ∙ sym (take-append-add (take a xs) (ys ++ rest) n)
    ∙ ap (λ m. take (m + n) (put_mid a k xs ys)) front

pub loop-n-preserved : goal.loop-n-preserved
loop-n-preserved g c =
    let from = c.loop-n.n in
    let within = c.loop-n.invariant.1 in
    let joined = take-put_mid_past from (length c.loop-n.buffer - from) c.in_ok-more.more c.loop-n.buffer c.read.new.buf within c.in_ok-more.ensures.bound.0 in
    (search rules, search rules, subst (Consumes _ _) joined (Consumes-trans _ _ _ _ _ c.loop-n.invariant.2 c.in_ok-more.ensures.bytes.0))
