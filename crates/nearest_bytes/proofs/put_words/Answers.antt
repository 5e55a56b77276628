use Prim.Native.Nat.{ℕ, ◌+◌, ◌*◌, ◌-◌}
use native.Mathlib.Omega.{arith}
use mathlib.Core.List.{List, flat_map}
use mathlib.Core.Path.{◌≡◌, refl, sym, ap, ◌∙◌}
use lib.ListN.{get_or, length, take}
use lib.Seq.{take_all}
use Rattle.definition.specs.Block.{bytes_of}
use Rattle.layouts.specs.FileTrip.{bytes_length}
use Rattle.list_laws.specs.Overwriting.{overwrite, overwrite_front, overwrite_none}
use Rattle.stream.specs.WrittenBlocks.{bytes_next}
use Rattle.nearest_bytes.proofs.put_words.Goals as goal

pub loop-i-init : goal.loop-i-init
unfolding flat_map
loop-i-init c = (refl, sym (overwrite_none c.args.output.now 0))

pub loop-i-preserved : goal.loop-i-preserved
loop-i-preserved c =
    let l = c.loop-i in
    let a = c.args in
    let p = c.put_word in
    let here : 0 + 4 * l.i ≡ 4 * l.i = omega arith in (
      p.auto.out ∙ l.invariant.0,
      bytes_next a.output.now 0 a.words.now l.i (omega arith) (omega arith) refl l.invariant.1 (p.ensures ∙ ap (λ (n : ℕ). overwrite l.output n (bytes_of (get_or a.words.now l.i 0))) (sym here)),
    )

pub returns : goal.returns
returns c =
    let l = c.loop-i in
    let a = c.args in
    let w = a.words.now in
    let bytes = flat_map bytes_of w in
    let whole : l.output ≡ overwrite a.output.now 0 bytes = l.invariant.1 ∙ ap (λ (x : List ℕ). overwrite a.output.now 0 (flat_map bytes_of x)) (take_all l.i w (omega arith)) in
    let long : 4 * length w ≡ 0 + length bytes = omega (arith, bytes_length w) in record { output_after = (λ t. take (long t) (whole t)) ∙ overwrite_front a.output.now 0 bytes (omega arith); value = refl }
