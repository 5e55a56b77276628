use native.Mathlib.Omega.{arith}
use mathlib.Core.Path.{sym, ap, refl, ◌∙◌}
use mathlib.Core.List.{List, flat_map}
use Prim.Native.Nat.{ℕ}
use lib.Seq.{take_all}
use Rattle.definition.specs.Block.{bytes_of}
use Rattle.list_laws.specs.Overwriting.{overwrite, overwrite_none}
use Rattle.tree.specs.NodeLaws.{bytes_next}
use Rattle.tree.proofs.put_words.Goals as goal

pub loop-i-init : goal.loop-i-init
unfolding flat_map
loop-i-init c = sym (overwrite_none c.args.out.now c.args.at)

pub loop-i-preserved : goal.loop-i-preserved
loop-i-preserved c =
    let l = c.loop-i in
    bytes_next c.args.out.now c.args.at c.args.words.now l.i (omega arith) (omega arith) refl l.invariant c.put_word.ensures

pub returns : goal.returns
returns c =
    let l = c.loop-i in
    l.invariant ∙ ap (λ (x : List ℕ). overwrite c.args.out.now c.args.at (flat_map bytes_of x)) (take_all l.i c.args.words.now (omega arith))
