use mathlib.Core.Path.{refl, ap, ◌∙◌}
use Rattle.std.specs.Prelude.{replicate}
use Rattle.hashing.specs.Sha256.{sha256}
use Rattle.hashing.specs.Tree.{node_of}
use Rattle.tree.specs.NodeLaws.{message_parts, parts_length}
use Rattle.tree.proofs.node.Goals as goal

pub slice_bounds-sha256-end : goal.slice_bounds-sha256-end
slice_bounds-sha256-end c =
    let a = c.args in
    parts_length (replicate 65 1) a.left.now a.right.now refl refl c.requires.0 c.requires.1 c.copy_from_slice.ensures.after c.copy_from_slice-2.ensures.after

pub returns : goal.returns
unfolding node_of
returns c =
    let a = c.args in
    c.sha256.ensures
    ∙ ap sha256 (message_parts (replicate 65 1) a.left.now a.right.now refl refl c.requires.0 c.requires.1 c.copy_from_slice.ensures.after c.copy_from_slice-2.ensures.after)
