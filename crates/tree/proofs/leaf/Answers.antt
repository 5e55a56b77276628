use mathlib.Core.Path.{refl, ap, ◌∙◌}
use Rattle.hashing.specs.Sha256.{sha256}
use Rattle.hashing.specs.Tree.{leaf_of}
use Rattle.tree.specs.NodeLaws.{message_words}
use Rattle.tree.proofs.leaf.Goals as goal

pub returns : goal.returns
unfolding leaf_of
returns c = c.sha256.ensures ∙ ap sha256 (message_words _ c.args.entry.now refl c.put_words.ensures)
