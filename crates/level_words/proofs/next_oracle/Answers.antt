use mathlib.Core.Path.{◌∙◌}
use Rattle.level_words.proofs.Made.{next_way}
use Rattle.level_words.proofs.next_oracle.Goals as goal

pub returns : goal.returns
returns c = next_way _ c.args.state c.args.scale c.args.words (c.fold.ensures.0 ∙ c.requires.0.next)
