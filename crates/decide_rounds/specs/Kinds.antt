-- The kinds of the words from a place on, and the out coins among those words.
use Rattle.std.specs.Prelude.{ℕ, drop}
use mathlib.Core.List.{List, zip_with}
use Rattle.std.proofs.Math.Option.{Option}
use Rattle.definition.specs.Deciding.{out_in_domain}
use Rattle.definition.specs.Field.{begun_by}
use Rattle.definition.specs.Layout.{Kind, rest_layout}
use Rattle.definition.specs.Lists.{first_true}
use Rattle.definition.specs.Sheet.{Sheet}
use Rattle.level_words.specs.declared.State.{State}
use Rattle.level_words.specs.State.{current_level, later_levels_at}

-- the kinds of the words from here on
abbrev pub kinds_of : Sheet → State → List Kind
kinds_of h st = rest_layout h.spelling h.out_coins (current_level h st) (later_levels_at h st)

-- the first out coin from here on that lies in its domain, by the number of its first word
unfoldable pub outs_from : Sheet → List ℕ → State → Option ℕ
outs_from h w st = first_true st.at (zip_with (out_in_domain h.spelling h) (kinds_of h st) (drop st.at (begun_by h.spelling w)))
