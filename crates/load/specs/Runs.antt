-- The bytes of several runs' lines.
use Rattle.std.specs.Prelude.{ℕ}
use mathlib.Core.List.{List, map, flat_map}
use Rattle.definition.specs.Line.{line_of}
use Rattle.definition.specs.Load.{drawn_inputs, verdict_on}

unfoldable pub lines_from : ℕ → ℕ → List ℕ
lines_from runs v = flat_map (λ line. line) (map (λ o. line_of (verdict_on o)) (drawn_inputs runs v))
