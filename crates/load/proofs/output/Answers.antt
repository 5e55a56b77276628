use Prim.Native.Nat.{ℕ}
use mathlib.Core.List.{flat_map}
use mathlib.Core.Path.{ap, ◌∙◌}
use Rattle.definition.specs.Load.{load_lines, load_output}
use Rattle.load.proofs.output.Goals as goal

pub returns : goal.returns
unfolding load_output
returns c =
    let r = c.lines.ensures in record { out_after = r.out_after ∙ ap (λ (seed : ℕ). flat_map (λ line. line) (load_lines seed)) c.seed.ensures; upper_bound = r.upper_bound }
