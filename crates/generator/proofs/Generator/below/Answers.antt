use Prim.Native.Nat.{ℕ, ◌%◌}
use mathlib.Core.Path.{ap}
use Rattle.definition.specs.Load.{Drawn, draw_below}
use Rattle.generator.proofs.Generator.below.Goals as goal

pub returns : goal.returns
unfolding draw_below
returns c =
    let limit = c.args.limit in
    ap {B = Drawn ℕ} (λ (x : ℕ). record { value = x % limit; next = x }) c.step-next.ensures
