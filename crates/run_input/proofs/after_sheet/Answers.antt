use Prim.Native.Nat.{ℕ}
use mathlib.Core.Option.{none}
use mathlib.Core.Path.{refl, ap, ◌∙◌}
use lib.ListN.{replicate}
use Rattle.definition.specs.Layout.{message}
use Rattle.definition.specs.Load.{draw_kinds}
use Rattle.definition.specs.Sheet.{edition1, sheet_of}
use Rattle.run_input.proofs.Inputs.{drawn_input}
use Rattle.run_input.proofs.after_sheet.Goals as goal

pub returns : goal.returns
unfolding sheet_of
returns c =
    let a = c.args in
    let h = sheet_of edition1 a.w.now in
    let f = c.coefficients-before_coins in
    let drawn = f.ensures h refl ∙ ap (λ (n : ℕ). draw_kinds h none (replicate n message) a.generator.v) c.requires.coefficients_len.0 in
    λ v e. drawn_input v e drawn c.coins-after_coins.ensures
