use Prim.Native.Nat.{ℕ, ◌-◌}
use native.Mathlib.Omega.{arith}
use mathlib.Core.List.{List}
use mathlib.Core.Option.{Option, none}
use mathlib.Core.Path.{◌≡◌, refl, sym, ap, subst, ◌∙◌}
use lib.ListN.{length, take, replicate, length-set}
use lib.Seq.{length-take-le, take_all}
use Rattle.definition.specs.Layout.{out as out_of}
use Rattle.definition.specs.Load.{Drawn, draw_kind, draw_kinds}
use Rattle.definition.specs.Sheet.{edition1, sheet_of}
use Rattle.layouts.specs.Levels.{level_of}
use Rattle.draws.specs.AtLevel.{bounded, suits}
use Rattle.draws.proofs.KindsDrawn.{after_more, drawn_more, out_after}
use Rattle.draws.specs.OutCoin.{StandsFor}
use Rattle.draws.proofs.out_coins.Goals as goal

pub bounds-w-0 : goal.bounds-w-0
bounds-w-0 c = omega (arith, c.requires.0.long)

pub loop-x-init : goal.loop-x-init
unfolding draw_kinds out_after sheet_of
loop-x-init c = (refl, c.modulus-before.ensures)

pub out_coin-d-requires : goal.out_coin-d-requires
out_coin-d-requires c = (bounded c.requires.0).some

pub loop-x-preserved : goal.loop-x-preserved
unfolding draw_kind
loop-x-preserved c =
    let a = c.args in
    let h = sheet_of edition1 a.w.now in
    let b = level_of (sheet_of edition1 a.w.now) a.level in
    let l = c.loop-x in
    let d = c.out_coin-d in
    let before = out_after none (replicate l.x-index (out_of b)) (take l.x-index l.out) in (
      drawn_more h (out_of b) l.x-index a.generator.v l.out (omega arith) l.invariant.0 refl (d.ensures h before b (suits c.requires.0 c.requires.1 before l.invariant.1)),
      subst (λ (o : Option ℕ). StandsFor h o d.result.value) (sym (after_more h b l.x-index d.result.value l.out (omega arith) (length-take-le l.x-index l.out (omega arith)))) refl,
    )

pub returns : goal.returns
returns c =
    let l = c.loop-x in
    let a = c.args in
    let h = sheet_of edition1 a.w.now in
    let k = out_of (level_of (sheet_of edition1 a.w.now) a.level) in
    let e : l.x-index ≡ length a.out.now = omega arith in
    ap {B = Drawn (List ℕ)} (λ (t : List ℕ). record { value = t; next = l.current.v }) (sym (take_all l.x-index l.out (omega arith)))
    ∙ l.invariant.0 ∙ ap (λ (n : ℕ). draw_kinds h none (replicate n k) a.generator.v) e
