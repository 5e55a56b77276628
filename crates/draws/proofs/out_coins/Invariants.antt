use mathlib.Core.Option.{none}
use lib.ListN.{take, replicate}
use Rattle.definition.specs.Layout.{out as out_of}
use Rattle.definition.specs.Load.{draw_kinds}
use Rattle.definition.specs.Sheet.{edition1, sheet_of}
use Rattle.layouts.specs.Levels.{level_of}
use Rattle.draws.proofs.KindsDrawn.{out_after}
use Rattle.draws.specs.OutCoin.{StandsFor}
use Rattle.draws.proofs.Joins.{Is}
use Rattle.draws.proofs.out_coins.Given as goal

abbrev pub invariant-loop-x : goal.invariant-loop-x
invariant-loop-x l =
    let h = sheet_of edition1 l.w in
    let ks = replicate l.x-index (out_of (level_of h l.level)) in
    Is (take l.x-index l.out) l.current.v (draw_kinds h none ks l.initial.current.v) × StandsFor h (out_after none ks (take l.x-index l.out)) l.before
