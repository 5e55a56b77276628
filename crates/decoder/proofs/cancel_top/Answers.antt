use Prim.Native.Nat.{◌+◌, ◌-◌}
use lib.ListN.{take, get_or}
use Rattle.definition.specs.Field.{field_of}
use Rattle.decoder.proofs.Turns.{with_factor}
use Rattle.decoder.proofs.cancel_top.Goals as goal

pub returns : goal.returns
returns c =
    let a = c.args in
    let F = field_of a.field in
    let p = get_or a.s.now (a.a - 1) 0 in
    let m = c.sub.ensures in
    let k = c.mul-c.ensures in record { s_after = with_factor F (a.a - a.b) a.inverse p (take a.b a.t.now) a.s.now c.add_multiple.ensures m k; w_after = with_factor F (a.a - a.b) a.inverse p (take (a.n + 2 - a.a) a.v.now) a.w.now c.add_multiple-2.ensures m k }
