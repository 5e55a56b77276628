use Prim.Native.Nat.{◌-◌}
use native.Mathlib.Omega.{arith}
use mathlib.Core.Path.{◌≡◌, ap, ◌∙◌}
use lib.ListN.{length}
use Rattle.definition.specs.Field.{field_of}
use Rattle.decoding.specs.Start.{unity}
use Rattle.candidate.proofs.Begin.{made_s}
use Rattle.candidate.proofs.set_unity.Goals as goal

pub returns : goal.returns
returns c =
    let n = length c.args.s.now - 1 in
    let two : n - 1 ≡ length c.args.s.now - 2 = omega arith in
    made_s c.args.field n (length c.args.s.now) (omega arith) (omega arith) (c.fill.ensures.after (λ y h. h)) c.sub.ensures ∙ ap (unity (field_of c.args.field)) two
