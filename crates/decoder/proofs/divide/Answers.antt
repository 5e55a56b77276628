use native.Mathlib.Omega.{arith}
use mathlib.Core.Path.{refl, ◌∙◌}
use lib.ListN.{length}
use Rattle.definition.specs.Field.{field_of, prime_field}
use Rattle.decoder.proofs.Turns.{divide_start, divide_turn, divide_end}
use Rattle.decoder.proofs.divide.Goals as goal

pub loop-i-init : goal.loop-i-init
loop-i-init c =
    let a = c.args in
    (refl, divide_start (field_of a.field) a.c (length a.out.now) a.w.now a.s.now a.out.now)

pub loop-i-preserved : goal.loop-i-preserved
unfolding field_of prime_field
loop-i-preserved c =
    let l = c.loop-i in
    let a = c.args in
    let p = c.add_multiple in (
      p.auto.l ∙ l.invariant.0,
      divide_turn (field_of a.field) a.c (length a.out.now) l.i c.mul-q.result c.sub.result a.w.now l.s p.new.l l.out (omega arith) (omega arith)
          c.mul-q.ensures c.sub.ensures p.ensures l.invariant.1,
    )

pub returns : goal.returns
returns c =
    let l = c.loop-i in
    let a = c.args in
    divide_end (field_of a.field) a.c (length a.out.now) l.i a.w.now l.s l.out (omega arith) (omega arith) l.invariant.1
