use mathlib.Core.Path.{refl, ◌∙◌}
use native.Mathlib.Omega.{arith}
use lib.Dec.{leb}
use lib.ListN.{get_or}
use borrow.Author.Tests.{le-leb, lt-leb}
use Rattle.definition.specs.Field.{prime_of}
use Rattle.outcome.specs.Meaning.{place_of}
use Rattle.ranges.proofs.FirstFrom.{true_here, false_here, none_left}
use Rattle.ranges.proofs.coefficient_out_of_range.Goals as goal

pub modulus-p-requires : goal.modulus-p-requires
modulus-p-requires c = tt

pub loop-i-init : goal.loop-i-init
loop-i-init c = refl

pub returns-then-p-f : goal.returns-then-p-f
unfolding place_of
returns-then-p-f c =
    let a = c.args in
    let l = c.loop-i in
    let p = prime_of a.field in
    true_here (leb p) a.f.now l.i (omega arith) (le-leb p (get_or a.f.now l.i 0) (omega (arith, c.if-p-f.true, c.modulus-p.ensures))) ∙ l.invariant

pub loop-i-preserved : goal.loop-i-preserved
loop-i-preserved c =
    let a = c.args in
    let l = c.loop-i in
    let p = prime_of a.field in
    false_here (leb p) a.f.now l.i (omega arith) (lt-leb p (get_or a.f.now l.i 0) (omega (arith, c.if-p-f.false, c.modulus-p.ensures))) ∙ l.invariant

pub returns : goal.returns
unfolding place_of
returns c =
    let a = c.args in
    let l = c.loop-i in
    none_left (leb (prime_of a.field)) a.f.now l.i (omega arith) ∙ l.invariant
