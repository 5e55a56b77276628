use Prim.Native.Nat.{ℕ}
use lib.ListN.{take}
use mathlib.Core.Path.{refl, ap}
use native.Mathlib.Omega.{arith}
use Rattle.outcome.specs.Meaning.{answer_of}
use Rattle.program_output.specs.Output.{written_for}
use Rattle.program_output.proofs.after.Goals as goal

pub overflow_mul-result : goal.overflow_mul-result
unfolding answer_of
overflow_mul-result c =
    omega (arith, c.requires c.in-Done.blocks (ap answer_of c.in-Done.is))

pub returns-in-Done : goal.returns-in-Done
unfolding answer_of written_for
returns-in-Done c =
    let is = ap answer_of c.in-Done.is in
    let none = c.empty.ensures in
    rw is (record {
      output = λ all. refl;
      error = λ all. ap (λ (n : ℕ). take n c.empty.result.bytes) none;
      fits = λ all. all c.in-Done.blocks refl;
      small = omega (arith, none);
    })

pub returns-in-Refusal : goal.returns-in-Refusal
unfolding answer_of written_for
returns-in-Refusal c =
    let line = c.of_refusal.ensures in
    rw (ap answer_of c.in-Refusal.is) (record { output = λ all. refl; error = λ all. line.bytes_value; fits = λ all. omega arith; small = line.length_bound })
