use mathlib.Core.Path.{◌≡◌, ◌∙◌, ap, sym}
use mathlib.Core.List.{List}
use Prim.Native.Nat.{ℕ, ◌+◌, ◌-◌, ◌*◌, ◌%◌, ◌<◌}
use native.Mathlib.Nat.{mod-eq_of_lt, mod_self}
use native.Mathlib.Omega.{arith}
use borrow.Author.Count.{below_more}
use lib.ListN.{length, get_or, set, length-set}
use lib.Seq.{get_or-set_other, get_or-set_same}
use Rattle.list_laws.specs.Filled.{filled_first, filled_next}
use Rattle.domain.proofs.Tables.{so_many_steps}
use Rattle.domain.proofs.from_stored.Invariants.{at}
use Rattle.domain.proofs.from_stored.Goals as goal

at_front : (table : List ℕ) (step n k : ℕ) → 1 + k < n → get_or table (step * (1 + k)) 0 ≡ at table step n k
at_front table step n k h = ap (λ (m : ℕ). get_or table (step * m) 0) (sym (mod-eq_of_lt h))

at_last : (table : List ℕ) (step n : ℕ) → 0 < n → get_or table 0 0 ≡ at table step n (n - 1)
at_last table step n h =
    let whole : 1 + (n - 1) ≡ n = omega arith in
    let none : 0 ≡ step * 0 = omega arith in
    ap (λ (m : ℕ). get_or table m 0) (none ∙ ap (λ (m : ℕ). step * m) (sym (ap (λ (m : ℕ). m % n) whole ∙ mod_self n)))

pub overflow_sub-last : goal.overflow_sub-last
overflow_sub-last c = c.requires.step_nonzero.1

pub loop-e-init : goal.loop-e-init
loop-e-init c =
    let a = c.args in
    filled_first (at a.table.now a.step (length a.out.now)) a.out.now

pub overflow_mul-out : goal.overflow_mul-out
overflow_mul-out c =
    let a = c.args in
    let l = c.loop-e in
    omega (arith, so_many_steps a.step l.e (length a.out.now) (omega arith))

pub offset_bounds-table-step : goal.offset_bounds-table-step
offset_bounds-table-step c =
    let a = c.args in
    let l = c.loop-e in
    omega (arith, so_many_steps a.step l.e (length a.out.now) (omega arith))

pub bounds-table-step : goal.bounds-table-step
bounds-table-step c =
    let a = c.args in
    let l = c.loop-e in
    omega (arith, so_many_steps a.step (1 + l.e) (length a.out.now) (omega arith))

pub loop-e-preserved : goal.loop-e-preserved
loop-e-preserved c =
    let a = c.args in
    let l = c.loop-e in
    let n = length a.out.now in
    filled_next (at a.table.now a.step n) a.out.now l.out l.e l.invariant (omega arith) (at_front a.table.now a.step n l.e (omega arith))

pub bounds-table-0 : goal.bounds-table-0
bounds-table-0 c =
    let a = c.args in
    omega (arith, so_many_steps a.step 0 (length a.out.now) (omega arith))

pub shape_of-out : goal.shape_of-out
shape_of-out c =
    let p = c.loop-e in
    length-set p.out (length c.args.out.now - 1) (get_or c.args.table.now 0 0) ∙ p.invariant.same

pub returns : goal.returns
returns c = λ k l.
    let a = c.args in
    let p = c.loop-e in
    let n = length a.out.now in
    let v = get_or a.table.now 0 0 in
    below_more (λ (j : ℕ). get_or (set p.out (n - 1) v) j 0 ≡ at a.table.now a.step n j) (n - 1)
    (λ j u. get_or-set_other p.out (n - 1) j v 0 (λ e. omega arith) ∙ p.invariant.passed j (omega arith))
    (get_or-set_same p.out (n - 1) v 0 (omega (arith, p.invariant.same)) ∙ at_last a.table.now a.step n (omega arith))
    k (omega arith)
