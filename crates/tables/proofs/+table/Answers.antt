use mathlib.Core.Path.{◌∙◌, sym, refl, subst}
use native.Mathlib.Nat.{mul-le-mul_left}
use native.Mathlib.Omega.{arith}
use lib.ListN.{length}
use lib.Seq.{length-take-le}
use Prim.Native.Nat.{ℕ, ◌/◌, ◌<◌, ◌≤◌}
use Rattle.tables.specs.Halving.{Spaced}
use Rattle.tables.proofs.Sizes.{half, step_twice}
use Rattle.tables.proofs.Lists.{first_length, second_length, reaches, both}
use Rattle.tables.proofs.Recursion.{half_asks, whole_table}
use Rattle.tables.proofs.+table.Goals as goal

-- `tables::table` meets its contract: by recursion on the number of coefficients, which halves. Assumes nothing.
-- where the coefficients are more than two they are more than one
more : {n : ℕ} → 2 < n → 1 < n
more l = omega arith

pub base-requires : goal.base-requires
base-requires t c = record { from_lt_stride = (c.requires.from_lt_stride.0, (c.requires.from_lt_stride.1, c.if-count-le2.true)); halves = c.requires.halves }

pub overflow_add-odd : goal.overflow_add-odd
overflow_add-odd t c =
    let a = c.args in
    let two : 2 ≤ a.count = omega arith in
    omega (arith, mul-le-mul_left a.stride two)

pub overflow_mul-stride2 : goal.overflow_mul-stride2
overflow_mul-stride2 t c =
    let a = c.args in
    let two : 2 ≤ a.count = omega arith in
    omega (arith, mul-le-mul_left a.stride two)

pub overflow_mul-at2 : goal.overflow_mul-at2
overflow_mul-at2 t c =
    let a = c.args in
    omega (arith, step_twice a.at a.step a.count (length a.out.now) c.requires.halves.0 c.requires.halves.1 (more c.if-count-le2.false))

pub overflow_add-at2 : goal.overflow_add-at2
overflow_add-at2 t c =
    let a = c.args in
    omega (arith, step_twice a.at a.step a.count (length a.out.now) c.requires.halves.0 c.requires.halves.1 (more c.if-count-le2.false))

pub overflow_mul-step2 : goal.overflow_mul-step2
overflow_mul-step2 t c =
    let a = c.args in
    omega (arith, step_twice a.at a.step a.count (length a.out.now) c.requires.halves.0 c.requires.halves.1 (more c.if-count-le2.false))

pub slice_bounds-table-end-else-count-le2 : goal.slice_bounds-table-end-else-count-le2
slice_bounds-table-end-else-count-le2 t c = sym (length-take-le _ _ (omega arith))

pub table-requires : goal.table-requires
table-requires t c =
    let a = c.args in
    let q = half a.count (length a.out.now) c.requires.halves.0 (more c.if-count-le2.false) in
    half_asks t _ a.stride a.count _ a.step (length a.out.now) _ (length a.src.now) (length a.pw.now)
    c.decreases (omega arith) c.requires.from_lt_stride.1 c.requires.halves.0 (omega arith) c.requires.halves.1.1 (more c.if-count-le2.false)
    (first_length a.out.now (length a.out.now / 2) q.size_is)

pub slice_bounds-table-count : goal.slice_bounds-table-count
slice_bounds-table-count t c =
    let a = c.args in
    let q = half a.count (length a.out.now) c.requires.halves.0 (more c.if-count-le2.false) in
    let t₁ = c.table in
    let l₁ = t₁.new.out in
    let n₁ = t₁.auto.out in
    reaches a.out.now l₁ (length a.out.now / 2) q.size_is n₁

pub slice_bounds-table-start : goal.slice_bounds-table-start
slice_bounds-table-start t c =
    let a = c.args in
    let q = half a.count (length a.out.now) c.requires.halves.0 (more c.if-count-le2.false) in
    let t₁ = c.table in
    let l₁ = t₁.new.out in
    let n₁ = t₁.auto.out in
    reaches a.out.now l₁ (length a.out.now / 2) q.size_is n₁

pub table-requires-else-count-le2 : goal.table-requires-else-count-le2
table-requires-else-count-le2 t c =
    let a = c.args in
    let q = half a.count (length a.out.now) c.requires.halves.0 (more c.if-count-le2.false) in
    let t₁ = c.table in
    let l₁ = t₁.new.out in
    let n₁ = t₁.auto.out in
    half_asks t _ a.stride a.count _ a.step (length a.out.now) _ (length a.src.now) (length a.pw.now)
    c.decreases (omega arith) c.requires.from_lt_stride.1 c.requires.halves.0 (omega arith) c.requires.halves.1.1 (more c.if-count-le2.false)
    (second_length a.out.now l₁ (length a.out.now / 2) q.size_is n₁)

pub join-requires : goal.join-requires
join-requires t c =
    let a = c.args in
    let q = half a.count (length a.out.now) c.requires.halves.0 (more c.if-count-le2.false) in
    let t₁ = c.table in
    let l₁ = t₁.new.out in
    let n₁ = t₁.auto.out in
    let t₂ = c.table-else-count-le2 in
    let l₂ = t₂.new.out in
    let n₂ = t₂.auto.out in
    let b = both a.out.now l₁ (length a.out.now / 2) q.size_is n₁ l₂ n₂ in
    (b.size, subst (λ (m : ℕ). Spaced a.at a.step m (length a.pw.now)) q.size_is c.requires.halves.1)

pub shape_of-out-then-count-le2 : goal.shape_of-out-then-count-le2
shape_of-out-then-count-le2 t c = c.base.auto.out

pub returns-then-count-le2 : goal.returns-then-count-le2
returns-then-count-le2 t c = c.base.ensures

pub shape_of-out-else-count-le2 : goal.shape_of-out-else-count-le2
shape_of-out-else-count-le2 t c =
    let a = c.args in
    let q = half a.count (length a.out.now) c.requires.halves.0 (more c.if-count-le2.false) in
    let t₁ = c.table in
    let l₁ = t₁.new.out in
    let n₁ = t₁.auto.out in
    let t₂ = c.table-else-count-le2 in
    let l₂ = t₂.new.out in
    let n₂ = t₂.auto.out in
    let b = both a.out.now l₁ (length a.out.now / 2) q.size_is n₁ l₂ n₂ in
    c.join.auto.out ∙ b.size ∙ sym q.size_is

pub returns-else-count-le2 : goal.returns-else-count-le2
returns-else-count-le2 t c =
    let a = c.args in
    let t₁ = c.table in
    let l₁ = t₁.new.out in
    let n₁ = t₁.auto.out in
    let t₂ = c.table-else-count-le2 in
    let l₂ = t₂.new.out in
    let n₂ = t₂.auto.out in
    let j = c.join in
    whole_table a.field a.src.now a.from a.stride a.count a.pw.now a.at a.step (length a.out.now / 2)
    a.out.now l₁ l₂ j.new.out refl c.requires.halves.0 c.requires.halves.1
    (more c.if-count-le2.false)
    n₁ t₁.ensures n₂ t₂.ensures j.ensures
