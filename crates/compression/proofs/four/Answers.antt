use mathlib.Core.Path.{refl}
use native.Mathlib.Omega.{arith}
use Prim.Native.Nat.{◌+◌}
use Rattle.hash_laws.specs.Ring.{going_next, Turned}
use Rattle.compression.proofs.four.Goals as goal

-- src/lib.rt:126:15
pub overflow_add-t-3 : goal.overflow_add-t-3
overflow_add-t-3 c = omega (arith, c.requires.t_value)

-- src/lib.rt:126:13
pub offset_bounds-k-t-4 : goal.offset_bounds-k-t-4
offset_bounds-k-t-4 c = omega (arith, c.requires.t_value)

-- src/lib.rt:126:13
pub bounds-k-t-4 : goal.bounds-k-t-4
bounds-k-t-4 c = omega (arith, c.requires)

-- src/lib.rt:126:26
pub overflow_add-i-3 : goal.overflow_add-i-3
overflow_add-i-3 c = omega (arith, c.requires.t_value)

-- src/lib.rt:126:5
pub next-requires : goal.next-requires
next-requires c =
    omega (arith, c.requires, c.next-c.auto.w, c.next-b.auto.w, c.next-a.auto.w)

-- src/lib.rt:118:1
pub returns : goal.returns
unfolding Turned
returns c = λ block end n g.
    let a = c.args in
    let m = c.requires.k_len.0 in
    let g₁ = going_next {u = a.t + 1} a.i n m (omega (arith, c.requires.t_value)) (omega (arith, c.requires.t_value)) (omega (arith, c.requires.t_value)) refl c.next-a.ensures.result_value c.next-a.ensures.w_after g in
    let g₂ = going_next {u = a.t + 2} (a.i + 1) n m (omega (arith, c.requires.t_value)) (omega (arith, c.requires.t_value)) (omega (arith, c.requires.t_value)) (omega (arith, c.requires.t_value)) c.next-b.ensures.result_value c.next-b.ensures.w_after g₁ in
    let g₃ = going_next {u = a.t + 3} (a.i + 2) n m (omega (arith, c.requires.t_value)) (omega (arith, c.requires.t_value)) (omega (arith, c.requires.t_value)) (omega (arith, c.requires.t_value)) c.next-c.ensures.result_value c.next-c.ensures.w_after g₂ in
    going_next {u = a.t + 4} (a.i + 3) n m (omega (arith, c.requires.t_value)) (omega (arith, c.requires.t_value)) (omega (arith, c.requires.t_value)) (omega (arith, c.requires.t_value)) c.next.ensures.result_value c.next.ensures.w_after g₃
