use Prim.Native.Nat.{ℕ}
use native.Mathlib.Omega.{arith}
use mathlib.Core.List.{List, ◌∷◌}
use mathlib.Core.Path.{ap, ◌∙◌}
use lib.ListN.{length, set, length-drop, length-set}
use Rattle.list_laws.specs.Lists.{rest_all}
use Rattle.batch_front.proofs.OneByOne.{first_and_others}
use Rattle.batch_front.proofs.numbers.Goals as goal

-- `batch_front::numbers` meets its contract. Assumes nothing.
pub overflow_cast-out : goal.overflow_cast-out
overflow_cast-out c = omega (arith, c.requires.1)

pub bounds-out-0 : goal.bounds-out-0
bounds-out-0 c = omega (arith, c.requires.0)

pub slice_bounds-copy_from_slice-count : goal.slice_bounds-copy_from_slice-count
slice_bounds-copy_from_slice-count c =
    let a = c.args in
    omega (arith, c.requires.0, length-set a.out.now 0 (length a.bounds.now))

pub slice_bounds-copy_from_slice-start : goal.slice_bounds-copy_from_slice-start
slice_bounds-copy_from_slice-start c =
    let a = c.args in
    omega (arith, c.requires.0, length-set a.out.now 0 (length a.bounds.now))

pub copy_from_slice-requires : goal.copy_from_slice-requires
copy_from_slice-requires c =
    let a = c.args in
    let v = set a.out.now 0 (length a.bounds.now) in
    ap length (rest_all 1 v) ∙ length-drop 1 v ∙ omega (arith, c.requires.0, length-set a.out.now 0 (length a.bounds.now))

pub shape_of-out : goal.shape_of-out
shape_of-out c =
    let a = c.args in
    let y = c.copy_from_slice in
    ap length (first_and_others (length a.bounds.now) a.out.now y.new.self (omega (arith, c.requires.0))) ∙ omega (arith, ap length y.ensures.after, c.requires.0)

pub returns : goal.returns
returns c =
    let a = c.args in
    let y = c.copy_from_slice in
    first_and_others (length a.bounds.now) a.out.now y.new.self (omega (arith, c.requires.0)) ∙ ap {B = List ℕ} (λ t. length a.bounds.now ∷ t) y.ensures.after
