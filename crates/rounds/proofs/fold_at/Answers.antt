use Prim.Native.Nat.{ℕ, ◌+◌, ◌*◌, ◌^◌}
use mathlib.Core.Path.{◌∙◌, sym, ap}
use native.Mathlib.Omega.{arith}
use lib.ListN.{length, get_or}
use Rattle.definition.specs.Field.{spelling_of}
use Rattle.spelling.specs.ByField.{elements_at, field_at}
use Rattle.spelling.specs.Words.{elements_even, elements_few}
use Rattle.elements.specs.Meaning.{value_at}
use Rattle.folds.specs.Halving.{exponent_of}
use Rattle.fractions.specs.Values.{first_point, power_of, spacing}
use Rattle.rounds.proofs.Shifts.{folded_at}
use Rattle.rounds.proofs.fold_at.Goals as goal

pub overflow_mul-i : goal.overflow_mul-i
overflow_mul-i c =
    let a = c.args in
    omega (arith, c.requires.values_in_bounds, ap (λ (k : ℕ). a.i * k) c.count-k.ensures, elements_few (spelling_of a.field) a.roots.now)

pub gather-requires : goal.gather-requires
gather-requires c =
    let a = c.args in
    let same = ap (λ (k : ℕ). a.i * k) c.count-k.ensures in
    λ m u. omega (arith, c.requires.values_in_bounds, same, u)

pub overflow_mul-oracle : goal.overflow_mul-oracle
overflow_mul-oracle c = let p = c.requires in omega (arith, first_point p.fits p.j_lt_step, p.fits.small)

pub overflow_add-oracle : goal.overflow_add-oracle
overflow_add-oracle c = let p = c.requires in omega (arith, first_point p.fits p.j_lt_step, p.fits.small)

pub overflow_mul-oracle-2 : goal.overflow_mul-oracle-2
overflow_mul-oracle-2 c = let p = c.requires in omega (arith, spacing p.fits, p.fits.small)

pub fold_values-requires : goal.fold_values-requires
fold_values-requires c =
    let a = c.args in
    let p = c.requires in
    let g = c.gather in
    let fits = p.fits in
    let first = first_point fits p.j_lt_step in
    let long = elements_even (spelling_of a.field) g.new.values a.values.now g.auto.values in record { pw_nonzero = (omega (arith, first), (omega (arith, first, fits.small), omega (arith, spacing fits, fits.small))); values_len = (long ∙ power_of fits ∙ ap (λ (n : ℕ). 2 ^ exponent_of n) (sym long), omega (arith, long, fits.few)) }

pub returns : goal.returns
returns c =
    let a = c.args in
    let g = c.gather in
    let F = field_at a.field in
    let long = elements_even (spelling_of a.field) g.new.values a.values.now g.auto.values in
    folded_at a.field a.pw.now a.roots.now a.oracle (length (elements_at a.field a.values.now)) (value_at a.field a.r) a.i a.j (elements_at a.field g.new.values) c.requires.fits long
    (λ m u. g.ensures.passed m u ∙ ap (λ (k : ℕ). get_or (elements_at a.field a.roots.now) (a.i * k + 1 * m) F.𝟘) c.count-k.ensures) c.fold_values.ensures
