-- The folds and the samples at the shift indices, over what is in hand and by the values at the roots.
use Rattle.std.specs.Prelude.{ℕ, suc, ◌+◌, ◌*◌, List, [], ◌∷◌, get_or}
use Rattle.definition.specs.Field.{Field}
use Rattle.definition.specs.Polynomial.{Sample}
use Rattle.folds.specs.Halving.{halving, exponent_of}
use Rattle.folds.specs.OneHalf.{half_of}
use Rattle.folds.specs.PointsIn.{shift_in, inverse_power_in}
use Rattle.fractions.specs.declared.Oracle.{Oracle}
use Rattle.fractions.specs.Values.{root_in}

-- the fold at shift index j with coin r, by halves of the values at the k roots: the first root is ω^(1 + scale·j), the next are scale·step powers apart
unfoldable pub fold_in : {A : Type 0} → Field A → List A → List A → List A → List A → Oracle → ℕ → A → ℕ → A
fold_in F pw table ac vg oracle k r j =
    halving F (half_of F) (inverse_power_in F.𝟘 pw) (exponent_of k) (1 + oracle.scale * j) (oracle.scale * oracle.step) r (root_in F pw table ac vg oracle j)

-- the sample at shift index j
unfoldable pub sample_in : {A : Type 0} → Field A → List A → List A → List A → List A → Oracle → ℕ → A → ℕ → Sample A
sample_in F pw table ac vg oracle k r j = record { point = shift_in F.𝟘 pw oracle.scale k j; value = fold_in F pw table ac vg oracle k r j }

-- those of shift index j, number i of a list, by the values at the roots of one index after the other
unfoldable pub fold_by : {A : Type 0} → Field A → List A → List A → Oracle → ℕ → A → ℕ → ℕ → A
fold_by F pw roots oracle k r i j =
    halving F (half_of F) (inverse_power_in F.𝟘 pw) (exponent_of k) (1 + oracle.scale * j) (oracle.scale * oracle.step) r (λ m. get_or roots (i * k + m) F.𝟘)

unfoldable pub sample_by : {A : Type 0} → Field A → List A → List A → Oracle → ℕ → A → ℕ → ℕ → Sample A
sample_by F pw roots oracle k r i j = record { point = shift_in F.𝟘 pw oracle.scale k j; value = fold_by F pw roots oracle k r i j }

-- f of each element and its number, from i on
unfoldable pub numbered : {A : Type 0} → (ℕ → ℕ → A) → ℕ → List ℕ → List A
numbered f i [] = []
numbered f i (j ∷ js) = f i j ∷ numbered f (suc i) js
