-- The root of unity of a field and a size, as the definition has it for a sheet, and what a stored table says. Assumes nothing.
use Rattle.std.specs.Prelude.{ℕ, ◌-◌, ◌/◌, ◌%◌, ◌^◌, ◌≡◌, List, get_or}
use Rattle.definition.specs.Field.{prime_of, generator_of}
use Rattle.definition.specs.Sheet.{Edition, sheet_of, root_of_unity}
use Rattle.algebra.specs.PowerBySquaring.{power_mod_is}

-- ω = g^((p-1)/n0) (01, Domains)
unfoldable pub root : ℕ → ℕ → ℕ
root field size = generator_of field ^ ((prime_of field - 1) / size) % prime_of field

-- it is the definition's, for every sheet of either edition with this field and size
pub root_of_sheet : (ed : Edition) (w : List ℕ) → root_of_unity (sheet_of ed w) ≡ root (get_or w 0 0) (get_or w 1 0)
unfolding root root_of_unity sheet_of
root_of_sheet ed w = power_mod_is (generator_of (get_or w 0 0)) ((prime_of (get_or w 0 0) - 1) / get_or w 1 0) (prime_of (get_or w 0 0))
