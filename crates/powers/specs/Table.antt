-- The stored table, and what a smaller n0 takes of it (01, Domains). Definitions alone.
use Rattle.std.specs.Prelude.{ℕ, zero, suc, List, [], ◌∷◌, get_or, drop}
use Rattle.definition.specs.Field.{Field, field_of}
use Rattle.powers.specs.Root.{root}

-- n numbers, of which the first is x and each next is the one before times ω
unfoldable pub geometric_sequence : {A : Type 0} → Field A → A → A → ℕ → List A
geometric_sequence F ω x zero = []
geometric_sequence F ω x (suc n) = x ∷ geometric_sequence F ω (F.◌⊗◌ ω x) n

-- the stored table: 4,096 numbers of field 2, the first is 1, each next is the one before times the ω of n0 = 4096
unfoldable pub stored_powers : List ℕ
stored_powers = geometric_sequence (field_of 2) (root 2 4096) 1 4096

-- every step-th number of a list, from the first on, n in all
unfoldable pub every_nth : ℕ → ℕ → List ℕ → List ℕ
every_nth step zero l = []
every_nth step (suc n) l = get_or l 0 0 ∷ every_nth step n (drop step l)
