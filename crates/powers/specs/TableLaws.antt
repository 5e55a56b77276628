-- Laws of the stored table: its entry e is ω^e, and entry e of every step-th is entry step·e. Assumes nothing.
use Rattle.std.specs.Prelude.{ℕ, zero, suc, ◌+◌, ◌*◌, ◌<◌, ◌≡◌, refl, List, length, get_or, drop}
use Rattle.std.proofs.Common.{le_of_suc-le-suc, not-suc-le-zero, zero-add, arith, ◌∙◌, ap, get_or-drop}
use Rattle.definition.specs.Field.{Field, field_of, power, prime_field}
use Rattle.powers.specs.Root.{root}
use Rattle.powers.specs.Table.{geometric_sequence, stored_powers, every_nth}

-- from a power of ω on come the next ones
each_entry : {A : Type 0} (F : Field A) (ω d : A) (a n e : ℕ) → e < n → get_or (geometric_sequence F ω (power F ω a) n) e d ≡ power F ω (a + e)
unfolding geometric_sequence power
each_entry F ω d a zero e h = absurd (not-suc-le-zero h)
each_entry F ω d a (suc n) zero h = let s : a ≡ a + 0 = omega arith in ap (power F ω) s
each_entry F ω d a (suc n) (suc e) h = let s : suc a + e ≡ a + suc e = omega arith in each_entry F ω d (suc a) n e (le_of_suc-le-suc h) ∙ ap (power F ω) s

each_length : {A : Type 0} (F : Field A) (ω x : A) (n : ℕ) → length (geometric_sequence F ω x n) ≡ n
unfolding geometric_sequence
each_length F ω x zero = refl
each_length F ω x (suc n) = ap suc (each_length F ω (F.◌⊗◌ ω x) n)

pub stored_length : length stored_powers ≡ 4096
unfolding stored_powers
stored_length = each_length (field_of 2) (root 2 4096) 1 4096

pub stored_entry : (e : ℕ) → e < 4096 → get_or stored_powers e 0 ≡ power (field_of 2) (root 2 4096) e
unfolding stored_powers field_of prime_field power
stored_entry e h = each_entry (field_of 2) (root 2 4096) 0 0 4096 e h ∙ ap (power (field_of 2) (root 2 4096)) (zero-add e)

pub every_entry : (step n : ℕ) (l : List ℕ) (e : ℕ) → e < n → get_or (every_nth step n l) e 0 ≡ get_or l (step * e) 0
unfolding every_nth
every_entry step zero l e h = absurd (not-suc-le-zero h)
every_entry step (suc n) l zero h = let s : 0 ≡ step * 0 = omega arith in ap (λ (k : ℕ). get_or l k 0) s
every_entry step (suc n) l (suc e) h =
    let s : step + step * e ≡ step * suc e = omega arith in
    every_entry step n (drop step l) e (le_of_suc-le-suc h) ∙ get_or-drop step l (step * e) 0 ∙ ap (λ (k : ℕ). get_or l k 0) s

pub every_length : (step n : ℕ) (l : List ℕ) → length (every_nth step n l) ≡ n
unfolding every_nth
every_length step zero l = refl
every_length step (suc n) l = ap suc (every_length step n (drop step l))
