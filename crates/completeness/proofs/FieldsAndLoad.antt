-- THE PAGE ON THE FIELDS AND THE LOAD, which goes on from Statements.antt: of its item 11 the lines as they are drawn, of 12 the public inverse, and 13 and 14, the field
-- of four words and the powers. It holds theorems and nothing else; each proof is one citation. It is read with the same definition and vocabulary.
use Rattle.std.specs.Prelude.{ℕ, suc, ◌-◌, ◌%◌, ◌^◌, ◌≤◌, ◌<◌, true, cond, ◌↔◌, ◌≡◌, eqb, get_or}
use mathlib.Core.List.{List, [], ◌∷◌}
use Rattle.std.proofs.Math.Option.{none, some}
use Rattle.definition.specs.Domain.{in_domain}
use Rattle.definition.specs.Field.{Quad, binary_digits, element, field3, field_in, found, four, in_field, in_no_field, inverse3, inverse_of, known_field, no_inverse, number_in, one, power, power3, power_of, power_turns3, power_turns_of, powered, prime_field, prime_of, product, product3, reciprocal, spelling_of, unknown_field}
use Rattle.definition.specs.Line.{line_of}
use Rattle.definition.specs.Lists.{member}
use Rattle.definition.specs.Load.{candidates, draw_input, load_lines, permits, verdict_on}
use Rattle.definition.specs.Sheet.{Edition, Level, root_of_unity, sheet_of}
use Rattle.algebra.specs.Divisors as algebra
use Rattle.algebra.specs.FieldIn
use Rattle.algebra.specs.Laws.{FieldLaws}
use Rattle.algebra.specs.PublicField3
use Rattle.algebra.specs.PublicInverse
use Rattle.algebra.specs.PublicPower
use Rattle.completeness.specs.FourWords
use Rattle.completeness.proofs.LoadAllowed

-- 11. THE STATED LOAD (02, CR 2 and 6), as it is drawn.
-- Line i is the verdict line of the honest file of run i (document 02: a thousand runs on one generator). The first run begins with v 0, the seed, and each next one with the
-- generator as the run before leaves it.
pub load_runs_lem : (seed : ℕ) → (seed ≡ 0 → ⊥) → (v : ℕ → ℕ) × (v 0 ≡ seed) × ((i : ℕ) → v (suc i) ≡ (draw_input (v i)).next)
    × ((i : ℕ) → i < 1000 → get_or (load_lines seed) i [] ≡ line_of (verdict_on (draw_input (v i)).value))
load_runs_lem = LoadAllowed.load_runs_lem

-- Seed 0 gives one line, `refused 12 0 0`.
pub load_refused : load_lines 0 ≡ (114 ∷ 101 ∷ 102 ∷ 117 ∷ 115 ∷ 101 ∷ 100 ∷ 32 ∷ 49 ∷ 50 ∷ 32 ∷ 48 ∷ 32 ∷ 48 ∷ 10 ∷ []) ∷ []
load_refused = LoadAllowed.load_refused

-- Every value that the rule of a sheet word permits is among those that the load draws from.
pub none_missing : (w : List ℕ) (x : ℕ) → permits w x ≡ true → member eqb x candidates ≡ true
none_missing = LoadAllowed.none_missing

-- 12. NO INVERSE FOR ZERO (02, CR 3). The public inverse is none exactly for 0, that is, for each multiple of p;
pub inverse_none_exactly : (field x : ℕ) → field < 3 → (inverse_of field x ≡ no_inverse) ↔ (x % prime_of field ≡ 0)
inverse_none_exactly = PublicInverse.none_exactly

-- else an element is found whose product with x is 1; and above 2 there is no field.
pub inverse_found : (field x : ℕ) → field < 3 → (x % prime_of field ≡ 0 → ⊥) → (u : ℕ) × (inverse_of field x ≡ found u) × (u < prime_of field) × (product field x u ≡ element 1)
inverse_found = PublicInverse.inverse_there

pub inverse_no_field : (field x : ℕ) → 3 ≤ field → inverse_of field x ≡ unknown_field
inverse_no_field = PublicInverse.inverse_nowhere

-- No verdict and no block changed: interpolation and quotient multiply by x^(p-2), as they did when the inverse of 0 was 0.
pub reciprocal_as_before : (p x : ℕ) → 2 < p → reciprocal (prime_field p) x ≡ x ^ (p - 2) % p
reciprocal_as_before = algebra.as_before

-- 13. ELEMENTS OF FOUR WORDS (02, CR 11). Field 3, a + bX + cX² + dX³ over p = 2013265921 with X⁴ = 11, obeys the laws of a field, on every four words, as the field of
-- every number does in its spelling. So all theorems of Statements.antt and TheRun.antt are of it too.
pub field_laws : (field : ℕ) → FieldLaws (field_in (spelling_of field) (prime_of field))
field_laws = FieldIn.laws_in

pub field_3_laws : FieldLaws field3
field_3_laws = PublicField3.laws

-- An element is in a domain exactly if b = c = d = 0 and a is in it.
pub in_domain_exactly : (ed : Edition) (w : List ℕ) (l : Level) (x : Quad ℕ) →
    (in_domain (field_in four (sheet_of ed w).prime) (number_in four (root_of_unity (sheet_of ed w))) l x ≡ true)
    ↔ ((x.b ≡ 0) × (x.c ≡ 0) × (x.d ≡ 0) × (in_domain (field_in one (sheet_of ed w).prime) (number_in one (root_of_unity (sheet_of ed w))) l x.a ≡ true))
in_domain_exactly = FourWords.inside_exactly

-- The public inverse of field 3 is none exactly where all four words are multiples of p; else an element is found whose product with x is 1.
pub inverse_3_none_exactly : (x : Quad ℕ) → (inverse3 x ≡ none) ↔ ((x.a % prime_of 3 ≡ 0) × (x.b % prime_of 3 ≡ 0) × (x.c % prime_of 3 ≡ 0) × (x.d % prime_of 3 ≡ 0))
inverse_3_none_exactly = PublicField3.none_exactly

pub inverse_3_found : (x : Quad ℕ) → (((x.a % prime_of 3 ≡ 0) × (x.b % prime_of 3 ≡ 0) × (x.c % prime_of 3 ≡ 0) × (x.d % prime_of 3 ≡ 0)) → ⊥) →
    (u : Quad ℕ) × (inverse3 x ≡ some u) × (product3 x u ≡ number_in four 1)
inverse_3_found = PublicField3.inverse_there

-- 14. POWERS (document 01: an exponent is any word as it is; document 02, CR 4). The public power is a^e modulo p, for all words a and e,
pub power_exactly : (field base exponent : ℕ) → power_of field base exponent ≡ in_field field (base ^ exponent % prime_of field)
power_exactly = PublicPower.power_exactly

-- the one with its turns answers as many as e has binary digits, which are at most d exactly where e < 2^d;
pub power_turns_exactly : (field base exponent : ℕ) →
    power_turns_of field base exponent ≡ cond (known_field field) (powered (base ^ exponent % prime_of field) (binary_digits exponent)) in_no_field
power_turns_exactly = PublicPower.turns_exactly

pub digits_exactly : (e d : ℕ) → (binary_digits e ≤ d) ↔ (e < 2 ^ d)
digits_exactly = PublicPower.digits_exactly

-- and for the largest word the power of 3 in field 0 is 6.
pub power_largest : power_of 0 3 4294967295 ≡ element 6
power_largest = PublicPower.power_largest

-- In field 3 it is 1 for the exponent 0, of any four words, and for each next exponent the product of a with the power before; the turns are the same.
pub power_3_none : (base : Quad ℕ) → power3 base 0 ≡ number_in four 1
power_3_none = PublicField3.power_none

pub power_3_next : (base : Quad ℕ) (e : ℕ) → power3 base (suc e) ≡ product3 base (power3 base e)
power_3_next = PublicField3.power_next

pub power_3_turns : (base : Quad ℕ) (e : ℕ) → power_turns3 base e ≡ record { power = power3 base e; turns = binary_digits e }
power_3_turns = PublicField3.power_turns
