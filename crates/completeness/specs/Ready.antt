-- A sheet without a fault has all that completeness asks of it: the laws of a field, ω with ω^(n0/2) = -1, n0 = 2^(e+1), levels of the right sizes, and limits that
-- are words.
use Rattle.std.specs.Prelude.{ℕ, suc, ◌+◌, ◌-◌, ◌/◌, ◌%◌, ◌^◌, ◌≤◌, ◌<◌, List, ◌≡◌, length, get_or}
use Rattle.std.proofs.Common.{pow-suc, div-le_self, mul-le-mul_right, one-mul, arith, sym, ap, ◌∙◌, subst, pow_pos}
use Rattle.definition.specs.Field.{power, power_mod, prime_field, prime_of, spelling_of}
use Rattle.definition.specs.Layout.{layout, limit}
use Rattle.definition.specs.Reading.{sheet_test}
use Rattle.definition.specs.Sheet.{Edition, Level, Sheet, first_level, later_levels, root_of_unity, sheet_length, sheet_of, shift_count}
use Rattle.definition.specs.Verdict.{accepted}
use Rattle.list_laws.specs.All.{All}
use Rattle.algebra.specs.FieldIn.{laws_in, root_in, signs_in}
use Rattle.algebra.specs.Laws.{FieldLaws}
use Rattle.algebra.specs.PowerBySquaring.{power_mod_is}
use Rattle.algebra.specs.PrimeField.{Suited, fitting_root, prime_field_lem, suited}
use Rattle.algebra.specs.RootsOfUnity.{minus_one}
use Rattle.layouts.proofs.Lawful.{lawful}
use Rattle.layouts.proofs.LayoutFacts.{layout_all}
use Rattle.layouts.specs.LevelSizes.{Chain, Sized}
use Rattle.layouts.specs.Levels.{level_of, rounds_of, sheet_field, sheet_root}
use Rattle.layouts.proofs.SheetLevels.{sheet_chain, sheet_steps, sized}
use Rattle.layouts.specs.LawfulSheets.{Steps}

pub record Ready (h : Sheet) : Type 0 where
  pub laws : FieldLaws (sheet_field h)
  pub base : FieldLaws (prime_field h.prime)
  pub large : 2 < h.prime
  pub small : h.prime < 4294967296
  pub e : ℕ
  pub bound : 2 ^ suc e ≤ 4096
  pub signs : minus_one (sheet_field h) ≡ (sheet_field h).𝟙 → ⊥
  pub root : power (sheet_field h) (sheet_root h) (2 ^ e) ≡ minus_one (sheet_field h)
  pub base_root : power (prime_field h.prime) (root_of_unity h) (2 ^ e) ≡ minus_one (prime_field h.prime)
  pub chain : Chain (suc e) (first_level h) (later_levels h)
  pub steps : Steps h.out_coins (first_level h) (later_levels h)

root_at : (p g a n : ℕ) (S : Suited p g) → n ≡ 2 ^ suc a → (p - 1) % n ≡ 0 →
    power (prime_field p) (power_mod g ((p - 1) / n) p) (2 ^ a) ≡ minus_one (prime_field p)
root_at p g a n S e h =
    let twice : n ≡ 2 ^ a + 2 ^ a = omega (arith, pow-suc 2 a) in
    ap (λ (ω : ℕ). power (prime_field p) ω (2 ^ a)) (power_mod_is g ((p - 1) / n) p)
    ∙ subst (λ (m : ℕ). power (prime_field p) (g ^ ((p - 1) / m) % p) (2 ^ a) ≡ minus_one (prime_field p)) (sym twice)
    (fitting_root p g (2 ^ a) S.large S.fits (subst (λ (m : ℕ). (p - 1) % m ≡ 0) twice h))

-- the laws of the sheet's field, whatever its words
pub sheet_laws : (ed : Edition) (w : List ℕ) → FieldLaws (sheet_field (sheet_of ed w))
unfolding sheet_of
sheet_laws ed w = laws_in (get_or w 0 0)

-- n0 and d0 as powers of two, and the exponents of the folding numbers, are those of the rules
pub ready : (ed : Edition) (w : List ℕ) → sheet_length ed ≤ length w → sheet_test ed w ≡ accepted → Ready (sheet_of ed w)
unfolding sheet_of root_of_unity
ready ed w long passed =
    let x = lawful ed w long passed in
    let S = suited (get_or w 0 0) in
    record {
      laws = laws_in (get_or w 0 0);
      base = prime_field_lem _ S.prime;
      large = S.large;
      small = S.small;
      e = x.a;
      bound = subst (λ (n : ℕ). n ≤ 4096) x.size x.small;
      signs = signs_in (spelling_of (get_or w 0 0)) (prime_of (get_or w 0 0)) (prime_field_lem _ S.prime) S.large;
      root = root_in (spelling_of (get_or w 0 0)) (prime_of (get_or w 0 0)) (prime_field_lem _ S.prime) _ (2 ^ x.a) (root_at _ _ x.a (get_or w 1 0) S x.size x.divides);
      base_root = root_at _ _ x.a (get_or w 1 0) S x.size x.divides;
      chain = sheet_chain (sheet_of ed w) x;
      steps = sheet_steps (sheet_of ed w) x;
    }

-- its levels by number
pub ready_sized : (ed : Edition) (w : List ℕ) (long : sheet_length ed ≤ length w) (passed : sheet_test ed w ≡ accepted) (i : ℕ) → i ≤ rounds_of (sheet_of ed w) →
    Sized (suc (ready ed w long passed).e) (level_of (sheet_of ed w) i)
unfolding ready
ready_sized ed w long passed = sized (sheet_of ed w) (lawful ed w long passed)

-- every limit of the layout is a word's
shift_count_lem : (a : ℕ) (b : Level) → Sized a b → shift_count b ≤ 2 ^ a
unfolding shift_count
shift_count_lem a b r =
    omega (arith, div-le_self b.size b.fold, mul-le-mul_right b.size (pow_pos b.number), one-mul b.size, r.whole)

pub layout_fits : (h : Sheet) → Ready h → All (λ k. limit h.prime k ≤ 4294967296) (layout h)
unfolding limit
layout_fits h r =
    layout_all (λ k. limit h.prime k ≤ 4294967296) (suc r.e) (omega (arith, r.small)) (omega (arith, r.small)) (λ l i e. omega (arith, r.small))
    (λ b s. omega (arith, r.bound, shift_count_lem (suc r.e) b s)) h r.chain r.steps
