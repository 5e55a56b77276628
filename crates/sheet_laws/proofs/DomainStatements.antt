-- THE PAGE ON THE DOMAINS OF A SHEET, which goes on from Statements.antt. It holds theorems and nothing else; each proof is one citation.
-- To read it: the definition (crate `definition`), and the vocabulary DomainPoints.antt, with Levels.antt of the crate `layouts` and Numbered.antt of the crate
-- `completeness` beneath it. All theorems are of both editions and of the four fields, of one word and of four.
use Rattle.std.specs.Prelude.{ℕ, ◌^◌, ◌≤◌, ◌<◌, true, List, ◌↔◌, ◌≡◌, length}
use Rattle.definition.specs.Domain.{in_domain}
use Rattle.definition.specs.Field.{Element, number_in, power}
use Rattle.definition.specs.Reading.{sheet_test}
use Rattle.definition.specs.Sheet.{Edition, Sheet, sheet_length, sheet_of}
use Rattle.definition.specs.Verdict.{accepted}
use Rattle.layouts.specs.Levels.{level_of, rounds_of, sheet_field, sheet_root}
use Rattle.sheet_laws.specs.DomainPoints.{PointOf, RootOfOne}
use Rattle.sheet_laws.proofs.SheetDomains

-- 2. THE DOMAINS AS SETS (document 01: "Domain 0 is the whole subgroup; domain 1 is 000's ω·<ω²>"), of every sheet h without a fault, also in front of a stream.
module _ (ed : Edition) (w : List ℕ) (long : sheet_length ed ≤ length w) (sheet : sheet_test ed w ≡ accepted) where
  abbrev h : Sheet
  h = sheet_of ed w

  infixl 70 ◌⊗◌
  open sheet_field h use {◌⊗◌}

  -- The points of domain 0 are exactly the n0-th roots of 1 in the sheet's field: no root is missing, in field 3 among all elements of four words,
  pub domain_0_whole : (x : Element h.spelling) → RootOfOne h x ↔ PointOf h 0 x
  domain_0_whole = SheetDomains.whole_exactly ed w long sheet

  -- and each of these is a number of the prime field: in field 3 b = c = d = 0 (document 02, CR 11: "Domains keep their points in field 2").
  pub roots_are_numbers : (x : Element h.spelling) → RootOfOne h x → (a : ℕ) × (a < h.prime) × (x ≡ number_in h.spelling a)
  roots_are_numbers = SheetDomains.roots_numbers ed w long sheet

  -- They are the powers of ω.
  pub domain_0_powers : (x : Element h.spelling) → PointOf h 0 x ↔ ((j : ℕ) × (x ≡ power (sheet_field h) (sheet_root h) j))
  domain_0_powers = SheetDomains.powers_exactly ed w long sheet

  -- The points of domain 1 are exactly ω times the powers of ω²,
  pub domain_1_coset : 1 ≤ rounds_of h → (x : Element h.spelling) → PointOf h 1 x ↔ ((j : ℕ) × (x ≡ sheet_root h ⊗ power (sheet_field h) (power (sheet_field h) (sheet_root h) 2) j))
  domain_1_coset = SheetDomains.coset_exactly ed w long sheet 1

  -- and those of domain i ω times the powers of ω^(2^i).
  pub domain_coset : (i : ℕ) → i ≤ rounds_of h → (x : Element h.spelling) →
      PointOf h i x ↔ ((j : ℕ) × (x ≡ sheet_root h ⊗ power (sheet_field h) (power (sheet_field h) (sheet_root h) (2 ^ i)) j))
  domain_coset = SheetDomains.coset_exactly ed w long sheet

-- The definition's test finds just the points of a domain, on every sheet.
pub tested_points : (ed : Edition) (w : List ℕ) (i : ℕ) (x : Element (sheet_of ed w).spelling) →
    (in_domain (sheet_field (sheet_of ed w)) (sheet_root (sheet_of ed w)) (level_of (sheet_of ed w) i) x ≡ true) ↔ PointOf (sheet_of ed w) i x
tested_points = SheetDomains.tested_exactly
