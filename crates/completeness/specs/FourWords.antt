-- Elements of four words (02, CR 11): the field of every sheet is a field, and an out coin is in a domain exactly if b = c = d = 0 and a is.
use Rattle.std.specs.Prelude.{ℕ, true, ◌&&◌, List, ◌↔◌, ◌≡◌, get_or}
use Rattle.std.proofs.Math.Path.{refl}
use Rattle.std.proofs.Common.{sym, ◌∙◌}
use Rattle.definition.specs.Domain.{in_domain}
use Rattle.definition.specs.Field.{Quad, embed, field_in, four, number_in, one, prime_field, prime_of}
use Rattle.definition.specs.Sheet.{Edition, Level, root_of_unity, sheet_of}
use Rattle.list_laws.specs.Booleans.{and_true}
use Rattle.algebra.specs.InDomain
use Rattle.algebra.specs.Laws.{FieldLaws}
use Rattle.algebra.specs.PrimeField.{prime_field_lem, suited}
use Rattle.completeness.specs.TestsByNumber.{equal_same}

-- the prime field under a sheet's field
base_of : (ed : Edition) (w : List ℕ) → FieldLaws (prime_field (sheet_of ed w).prime)
unfolding sheet_of
base_of ed w = prime_field_lem (prime_of (get_or w 0 0)) (suited (get_or w 0 0)).prime

module _ (ed : Edition) (w : List ℕ) where
  abbrev p : ℕ
  p = (sheet_of ed w).prime

  abbrev ω : ℕ
  ω = root_of_unity (sheet_of ed w)

  number_is : number_in four ω ≡ embed (prime_field p) ω
  unfolding number_in embed prime_field
  number_is = refl

  inside_is : (l : Level) (x : Quad ℕ) → in_domain (field_in four p) (number_in four ω) l x ≡ (InDomain.is_number (prime_field p) (base_of ed w) 11 ω x && in_domain (field_in one p) (number_in one ω) l x.a)
  unfolding field_in number_in embed prime_field
  inside_is l x = InDomain.in_domain_lem (prime_field p) (base_of ed w) 11 ω l x

  pub inside_exactly : (l : Level) (x : Quad ℕ) → (in_domain (field_in four (sheet_of ed w).prime) (number_in four (root_of_unity (sheet_of ed w))) l x ≡ true)
      ↔ ((x.b ≡ 0) × (x.c ≡ 0) × (x.d ≡ 0) × (in_domain (field_in one (sheet_of ed w).prime) (number_in one (root_of_unity (sheet_of ed w))) l x.a ≡ true))
  unfolding prime_field
  inside_exactly l x = (
    λ e. let F = prime_field p in
        let L = base_of ed w in
        let parts = and_true (InDomain.is_number F L 11 ω x) _ (sym (inside_is l x) ∙ e) in
        let d = and_true (F.equal x.b 0 && F.equal x.c 0) _ parts.0 in
        let c = and_true (F.equal x.b 0) _ d.0 in
        (L.equal_true _ _ c.0, L.equal_true _ _ c.1, L.equal_true _ _ d.1, parts.1),
    λ r. let F = prime_field p in
        let L = base_of ed w in
        inside_is l x ∙ (λ i. equal_same F L x.b 0 r.0 i && equal_same F L x.c 0 r.1 i && equal_same F L x.d 0 r.2 i && r.3 i),
  )
