-- The fold by halves in place: one turn's walk over the pairs, and the turns. Assumes nothing.
use Prim.Native.Nat.{ℕ, zero, suc, ◌+◌, ◌*◌, ◌/◌, ◌^◌, ◌≤◌, ◌<◌}
use mathlib.Core.Path.{◌≡◌, ◌∙◌, ap, sym, subst}
use mathlib.Core.List.{List}
use native.Mathlib.Nat.{pow-suc, pow-zero}
use native.Mathlib.Omega.{arith}
use lib.ListN.{length, get_or, set}
use lib.Pow.{pow_pos}
use Rattle.definition.specs.Field.{Field}
use Rattle.list_laws.specs.Filled.{FilledOver, filled_next}
use Rattle.folds.specs.Halving.{joined, halving}
use Rattle.folds.specs.HalvingLaw.{halving_same}

-- ---- two values joined

pub joined_by : {A : Type 0} (F : Field A) (half r y v w : A) {sum difference factor both out : A} → sum ≡ F.◌⊕◌ v w → difference ≡ F.◌⊖◌ v w → factor ≡ F.◌⊗◌ r y →
    both ≡ F.◌⊕◌ sum (F.◌⊗◌ factor difference) → out ≡ F.◌⊗◌ half both → out ≡ joined F half r y v w
unfolding joined
joined_by F half r y v w es ed ef eb eo = cc

-- ---- one turn: the place i becomes the pair i and h + i, joined

module _ {A : Type 0} (F : Field A) (half r : A) (inverse_power : ℕ → A) (h : ℕ) (old : List A) where
  open F use {𝟘}

  abbrev pub pairs : ℕ → A
  pairs i = joined F half r (inverse_power i) (get_or old i 𝟘) (get_or old (h + i) 𝟘)

  pub turned_pair : (i : ℕ) (now : List A) {new : List A} {y a b v : A} → i < h → h ≤ length old → FilledOver 𝟘 pairs old now i → y ≡ inverse_power i →
      a ≡ get_or now i 𝟘 → b ≡ get_or now (h + i) 𝟘 → v ≡ joined F half r y a b → new ≡ set now i v → FilledOver 𝟘 pairs old new (i + 1)
  turned_pair i now below room t ey ea eb ev en =
      subst (λ (z : List A). FilledOver 𝟘 pairs old z (i + 1)) (sym en)
      (filled_next pairs old now i t (omega arith)
      (ev ∙ (λ j. joined F half r (ey j) (ea j) (eb j)) ∙ (λ j. joined F half r (inverse_power i) (t.left i (omega arith) j) (t.left (h + i) (omega arith) j))))

-- ---- the turns: what is left to fold has the value of the whole

module _ {A : Type 0} (F : Field A) (half : A) (inverse_power : ℕ → A) (whole : A) where
  open F use {𝟘}

  pub record Left (count e d : ℕ) (r : A) (values : List A) : Type 0 where
    pub log : ℕ
    pub two : count ≡ 2 ^ log
    pub same : halving F half inverse_power log e d r (λ m. get_or values m 𝟘) ≡ whole

  pub left_next : {count e d : ℕ} {r : A} {values values' : List A} {r' : A} → 1 < count → Left count e d r values →
      ((m : ℕ) → m < count / 2 → get_or values' m 𝟘 ≡ joined F half r (inverse_power (e + m * d)) (get_or values m 𝟘) (get_or values (count / 2 + m) 𝟘)) →
      r' ≡ F.◌⊗◌ r r → Left (count / 2) (2 * e) (2 * d) r' values'
  unfolding halving
  left_next {count} {e} {d} {r} {values} {values'} {r'} many given turned er = go given.log given.two given.same
    where
      go : (a : ℕ) → count ≡ 2 ^ a → halving F half inverse_power a e d r (λ m. get_or values m 𝟘) ≡ whole → Left (count / 2) (2 * e) (2 * d) r' values'
      go zero two same = absurd (omega (arith, pow-zero 2))
      go (suc a) two same =
          let h : count / 2 ≡ 2 ^ a = omega (arith, pow-suc 2 a) in
          record {
            log = a;
            two = h;
            same =
                ap (λ (s : A). halving F half inverse_power a (2 * e) (2 * d) s (λ m. get_or values' m 𝟘)) er
                ∙ halving_same F half inverse_power a (2 * e) (2 * d) (F.◌⊗◌ r r) (λ m. get_or values' m 𝟘)
                (λ m. joined F half r (inverse_power (e + m * d)) (get_or values m 𝟘) (get_or values (2 ^ a + m) 𝟘))
                (λ m l. turned m (omega arith) ∙ (λ i. joined F half r (inverse_power (e + m * d)) (get_or values m 𝟘) (get_or values (h i + m) 𝟘)))
                ∙ same;
          }

  pub left_last : {count e d : ℕ} {r : A} {values : List A} → count ≤ 1 → Left count e d r values → get_or values 0 𝟘 ≡ whole
  unfolding halving
  left_last {count} {e} {d} {r} {values} few given = go given.log given.two given.same
    where
      go : (a : ℕ) → count ≡ 2 ^ a → halving F half inverse_power a e d r (λ m. get_or values m 𝟘) ≡ whole → get_or values 0 𝟘 ≡ whole
      go zero two same = same
      go (suc a) two same = absurd (omega (arith, pow-suc 2 a, pow_pos a))
