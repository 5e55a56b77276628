-- An element is in a domain exactly if b = c = d = 0 and a is (02, CR 11), over any field.
use Rattle.std.specs.Prelude.{ℕ, ◌+◌, ◌*◌, ◌^◌, ◌≡◌, refl, Bool, true, false, ◌&&◌, ◌||◌}
use Rattle.std.proofs.Math.Path.{sym, ap}
use Rattle.std.proofs.Common.{ap₂, ◌∙◌}
use mathlib.Core.List.{List, [], ◌∷◌, map}
use Rattle.definition.specs.Field.{Field, Quad, embed, quartic}
use Rattle.definition.specs.Lists.{member, range}
use Rattle.definition.specs.Sheet.{Level}
use Rattle.definition.specs.Domain.{point, domain, in_domain}
use Rattle.algebra.specs.Laws.{FieldLaws}
use Rattle.algebra.specs.Quartic.{embed_power}

number_or : (p b c d r : Bool) → ((p && b && c && d) || (b && c && d && r)) ≡ (b && c && d && (p || r))
number_or true true true true r = refl
number_or true true true false r = refl
number_or true true false d r = refl
number_or true false c d r = refl
number_or false b c d r = refl

and_false : (s : Bool) → (s && false) ≡ false
and_false true = refl
and_false false = refl

module _ {A : Type 0} (F : Field A) (L : FieldLaws F) (δ ω : A) where
  open F use {𝟘, equal}

  -- b = c = d = 0
  abbrev pub is_number : Quad A → Bool
  is_number x = equal x.b 𝟘 && equal x.c 𝟘 && equal x.d 𝟘

  number_member : (x : Quad A) (ys : List A) → member (quartic F δ).equal x (map (embed F) ys) ≡ (is_number x && member equal x.a ys)
  unfolding member quartic embed
  number_member x [] = sym (and_false (is_number x))
  number_member x (y ∷ ys) =
      ap (λ (r : Bool). (quartic F δ).equal x (embed F y) || r) (number_member x ys)
      ∙ number_or (equal x.a y) (equal x.b 𝟘) (equal x.c 𝟘) (equal x.d 𝟘) (member equal x.a ys)

  -- points of a domain are those of the first field
  pub point_embed : (l : Level) (j : ℕ) → point (quartic F δ) (embed F ω) l j ≡ embed F (point F ω l j)
  unfolding point
  point_embed l j = embed_power F L δ ω (1 + 2 ^ l.number * j)

  points_embed : (l : Level) (js : List ℕ) → map (point (quartic F δ) (embed F ω) l) js ≡ map (embed F) (map (point F ω l) js)
  points_embed l [] = refl
  points_embed l (j ∷ js) = ap₂ ◌∷◌ (point_embed l j) (points_embed l js)

  pub in_domain_lem : (l : Level) (x : Quad A) → in_domain (quartic F δ) (embed F ω) l x ≡ (is_number x && in_domain F ω l x.a)
  unfolding in_domain domain
  in_domain_lem l x = ap (member (quartic F δ).equal x) (points_embed l (range 0 l.size)) ∙ number_member x (map (point F ω l) (range 0 l.size))
