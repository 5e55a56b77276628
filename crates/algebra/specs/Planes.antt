-- At a point of the first field a polynomial over a + bX + cX² + dX³ is four polynomials over the first field: so a table of it is four tables, and tables
-- need no code of their own.
use Rattle.std.specs.Prelude.{ℕ, ◌≡◌}
use Rattle.std.proofs.Math.Path.{refl, ap}
use Rattle.std.proofs.Common.{◌∙◌}
use mathlib.Core.List.{List, [], ◌∷◌, map}
use Rattle.definition.specs.Field.{Field, Quad, embed, quartic}
use Rattle.definition.specs.Lists.{range}
use Rattle.definition.specs.Polynomial.{evaluate}
use Rattle.definition.specs.Sheet.{Level}
use Rattle.definition.specs.Domain.{point, domain}
use Rattle.definition.specs.Prover.{table_of}
use Rattle.algebra.specs.Laws.{FieldLaws}
use Rattle.algebra.specs.Quartic.{embed_scale}
use Rattle.algebra.specs.InDomain.{point_embed}

module _ {A : Type 0} (F : Field A) (L : FieldLaws F) (δ : A) where
  -- the values of the four polynomials at x
  abbrev pub planes : List (Quad A) → A → Quad A
  planes f x = record {
    a = evaluate F (map (λ q. q.a) f) x;
    b = evaluate F (map (λ q. q.b) f) x;
    c = evaluate F (map (λ q. q.c) f) x;
    d = evaluate F (map (λ q. q.d) f) x;
  }

  pub evaluate_planes : (f : List (Quad A)) (x : A) → evaluate (quartic F δ) f (embed F x) ≡ planes f x
  unfolding evaluate quartic embed
  evaluate_planes [] x = refl
  evaluate_planes (q ∷ f) x =
      ap (λ v. (quartic F δ).◌⊕◌ q ((quartic F δ).◌⊗◌ (embed F x) v)) (evaluate_planes f x)
      ∙ ap (λ v. (quartic F δ).◌⊕◌ q v) (embed_scale F L δ x (planes f x))

  -- a table over a domain
  pub table_planes : (ω : A) (l : Level) (f : List (Quad A)) → table_of (quartic F δ) (embed F ω) l f ≡ map (planes f) (domain F ω l)
  unfolding table_of domain
  table_planes ω l f = go (range 0 l.size)
    where
      go : (js : List ℕ) → map (evaluate (quartic F δ) f) (map (point (quartic F δ) (embed F ω) l) js) ≡ map (planes f) (map (point F ω l) js)
      go [] = refl
      go (j ∷ js) = λ i. (ap (evaluate (quartic F δ) f) (point_embed F L δ ω l j) ∙ evaluate_planes f (point F ω l j)) i ∷ go js i
