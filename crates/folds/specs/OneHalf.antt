-- Half of 1 in a field.
use Rattle.std.specs.Prelude.{◌≡◌}
use Rattle.std.proofs.Common.{◌∙◌, sym}
use Rattle.std.proofs.Math.Option.{some}
use Rattle.definition.specs.Field.{Field, reciprocal}
use Rattle.algebra.specs.Laws.{FieldLaws}
use Rattle.algebra.specs.Divisors.{Nonzero}
use Rattle.algebra.specs.RootsOfUnity.{minus_one}
use Rattle.polynomial.specs.Inverses.{found_is}
use Rattle.algebra.specs.Solver.{:0, :1, ◌:+◌, :-◌, ◌:=◌, given, solve₁}

module _ {A : Type 0} (F : Field A) where
  infixl 65 ◌⊕◌
  infixl 70 ◌⊗◌
  open F use {𝟙, ◌⊕◌, ◌⊗◌, inverse}

  -- 2 and 1/2
  unfoldable pub two : A
  two = 𝟙 ⊕ 𝟙

  unfoldable pub half_of : A
  half_of = reciprocal F two

  module _ (L : FieldLaws F) (signs : minus_one F ≡ 𝟙 → ⊥) where
    open L use {reduce_add, mul_inverse}

    -- 2 differs from 0 where -1 differs from 1, and twice 1/2 is 1
    pub two_nonzero : Nonzero F L two
    unfolding two minus_one
    two_nonzero z = signs (solve₁ F L (λ x. given (:1 :+ :1) :0 (:- :1) (:- :1 := :1)) tt 𝟙 (sym (reduce_add 𝟙 𝟙) ∙ z))

    pub half_is : {u : A} → some u ≡ inverse two → u ≡ half_of
    unfolding half_of
    half_is e = found_is F L two two_nonzero e

    pub two_halves : (𝟙 ⊕ 𝟙) ⊗ half_of ≡ 𝟙
    unfolding two half_of
    two_halves = mul_inverse two two_nonzero
