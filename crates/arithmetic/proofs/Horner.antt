-- One turn of Horner's rule, with the words that the calls in the loop give. Assumes nothing.
use Prim.Native.Nat.{ℕ, ◌-◌, ◌≤◌, ◌<◌}
use mathlib.Core.Path.{◌≡◌}
use mathlib.Core.List.{List}
use lib.ListN.{length, drop, get_or}
use lib.Seq.{drop-length}
use Rattle.definition.specs.Field.{Field}
use Rattle.definition.specs.Polynomial.{evaluate}
use Rattle.algebra.specs.Evaluation.{evaluate_cons}
use Rattle.list_laws.specs.Backwards.{drop_back}

module _ {A : Type 0} (F : Field A) where
  infixl 65 ◌⊕◌
  infixl 70 ◌⊗◌
  open F use {𝟘, ◌⊕◌, ◌⊗◌}

  pub evaluate_end : (f : List A) (x : A) → 𝟘 ≡ evaluate F (drop (length f) f) x
  unfolding evaluate
  evaluate_end f x = rw drop-length

  pub evaluate_turn : (f : List A) (i : ℕ) (x : A) {a r : A} → 0 < i → i ≤ length f → a ≡ evaluate F (drop i f) x →
      r ≡ get_or f (i - 1) 𝟘 ⊕ x ⊗ a → r ≡ evaluate F (drop (i - 1) f) x
  evaluate_turn f i x h l ea er = cc (drop_back f 𝟘 i h l, evaluate_cons F (get_or f (i - 1) 𝟘) (drop i f) x)
