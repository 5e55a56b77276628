use native.Mathlib.Omega.{arith}
use Prim.Native.Nat.{ℕ, ◌/◌, ◌%◌, ◌<◌}
use mathlib.Core.Path.{subst}
use mathlib.Core.List.{[], ◌∷◌}
use Rattle.registers.specs.Meaning.{device_of}
use Rattle.device_words.specs.Words.{first_words}
use Rattle.device_words.proofs.first_words.Goals as goal

pub returns : goal.returns
unfolding first_words device_of
returns c =
    let p = c.place-place.ensures in
    let a = c.args.d in record {
      value = λ i.
          c.kind-named.ensures i ∷ c.number-number.ensures i ∷ p i % 4294967296 ∷ p i / 4294967296 % 4294967296 ∷
          c.bit-enable.ensures i ∷ c.bit-flag.ensures i ∷ a.taken % 4294967296 ∷ a.treated % 4294967296 ∷ [];
      d_bound = subst (λ (n : ℕ). n < 18446744073709551616) p (omega (arith, c.place-place.type_inv));
    }
