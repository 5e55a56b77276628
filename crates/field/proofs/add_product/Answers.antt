use Prim.Native.Nat.{◌*◌}
use mathlib.Core.Path.{sym, ◌∙◌}
use native.Mathlib.Nat.{add-mod-mod}
use borrow.Author.Rules.{rules}
use Rattle.definition.specs.Field.{prime_of, prime_field, field_of}
use Rattle.field.proofs.Modular.{product_fits, product_and_one_fits}
use Rattle.field.proofs.add_product.Goals as goal

-- `field::add_product` meets its contract. Assumes nothing.
pub overflow_mul-b : goal.overflow_mul-b
overflow_mul-b c = record { fits = product_fits 32 (search rules) (search rules) }

pub overflow_add-a : goal.overflow_add-a
overflow_add-a c = record { fits = product_and_one_fits 32 (search rules) (search rules) (search rules) }

pub returns : goal.returns
unfolding field_of prime_field
returns c =
    let a = c.args in
    c.reduce.ensures ∙ sym (add-mod-mod a.a (a.b * a.c) (prime_of a.field))
