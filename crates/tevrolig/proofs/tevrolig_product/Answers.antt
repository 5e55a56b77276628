use Rattle.tevrolig.proofs.Numbered.{element_optional, stored, not_stored}
use Rattle.tevrolig.proofs.tevrolig_product.Goals as goal

pub returns-then-product-eq0 : goal.returns-then-product-eq0
returns-then-product-eq0 c =
    let n = c.of_element-product.ensures in let both = stored element_optional n.number_value c.product.ensures n.word_value c.if-product-eq0.true _ in record { value = both.0; element_after = both.1 }

pub returns-else-product-eq0 : goal.returns-else-product-eq0
returns-else-product-eq0 c = let both = not_stored element_optional c.of_element-product.ensures.number_value c.product.ensures c.if-product-eq0.false _ in record { value = both.0; element_after = both.1 }
