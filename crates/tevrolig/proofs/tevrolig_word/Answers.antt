use Rattle.tevrolig.proofs.Numbered.{word_optional, stored, not_stored}
use Rattle.tevrolig.proofs.tevrolig_word.Goals as goal

pub returns-then-shown-eq0 : goal.returns-then-shown-eq0
returns-then-shown-eq0 c =
    let n = c.of_word-shown.ensures in let both = stored word_optional n.number_value c.word_in.ensures n.word_value c.if-shown-eq0.true _ in record { value = both.0; word_after = both.1 }

pub returns-else-shown-eq0 : goal.returns-else-shown-eq0
returns-else-shown-eq0 c = let both = not_stored word_optional c.of_word-shown.ensures.number_value c.word_in.ensures c.if-shown-eq0.false _ in record { value = both.0; word_after = both.1 }
