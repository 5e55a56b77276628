use Rattle.numbers.proofs.Written.{word_shown}
use Rattle.numbers.proofs.of_word.Goals as goal

pub returns : goal.returns
returns c =
    let both = word_shown c.args.answer c.word_or.ensures.number_value c.word_or.ensures.word_value in record { number_value = both.0; word_value = both.1 }
