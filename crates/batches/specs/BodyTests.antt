-- TESTS 5 AND 6 OF A BATCH AS FUNCTIONS OF ITS WORDS, and those of its plain stream. It holds no lemma and no proof.
use Rattle.std.specs.Prelude.{ℕ, ◌+◌, ◌*◌, List, drop, get_or, leb, map, take}
use Rattle.std.proofs.Math.Option.{Option}
use Rattle.batch_definition.specs.Batch.{batch_layout, batch_start, batch_words}
use Rattle.definition.specs.Layout.{layout, words_due}
use Rattle.definition.specs.Lists.{first_true}
use Rattle.definition.specs.Reading.{fill_test, range_test}
use Rattle.definition.specs.Sheet.{edition1, sheet_of}
use Rattle.definition.specs.Verdict.{Outcome, ◌then◌}
use Rattle.layouts.specs.Levels.{words_for}

-- the first word of a batch's tables and of r that is not below p
unfoldable pub tables_test : List ℕ → Option ℕ
tables_test w =
    let h = sheet_of edition1 w in
    let count = get_or w 12 0 in
    first_true (batch_start count) (map (leb h.prime) (take (words_for h (count * h.size) + words_for h 1) (drop (batch_start count) w)))

-- 5 and 6 of a batch's words, and of a plain stream's
unfoldable pub batch_body : List ℕ → Outcome
batch_body w =
    let h = sheet_of edition1 w in
    range_test h (batch_start (get_or w 12 0)) (batch_layout h (get_or w 12 0)) w then fill_test (batch_words h (get_or w 12 0)) w

unfoldable pub plain_body : List ℕ → Outcome
plain_body v =
    let h = sheet_of edition1 v in
    range_test h 12 (layout h) v then fill_test (words_due edition1 h) v
