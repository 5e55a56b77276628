-- The tests of a batch one after the other: those of numbers, then 5 and 6; and what is left. Assumes nothing.
use Prim.Native.Nat.{ℕ, ◌+◌, ◌-◌, ◌*◌, ◌/◌, ◌≤◌, ◌<◌, min}
use native.Mathlib.Nat.{zero-add}
use native.Mathlib.Omega.{arith}
use mathlib.Core.Bool.{Bool, not}
use mathlib.Core.List.{List, ◌++◌, map, zip_with}
use mathlib.Core.Option.{none, some}
use mathlib.Core.Path.{◌≡◌, refl, sym, ap, ◌∙◌, subst}
use lib.Dec.{eqb, leb}
use lib.ListN.{length, get_or, take, drop, length-drop, length-map}
use lib.Seq.{length-take-le, take_all, take_at}
use Rattle.batch_definition.specs.Batch.{batch_reading, batch_test, batch_tests, batch_words}
use Rattle.batches.specs.Batched.{higher, higher_by}
use Rattle.batches.specs.BodyTests.{batch_body, plain_body}
use Rattle.batches.proofs.PlainStream.{first_moved, moved}
use Rattle.completeness.proofs.Answers.{Refuses, at_refuses, then_refuses}
use Rattle.definition.specs.Block.{stream_of}
use Rattle.definition.specs.Field.{prime_of}
use Rattle.definition.specs.Layout.{layout, words_due}
use Rattle.definition.specs.Lists.{first_true}
use Rattle.definition.specs.Reading.{blocks_test, body_tests, check_test, fill_test, length_test, out_of_range, range_test, sheet_test}
use Rattle.definition.specs.Sheet.{edition1, sheet_of}
use Rattle.definition.specs.Verdict.{Outcome, accepted, refuse_at, refused, ◌then◌}
use Rattle.layouts.specs.Tests.{then_passes}
use Rattle.list_laws.specs.Lists.{part_length_lem, zip_short}
use Rattle.outcome.specs.declared.Outcome.{Outcome as Answered}
use Rattle.outcome.specs.declared.Outcome.TheVariants.{Accepted, Refused}
use Rattle.outcome.specs.Meaning.{outcome_of}
use Rattle.reading.specs.Stages.{Loads}
use Rattle.batch_reading.specs.Stages.{BodyRead, ReadBatch, Ruled, StreamRead, number_tests}
use Rattle.batch_reading.proofs.NumberLaws.{few_blocks, numbers_front, ruled}
use Rattle.batch_reading.proofs.PlainLaws.{never}

-- ---- words that are to be below p, from a number on

found_small : (bs : List Bool) {q : ℕ} → some q ≡ first_true 0 bs → q < length bs
unfolding refuse_at
found_small bs {q} e = subst (Refuses (λ n p. p < length bs)) (ap (refuse_at 5) (sym e)) (at_refuses (λ n p. p < length bs) 5 0 bs (λ j l. omega arith))

module _ (w : List ℕ) (from to : ℕ) where
  abbrev tests : List Bool
  tests = map (leb (prime_of (get_or w 0 0))) (take (to - from) (drop from w))

  pub place_inside : {q : ℕ} → from ≤ to → to ≤ length w → some q ≡ first_true 0 (map (leb (prime_of (get_or w 0 0))) (take (to - from) (drop from w))) → q + from < to
  place_inside some_words there e =
      omega (arith, found_small tests e, length-map (take (to - from) (drop from w)) (leb (prime_of (get_or w 0 0))), part_length_lem from (to - from) w (omega arith))

  pub range_at : {q : ℕ} → some q ≡ first_true 0 (map (leb (prime_of (get_or w 0 0))) (take (to - from) (drop from w))) → some (q + from) ≡ first_true from (map (leb (prime_of (get_or w 0 0))) (take (to - from) (drop from w)))
  unfolding moved
  range_at e = ap (moved from) e ∙ sym (first_moved 0 from tests) ∙ ap (λ (n : ℕ). first_true n tests) (zero-add from)

  pub range_none : none ≡ first_true 0 (map (leb (prime_of (get_or w 0 0))) (take (to - from) (drop from w))) → none ≡ first_true from (map (leb (prime_of (get_or w 0 0))) (take (to - from) (drop from w)))
  unfolding moved
  range_none e = ap (moved from) e ∙ sym (first_moved 0 from tests) ∙ ap (λ (n : ℕ). first_true n tests) (zero-add from)

-- ---- 5 and 6 of the plain stream, at higher numbers

module _ (v : List ℕ) (shift : ℕ) where
  -- a refusal's place is a word's number
  places : Refuses (λ n q. q < length v) (plain_body v)
  unfolding plain_body range_test fill_test
  places =
      let h = sheet_of edition1 v in
      let due = words_due edition1 h in
      then_refuses (λ n q. q < length v) (range_test h 12 (layout h) v) (fill_test due v)
      (at_refuses (λ n q. q < length v) 5 12 (zip_with (out_of_range h) (layout h) (drop 12 v)) (λ j l. omega (arith, l, zip_short (out_of_range h) (layout h) (drop 12 v), length-drop 12 v)))
      (at_refuses (λ n q. q < length v) 6 due (map (λ x. not (eqb x 0)) (drop due v)) (λ j l. omega (arith, l, length-map (drop due v) (λ x. not (eqb x 0)), length-drop due v)))

  module _ (r : Answered) (told : outcome_of r ≡ (range_test (sheet_of edition1 v) 12 (layout (sheet_of edition1 v)) v then fill_test (words_due edition1 (sheet_of edition1 v)) v)) where
    same : outcome_of r ≡ plain_body v
    unfolding plain_body
    same = told

    pub place_small : {n q : ℕ} → r ≡ Refused n q → q < length v
    unfolding outcome_of
    place_small h = subst (Refuses (λ n q. q < length v)) (sym same ∙ ap outcome_of h) places

    pub refused_higher : {n q : ℕ} → r ≡ Refused n q → refused n (q + shift) ≡ higher shift (plain_body v)
    unfolding outcome_of higher
    refused_higher h = ap (higher shift) (sym (ap outcome_of h) ∙ same)

    pub accepted_higher : r ≡ Accepted → accepted ≡ higher shift (plain_body v)
    unfolding outcome_of higher
    accepted_higher h = ap (higher shift) (sym (ap outcome_of h) ∙ same)

-- ---- all tests of a stream

pub told_passes : {r : Answered} {o : Outcome} → outcome_of r ≡ o → r ≡ Accepted → o ≡ accepted
unfolding outcome_of
told_passes e h = sym e ∙ ap outcome_of h

joined : (a b c d : Outcome) → ((a then b then c) then d) ≡ (a then b then c then d)
unfolding ◌then◌
joined accepted accepted c d = refl
joined accepted (refused n q) c d = refl
joined (refused n q) b c d = refl

module _ (blocks : ℕ) (w : List ℕ) where
  numbers_first : (number_tests blocks w then batch_body w) ≡ batch_tests blocks w
  unfolding number_tests batch_body batch_tests body_tests batch_words
  numbers_first = joined (sheet_test edition1 w) (batch_test (sheet_of edition1 w) (get_or w 12 0) (drop 13 w)) (blocks_test (batch_words (sheet_of edition1 w) (get_or w 12 0)) blocks) _

-- the words w of a stream in so many blocks, at least one, and what is loaded of them
module _ {words : List ℕ} {blocks : ℕ} {w : List ℕ} (one : 1 ≤ blocks) (enough : 127 ≤ length words) (loads : Loads 99 words blocks w) where
  numbers_are : number_tests blocks words ≡ number_tests blocks w
  numbers_are =
      sym (numbers_front blocks 127 words (omega arith) enough) ∙ ap (number_tests blocks) (loads.front 1 one (omega arith)) ∙ numbers_front blocks 127 w (omega arith) (omega (arith, loads.size))

  pub numbers_refused : {r : Answered} {n q : ℕ} {left : List ℕ} → outcome_of r ≡ number_tests blocks words → r ≡ Refused n q → StreamRead blocks w (Refused n q) left
  unfolding outcome_of ◌then◌
  numbers_refused {r} {n} {q} {left} told h = record { outcome = is; stream = λ e. absurd (never (is ∙ e)) }
    where
      is : refused n q ≡ batch_tests blocks w
      is = ap (λ (o : Outcome). o then batch_body w) (sym (ap outcome_of h) ∙ told ∙ numbers_are) ∙ numbers_first blocks w

  module _ (passed : number_tests blocks words ≡ accepted) where
    words_are : take (127 * blocks) words ≡ w
    words_are = loads.front blocks (omega arith) (few_blocks blocks words passed (omega arith)) ∙ take_all (127 * blocks) w (omega (arith, loads.size))

    pub body_passed : {r : Answered} {left : List ℕ} → length left ≡ 127 * blocks → BodyRead (take (127 * blocks) words) r left → StreamRead blocks w r (left ++ drop (127 * blocks) words)
    unfolding ◌then◌
    body_passed {r} {left} size read = record {
      outcome = before.outcome ∙ ap (λ (o : Outcome). o then batch_body w) (sym passed ∙ numbers_are) ∙ numbers_first blocks w;
      stream = λ e.
          ap (drop (higher_by (sheet_of edition1 w) (get_or w 12 0))) (take_at left (drop (127 * blocks) words) (127 * blocks) size)
          ∙ before.stream (then_passes (number_tests blocks w) (batch_body w) (numbers_first blocks w ∙ e)).1;
    }
      where
        before : BodyRead w r left
        before = subst (λ (v : List ℕ). BodyRead v r left) words_are read

-- so many blocks are there
pub blocks_there : (words : List ℕ) (blocks : ℕ) → 127 * min blocks 100 ≤ length words → 1 ≤ blocks → number_tests blocks words ≡ accepted → 127 * blocks ≤ length words
blocks_there words blocks room one passed = omega (arith, few_blocks blocks words passed (omega arith))

pub body_ruled : (words : List ℕ) (blocks : ℕ) → 127 * blocks ≤ length words → 1 ≤ blocks → number_tests blocks words ≡ accepted → Ruled (take (127 * blocks) words)
body_ruled words blocks there one passed =
    ruled blocks (take (127 * blocks) words) (numbers_front blocks (127 * blocks) words (omega arith) there ∙ passed) (length-take-le (127 * blocks) words there)

-- ---- the file

pub read_refused : (file words : List ℕ) {n p : ℕ} → refused n p ≡ batch_reading file → ReadBatch file (Refused n p) words
unfolding outcome_of
read_refused file words e = record { outcome = e; stream = λ h. absurd (never (e ∙ h)) }

pub read_stream : (file words : List ℕ) {r : Answered} → StreamRead (length file / 512) (stream_of file) r words → outcome_of r ≡ batch_reading file → ReadBatch file r words
unfolding batch_reading
read_stream file words read e = record {
  outcome = e;
  stream = λ h. read.stream (then_passes (check_test file) _ (then_passes (length_test file) _ h).1).1;
}
