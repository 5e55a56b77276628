-- Verify in two steps (02, CR 7): reading alone, and deciding of files that pass reading and of files that fail it, by computation.
use Rattle.std.specs.Prelude.{◌≡◌, refl, set}
use Rattle.definition.specs.Block.{file_of}
use Rattle.definition.specs.EditionCases.{stream2}
use Rattle.definition.specs.Reading.{reading}
use Rattle.definition.specs.Sheet.{edition1, edition2}
use Rattle.definition.specs.Verdict.{accepted, refused}
use Rattle.definition.specs.Verify.{decide_file}
use Rattle.definition.specs.WorkedTranscript.{file, stream, accept, refuse, definitions}

pub record StepCases : Type 0 where
  -- reading stops before 7: it accepts what deciding refuses
  pub read : reading edition1 file ≡ accepted
  pub read_before_seven : reading edition1 (file_of (set stream 37 3)) ≡ accepted
  pub read_refused : reading edition1 (set file 508 254) ≡ refused 2 0
  pub decided : decide_file edition1 file ≡ accept 4
  pub decided_seven : decide_file edition1 (file_of (set stream 37 3)) ≡ refuse 7 37 0
  -- a file that fails reading gets reading's refusal, with no reads
  pub decided_unread : decide_file edition1 (set file 508 254) ≡ refuse 2 0 0
  pub decided_of_edition_2 : decide_file edition2 (file_of stream2) ≡ accept 4
  pub decided_of_the_other : decide_file edition2 file ≡ refuse 3 12 0

pub step_cases : StepCases
unfolding definitions
step_cases = record {
  read = refl;
  read_before_seven = refl;
  read_refused = refl;
  decided = refl;
  decided_seven = refl;
  decided_unread = refl;
  decided_of_edition_2 = refl;
  decided_of_the_other = refl;
}
