-- WHAT THE BUILDER ANSWERS AND LEAVES (02, CR 13): a file's own refusal; then 11; or done, with the opening file in front of what the output held.
use Rattle.std.specs.Prelude.{ℕ, ◌*◌, ◌≤◌, ◌<◌, List, ◌++◌, ◌≡◌, length, drop}
use borrow.Author.Tests.{le-ltb, lt-ltb}
use Rattle.definition.specs.Block.{block_count, file_of, stream_of}
use Rattle.definition.specs.Convert.{convert}
use Rattle.definition.specs.Prove.{done, finish, output_test, refusal}
use Rattle.definition.specs.Verdict.{accepted, refused, refuse_if, ◌then◌}
use Rattle.definition.specs.Verify.{verify}
use Rattle.openings.specs.Openings.{build_openings, built_stream}

module _ (bytes output : List ℕ) where
  pub build_refused : (n q : ℕ) → (verify bytes).outcome ≡ refused n q → build_openings bytes output ≡ record { answer = refusal n q; output = output }
  unfolding build_openings convert finish ◌then◌
  build_refused n q e = rw e

  abbrev blocks : ℕ
  blocks = block_count (length (built_stream (stream_of bytes)))

  pub build_short : (verify bytes).outcome ≡ accepted → length output < 512 * blocks → build_openings bytes output ≡ record { answer = refusal 11 blocks; output = output }
  unfolding build_openings convert finish ◌then◌ output_test refuse_if
  build_short e l = rw (e, lt-ltb (length output) (512 * blocks) l)

  pub build_done : (verify bytes).outcome ≡ accepted → 512 * blocks ≤ length output
      → build_openings bytes output ≡ record { answer = done blocks; output = file_of (built_stream (stream_of bytes)) ++ drop (length (file_of (built_stream (stream_of bytes)))) output }
  unfolding build_openings convert finish ◌then◌ output_test refuse_if
  build_done e l = rw (e, le-ltb (length output) (512 * blocks) l)
