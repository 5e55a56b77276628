use Prim.Native.Nat.{◌*◌, ◌/◌}
use native.Mathlib.Omega.{arith}
use mathlib.Core.Path.{sym}
use lib.ListN.{length}
use lib.Seq.{length-take-le}
use Rattle.list_laws.specs.Zeros.{length_zeros}
use Rattle.outcome.specs.Meaning.{outcome_of, verdict_of}
use Rattle.batch_verify.proofs.ReadLaws.{few, left, passes, refused_is}
use Rattle.batch_verify.proofs.verify_batch.Goals as goal

pub returns-in-Refused : goal.returns-in-Refused
unfolding verdict_of outcome_of
returns-in-Refused c =
    refused_is c.args.file.now c.read-read.ensures c.in-Refused.is

pub slice_bounds-words-end : goal.slice_bounds-words-end
slice_bounds-words-end c =
    let f = c.args.file.now in
    omega (arith, few f c.read-read.ensures c.in_default.is, c.read-read.auto.words, length_zeros 12700)

pub slice_bounds-judged_file-end : goal.slice_bounds-judged_file-end
slice_bounds-judged_file-end c =
    let f = c.args.file.now in
    sym (length-take-le (127 * (length f / 512)) c.read-read.new.words (omega (arith, few f c.read-read.ensures c.in_default.is, c.read-read.auto.words, length_zeros 12700)))

pub judged_file-requires : goal.judged_file-requires
judged_file-requires c =
    let f = c.args.file.now in
    let told = c.in_default.is in record { file_value = passes f c.read-read.ensures told; words_value = left f c.read-read.ensures told }
