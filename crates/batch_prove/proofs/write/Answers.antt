use Prim.Native.Nat.{ℕ}
use native.Mathlib.Omega.{arith}
use mathlib.Core.List.{List, ◌++◌}
use mathlib.Core.Path.{refl, ap, sym, ◌∙◌}
use lib.ListN.{length, drop}
use lib.Seq.{length-take-le}
use Rattle.definition.specs.Block.{block_count, file_of}
use Rattle.list_laws.specs.LentParts.{begun_long, front_stays}
use Rattle.outcome.specs.Meaning.{answer_of}
use Rattle.batch_prove.proofs.write.Goals as goal

pub slice_bounds-stream_words-end-2 : goal.slice_bounds-stream_words-end-2
slice_bounds-stream_words-end-2 c =
    let a = c.args in
    sym (length-take-le a.due a.words.now c.requires.due_value.1.0)

pub stream_words-requires : goal.stream_words-requires
stream_words-requires c =
    let a = c.args in record { allowed_batch = c.requires.allowed_batch; out_len = length-take-le a.due a.words.now c.requires.due_value.1.0 ∙ c.requires.due_value.0 }

pub write_file-requires : goal.write_file-requires
write_file-requires c =
    let a = c.args in
    let p = c.stream_words in
    (omega (arith, c.requires.due_value.1.0, begun_long a.words.now p.new.out a.due c.requires.due_value.1.0 p.auto.out), c.requires.due_value.1.1)

pub returns : goal.returns
unfolding answer_of block_count
returns c =
    let a = c.args in
    let p = c.stream_words in
    let e = front_stays a.words.now p.new.out a.due c.requires.due_value.1.0 p.auto.out ∙ p.ensures in record { result_value = refl; output_after = c.write_file.ensures ∙ ap (λ (v : List ℕ). file_of v ++ drop (length (file_of v)) a.output.now) e }
