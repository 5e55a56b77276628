use mathlib.Core.Path.{refl, ap, sym, ◌∙◌}
use Prim.Native.Nat.{ℕ}
use native.Mathlib.Omega.{arith}
use mathlib.Core.List.{List, ◌++◌}
use lib.ListN.{length, drop}
use lib.Seq.{length-take-le}
use Rattle.definition.specs.Block.{block_count, file_of}
use Rattle.list_laws.specs.LentParts.{begun_long, front_stays}
use Rattle.edition.specs.Meaning.{edition_of}
use Rattle.outcome.specs.Meaning.{answer_of}
use Rattle.prove.proofs.Stages.{Streamed, streamed}
use Rattle.prove.proofs.write.Goals as goal

pub slice_bounds-stream-end-2 : goal.slice_bounds-stream-end-2
slice_bounds-stream-end-2 c =
    let a = c.args in
    sym (length-take-le a.due a.words.now c.requires.due_value.1.0)

pub stream-requires : goal.stream-requires
stream-requires c =
    let a = c.args in record { allowed = c.requires.allowed; out_len = length-take-le a.due a.words.now c.requires.due_value.1.0 ∙ c.requires.due_value.0 }

pub write_file-requires : goal.write_file-requires
write_file-requires c =
    let a = c.args in
    let p = c.stream in
    (omega (arith, c.requires.due_value.1.0, begun_long a.words.now p.new.out a.due c.requires.due_value.1.0 p.auto.out), c.requires.due_value.1.1)

pub returns : goal.returns
unfolding answer_of block_count
returns c =
    let a = c.args in
    let p = c.stream in
    let h = streamed p.ensures in
    let q : Streamed (edition_of a.e) a.sheet.now a.coefficients.now a.coins.now _ = h in
    let e = front_stays a.words.now p.new.out a.due c.requires.due_value.1.0 p.auto.out ∙ q.are in record { result_value = refl; output_after = c.write_file.ensures ∙ ap (λ (v : List ℕ). file_of v ++ drop (length (file_of v)) a.output.now) e }
