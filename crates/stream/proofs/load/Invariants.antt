use Prim.Native.Nat.{ℕ, ◌-◌, ◌*◌, ◌/◌, ◌≤◌, min}
use mathlib.Core.Path.{◌≡◌}
use mathlib.Core.List.{List}
use lib.ListN.{length, take, drop}
use Rattle.definition.specs.Lists.{first_true}
use Rattle.definition.specs.Block.{file_blocks, stream_of, wrong_checks}
use Rattle.stream.proofs.load.Given as goal

-- `stream::load` meets its contract. The loop's invariant: the search for a wrong check goes on at block b, and the words of the blocks before it are stored.
-- the search for a wrong check goes on at block b
unfoldable pub Searching : List ℕ → ℕ → Type 0
Searching file b = first_true b (wrong_checks b (drop b (file_blocks file))) ≡ first_true 0 (wrong_checks 0 (file_blocks file))

-- the words of the blocks before block b, up to so many of them
unfoldable pub Holding : List ℕ → ℕ → ℕ → List ℕ → Type 0
Holding file most b words = take (127 * min b most) words ≡ take (127 * min b most) (stream_of file)

abbrev pub invariant-loop-b : goal.invariant-loop-b
invariant-loop-b l = Searching l.file l.b × Holding l.file l.most l.b l.words
