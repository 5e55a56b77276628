-- The answer and the output of `sheet_of`, case by case. Assumes nothing.
use Prim.Native.Nat.{ℕ, ◌+◌, ◌≤◌, ◌<◌}
use native.Mathlib.Omega.{arith}
use mathlib.Core.Path.{◌≡◌, refl, ap, ◌∙◌}
use mathlib.Core.List.{List, ◌++◌}
use lib.ListN.{length, take, drop}
use borrow.Author.Tests.{le-ltb, lt-ltb}
use Rattle.definition.specs.Block.{stream_of}
use Rattle.definition.specs.Prove.{Answer, done, refusal, finish, output_test}
use Rattle.definition.specs.Verdict.{refuse_if, ◌then◌}
use Rattle.list_laws.specs.Overwriting.{overwrite}
use Rattle.reader.specs.Words.{sheet_words}

module _ (file output : List ℕ) where
  abbrev pub Answers : Answer → List ℕ → Type 0
  Answers a o = (a ≡ (sheet_words file output).answer) × (o ≡ (sheet_words file output).output)

  pub no_block : length file < 512 → Answers (refusal 1 0) output
  unfolding sheet_words finish refuse_if ◌then◌
  no_block h = rw (lt-ltb (length file) 512 h) (refl, refl)

  pub no_room : 512 ≤ length file → length output < 12 → Answers (refusal 11 12) output
  unfolding sheet_words finish refuse_if ◌then◌ output_test
  no_room h l = rw (le-ltb (length file) 512 h, lt-ltb (length output) 12 l) (refl, refl)

  pub placed : 512 ≤ length file → 12 ≤ length output → {o : List ℕ} → o ≡ overwrite output 0 (take 12 (stream_of file)) → Answers (done 12) o
  unfolding sheet_words finish refuse_if ◌then◌ output_test overwrite
  placed h l {o} e =
      let x = take 12 (stream_of file) in
      let n : 0 + length x ≡ length x = omega arith in
      rw (le-ltb (length file) 512 h, le-ltb (length output) 12 l) (refl, e ∙ ap (λ (k : ℕ). x ++ drop k output) n)
