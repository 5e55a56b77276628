-- The sheet of a stream is that of its first words, as many as a sheet has, and so is what refusal 3 says of it.
use Rattle.std.specs.Prelude.{ℕ, ◌≤◌, List, ◌≡◌, length, take, drop}
use Rattle.std.proofs.Common.{sym, ap, ◌∙◌, take-append-drop, length-take-le}
use Rattle.layouts.proofs.SheetLevels
use Rattle.layouts.proofs.SheetLevels.{rules_same}
use Rattle.definition.specs.Reading.{sheet_test}
use Rattle.definition.specs.Sheet.{Edition, sheet_length, sheet_of}
use Rattle.definition.specs.Verdict.{accepted}

module _ (ed : Edition) (w : List ℕ) (long : sheet_length ed ≤ length w) where
  pub test_front : sheet_test ed (take (sheet_length ed) w) ≡ sheet_test ed w
  test_front = sym (rules_same ed (take (sheet_length ed) w) (length-take-le (sheet_length ed) w long) (drop (sheet_length ed) w)) ∙ ap (sheet_test ed) (take-append-drop (sheet_length ed) w)

  pub sheet_front : sheet_test ed w ≡ accepted → sheet_of ed (take (sheet_length ed) w) ≡ sheet_of ed w
  sheet_front passed =
      sym (SheetLevels.sheet_front ed (take (sheet_length ed) w) (length-take-le (sheet_length ed) w long) (test_front ∙ passed) (drop (sheet_length ed) w))
      ∙ ap (sheet_of ed) (take-append-drop (sheet_length ed) w)
