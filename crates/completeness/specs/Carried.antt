-- The words of a file after its sheet, carried under a sheet of either edition that says the same: the new file passes reading, holds these words, and is decided as
-- the old one is, but for the number of the first word after the sheet.
use Rattle.std.specs.Prelude.{ℕ, ◌+◌, ◌-◌, ◌*◌, ◌/◌, ◌≤◌, ◌<◌, ◌≡◌, refl}
use Rattle.std.proofs.Common.{arith, ◌∙◌, subst, take-append-drop, drop_at, take-add}
use mathlib.Core.List.{List, [], ◌∷◌, ◌++◌, zip_with, append-nil}
use Rattle.std.proofs.Math.Option.{none}
use Rattle.std.proofs.Math.Path.{sym, ap}
use Rattle.std.proofs.Math.ListN.{length, take, drop, replicate, length-append, length-drop}
use Rattle.std.proofs.Math.Seq.{length-take-le, take-append-le, take_at, take-take}
use Rattle.definition.specs.Block.{block_count, file_of, stream_of}
use Rattle.definition.specs.Convert.{body_of}
use Rattle.definition.specs.Deciding.{counted, decide, deciding, equal_test, out_in_domain, out_test, out_tests, repeated_outs}
use Rattle.definition.specs.Field.{begun_by, number_in}
use Rattle.definition.specs.Layout.{layout, read_transcript, words_due}
use Rattle.definition.specs.Lists.{first_true}
use Rattle.definition.specs.Reading.{out_of_range, range_test, reading, sheet_test}
use Rattle.definition.specs.Sheet.{Edition, Sheet, first_level, sheet_length, sheet_of}
use Rattle.definition.specs.Verdict.{Outcome, Verdict, ◌then◌, accepted, refuse_at, then_verdict}
use Rattle.definition.specs.Verify.{verify_in}
use Rattle.list_laws.specs.All.{All}
use Rattle.layouts.specs.EachWord.{Each, InRange, each_false}
use Rattle.layouts.specs.FileTrip.{fill_count, filled}
use Rattle.layouts.specs.FileWords.{stream_length}
use Rattle.layouts.specs.Levels.{sheet_field, sheet_root}
use Rattle.layouts.specs.Passed.{Passed, passed}
use Rattle.layouts.proofs.SheetLevels.{sheet_front}
use Rattle.layouts.specs.Spellings.{begun_length}
use Rattle.layouts.specs.Tests.{at_passes}
use Rattle.layouts.specs.WholeCoins.{layout_whole}
use Rattle.completeness.specs.EqualOuts.{repeated_same}
use Rattle.completeness.specs.FileBack.{file_back}
use Rattle.completeness.specs.FileRead.{file_reads, stream_is}
use Rattle.completeness.specs.FrontOfStream.{begun_front, inside_front, transcript_front, zip_front}

-- the verdict on words after a sheet h, where the first of them has number n
unfoldable pub decided_from : Sheet → List ℕ → ℕ → Verdict
decided_from h words n =
    let begun = begun_by h.spelling words in
    then_verdict (refuse_at 7 (first_true n (zip_with (out_in_domain h.spelling h) (layout h) begun)) then refuse_at 14 (first_true n (repeated_outs (sheet_field h) none (layout h) begun)))
    (counted (decide (sheet_field h) (sheet_root h) (first_level h) (read_transcript h.spelling h words)))

pub verdict_is : (a : Edition) (bytes : List ℕ) → reading a bytes ≡ accepted → verify_in a bytes ≡ decided_from (sheet_of a (stream_of bytes)) (drop (sheet_length a) (stream_of bytes)) (sheet_length a)
unfolding verify_in deciding out_tests out_test equal_test decided_from then_verdict
verdict_is a bytes read = ap (λ (o : Outcome). then_verdict o (deciding a (stream_of bytes))) read

zero_list : (xs : List ℕ) → All (λ x. x ≡ 0) xs → xs ≡ replicate (length xs) 0
zero_list [] h = refl
zero_list (x ∷ xs) h = λ i. h.0 i ∷ zero_list xs h.1 i

module _ (a : Edition) (bytes : List ℕ) (read : reading a bytes ≡ accepted) where
  abbrev s : List ℕ
  s = stream_of bytes

  abbrev h : Sheet
  h = sheet_of a (stream_of bytes)

  abbrev n : ℕ
  n = sheet_length a

  abbrev body : List ℕ
  body = body_of a (stream_of bytes)

  ok : Passed a bytes
  ok = passed a bytes read

  enough : n + length (layout h) ≤ length s
  unfolding words_due
  enough = ok.due

  pub front_long : length (take (sheet_length a) (stream_of bytes)) ≡ sheet_length a
  front_long = length-take-le n s (omega (arith, enough))

  pub body_long : length (body_of a (stream_of bytes)) ≡ length (layout (sheet_of a (stream_of bytes)))
  unfolding body_of
  body_long = length-take-le (length (layout h)) (drop n s) (omega (arith, enough, length-drop n s))

  -- the words of the body are in range
  body_inside : Each (InRange h) (layout h) body
  unfolding range_test body_of
  body_inside =
      each_false (out_of_range h) n (layout h) body body_long
      (ap (λ (l : List ℕ). first_true n (zip_with (out_of_range h) (layout h) l)) (sym (append-nil body))
      ∙ ap (first_true n) (zip_front (out_of_range h) (layout h) (drop n s) [] (omega (arith, enough, length-drop n s))) ∙ at_passes 5 _ ok.range)

  -- sheet and body are the words due
  due_words : take n s ++ body ≡ take (words_due a h) s
  unfolding body_of words_due
  due_words = sym (take-add n (length (layout h)) s)

  -- the file is that of its sheet and its body
  pub file_is : All (λ x. x < 256) bytes → file_of (take (sheet_length a) (stream_of bytes) ++ body_of a (stream_of bytes)) ≡ bytes
  unfolding filled fill_count
  file_is small =
      let u = take n s ++ body in
      let m : length u ≡ words_due a h = ap length due_words ∙ length-take-le (words_due a h) s ok.due in
      let size : length bytes ≡ 512 * (length bytes / 512) = omega (arith, ok.whole) in
      let z : drop (words_due a h) s ≡ replicate (127 * block_count (length u) - length u) 0 =
      zero_list _ ok.zeros ∙ ap (λ (i : ℕ). replicate {A = ℕ} i 0) (length-drop (words_due a h) s ∙ (λ i. (stream_length bytes ∙ ap (λ (x : ℕ). 127 * x) (ok.blocks ∙ ap block_count (sym m))) i - sym m i)) in
      file_back bytes (length bytes / 512) size small ok.right u
      (sym (take-append-drop (words_due a h) s) ∙ (λ i. sym due_words i ++ z i)) (ap block_count m ∙ sym ok.blocks)

  module _ (b : Edition) (v : List ℕ) (long : length v ≡ sheet_length b) (passes : sheet_test b v ≡ accepted) (same : sheet_of b v ≡ sheet_of a (stream_of bytes)) where
    abbrev file : List ℕ
    file = file_of (v ++ body_of a (stream_of bytes))

    abbrev fill : List ℕ
    fill = replicate (fill_count (v ++ body_of a (stream_of bytes))) 0

    inside : Each (InRange (sheet_of b v)) (layout (sheet_of b v)) body
    inside = subst (λ (g : Sheet). Each (InRange g) (layout g) body) (sym same) body_inside

    pub carried_reads : reading b (file_of (v ++ body_of a (stream_of bytes))) ≡ accepted
    carried_reads = file_reads b v body long passes inside

    carried_stream : stream_of file ≡ v ++ (body ++ fill)
    carried_stream = stream_is b v body long passes inside

    pub carried_sheet : sheet_of b (stream_of (file_of (v ++ body_of a (stream_of bytes)))) ≡ sheet_of a (stream_of bytes)
    carried_sheet = ap (sheet_of b) carried_stream ∙ sheet_front b v long passes (body ++ fill) ∙ same

    pub carried_front : take (sheet_length b) (stream_of (file_of (v ++ body_of a (stream_of bytes)))) ≡ v
    carried_front = ap (take (sheet_length b)) carried_stream ∙ take_at v (body ++ fill) (sheet_length b) long

    carried_words : drop (sheet_length b) (stream_of file) ≡ body ++ fill
    carried_words = ap (drop (sheet_length b)) carried_stream ∙ drop_at v (body ++ fill) (sheet_length b) long

    pub carried_body : body_of b (stream_of (file_of (v ++ body_of a (stream_of bytes)))) ≡ body_of a (stream_of bytes)
    unfolding body_of
    carried_body = (λ i. take (length (layout (carried_sheet i))) (carried_words i)) ∙ take_at body fill (length (layout h)) body_long

    -- the verdict on the new file is that on the same words, from another number on
    pub carried_verdict : verify_in b (file_of (v ++ body_of a (stream_of bytes))) ≡ decided_from (sheet_of a (stream_of bytes)) (drop (sheet_length a) (stream_of bytes)) (sheet_length b)
    unfolding decided_from body_of
    carried_verdict =
        let xs = drop n s in
        let σ = h.spelling in
        let F = sheet_field h in
        let us = begun_by σ (body ++ fill) in
        let vs = begun_by σ xs in
        let front : take (length (layout h)) (body ++ fill) ≡ take (length (layout h)) xs =
        take-append-le (length (layout h)) body fill (omega (arith, body_long)) ∙ take-take (length (layout h)) (length (layout h)) xs (omega arith) in
        let lu : length (layout h) ≤ length (body ++ fill) = omega (arith, body_long, length-append body fill) in
        let lv : length (layout h) ≤ length xs = omega (arith, enough, length-drop n s) in
        let ku : length (layout h) ≤ length us = omega (arith, lu, begun_length σ (body ++ fill)) in
        let kv : length (layout h) ≤ length vs = omega (arith, lv, begun_length σ xs) in
        let same-outs = begun_front σ (layout h) (body ++ fill) xs (layout_whole h) lu lv front in
        let zs : zip_with (out_in_domain σ h) (layout h) us ≡ zip_with (out_in_domain σ h) (layout h) vs = inside_front σ h (number_in σ 0) (layout h) us vs ku kv same-outs in
        let rs : repeated_outs F none (layout h) us ≡ repeated_outs F none (layout h) vs = repeated_same F (number_in σ 0) none (layout h) us vs ku kv same-outs in
        let ts : read_transcript σ h (body ++ fill) ≡ read_transcript σ h xs = transcript_front h (body ++ fill) xs front in
        verdict_is b file carried_reads ∙ (λ i. decided_from (carried_sheet i) (carried_words i) (sheet_length b))
        ∙ (λ i. then_verdict (refuse_at 7 (first_true (sheet_length b) (zs i)) then refuse_at 14 (first_true (sheet_length b) (rs i))) (counted (decide F (sheet_root h) (first_level h) (ts i))))
