-- The converter between the editions (02, CR 5): a converted file passes reading, gets the verdict of the original, and converts back to its bytes, both ways.
use Rattle.std.specs.Prelude.{ℕ, zero, suc, ◌+◌, ◌≤◌, ◌<◌, Bool, true, false, not, cond, ◌||◌, ◌≡◌, refl, eqb, get_or, drop, replicate}
use Rattle.std.proofs.Common.{arith, ◌∙◌, subst, length-take, take-append-drop, get_or-take, length-take-le, take_at, take-take, eq-eqb, ne_eqb}
use mathlib.Core.List.{List, [], ◌∷◌, ◌++◌, map, zip_with, append-nil}
use Rattle.std.proofs.Math.Option.{Option, none, some}
use Rattle.std.proofs.Math.Path.{sym, ap}
use Rattle.std.proofs.Math.ListN.{length, take, length-append}
use Rattle.std.proofs.Math.Seq.{take-length}
use Rattle.definition.specs.Block.{file_of, stream_of}
use Rattle.definition.specs.Convert.{backward, body_of, folds_test, forward, spread}
use Rattle.definition.specs.Deciding.{counted, decide, out_in_domain, repeated_outs}
use Rattle.definition.specs.Field.{begun_by}
use Rattle.definition.specs.Layout.{layout, read_transcript, words_due}
use Rattle.definition.specs.Lists.{first_true}
use Rattle.definition.specs.Reading.{reading, sheet_test}
use Rattle.definition.specs.Sheet.{Edition, Sheet, edition1, edition2, first_level, fold_places, fold_words, sheet_length, sheet_of}
use Rattle.definition.specs.Verdict.{Outcome, Verdict, ◌then◌, accepted, refuse_at, refused, then_verdict}
use Rattle.definition.specs.Verify.{verify_in}
use Rattle.list_laws.specs.All.{All}
use Rattle.list_laws.specs.Lists.{take_replicate}
use Rattle.layouts.specs.Passed.{passed}
use Rattle.layouts.specs.Levels.{sheet_field, sheet_root}
use Rattle.layouts.proofs.SheetLevels.{rules_back, sheet_front}
use Rattle.layouts.specs.SheetRules.{rounds_most}
use Rattle.layouts.specs.Tests.{at_none, none_true}
use Rattle.completeness.proofs.Answers.{Refuses, at_refuses, then_refuses}
use Rattle.completeness.specs.Carried.{body_long, carried_body, carried_front, carried_reads, carried_sheet, carried_verdict, decided_from, file_is, front_long, verdict_is}
use Rattle.completeness.specs.DecidedByNumber.{decided}
use Rattle.completeness.specs.Faults.{six_higher}
use Rattle.completeness.proofs.SameVerdict.{ordered}
use Rattle.completeness.specs.Spread.{cut_passes, cut_sheet, spread_count, spread_cut, spread_passes, spread_sheet}

-- the folding numbers of edition 1 are equal
all_same : (k n : ℕ) → All (λ (b : Bool). b ≡ false) (map (λ (x : ℕ). not (eqb x k)) (replicate n k))
all_same k zero = tt
all_same k (suc n) = (ap not (eq-eqb k k refl), all_same k n)

same_folds : (w : List ℕ) → sheet_test edition1 w ≡ accepted → folds_test (sheet_of edition1 w) ≡ accepted
unfolding folds_test sheet_of fold_words fold_places
same_folds w passes =
    let m = get_or w 4 0 in
    let k = get_or w 3 0 in
    at_none 13 _ (subst (λ (l : List ℕ). first_true 0 (map (λ (x : ℕ). not (eqb x (get_or l 0 0))) l) ≡ none) (sym (take_replicate (suc m) 6 k (omega (arith, rounds_most edition1 w passes))))
    (none_true 0 _ (all_same k (suc m))))

-- a spread sheet begins with its words
spread_begins : (v : List ℕ) → length v ≡ 12 → take 12 (spread v) ≡ v
unfolding spread
spread_begins v long =
    let whole : take 12 v ≡ v = ap (λ (n : ℕ). take n v) (sym long) ∙ take-length v in
    take_at (take 12 v) _ 12 (ap length whole ∙ long) ∙ whole

-- a place six words on
six_on : Option ℕ → Option ℕ
six_on none = none
six_on (some p) = some (6 + p)

first_six : (n : ℕ) (bs : List Bool) → first_true (6 + n) bs ≡ six_on (first_true n bs)
unfolding first_true six_on
first_six n [] = refl
first_six n (true ∷ bs) = refl
first_six n (false ∷ bs) = let e : suc (6 + n) ≡ 6 + suc n = omega arith in ap (λ (m : ℕ). first_true m bs) e ∙ first_six (suc n) bs

-- a verdict with the outcome of a converted file
abbrev pub converted : Verdict → Verdict
converted v = record { outcome = six_higher v.outcome; reads = v.reads }

-- refusals that are no 7 and no 14 stay
abbrev Stays : ℕ → ℕ → Type 0
Stays n q = (n ≡ 7 → ⊥) × (n ≡ 14 → ⊥)

place_kept : (n x q : ℕ) (b : Bool) → b ≡ false → refused n (cond b x q) ≡ refused n q
place_kept n x q b e = ap (λ (c : Bool). refused n (cond c x q)) e

unmoved : (o : Outcome) → Refuses Stays o → six_higher o ≡ o
unfolding six_higher
unmoved accepted h = refl
unmoved (refused n q) h = place_kept n _ q (eqb n 7 || eqb n 14) (λ i. ne_eqb n 7 h.0 i || ne_eqb n 14 h.1 i)

moved_tests : (a b : Option ℕ) (v : Verdict) → Refuses Stays v.outcome → then_verdict (refuse_at 7 (six_on a) then refuse_at 14 (six_on b)) v ≡ converted (then_verdict (refuse_at 7 a then refuse_at 14 b) v)
unfolding then_verdict refuse_at ◌then◌ six_on six_higher
moved_tests (some p) b v h = refl
moved_tests none (some p) v h = refl
moved_tests none none v h = λ i. record { outcome = sym (unmoved v.outcome h) i; reads = v.reads }

-- the verdicts on the same words from 12 and from 18 on
module _ (a : Edition) (bytes : List ℕ) (read : reading a bytes ≡ accepted) where
  abbrev h : Sheet
  h = sheet_of a (stream_of bytes)

  abbrev words : List ℕ
  words = drop (sheet_length a) (stream_of bytes)

  decide_later : Refuses Stays (decide (sheet_field h) (sheet_root h) (first_level h) (read_transcript h.spelling h words)).outcome
  decide_later =
      let Q = Stays in
      subst (Refuses Q) (sym (decided a h (stream_of bytes) (ordered a bytes read).long))
      (then_refuses Q _ _ (at_refuses Q 8 1 _ (λ j l. (λ e. omega (arith, e), λ e. omega (arith, e)))) (at_refuses Q 9 0 _ (λ j l. (λ e. omega (arith, e), λ e. omega (arith, e)))))

  pub higher : decided_from (sheet_of a (stream_of bytes)) (drop (sheet_length a) (stream_of bytes)) 18 ≡ converted (decided_from (sheet_of a (stream_of bytes)) (drop (sheet_length a) (stream_of bytes)) 12)
  unfolding decided_from counted
  higher =
      let begun = begun_by h.spelling words in
      let zs = zip_with (out_in_domain h.spelling h) (layout h) begun in
      let v = counted (decide (sheet_field h) (sheet_root h) (first_level h) (read_transcript h.spelling h words)) in
      let rs = repeated_outs (sheet_field h) none (layout h) begun in
      (λ i. then_verdict (refuse_at 7 (first_six 12 zs i) then refuse_at 14 (first_six 12 rs i)) v) ∙ moved_tests (first_true 12 zs) (first_true 12 rs) v decide_later

-- spreading looks at 12 words
pub spread_words : (w : List ℕ) → spread w ≡ spread (take 12 w)
unfolding spread
spread_words w =
    let a : take 12 (take 12 w) ≡ take 12 w = take-take 12 12 w (omega arith) in
    let m : get_or (take 12 w) 4 0 ≡ get_or w 4 0 = get_or-take 12 w 4 0 (omega arith) in
    let k : get_or (take 12 w) 3 0 ≡ get_or w 3 0 = get_or-take 12 w 3 0 (omega arith) in
    λ i. sym a i ++ (take 5 (replicate (sym m i) (sym k i) ++ replicate 5 0) ++ (2 ∷ []))

-- FROM EDITION 1 TO EDITION 2
module _ (bytes : List ℕ) (read : reading edition1 bytes ≡ accepted) where
  abbrev s : List ℕ
  s = stream_of bytes

  abbrev v : List ℕ
  v = take 12 (stream_of bytes)

  v_long : length v ≡ 12
  v_long = front_long edition1 bytes read

  v_passes : sheet_test edition1 v ≡ accepted
  v_passes = rules_back edition1 v v_long (drop 12 s) (ap (sheet_test edition1) (take-append-drop 12 s) ∙ (passed edition1 bytes read).sheet)

  v_sheet : sheet_of edition1 v ≡ sheet_of edition1 s
  v_sheet = sym (sheet_front edition1 v v_long v_passes (drop 12 s)) ∙ ap (sheet_of edition1) (take-append-drop 12 s)

  few : get_or v 4 0 ≤ 5
  few = rounds_most edition1 v v_passes

  long_2 : length (spread v) ≡ 18
  long_2 = spread_count v v_long few

  passes_2 : sheet_test edition2 (spread v) ≡ accepted
  passes_2 = ap (sheet_test edition2) (sym (append-nil (spread v))) ∙ spread_passes v v_long few [] v_passes

  sheet_2 : sheet_of edition2 (spread v) ≡ sheet_of edition1 s
  sheet_2 = ap (sheet_of edition2) (sym (append-nil (spread v))) ∙ spread_sheet v v_long few [] ∙ v_sheet

  forward_is : forward s ≡ spread v ++ body_of edition1 s
  unfolding forward
  forward_is = ap (λ (t : List ℕ). t ++ body_of edition1 s) (spread_words s)

  -- the converted file passes reading,
  pub forward_reads : reading edition2 (file_of (forward (stream_of bytes))) ≡ accepted
  forward_reads = ap (λ (t : List ℕ). reading edition2 (file_of t)) forward_is ∙ carried_reads edition1 bytes read edition2 (spread v) long_2 passes_2 sheet_2

  -- gets the verdict of the original, with the word number of a 7 or a 14 six higher,
  pub forward_verdict : verify_in edition2 (file_of (forward (stream_of bytes))) ≡ converted (verify_in edition1 bytes)
  forward_verdict =
      ap (λ (t : List ℕ). verify_in edition2 (file_of t)) forward_is ∙ carried_verdict edition1 bytes read edition2 (spread v) long_2 passes_2 sheet_2
      ∙ higher edition1 bytes read ∙ ap converted (sym (verdict_is edition1 bytes read))

  -- has a sheet that says the same, and the same words after it,
  pub forward_sheet : sheet_of edition2 (stream_of (file_of (forward (stream_of bytes)))) ≡ sheet_of edition1 (stream_of bytes)
  forward_sheet = ap (λ (t : List ℕ). sheet_of edition2 (stream_of (file_of t))) forward_is ∙ carried_sheet edition1 bytes read edition2 (spread v) long_2 passes_2 sheet_2

  pub forward_body : body_of edition2 (stream_of (file_of (forward (stream_of bytes)))) ≡ body_of edition1 (stream_of bytes)
  forward_body = ap (λ (t : List ℕ). body_of edition2 (stream_of (file_of t))) forward_is ∙ carried_body edition1 bytes read edition2 (spread v) long_2 passes_2 sheet_2

  -- has as many words as edition 2 makes due,
  pub forward_length : length (forward (stream_of bytes)) ≡ words_due edition2 (sheet_of edition1 (stream_of bytes))
  unfolding words_due
  forward_length = ap length forward_is ∙ length-append (spread v) (body_of edition1 s) ∙ (λ i. long_2 i + body_long edition1 bytes read i)

  -- equal folding numbers,
  pub forward_folds : folds_test (sheet_of edition2 (stream_of (file_of (forward (stream_of bytes))))) ≡ accepted
  forward_folds = ap folds_test forward_sheet ∙ same_folds s (passed edition1 bytes read).sheet

  -- and back it is the original.
  pub forward_back : All (λ x. x < 256) bytes → file_of (backward (stream_of (file_of (forward (stream_of bytes))))) ≡ bytes
  unfolding backward
  forward_back small =
      let file = file_of (spread v ++ body_of edition1 s) in
      let front : take 12 (stream_of file) ≡ v = sym (take-take 12 18 (stream_of file) (omega arith)) ∙ ap (take 12) (carried_front edition1 bytes read edition2 (spread v) long_2 passes_2 sheet_2) ∙ spread_begins v v_long in
      ap (λ (t : List ℕ). file_of (backward (stream_of (file_of t)))) forward_is
      ∙ (λ i. file_of (front i ++ carried_body edition1 bytes read edition2 (spread v) long_2 passes_2 sheet_2 i)) ∙ file_is edition1 bytes read small

-- FROM EDITION 2 TO EDITION 1
module _ (bytes : List ℕ) (read : reading edition2 bytes ≡ accepted) (equal : folds_test (sheet_of edition2 (stream_of bytes)) ≡ accepted) where
  abbrev s₂ : List ℕ
  s₂ = stream_of bytes

  abbrev v₁ : List ℕ
  v₁ = take 12 (stream_of bytes)

  enough : 18 ≤ length s₂
  enough = omega (arith, front_long edition2 bytes read, length-take 18 s₂)

  long_1 : length v₁ ≡ 12
  long_1 = length-take-le 12 s₂ (omega (arith, enough))

  passes_1 : sheet_test edition1 v₁ ≡ accepted
  passes_1 = cut_passes s₂ enough (passed edition2 bytes read).sheet equal

  sheet_1 : sheet_of edition1 v₁ ≡ sheet_of edition2 s₂
  sheet_1 = cut_sheet s₂ enough (passed edition2 bytes read).sheet equal

  pub backward_reads : reading edition1 (file_of (backward (stream_of bytes))) ≡ accepted
  unfolding backward
  backward_reads = carried_reads edition2 bytes read edition1 v₁ long_1 passes_1 sheet_1

  pub backward_verdict : verify_in edition2 bytes ≡ converted (verify_in edition1 (file_of (backward (stream_of bytes))))
  unfolding backward
  backward_verdict =
      verdict_is edition2 bytes read ∙ higher edition2 bytes read ∙ ap converted (sym (carried_verdict edition2 bytes read edition1 v₁ long_1 passes_1 sheet_1))

  pub backward_sheet : sheet_of edition1 (stream_of (file_of (backward (stream_of bytes)))) ≡ sheet_of edition2 (stream_of bytes)
  unfolding backward
  backward_sheet = carried_sheet edition2 bytes read edition1 v₁ long_1 passes_1 sheet_1

  pub backward_body : body_of edition1 (stream_of (file_of (backward (stream_of bytes)))) ≡ body_of edition2 (stream_of bytes)
  unfolding backward
  backward_body = carried_body edition2 bytes read edition1 v₁ long_1 passes_1 sheet_1

  pub backward_length : length (backward (stream_of bytes)) ≡ words_due edition1 (sheet_of edition2 (stream_of bytes))
  unfolding backward words_due
  backward_length = length-append v₁ (body_of edition2 s₂) ∙ (λ i. long_1 i + body_long edition2 bytes read i)

  pub backward_forward : All (λ x. x < 256) bytes → file_of (forward (stream_of (file_of (backward (stream_of bytes))))) ≡ bytes
  unfolding backward forward
  backward_forward small =
      let file = file_of (v₁ ++ body_of edition2 s₂) in
      let front : spread (stream_of file) ≡ take 18 s₂ = spread_words (stream_of file) ∙ ap spread (carried_front edition2 bytes read edition1 v₁ long_1 passes_1 sheet_1)
      ∙ spread_cut s₂ enough (passed edition2 bytes read).sheet equal in
      (λ i. file_of (front i ++ carried_body edition2 bytes read edition1 v₁ long_1 passes_1 sheet_1 i)) ∙ file_is edition2 bytes read small
