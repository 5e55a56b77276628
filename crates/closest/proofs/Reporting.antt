-- The parts of a report in the places of the output, and what the count says of the definition's answer.
use Prim.Native.Nat.{ℕ, suc, ◌+◌, ◌-◌, ◌/◌, ◌^◌, ◌≤◌, ◌<◌}
use native.Mathlib.Omega.{arith}
use mathlib.Core.Path.{◌≡◌, refl, sym, ap, ap₂, ◌∙◌}
use mathlib.Core.Bool.{Bool, true, false, cond}
use mathlib.Core.List.{List, [], ◌∷◌, ◌++◌, append_assoc}
use lib.ListN.{length, take, drop, set, length-append, length-drop}
use lib.Dec.{leb}
use lib.Seq.{append_snoc, drop_at, drop-cons, drop-drop, length-take-le, set-append_seam}
use borrow.Rule.Slice.PartMut.{put_mid}
use borrow.Author.Tests.{le-leb, lt-leb}
use Rattle.definition.specs.Field.{Element, Field, number_in, spelling_of, words_of}
use Rattle.definition.specs.Sheet.{Level}
use Rattle.definition.specs.Verdict.{accepted, refused}
use Rattle.definition.specs.Prover.{table_of}
use Rattle.definition.specs.Prove.{Result, done, finish, refusal}
use Rattle.nearest_definition.specs.Nearest.{differing_points, near}
use Rattle.list_laws.specs.LentParts.{begun, begun_long, joined, others}
use Rattle.list_laws.specs.Lists.{rest_all}
use Rattle.layouts.specs.Spellings.{words_read}
use Rattle.spelling.specs.ByField.{elements_at, field_at, words_at}
use Rattle.domain.specs.Powers.{Powers}
use Rattle.plane_tables.specs.FourTable.{DomainTableAt}
use Rattle.closest.specs.Report.{conclusion, reported, unlike_at, Concluded}

-- ---- f in the first places, the count c after it, then the numbers ds

module _ (f ds output : List ℕ) (c : ℕ) (room : length f + 1 + length ds ≤ length output) where
  abbrev front : List ℕ
  front = f ++ c ∷ []

  abbrev n : ℕ
  n = length f + 1

  front_length : length front ≡ n
  front_length = length-append f (c ∷ [])

  pub front_is : {x : List ℕ} → x ≡ f → set (x ++ drop (length f) output) (length f) c ≡ begun output (f ++ c ∷ []) (length f + 1)
  front_is e =
      let one : suc (length f) ≡ length f + 1 = omega arith in
      ap (λ (x : List ℕ). set (x ++ drop (length f) output) (length f) c) e
      ∙ ap (λ (r : List ℕ). set (f ++ r) (length f) c) (drop-cons output (length f) 0 (omega arith))
      ∙ set-append_seam f _ (drop (suc (length f)) output) c
      ∙ sym (append_snoc f c _) ∙ ap (λ (m : ℕ). front ++ drop m output) one

  same : length front ≡ length (take n output)
  same = front_length ∙ sym (length-take-le n output (omega arith))

  pub begun_length : {x : List ℕ} → x ≡ f → length (set (x ++ drop (length f) output) (length f) c) ≡ length output
  begun_length e = ap length (front_is e) ∙ begun_long output front n (omega arith) same

  rest_is : others output front n ≡ drop n output
  rest_is = rest_all n (begun output front n) ∙ drop_at front (drop n output) n front_length

  pub rest_room : (l : List ℕ) → l ≡ begun output (f ++ c ∷ []) (length f + 1) → length ds ≤ length (take (length l - (length f + 1)) (drop (length f + 1) l))
  rest_room l e = omega (arith, ap (λ (l : List ℕ). length (take (length l - n) (drop n l))) e, ap length rest_is, length-drop n output)

  pub report_is : (l back : List ℕ) → l ≡ begun output (f ++ c ∷ []) (length f + 1) → back ≡ ds ++ drop (length ds) (take (length l - (length f + 1)) (drop (length f + 1) l)) →
      put_mid (length f + 1) (length l - (length f + 1)) l back ≡ (f ++ c ∷ ds) ++ drop (length f + 1 + length ds) output
  report_is l back e eb =
      ap (λ (l : List ℕ). put_mid n (length l - n) l back) e
      ∙ joined output front n (omega arith) same back refl (eb ∙ ap (λ (l : List ℕ). ds ++ drop (length ds) (take (length l - n) (drop n l))) e ∙ ap (λ (r : List ℕ). ds ++ drop (length ds) r) rest_is)
      ∙ append_snoc f c (ds ++ drop (length ds) (drop n output))
      ∙ ap (λ (r : List ℕ). f ++ c ∷ (ds ++ r)) (drop-drop (length ds) n output)
      ∙ sym (append_assoc f (c ∷ ds) (drop (n + length ds) output))

  pub report_length : (l back : List ℕ) → l ≡ begun output (f ++ c ∷ []) (length f + 1) → back ≡ ds ++ drop (length ds) (take (length l - (length f + 1)) (drop (length f + 1) l)) →
      length (put_mid (length f + 1) (length l - (length f + 1)) l back) ≡ length output
  report_length l back e eb =
      ap length (report_is l back e eb) ∙ length-append (f ++ c ∷ ds) (drop (n + length ds) output) ∙ omega (arith, length-append f (c ∷ ds), length-drop (n + length ds) output)

-- ---- what is answered

module _ (field : ℕ) (pw table f values output : List ℕ) (is : DomainTableAt field f pw 1 (length pw) values) where
  abbrev F : Field (Element (spelling_of field))
  F = field_at field

  abbrev d : ℕ
  d = length (elements_at field f)

  -- the points where f differs from the table, over the domain that pw is the table of
  abbrev wrong : ℕ → Level → List ℕ
  wrong ω l = differing_points F (table_of F (number_in (spelling_of field) ω) l (elements_at field f)) (elements_at field table)

  wrong_is : (ω : ℕ) (l : Level) → Powers field ω pw → 2 ^ l.number ≡ 1 → l.size ≡ length pw → unlike_at field values table ≡ wrong ω l
  wrong_is ω l p scale size = ap (λ (v : List (Element (spelling_of field))). differing_points F v (elements_at field table)) (is ω l p scale size)

  -- too many points are wrong
  pub far : {count : ℕ} → count ≡ length (unlike_at field values table) → (length pw - length (elements_at field f)) / 2 < count → Concluded field pw table f output (refusal 19 0) output
  unfolding conclusion near finish
  far {count} e h ω l p scale size =
      let ds = wrong ω l in
      let words = reported (spelling_of field) F (number_in (spelling_of field) ω) l (elements_at field table) (elements_at field f) in
      let b : leb (length ds) ((l.size - d) / 2) ≡ false = lt-leb (length ds) ((l.size - d) / 2) (omega (arith, e, h, ap length (wrong_is ω l p scale size), ap (λ (m : ℕ). (m - d) / 2) size)) in
      let r = ap (λ (b : Bool). finish (cond b accepted (refused 19 0)) (length words) words output) b in
      (sym (ap (λ (x : Result). x.answer) r), sym (ap (λ (x : Result). x.output) r))

  -- few enough
  pub near_enough : {count size' : ℕ} {after : List ℕ} → length f ≡ words_at field (length (elements_at field f)) → count ≡ length (unlike_at field values table) →
      count ≤ (length pw - length (elements_at field f)) / 2 → size' ≡ length f + 1 + count → after ≡ (f ++ count ∷ unlike_at field values table) ++ drop (length f + 1 + count) output →
      Concluded field pw table f output (done size') after
  unfolding conclusion near finish reported
  near_enough {count} {size'} {after} whole e h es ea ω l p scale size =
      let ds = wrong ω l in
      let w = wrong_is ω l p scale size in
      let coefficients : f ≡ words_of (spelling_of field) (elements_at field f) = sym (words_read (spelling_of field) d f whole) in
      let words = words_of (spelling_of field) (elements_at field f) ++ length ds ∷ ds in
      let b : leb (length ds) ((l.size - d) / 2) ≡ true = le-leb (length ds) ((l.size - d) / 2) (omega (arith, e, h, ap length w, ap (λ (m : ℕ). (m - d) / 2) size)) in
      let r = ap (λ (b : Bool). finish (cond b accepted (refused 19 0)) (length words) words output) b in
      let many : length f + 1 + count ≡ length words =
      omega (arith, length-append (words_of (spelling_of field) (elements_at field f)) (length ds ∷ ds), ap length coefficients, e, ap length w) in (
        ap done (es ∙ many) ∙ sym (ap (λ (x : Result). x.answer) r),
        ea ∙ ap₂ (λ (a b : List ℕ). a ++ b) (λ i. coefficients i ++ (e ∙ ap length w) i ∷ w i) (ap (λ (m : ℕ). drop m output) many) ∙ sym (ap (λ (x : Result). x.output) r),
      )
