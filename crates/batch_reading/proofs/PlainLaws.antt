-- The plain stream laid over a batch's words, and where its parts begin. Assumes nothing.
use Prim.Native.Nat.{ℕ, ◌+◌, ◌-◌, ◌*◌, ◌≤◌}
use native.Mathlib.Omega.{arith}
use mathlib.Core.List.{List, ◌++◌, append_assoc, map}
use mathlib.Core.Path.{◌≡◌, sym, ap, ◌∙◌, subst}
use lib.Dec.{leb}
use lib.ListN.{length, get_or, take, drop}
use lib.Seq.{drop_at, drop-drop, length-take-le}
use borrow.Rule.Slice.PartMut.{put_mid}
use Rattle.batch_definition.specs.Batch.{batch_start, read_batch}
use Rattle.batches.specs.Batched.{combined_table, fold_number, higher, higher_by, plain_words}
use Rattle.batches.proofs.PlainBody.{body_higher, tables_refuse}
use Rattle.batches.specs.BodyTests.{batch_body, plain_body, tables_test}
use Rattle.batches.proofs.PlainStream as plain
use Rattle.definition.specs.Field.{prime_of, spelling_of, word_count, words_of}
use Rattle.definition.specs.Layout.{words_due}
use Rattle.definition.specs.Lists.{first_true}
use Rattle.definition.specs.Reading.{sheet_test}
use Rattle.definition.specs.Sheet.{Sheet, edition1, sheet_of}
use Rattle.definition.specs.Verdict.{accepted, refused}
use Rattle.list_laws.specs.LentParts.{begun, begun_long}
use Rattle.outcome.specs.Answers.{at_place, nowhere}
use Rattle.std.specs.Prelude.{Some, None}
use Rattle.outcome.specs.declared.Outcome.{Outcome as Answered}
use Rattle.outcome.specs.declared.Outcome.TheVariants.{Refused}
use Rattle.outcome.specs.Meaning.{Found, outcome_of, place_of}
use Rattle.batch_reading.specs.Stages.{BodyRead, Ruled}
use Rattle.batch_reading.proofs.Values.{few_tables}

pub never : {n p : ℕ} → refused n p ≡ accepted → ⊥
never e = let z : ◌≡◌ {A = ℕ} 0 1 = cc in omega arith

-- places whose first n became others are still enough
pub still_enough : (l x : List ℕ) (n : ℕ) → n ≤ length l → length x ≡ length (take n l) → n ≤ length (begun l x n)
still_enough l x n inside same = omega (arith, begun_long l x n inside same)

module _ (w : List ℕ) (ok : Ruled w) where
  abbrev h : Sheet
  h = sheet_of edition1 w

  abbrev N : ℕ
  N = get_or w 12 0

  abbrev W : ℕ
  W = word_count (spelling_of (get_or w 0 0)) (get_or w 1 0)

  abbrev K : ℕ
  K = higher_by (sheet_of edition1 w) (get_or w 12 0)

  abbrev at : ℕ
  at = fold_number (sheet_of edition1 w) (get_or w 12 0)

  one : 1 ≤ N
  one = (few_tables w ok).0

  -- fold coin 0 comes after the sheet and a table, which are as many words higher; it is there
  pub fold_number_lem : fold_number (sheet_of edition1 w) (get_or w 12 0) ≡ higher_by (sheet_of edition1 w) (get_or w 12 0) + (12 + word_count (spelling_of (get_or w 0 0)) (get_or w 1 0))
  unfolding sheet_of
  fold_number_lem = omega (arith, plain.higher_is w ok.sheet one ok.full)

  pub fold_there : fold_number (sheet_of edition1 w) (get_or w 12 0) ≤ length w
  fold_there = omega (arith, (plain.long w ok.sheet one ok.full).1)

  -- the number as the code makes it
  pub at_number : {s v : ℕ} → s ≡ higher_by (sheet_of edition1 w) (get_or w 12 0) → v ≡ word_count (spelling_of (get_or w 0 0)) (get_or w 1 0) → s + 12 + v ≡ fold_number (sheet_of edition1 w) (get_or w 12 0)
  at_number e f = omega (arith, e, f, fold_number_lem)

  -- the first words of the plain stream, laid before fold coin 0
  pub laid : {shift k : ℕ} {x : List ℕ} → shift ≡ higher_by (sheet_of edition1 w) (get_or w 12 0) → k ≡ fold_number (sheet_of edition1 w) (get_or w 12 0) →
      x ≡ take 12 w ++ words_of (sheet_of edition1 w).spelling (combined_table (sheet_of edition1 w) (read_batch (sheet_of edition1 w).spelling (sheet_of edition1 w) (drop 12 w))) →
      drop shift (put_mid shift (k - shift) w x) ≡ plain_words w
  unfolding plain_words
  laid {shift} {k} {x} es ek ex =
      drop_at (take shift w) (x ++ drop (k - shift) (drop shift w)) shift (length-take-le shift w (omega (arith, es, fold_number_lem, fold_there)))
      ∙ ap (λ (l : List ℕ). x ++ l) (drop-drop (k - shift) shift w ∙ ap (λ (n : ℕ). drop n w) (let e : shift + (k - shift) ≡ k = omega (arith, es, ek, fold_number_lem) in e))
      ∙ (λ i. ex i ++ drop (ek i) w)
      ∙ append_assoc (take 12 w) _ (drop at w)

  -- the tables begin after the bounds
  pub tables_begin : 13 + get_or w 12 0 ≤ fold_number (sheet_of edition1 w) (get_or w 12 0)
  tables_begin = omega (arith, (plain.long w ok.sheet one ok.full).0, plain.at_is w ok.sheet one ok.full)

  tables_tested : {from to : ℕ} → from ≡ 13 + N → to ≡ at → first_true from (map (leb (prime_of (get_or w 0 0))) (take (to - from) (drop from w))) ≡ tables_test w
  unfolding tables_test sheet_of
  tables_tested {from} {to} ef et =
      let start : from ≡ batch_start N = ef ∙ sym (plain.long w ok.sheet one ok.full).0 in
      let count : to - from ≡ word_count (spelling_of (get_or w 0 0)) (N * get_or w 1 0) + word_count (spelling_of (get_or w 0 0)) 1 = omega (arith, et, start, plain.at_is w ok.sheet one ok.full) in
      (λ i. first_true (start i) (map (leb (prime_of (get_or w 0 0))) (take (count i) (drop (start i) w))))

  -- a word of the tables or of r out of range
  pub body_refused : {from to place : ℕ} {found : Found} {left : List ℕ} → from ≡ 13 + get_or w 12 0 → to ≡ fold_number (sheet_of edition1 w) (get_or w 12 0) →
      place_of found ≡ first_true from (map (leb (prime_of (get_or w 0 0))) (take (to - from) (drop from w))) → found ≡ Some place → BodyRead w (Refused 5 place) left
  unfolding outcome_of
  body_refused {from} {to} {place} {found} {left} ef et e there = record { outcome = is; stream = λ z. absurd (never (is ∙ z)) }
    where
      is : refused 5 place ≡ batch_body w
      is = tables_refuse w ok.sheet one ok.full place (at_place e there ∙ tables_tested ef et)

  -- what the plain stream's tests ask
  pub plain_asks : {v : List ℕ} → v ≡ plain_words w → (sheet_test edition1 v ≡ accepted) × (words_due edition1 (sheet_of edition1 v) ≤ length v)
  plain_asks e = rw e (
    plain.plain_passes w ok.sheet one ok.full,
    subst (λ (s : Sheet). words_due edition1 s ≤ length (plain_words w)) (sym (plain.plain_sheet w ok.sheet one ok.full)) (plain.plain_due w ok.sheet one ok.full),
  )

  -- else the outcome is the plain stream's
  pub body_told : {from to shift : ℕ} {found : Found} {left : List ℕ} {r : Answered} → from ≡ 13 + get_or w 12 0 → to ≡ fold_number (sheet_of edition1 w) (get_or w 12 0) → shift ≡ higher_by (sheet_of edition1 w) (get_or w 12 0) →
      place_of found ≡ first_true from (map (leb (prime_of (get_or w 0 0))) (take (to - from) (drop from w))) → found ≡ None → drop shift left ≡ plain_words w → outcome_of r ≡ higher shift (plain_body (drop shift left)) → BodyRead w r left
  body_told {from} {to} {shift} {found} {left} {r} ef et es e none₁ el told = record {
    outcome = told ∙ (λ i. higher (es i) (plain_body (el i))) ∙ sym (body_higher w ok.sheet one ok.full (nowhere e none₁ ∙ tables_tested ef et));
    stream = λ z. ap (λ (k : ℕ). drop k left) (sym es) ∙ el;
  }
