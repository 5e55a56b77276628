-- The word that the code finds is the stream's, and it finds none exactly past the stream's end.
use Prim.Native.Nat.{ℕ, zero, suc, ◌+◌, ◌*◌, ◌/◌, ◌≤◌, ◌<◌}
use native.Mathlib.Numerals.{add-one}
use native.Mathlib.Omega.{arith}
use mathlib.Core.Path.{◌≡◌, refl, ap, sym, ◌∙◌}
use mathlib.Core.Option.{Option, none, some}
use mathlib.Core.List.{List, [], ◌∷◌}
use lib.ListN.{length, get_or, set, take}
use lib.Seq.{get_or-take, length-take-le}
use borrow.Author.Tests.{le-ltb, lt-ltb}
use Rattle.definition.specs.Block.{stream_of}
use Rattle.list_laws.specs.Overwriting.{overwrite, overwrite_next}
use Rattle.layouts.specs.FileWords.{word_at, stream_length, stream_at}
use Rattle.std.specs.Prelude.{true, false, Option as Optional, None, Some}
use Rattle.std.specs.Option.{is_some}
use Rattle.reader.specs.Words.{word_in, value_of, number_after}

within : (words : List ℕ) (n : ℕ) → n < length words → some (get_or words n 0) ≡ word_in words n
unfolding word_in
within [] n h = absurd (omega arith)
within (w ∷ words) zero h = refl
within (w ∷ words) (suc n) h = within words n (omega arith)

past : (words : List ℕ) (n : ℕ) → length words ≤ n → none ≡ word_in words n
unfolding word_in
past [] n h = refl
past (w ∷ words) zero h = absurd (omega arith)
past (w ∷ words) (suc n) h = past words n (omega arith)

held : (words : List ℕ) (n : ℕ) {v : ℕ} → some v ≡ word_in words n → n < length words
unfolding word_in
held [] n e = absurd (cc)
held (w ∷ words) zero e = omega arith
held (w ∷ words) (suc n) e = omega (arith, held words n e)

ended : (words : List ℕ) (n : ℕ) → none ≡ word_in words n → length words ≤ n
unfolding word_in
ended [] n e = omega arith
ended (w ∷ words) zero e = absurd (cc)
ended (w ∷ words) (suc n) e = omega (arith, ended words n e)

module _ (file : List ℕ) (n : ℕ) where
  pub word_there : {word : ℕ} → n < 127 * (length file / 512) → word ≡ word_at file (4 * (n + n / 127)) → value_of (Some word) ≡ word_in (stream_of file) n
  unfolding value_of
  word_there h e = ap {B = Option ℕ} some (e ∙ sym (stream_at file n h)) ∙ within (stream_of file) n (omega (arith, stream_length file))

  pub word_past : 127 * (length file / 512) ≤ n → value_of None ≡ word_in (stream_of file) n
  unfolding value_of
  word_past h = past (stream_of file) n (omega (arith, stream_length file))

  here : n < 127 * (length file / 512) → n < length (stream_of file)
  here h = omega (arith, stream_length file)

  -- a word is there exactly before the end, and it is the stream's; and the number after it
  pub there : (w : Optional ℕ) → value_of w ≡ word_in (stream_of file) n → true ≡ is_some w → n < 127 * (length file / 512)
  unfolding value_of
  there (Some v) e t = omega (arith, held (stream_of file) n e, stream_length file)
  there None e t = absurd (cc)

  pub number_there : (w : Optional ℕ) → value_of w ≡ word_in (stream_of file) n → true ≡ is_some w → n + 1 ≡ number_after (stream_of file) n
  unfolding number_after
  number_there w e t = rw (lt-ltb n (length (stream_of file)) (here (there w e t))) (add-one n)

  pub number_past : (w : Optional ℕ) → value_of w ≡ word_in (stream_of file) n → false ≡ is_some w → n ≡ number_after (stream_of file) n
  unfolding number_after value_of
  number_past (Some v) e t = absurd (cc)
  number_past None e t = rw (le-ltb n (length (stream_of file)) (ended (stream_of file) n e))

  pub value_there : (v : ℕ) → value_of (Some v) ≡ word_in (stream_of file) n → v ≡ get_or (stream_of file) n 0
  unfolding value_of
  value_there v e =
      let same : ◌≡◌ {A = Option ℕ} (some v) (some (get_or (stream_of file) n 0)) = e ∙ sym (within (stream_of file) n (here (there (Some v) e refl))) in
      cc

-- the first 12 words, placed one after the other
module _ (file output : List ℕ) (block : 512 ≤ length file) where
  pub sheet_length : length (take 12 (stream_of file)) ≡ 12
  sheet_length = length-take-le 12 (stream_of file) (omega (arith, stream_length file))

  pub no_end_before : (at : ℕ) → at < 12 → value_of None ≡ word_in (stream_of file) at → ⊥
  unfolding value_of
  no_end_before at h e = omega (arith, ended (stream_of file) at e, stream_length file)

  -- the number after a word that is there
  pub moved_on : (at v : ℕ) {n : ℕ} → value_of (Some v) ≡ word_in (stream_of file) at → n ≡ number_after (stream_of file) at → n ≡ at + 1
  moved_on at v value after = after ∙ sym (number_there file at (Some v) value refl)

  pub sheet_next : {at : ℕ} {o : List ℕ} (v : ℕ) → at < 12 → 12 ≤ length output → o ≡ overwrite output 0 (take at (take 12 (stream_of file)))
      → value_of (Some v) ≡ word_in (stream_of file) at → set o at v ≡ overwrite output 0 (take (at + 1) (take 12 (stream_of file)))
  sheet_next {at} {o} v h room before value =
      let x = take 12 (stream_of file) in
      let here : at ≡ 0 + at = omega arith in
      let is : v ≡ get_or x at 0 = value_there file at v value ∙ sym (get_or-take 12 (stream_of file) at 0 h) in
      ap (λ (k : ℕ). set o k v) here ∙ overwrite_next output 0 x at (omega (arith, sheet_length)) (omega (arith, sheet_length)) is before
