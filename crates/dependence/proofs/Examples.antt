-- The premises of the page can be met: by a file with one table word changed at a place that is not used, and by files with coins in another order, which
-- ExamplesReordered goes on with. By computation.
use Rattle.std.specs.Prelude.{ℕ, ◌+◌, ◌<◌, List, [], ◌∷◌, ◌≡◌, refl, get_or, set}
use Rattle.std.proofs.Math.Decide.{dec_lt}
use Rattle.std.proofs.Common.{arith, sym, ap, ◌∙◌, get_or-set_other}
use Rattle.definition.specs.Block.{file_of, stream_of}
use Rattle.definition.specs.Reading.{reading}
use Rattle.definition.specs.Sheet.{edition1}
use Rattle.definition.specs.Verdict.{accepted}
use Rattle.definition.specs.Verify.{verify}
use Rattle.definition.specs.WorkedTranscript.{accept, definitions, doubled, refuse}
use Rattle.layouts.specs.Levels.{element_at, round_count, round_start}
use Rattle.completeness.specs.Faults.{SameOutside, finals, part_length, part_start, part_words, sheet_in, shifts}
use Rattle.completeness.specs.Numbered.{count_of, length_of, start_of, table}
use Rattle.dependence.specs.Changes.{SameAt, places_after, places_used, with_indices}

-- two shift coins and two final coins; entry 1 of table 0 changed, which no coin reads; a final polynomial that differs at the second final index alone
abbrev pub first : List ℕ
first = file_of doubled

abbrev pub changed : List ℕ
changed = file_of (set doubled 13 6)

abbrev pub failing : List ℕ
failing = file_of (set (set doubled 43 5) 44 13)

-- field 3, without a round: a table of four equal entries 12 to 27, fold coin 28, the final coefficient 32, final indices 36 and 37; the last word of entry 0 changed
abbrev pub quartic_stream : ℕ → ℕ → List ℕ
quartic_stream i j =
    3 ∷ 4 ∷ 2 ∷ 2 ∷ 0 ∷ 1 ∷ 2 ∷ 0 ∷ 0 ∷ 0 ∷ 0 ∷ 0 ∷ 1 ∷ 2 ∷ 3 ∷ 4 ∷ 1 ∷ 2 ∷ 3 ∷ 4 ∷ 1 ∷ 2 ∷ 3 ∷ 4 ∷ 1 ∷ 2 ∷ 3 ∷ 4 ∷ 5 ∷ 6 ∷ 7 ∷ 8 ∷ 1 ∷ 2 ∷ 3 ∷ 4 ∷ i ∷ j ∷ []

abbrev pub first3 : List ℕ
first3 = file_of (quartic_stream 1 1)

abbrev pub changed3 : List ℕ
changed3 = file_of (set (quartic_stream 1 1) 15 9)

abbrev pub ordered3 : List ℕ
ordered3 = file_of (quartic_stream 0 1)

pub record Examples : Type 0 where
  pub reads_first : reading edition1 first ≡ accepted
  pub reads_changed : reading edition1 changed ≡ accepted
  pub reads_failing : reading edition1 failing ≡ accepted
  -- the word 13 differs
  pub differs : get_or (stream_of first) 13 0 ≡ 1
  pub differs_here : get_or (stream_of changed) 13 0 ≡ 6
  -- the places used: the roots of the shift indices 0 5 in table 0, and of the final indices 1 2 in table 1; where the second final coin fails the same, and none for 7 and 14
  pub places : places_used edition1 first
      ≡ record { table = 0; number = 0 } ∷ record { table = 0; number = 8 } ∷ record { table = 0; number = 5 } ∷ record { table = 0; number = 13 }
      ∷ record { table = 1; number = 1 } ∷ record { table = 1; number = 5 } ∷ record { table = 1; number = 2 } ∷ record { table = 1; number = 6 } ∷ []
  pub places_first_final : places_used edition1 (file_of (set (set doubled 43 12) 44 13))
      ≡ record { table = 0; number = 0 } ∷ record { table = 0; number = 8 } ∷ record { table = 0; number = 5 } ∷ record { table = 0; number = 13 }
      ∷ record { table = 1; number = 1 } ∷ record { table = 1; number = 5 } ∷ []
  pub places_clash : places_used edition1 (file_of (set doubled 37 9))
      ≡ record { table = 0; number = 0 } ∷ record { table = 0; number = 8 } ∷ record { table = 0; number = 5 } ∷ record { table = 0; number = 13 } ∷ []
  pub places_out : places_used edition1 (file_of (set doubled 37 3)) ≡ []
  -- the coins that may be reordered, and the files with them in the other order: verdicts as before, but for the place of a 9 and its reads
  pub shifts_here : part_words edition1 (sheet_in edition1 first) (stream_of first) (shifts 0) ≡ 0 ∷ 5 ∷ []
  pub finals_here : part_words edition1 (sheet_in edition1 first) (stream_of first) finals ≡ 1 ∷ 2 ∷ []
  pub shifts_turned : verify (with_indices edition1 first (shifts 0) (5 ∷ 0 ∷ [])) ≡ accept 8
  pub finals_turned : verify (with_indices edition1 first finals (2 ∷ 1 ∷ [])) ≡ accept 8
  pub second_fails : verify failing ≡ refuse 9 1 8
  pub turned_fails : verify (with_indices edition1 failing finals (2 ∷ 1 ∷ [])) ≡ refuse 9 0 6
  -- the same in field 3: an entry is four words, and the last word of one that is read counts
  pub reads_first3 : reading edition1 first3 ≡ accepted
  pub reads_changed3 : reading edition1 changed3 ≡ accepted
  pub reads_ordered3 : reading edition1 ordered3 ≡ accepted
  pub places3 : places_used edition1 first3 ≡ record { table = 0; number = 1 } ∷ record { table = 0; number = 3 } ∷ record { table = 0; number = 1 } ∷ record { table = 0; number = 3 } ∷ []
  pub accepts3 : verify first3 ≡ accept 2
  pub unread3 : verify changed3 ≡ accept 2
  pub last_word3 : verify (file_of (set (quartic_stream 1 1) 19 9)) ≡ refuse 9 0 2
  pub finals_here3 : part_words edition1 (sheet_in edition1 ordered3) (stream_of ordered3) finals ≡ 0 ∷ 1 ∷ []
  pub finals_turned3 : verify (with_indices edition1 ordered3 finals (1 ∷ 0 ∷ [])) ≡ accept 4

pub examples : Examples
unfolding definitions places_used places_after with_indices part_start part_length part_words start_of count_of round_start round_count
examples = record {
  reads_first = refl;
  reads_changed = refl;
  reads_failing = refl;
  differs = refl;
  differs_here = refl;
  places = refl;
  places_first_final = refl;
  places_clash = refl;
  places_out = refl;
  shifts_here = refl;
  finals_here = refl;
  shifts_turned = refl;
  finals_turned = refl;
  second_fails = refl;
  turned_fails = refl;
  reads_first3 = refl;
  reads_changed3 = refl;
  reads_ordered3 = refl;
  places3 = refl;
  accepts3 = refl;
  unread3 = refl;
  last_word3 = refl;
  finals_here3 = refl;
  finals_turned3 = refl;
}

-- the premises of dependence, of two files that differ in a word of table 0
one_word_changed : (x y : List ℕ) (k a j : ℕ) → stream_of y ≡ set (stream_of x) k a → k ≡ start_of edition1 (sheet_in edition1 x) (table 0) + j → j < length_of (sheet_in edition1 x) (table 0) →
    SameOutside edition1 (sheet_in edition1 x) (stream_of x) (stream_of y)
one_word_changed x y k a j e at inside n o = go (dec_lt n k) (dec_lt k n)
  where
    other : (n ≡ k → ⊥) → get_or (stream_of x) n 0 ≡ get_or (stream_of y) n 0
    other h = sym (ap (λ (l : List ℕ). get_or l n 0) e ∙ get_or-set_other (stream_of x) k n a 0 h)

    go : Dec (n < k) → Dec (k < n) → get_or (stream_of x) n 0 ≡ get_or (stream_of y) n 0
    go (yes l) b = other (λ e. omega arith)
    go (no l) (yes u) = other (λ e. omega arith)
    go (no l) (no u) = absurd (o 0 j (omega arith) inside (let e : n ≡ k = omega arith in e ∙ at))

pub same_outside : SameOutside edition1 (sheet_in edition1 first) (stream_of first) (stream_of changed)
unfolding definitions start_of count_of round_start
same_outside = one_word_changed first changed 13 6 1 refl refl (omega arith)

pub same_outside3 : SameOutside edition1 (sheet_in edition1 first3) (stream_of first3) (stream_of changed3)
unfolding definitions start_of count_of round_start
same_outside3 = one_word_changed first3 changed3 15 9 3 refl refl (omega arith)

pub same_at : SameAt edition1 (sheet_in edition1 first) (places_used edition1 first) (stream_of first) (stream_of changed)
unfolding definitions places_used places_after part_start start_of round_start round_count element_at
same_at = (refl, (refl, (refl, (refl, (refl, (refl, (refl, (refl, tt))))))))

pub same_at3 : SameAt edition1 (sheet_in edition1 first3) (places_used edition1 first3) (stream_of first3) (stream_of changed3)
unfolding definitions places_used places_after part_start start_of round_start round_count element_at
same_at3 = (refl, (refl, (refl, (refl, tt))))
