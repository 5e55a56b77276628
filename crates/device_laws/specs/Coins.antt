-- The shift and final coins of a file that passes reading: some in every round and at the end, and no more than a device has places for.
use Rattle.std.specs.Prelude.{ℕ, suc, ◌+◌, ◌-◌, ◌*◌, ◌≤◌, ◌≡◌, length, take, drop}
use Rattle.std.proofs.Common.{arith}
use mathlib.Core.List.{List, [], ◌∷◌}
use Rattle.std.proofs.Math.ListN.{length-drop}
use Rattle.std.proofs.lemmas.List.{length-map}
use Rattle.std.proofs.Math.Seq.{length-take-le}
use Rattle.definition.specs.Block.{stream_of}
use Rattle.device_definition.specs.Coinwise.{index_count}
use Rattle.definition.specs.Field.{Spelling, word_count}
use Rattle.definition.specs.Layout.{later_count, read_rest, read_transcript, rest_layout, round_coins, words_due}
use Rattle.definition.specs.Lists.{range}
use Rattle.definition.specs.Reading.{reading}
use Rattle.definition.specs.Sheet.{Edition, Level, Sheet, final_count, first_level, later_levels, sheet_length, sheet_of}
use Rattle.definition.specs.Verdict.{accepted}
use Rattle.list_laws.specs.All.{All, all_of_map, all_range}
use Rattle.list_laws.specs.Lists.{range_length}
use Rattle.layouts.proofs.Lawful.{lawful}
use Rattle.layouts.specs.LawfulSheets.{Lawful}
use Rattle.layouts.proofs.LayoutFacts.{final_length, layout_length, rest_length}
use Rattle.layouts.specs.Levels.{level_of, rounds_of}
use Rattle.layouts.proofs.LevelsByNumber.{as_listed}
use Rattle.layouts.specs.Passed.{Passed, passed}
use Rattle.coinwise.specs.Folds.{Coined}

-- a level has between 1 and 48 repetitions
abbrev Some : Level → Type 0
Some l = (1 ≤ l.repetitions) × (l.repetitions ≤ 48)

module _ (σ : Spelling) (s : ℕ) where
  -- the lengths of what is read at one level
  pub finals_there : (b : Level) (w : List ℕ) → length (rest_layout σ s b []) ≤ length w → length (take b.repetitions (drop (word_count σ (final_count b)) w)) ≡ b.repetitions
  finals_there b w u = length-take-le b.repetitions (drop (word_count σ (final_count b)) w) (omega (arith, final_length σ s b, length-drop (word_count σ (final_count b)) w))

  module _ (b l : Level) (ls : List Level) (w : List ℕ) (u : length (rest_layout σ s b (l ∷ ls)) ≤ length w) where
    abbrev pub w₃ : List ℕ
    w₃ = drop (word_count σ s) (drop (word_count σ s) (drop (word_count σ l.size) w))

    long : length w₃ ≡ length w - (word_count σ l.size + (word_count σ s + word_count σ s))
    long =
        let n = word_count σ s in
        let m = word_count σ l.size in
        omega (arith, length-drop n (drop n (drop m w)), length-drop n (drop m w), length-drop m w)

    pub shifts_there : length (drop (word_count σ 2) (take (later_count σ b) w₃)) ≡ b.repetitions
    unfolding later_count
    shifts_there =
        let n = word_count σ 2 + b.repetitions in
        omega (arith, length-drop (word_count σ 2) (take n w₃), length-take-le n w₃ (omega (arith, long, rest_length σ s b l ls)), long)

    pub rest_there : length (rest_layout σ s l ls) ≤ length (drop (later_count σ b) w₃)
    unfolding later_count
    rest_there = omega (arith, length-drop (word_count σ 2 + b.repetitions) w₃, long, rest_length σ s b l ls)

  coined_rest : (b : Level) (ls : List Level) (w : List ℕ) → Some b → All Some ls → length (rest_layout σ s b ls) ≤ length w → Coined (read_rest σ s b ls w)
  unfolding read_rest round_coins
  coined_rest b [] w h k u = omega (arith, finals_there b w u, h.0)
  coined_rest b (l ∷ ls) w h k u = (omega (arith, shifts_there b l ls w u, h.0), coined_rest l ls (drop (later_count σ b) (w₃ b l ls w u)) k.0 k.1 (rest_there b l ls w u))

  few_in_rest : (b : Level) (ls : List Level) (w : List ℕ) → Some b → All Some ls → length (rest_layout σ s b ls) ≤ length w → index_count (read_rest σ s b ls w) ≤ 48 * suc (length ls)
  unfolding read_rest round_coins index_count
  few_in_rest b [] w h k u = omega (arith, finals_there b w u, h.1)
  few_in_rest b (l ∷ ls) w h k u =
      omega (arith, shifts_there b l ls w u, h.1, few_in_rest l ls (drop (later_count σ b) (w₃ b l ls w u)) k.0 k.1 (rest_there b l ls w u))

module _ (ed : Edition) (x : List ℕ) (reads : reading ed x ≡ accepted) where
  abbrev w : List ℕ
  w = stream_of x

  abbrev h : Sheet
  h = sheet_of ed (stream_of x)

  abbrev σ : Spelling
  σ = (sheet_of ed (stream_of x)).spelling

  ok : Passed ed x
  ok = passed ed x reads

  all_there : sheet_length ed + (word_count σ h.size + (word_count σ 1 + length (rest_layout σ h.out_coins (first_level h) (later_levels h)))) ≤ length w
  unfolding words_due
  all_there = omega (arith, ok.due, layout_length h)

  L : Lawful h
  L = lawful ed w (omega (arith, all_there)) ok.sheet

  -- the levels have between 1 and 48 repetitions each, and there are at most five after the first
  levels : Some (first_level h) × (All Some (later_levels h) × (length (later_levels h) ≤ 5))
  levels =
      as_listed h (λ b ls. Some b × (All Some ls × (length ls ≤ 5))) L.paired (
        (L.once 0 (omega arith), L.times 0 (omega arith)),
        (
          all_of_map Some (level_of h) (range 1 (rounds_of h)) (all_range (λ i. Some (level_of h i)) 1 (rounds_of h) (λ i l u. (L.once i (omega arith), L.times i (omega arith)))),
          omega (arith, length-map (range 1 (rounds_of h)) (level_of h), range_length 1 (rounds_of h), L.most, L.paired.some),
        ),
      )

  rest_words : length (rest_layout σ h.out_coins (first_level h) (later_levels h)) ≤ length (drop (word_count σ 1) (drop (word_count σ h.size) (drop (sheet_length ed) w)))
  rest_words =
      let n = word_count σ h.size in
      omega (arith, length-drop (word_count σ 1) (drop n (drop (sheet_length ed) w)), length-drop n (drop (sheet_length ed) w), length-drop (sheet_length ed) w, all_there)

  pub coined : Coined (read_transcript (sheet_of ed (stream_of x)).spelling (sheet_of ed (stream_of x)) (drop (sheet_length ed) (stream_of x))).rest
  unfolding read_transcript
  coined = coined_rest σ h.out_coins (first_level h) (later_levels h) _ levels.0 levels.1.0 rest_words

  pub few_coins : index_count (read_transcript (sheet_of ed (stream_of x)).spelling (sheet_of ed (stream_of x)) (drop (sheet_length ed) (stream_of x))).rest ≤ 288
  unfolding read_transcript
  few_coins = omega (arith, few_in_rest σ h.out_coins (first_level h) (later_levels h) (drop (word_count σ 1) (drop (word_count σ h.size) (drop (sheet_length ed) w))) levels.0 levels.1.0 rest_words, levels.1.1)
