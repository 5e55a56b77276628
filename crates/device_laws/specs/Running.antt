-- A tick of a running device: the folds kept are those of the file's coins, and done comes with the last coin treated and has the verdict's outcome.
use Rattle.std.specs.Prelude.{ℕ, suc, ◌≤◌, ◌<◌, List, [], ◌∷◌, ◌++◌, ◌≡◌, length, get_or, take, drop}
use Rattle.std.proofs.Common.{arith, sym, ◌∙◌, take-suc}
use Rattle.std.proofs.Math.Path.{ap}
use borrow.Author.Tests.{lt-ltb}
use Rattle.definition.specs.Block.{stream_of}
use Rattle.device_definition.specs.Coinwise.{index_count, next_fold, settled}
use Rattle.definition.specs.Deciding.{Function, counted, decide, decide_rest, deciding, out_tests, own_place, reads_of, table_function}
use Rattle.device_definition.specs.Device.{Device, busy, ended, ended_by, folds_of, start_tests, tick_by, tick_in, treat, treat_in, treated_one}
use Rattle.definition.specs.Field.{Element, Field, Spelling, field_in, number_in, word_count}
use Rattle.definition.specs.Layout.{layout, read_transcript}
use Rattle.definition.specs.Reading.{reading}
use Rattle.definition.specs.Sheet.{Level, Sheet, edition1, first_level, root_of_unity, sheet_of}
use Rattle.definition.specs.Transcript.{Transcript}
use Rattle.definition.specs.Verdict.{accepted, then_verdict}
use Rattle.definition.specs.Verify.{verify, verify_in}
use Rattle.layouts.specs.Tests.{then_passes}
use Rattle.coinwise.specs.Folds.{Settles, all_folds, places_to}
use Rattle.coinwise.specs.Iteration.{folds_length, settles}
use Rattle.device_laws.specs.Coins.{coined, few_coins}
use Rattle.device_laws.specs.FoldPlaces.{one_more, room_for, room_kept}

module _ (x : List ℕ) where
  abbrev pub h : Sheet
  h = sheet_of edition1 (stream_of x)

  abbrev pub σ : Spelling
  σ = (sheet_of edition1 (stream_of x)).spelling

  abbrev pub F : Field (Element (sheet_of edition1 (stream_of x)).spelling)
  F = field_in (sheet_of edition1 (stream_of x)).spelling (sheet_of edition1 (stream_of x)).prime

  abbrev pub ω : Element (sheet_of edition1 (stream_of x)).spelling
  ω = number_in (sheet_of edition1 (stream_of x)).spelling (root_of_unity (sheet_of edition1 (stream_of x)))

  abbrev pub b : Level
  b = first_level (sheet_of edition1 (stream_of x))

  abbrev pub τ : Transcript (Element (sheet_of edition1 (stream_of x)).spelling)
  τ = read_transcript (sheet_of edition1 (stream_of x)).spelling (sheet_of edition1 (stream_of x)) (drop 12 (stream_of x))

  abbrev pub f : Function (Element (sheet_of edition1 (stream_of x)).spelling)
  f = table_function F ω b τ.table

  abbrev pub all : List (Element (sheet_of edition1 (stream_of x)).spelling)
  all = all_folds F ω b f.value τ.fold τ.rest

  module _ (begins : start_tests x ≡ accepted) where
    tests : (reading edition1 x ≡ accepted) × (out_tests h 12 (layout h) (stream_of x) ≡ accepted)
    unfolding start_tests
    tests = then_passes (reading edition1 x) (out_tests h 12 (layout h) (stream_of x)) begins

    pub S : Settles F ω b f τ.fold [] τ.rest (decide_rest F ω b f τ.fold [] τ.rest)
    S = settles F ω τ.rest b f τ.fold [] (coined edition1 x tests.0)

    pub verdict : (verify x).outcome ≡ (decide_rest F ω b f τ.fold [] τ.rest).outcome
    unfolding verify_in then_verdict deciding decide counted
    verdict = rw (tests.0, tests.1)

    -- its reads are those of the coins treated
    pub reads_are : (verify x).reads ≡ reads_of (places_to b (own_place b) S.coins τ.rest)
    unfolding verify_in then_verdict deciding decide counted table_function
    reads_are = rw (tests.0, tests.1) (ap reads_of S.uses)

    -- the number of coins treated is at most that of the places
    pub few : S.coins ≤ 288
    few = omega (arith, S.due, folds_length F ω τ.rest b f.value τ.fold, few_coins edition1 x tests.0)

    -- the first folds are those of the file
    pub record Running (d : Device) : Type 0 where
      pub going : d.phase ≡ busy
      pub before : d.treated < S.coins
      pub room : length d.folds ≡ 1152
      pub kept : folds_of (sheet_of edition1 (stream_of x)).spelling d ≡ take d.treated all

    module _ (d : Device) (ok : Running d) where
      inside : d.treated < length all
      inside = omega (arith, ok.before, S.due)

      abbrev v : Element (sheet_of edition1 (stream_of x)).spelling
      v = next_fold F ω b f.value τ.fold (folds_of σ d) τ.rest

      fold_is : v ≡ get_or all d.treated F.𝟘
      fold_is =
          ap (λ (l : List (Element (sheet_of edition1 (stream_of x)).spelling)). next_fold F ω b f.value τ.fold l τ.rest) ok.kept ∙ S.next d.treated ok.before

      fits : word_count σ (suc d.treated) ≤ length d.folds
      fits = omega (arith, room_for σ (suc d.treated) (omega (arith, ok.before, few)), ok.room)

      -- one more is kept
      more : folds_of σ (treated_one σ d v) ≡ take (suc d.treated) all
      more = one_more σ d v fits ∙ (λ i. ok.kept i ++ (fold_is i ∷ [])) ∙ sym (take-suc all d.treated F.𝟘 inside)

      abbrev pub next : Device
      next =
          treated_one (sheet_of edition1 (stream_of x)).spelling d
          (next_fold F ω b f.value τ.fold (folds_of (sheet_of edition1 (stream_of x)).spelling d) τ.rest)

      one_coin : tick_in busy d x ≡ ended_by next (settled F ω b (take (suc d.treated) all) τ.rest)
      unfolding tick_in tick_by treat treat_in
      one_coin =
          let l : d.treated < index_count τ.rest = omega (arith, ok.before, S.due, folds_length F ω τ.rest b f.value τ.fold) in
          rw (begins, lt-ltb d.treated (index_count τ.rest) l, more)

      -- BEFORE THE LAST COIN the device goes on with one fold more,
      pub tick_goes_on : suc d.treated < S.coins → tick_in busy d x ≡ next
      unfolding ended_by
      tick_goes_on l = one_coin ∙ rw (S.waits (suc d.treated) (omega arith) l)

      -- and with the last coin it is done, with the outcome of verify.
      pub tick_done : suc d.treated ≡ S.coins → tick_in busy d x ≡ ended next (verify x).outcome
      unfolding ended_by
      tick_done e =
          one_coin ∙ ap (λ (n : ℕ). ended_by next (settled F ω b (take n all) τ.rest)) e ∙ ap (ended_by next) S.ends ∙ ap (ended next) (sym verdict)

      -- it runs on
      pub still_running : suc d.treated < S.coins → Running next
      unfolding treated_one
      still_running l = record { going = ok.going; before = l; room = room_kept σ d v fits ∙ ok.room; kept = more }
