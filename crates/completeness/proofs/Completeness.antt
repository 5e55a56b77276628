-- Completeness: every honest file is accepted, whatever the coins. Reading accepts it, then deciding does; then the claim is made, over the bytes of the file.
use Rattle.std.specs.Prelude.{ℕ, suc, ◌*◌, ◌<◌, ◌≡◌, drop, replicate}
use Rattle.std.proofs.Common.{arith, sym, ◌∙◌, subst, drop_at}
use mathlib.Core.List.{List, ◌++◌, map, zip_with, append_assoc}
use Rattle.std.proofs.Math.Option.{none}
use Rattle.std.proofs.Math.Path.{ap}
use Rattle.std.proofs.Math.ListN.{length}
use Rattle.definition.specs.Block.{block_count, file_of, stream_of}
use Rattle.definition.specs.Deciding.{counted, decide, deciding, equal_test, out_in_domain, out_test, out_tests, own_place, reads_of, repeated_outs}
use Rattle.definition.specs.Field.{Element, Field, Spelling, begun_by, elements_in}
use Rattle.definition.specs.Layout.{coin_kinds, layout, read_coins, read_transcript, words_due}
use Rattle.definition.specs.Lists.{first_true, range}
use Rattle.definition.specs.Prover.{honest, honest_stream}
use Rattle.definition.specs.Reading.{reading}
use Rattle.definition.specs.Sheet.{Edition, Level, Sheet, first_level, later_levels, sheet_length, sheet_of}
use Rattle.definition.specs.Transcript.{Coins, Transcript, transcript_words}
use Rattle.definition.specs.Verdict.{◌then◌, accepted, then_verdict}
use Rattle.definition.specs.Verify.{verify_in}
use Rattle.list_laws.specs.All.{All}
use Rattle.layouts.specs.EachWord.{Each, Front, InRange, Outside, each_length, front_none}
use Rattle.layouts.specs.FileTrip.{Word, fill_count}
use Rattle.layouts.proofs.Lawful.{lawful}
use Rattle.layouts.specs.LevelSizes.{chain_head}
use Rattle.layouts.specs.Levels.{level_of, rounds_of, sheet_field, sheet_root, words_for}
use Rattle.layouts.proofs.LevelsByNumber.{level_first}
use Rattle.layouts.proofs.SheetLevels.{sheet_front}
use Rattle.layouts.specs.Tests.{at_none, none_true}
use Rattle.layouts.specs.WholeCoins.{layout_whole}
use Rattle.completeness.proofs.Allowed.{allowed_apart, allowed_degree, allowed_enough, allowed_first, allowed_long, allowed_off, allowed_rounds, allowed_some}
use Rattle.completeness.specs.CoinsByNumber.{coins_read}
use Rattle.completeness.specs.DecidingAccepts
use Rattle.completeness.specs.DecidingAccepts.{Admissible, all_places}
use Rattle.completeness.proofs.Domains.{foldable}
use Rattle.completeness.specs.EqualOuts.{NoRepeat, among_front, stream_apart}
use Rattle.completeness.proofs.AdmissibleCoins.{admissible}
use Rattle.completeness.specs.FileRead
use Rattle.completeness.specs.HonestStream.{first_degree, words_back, words_coins, words_each, words_off}
use Rattle.completeness.specs.Numbered.{Allowed, coins_of, final_indices, fold_coin, reads_due}
use Rattle.completeness.proofs.ReadsCounted.{all_reads}
use Rattle.completeness.specs.Ready.{Ready, ready, ready_sized}

module _ {ed : Edition} {w f coins : List ℕ} (ok : Allowed ed w f coins) where
  abbrev h : Sheet
  h = sheet_of ed w

  abbrev σ : Spelling
  σ = (sheet_of ed w).spelling

  abbrev F : Field (Element (sheet_of ed w).spelling)
  F = sheet_field (sheet_of ed w)

  abbrev ω : Element (sheet_of ed w).spelling
  ω = sheet_root (sheet_of ed w)

  -- the coefficients
  abbrev fs : List (Element (sheet_of ed w).spelling)
  fs = elements_in (sheet_of ed w).spelling f

  abbrev long : length w ≡ sheet_length ed
  long = allowed_long ok

  abbrev pub sheet_ready : Ready (sheet_of ed w)
  sheet_ready = ready ed w (allowed_enough ok) ok.sheet

  abbrev τ : Transcript (Element (sheet_of ed w).spelling)
  τ = honest (sheet_field (sheet_of ed w)) (sheet_root (sheet_of ed w)) (first_level (sheet_of ed w)) fs (read_coins (sheet_of ed w).spelling (sheet_of ed w) coins)

  -- the allowed coins are fair
  pub admissible_coins : Admissible F sheet_ready.laws ω (first_level h) (read_coins σ h coins).rounds (read_coins σ h coins).finals
  unfolding read_coins
  admissible_coins =
      admissible h sheet_ready.laws sheet_ready.signs sheet_ready.e sheet_ready.root
      h.out_coins (first_level h) (later_levels h) (drop (words_for h 1) coins) sheet_ready.chain sheet_ready.steps (allowed_rounds ok) (allowed_off ok)

  positive : 0 < h.prime
  positive = omega (arith, sheet_ready.large)

  -- the words after the sheet
  inside : Each (InRange (sheet_of ed w)) (layout (sheet_of ed w)) (transcript_words σ τ)
  unfolding read_coins
  inside = words_each h positive sheet_ready.laws fs coins (allowed_degree ok) (allowed_first ok) (allowed_some ok) (allowed_rounds ok) admissible_coins

  pub honest_words : All Word (honest_stream ed w f coins)
  unfolding honest_stream
  honest_words = FileRead.all_words ed w (transcript_words σ τ) long ok.sheet inside

  -- the file has the blocks that the sheet needs
  pub file_size : length (file_of (honest_stream ed w f coins)) ≡ 512 * block_count (words_due ed h)
  unfolding honest_stream
  file_size = FileRead.file_size ed w (transcript_words σ τ) long ok.sheet inside

  abbrev fill : List ℕ
  fill = replicate (fill_count (w ++ transcript_words σ τ)) 0

  -- the stream in the file
  stream : stream_of (file_of (honest_stream ed w f coins)) ≡ w ++ (transcript_words σ τ ++ fill)
  unfolding honest_stream
  stream = FileRead.stream_is ed w (transcript_words σ τ) long ok.sheet inside

  after_sheet : drop (sheet_length ed) (w ++ (transcript_words σ τ ++ fill)) ≡ transcript_words σ τ ++ fill
  after_sheet = drop_at w (transcript_words σ τ ++ fill) (sheet_length ed) long

  -- reading: refusals 1 to 6
  reading_passes : reading ed (file_of (honest_stream ed w f coins)) ≡ accepted
  unfolding honest_stream
  reading_passes = FileRead.file_reads ed w (transcript_words σ τ) long ok.sheet inside

  out_passes : out_test h (sheet_length ed) (layout h) (w ++ (transcript_words σ τ ++ fill)) ≡ accepted
  unfolding out_test read_coins
  out_passes = at_none 7 _
      (ap (λ (l : List ℕ). first_true (sheet_length ed) (zip_with (out_in_domain σ h) (layout h) (begun_by σ l))) after_sheet
      ∙ front_none (out_in_domain σ h) (sheet_length ed) (layout h) (begun_by σ (transcript_words σ τ ++ fill)) off)
    where
      off : Front (Outside h) (layout h) (begun_by σ (transcript_words σ τ ++ fill))
      off = words_off h positive sheet_ready.laws fs coins (allowed_degree ok) (allowed_first ok) (allowed_some ok) (allowed_rounds ok) admissible_coins fill (allowed_off ok)

  -- the coins among the words are those given, of which no two of a round are equal
  words_apart : NoRepeat F none (layout h) (begun_by σ (transcript_words σ τ ++ fill))
  unfolding read_coins
  words_apart =
      stream_apart σ F none none tt (layout h) (transcript_words σ τ ++ fill) (layout_whole h)
      (subst (λ (c : List ℕ). NoRepeat F none (coin_kinds (layout h)) (begun_by σ c))
      (sym (among_front (layout h) (transcript_words σ τ) fill (each_length (InRange h) (layout h) (transcript_words σ τ) inside)
      ∙ words_coins h positive sheet_ready.laws fs coins (allowed_degree ok) (allowed_first ok) (allowed_some ok) (allowed_rounds ok) admissible_coins)) (allowed_apart ok))

  equal_passes : equal_test h (sheet_length ed) (layout h) (w ++ (transcript_words σ τ ++ fill)) ≡ accepted
  unfolding equal_test
  equal_passes = at_none 14 _ (ap (λ (l : List ℕ). first_true (sheet_length ed) (repeated_outs F none (layout h) (begun_by σ l))) after_sheet ∙ none_true (sheet_length ed) _ words_apart)

  -- reading the words back, whatever follows them
  read_words : (z : List ℕ) → read_transcript σ h (transcript_words σ τ ++ z) ≡ τ
  unfolding read_coins
  read_words z = words_back h positive sheet_ready.laws fs coins (allowed_degree ok) (allowed_first ok) (allowed_some ok) (allowed_rounds ok) admissible_coins z

  pub read_back : (z : List ℕ) → read_transcript σ h (drop (sheet_length ed) (honest_stream ed w f coins ++ z)) ≡ τ
  unfolding honest_stream
  read_back z = ap (λ (l : List ℕ). read_transcript σ h (drop (sheet_length ed) l)) (append_assoc w (transcript_words σ τ) z) ∙ ap (read_transcript σ h) (drop_at w (transcript_words σ τ ++ z) (sheet_length ed) long) ∙ read_words z

  -- the coins by number, which are fair too, and what they read
  numbered : read_coins σ h coins ≡ record { fold = fold_coin h coins 0; rounds = map (coins_of h coins) (range 1 (rounds_of h)); finals = final_indices h coins }
  numbered = coins_read h coins (lawful ed w (allowed_enough ok) ok.sheet).paired

  admissible_numbered : Admissible F sheet_ready.laws ω (level_of h 0) (map (coins_of h coins) (range 1 (rounds_of h))) (final_indices h coins)
  admissible_numbered =
      subst (λ (c : Coins (Element (sheet_of ed w).spelling)). Admissible F sheet_ready.laws ω (level_of h 0) c.rounds c.finals) numbered
      (subst (λ (b : Level). Admissible F sheet_ready.laws ω b (read_coins σ h coins).rounds (read_coins σ h coins).finals) (level_first h) admissible_coins)

  coins_counted : reads_of (all_places (first_level h) (own_place (first_level h)) (read_coins σ h coins).rounds (read_coins σ h coins).finals) ≡ reads_due h coins
  coins_counted =
      (λ i. reads_of (all_places (level_first h i) (own_place (level_first h i)) (numbered i).rounds (numbered i).finals))
      ∙ all_reads h coins (suc sheet_ready.e) sheet_ready.laws (ready_sized ed w (allowed_enough ok) ok.sheet) admissible_numbered

  -- deciding: refusals 8 and 9
  decided : counted (decide F ω (first_level h) (read_transcript σ h (transcript_words σ τ ++ fill))) ≡ record { outcome = accepted; reads = reads_due (sheet_of ed w) coins }
  unfolding counted
  decided =
      ap counted (ap (decide F ω (first_level h)) (read_words fill)
      ∙ DecidingAccepts.deciding_accepts F sheet_ready.laws ω (first_level h) fs (read_coins σ h coins) degree
      (foldable F sheet_ready.laws ω sheet_ready.signs sheet_ready.e sheet_ready.root (first_level h) (chain_head _ (first_level h) (later_levels h) sheet_ready.chain))
      admissible_coins)
      ∙ (λ i. record { outcome = accepted; reads = coins_counted i })
    where
      degree : length fs ≡ (first_level h).degree
      degree = first_degree h fs (allowed_degree ok)

  deciding_passes : deciding ed (w ++ (transcript_words σ τ ++ fill)) ≡ record { outcome = accepted; reads = reads_due (sheet_of ed w) coins }
  unfolding deciding out_tests then_verdict ◌then◌
  deciding_passes = rw (sheet_front ed w long ok.sheet (transcript_words σ τ ++ fill), out_passes, equal_passes, after_sheet) decided

-- Completeness: in either edition, for every sheet without a broken rule, every list of d0 elements and every allowed coin list, the prover's file is accepted,
-- with k_i reads for each different index of level i.
pub completeness : (ed : Edition) (w f coins : List ℕ) → Allowed ed w f coins → verify_in ed (file_of (honest_stream ed w f coins)) ≡ record { outcome = accepted; reads = reads_due (sheet_of ed w) coins }
unfolding verify_in then_verdict
completeness ed w f coins ok = rw (reading_passes ok, stream ok) (deciding_passes ok)
