-- The prover's tests of a batch's coins by those of a plain run: r comes first, and the other coins are the plain ones.
use Rattle.std.specs.Prelude.{ℕ, ◌+◌, ◌≤◌, ◌<◌, ◌≡◌, length, drop, replicate}
use Rattle.std.proofs.Common.{arith, ap, ◌∙◌, length-append}
use mathlib.Core.List.{List, zip_with}
use Rattle.std.proofs.Math.Option.{none}
use Rattle.std.proofs.lemmas.List.{length-replicate}
use Rattle.batch_definition.specs.Batch.{batch_layout, batch_out_tests}
use Rattle.definition.specs.Deciding.{out_in_domain, repeated_outs}
use Rattle.definition.specs.Field.{Element, begun_by}
use Rattle.definition.specs.Layout.{Kind, coin, coin_kinds, layout}
use Rattle.definition.specs.Lists.{first_true}
use Rattle.definition.specs.Prove.{coin_domain_test, coin_equal_test}
use Rattle.definition.specs.Sheet.{Sheet}
use Rattle.definition.specs.Verdict.{Outcome, ◌then◌, refuse_at, refused}
use Rattle.list_laws.specs.Lists.{zip_short}
use Rattle.layouts.specs.Levels.{sheet_field, words_for}
use Rattle.layouts.specs.Spellings.{begun_drop, begun_length}
use Rattle.completeness.proofs.Answers.{at_refuses, then_refuses}
use Rattle.completeness.specs.EqualOuts.{repeated_most}
use Rattle.batches.proofs.AllowedBatches.{batch_coins}
use Rattle.batches.proofs.BatchAnswers.{by_refuses}
use Rattle.batches.specs.Batched.{higher}
use Rattle.batches.proofs.PlainStream.{front_coins, tests_moved}

-- the words of r, and those of the other coins
pub coins_long : (h : Sheet) (count : ℕ) → length (coin_kinds (batch_layout h count)) ≡ length (coin_kinds (layout h)) + words_for h 1
coins_long h count = omega (arith, ap length (batch_coins h count), length-append (replicate (words_for h 1) coin) (coin_kinds (layout h)), length-replicate (words_for h 1) coin)

-- 7 and 14 are those of the coins after r, at places that are higher by its words
pub outs_after : (h : Sheet) (count : ℕ) (coins : List ℕ) → words_for h 1 ≤ length coins →
    batch_out_tests h (coin_kinds (batch_layout h count)) coins
    ≡ higher (words_for h 1) (coin_domain_test h (drop (words_for h 1) coins) then coin_equal_test h (drop (words_for h 1) coins))
unfolding batch_out_tests coin_domain_test coin_equal_test
outs_after h count coins l =
    let σ = h.spelling in
    let o = words_for h 1 in
    let ks = coin_kinds (layout h) in
    let r = front_coins h o 0 ks (begun_by σ coins) (omega (arith, begun_length σ coins)) in
    ap (λ (k : List Kind). rows k (begun_by σ coins)) (batch_coins h count)
    ∙ (λ i. refuse_at 7 (r.0 i) then refuse_at 14 (r.1 i))
    ∙ ap (λ (x : List (Element σ)). refuse_at 7 (first_true (0 + o) (zip_with (out_in_domain σ h) ks x)) then refuse_at 14 (first_true (0 + o) (repeated_outs (sheet_field h) none ks x))) (begun_drop σ o coins)
    ∙ tests_moved 0 o (zip_with (out_in_domain σ h) ks (begun_by σ (drop o coins))) (repeated_outs (sheet_field h) none ks (begun_by σ (drop o coins)))
  where
    rows : List Kind → List (Element h.spelling) → Outcome
    rows k x = refuse_at 7 (first_true 0 (zip_with (out_in_domain h.spelling h) k x)) then refuse_at 14 (first_true 0 (repeated_outs (sheet_field h) none k x))

-- the place of such a refusal is one of a coin word
pub out_place : (h : Sheet) (coins : List ℕ) (n q : ℕ) → (coin_domain_test h coins then coin_equal_test h coins) ≡ refused n q → q < length coins
unfolding coin_domain_test coin_equal_test
out_place h coins n q e =
    let P : ℕ → ℕ → Type 0 = λ m p. p < length coins in
    let σ = h.spelling in
    let ks = coin_kinds (layout h) in
    by_refuses P (coin_domain_test h coins then coin_equal_test h coins) n q
    (then_refuses P (coin_domain_test h coins) (coin_equal_test h coins)
    (at_refuses P 7 0 (zip_with (out_in_domain σ h) ks (begun_by σ coins)) (λ j l. omega (arith, l, zip_short (out_in_domain σ h) ks (begun_by σ coins), begun_length σ coins)))
    (at_refuses P 14 0 (repeated_outs (sheet_field h) none ks (begun_by σ coins)) (λ j l. omega (arith, l, repeated_most (sheet_field h) none ks (begun_by σ coins), begun_length σ coins)))) e
