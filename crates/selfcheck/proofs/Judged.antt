-- The blocks that prove says it wrote lie in the output, and completeness speaks of them.
use Prim.Native.Nat.{ℕ, ◌*◌, ◌≤◌}
use native.Mathlib.Omega.{arith}
use mathlib.Core.Path.{◌≡◌, refl, sym, ap, subst, ◌∙◌}
use mathlib.Core.List.{List}
use lib.Dec.{ltb}
use lib.ListN.{length, take}
use borrow.Author.Tests.{ltb-false}
use Rattle.definition.specs.Block.{block_count}
use Rattle.definition.specs.Layout.{words_due}
use Rattle.definition.specs.Prove.{Answer, done, output_test, prove_in, refusal}
use Rattle.definition.specs.Sheet.{Edition, sheet_of}
use Rattle.definition.specs.Verdict.{Verdict, accepted}
use Rattle.definition.specs.Verify.{verify_in}
use Rattle.completeness.specs.Numbered.{reads_due}
use Rattle.completeness.proofs.ProveAccepted.{done_allowed, prove_accepted}
use Rattle.layouts.specs.Tests.{if_passes}
use Rattle.selfcheck.specs.Written.{blocks_written}

module _ (ed : Edition) (w f coins output : List ℕ) where
  inside_by : (a : Answer) → (prove_in ed w f coins output).answer ≡ a → 512 * blocks_written a ≤ length output
  unfolding blocks_written output_test
  inside_by (refusal number place) e = omega arith
  inside_by (done count) e =
      let r = done_allowed ed w f coins output count e in
      let blocks = block_count (words_due ed (sheet_of ed w)) in
      let room : 512 * blocks ≤ length output = ltb-false (length output) (512 * blocks) (if_passes 11 blocks (ltb (length output) (512 * blocks)) r.1) in
      omega (arith, r.2)

  pub inside : {count : ℕ} → count ≡ blocks_written (prove_in ed w f coins output).answer → 512 * count ≤ length output
  inside {count} e = subst (λ (n : ℕ). 512 * n ≤ length output) (sym e) (inside_by (prove_in ed w f coins output).answer refl)

  -- where prove answers done, the verdict on the blocks written is accepted with the due reads
  pub accepted_by : (a : Answer) {v : Verdict} → a ≡ (prove_in ed w f coins output).answer → v ≡ verify_in ed (take (512 * blocks_written a) (prove_in ed w f coins output).output) →
      (count : ℕ) → a ≡ done count → v ≡ record { outcome = accepted; reads = reads_due (sheet_of ed w) coins }
  unfolding blocks_written
  accepted_by a e q count d =
      q ∙ ap (λ (b : Answer). verify_in ed (take (512 * blocks_written b) (prove_in ed w f coins output).output)) d
      ∙ prove_accepted ed w f coins output count (sym e ∙ d)

-- what proving and judging an order of an edition answers and leaves. A record, as `Gives` is
pub record Both (ed : Edition) (w f coins before : List ℕ) (a : Answer) (v : Verdict) (after : List ℕ) : Type 0 where
  pub answer : a ≡ (prove_in ed w f coins before).answer
  pub output : after ≡ (prove_in ed w f coins before).output
  pub verdict : v ≡ verify_in ed (take (512 * blocks_written a) after)
  pub due : (count : ℕ) → a ≡ done count → v ≡ record { outcome = accepted; reads = reads_due (sheet_of ed w) coins }

pub both : {ed : Edition} {w f coins before after : List ℕ} {a : Answer} {v : Verdict} → (a ≡ (prove_in ed w f coins before).answer) × ((after ≡ (prove_in ed w f coins before).output) ×
    ((v ≡ verify_in ed (take (512 * blocks_written a) after)) × ((count : ℕ) → a ≡ done count → v ≡ record { outcome = accepted; reads = reads_due (sheet_of ed w) coins }))) →
    Both ed w f coins before a v after
both h = record { answer = h.0; output = h.1.0; verdict = h.1.1.0; due = h.1.1.1 }
