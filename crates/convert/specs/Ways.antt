-- A conversion to the edition named, and what the way there answers and leaves.
use Rattle.std.specs.Prelude.{ℕ, List, ◌≡◌}
use Rattle.std.proofs.Common.{sym}
use Rattle.std.proofs.Math.Path.{subst}
use Rattle.definition.specs.Convert.{to_edition1, to_edition2}
use Rattle.definition.specs.Prove.{Answer, Result}
use Rattle.edition.specs.declared.Edition.{Edition}
use Rattle.edition.specs.declared.Edition.TheVariants.{One, Two}
use Rattle.outcome.specs.Gives.{Gives, gives}

unfoldable pub converted : Edition → List ℕ → List ℕ → Result
converted One = to_edition1
converted Two = to_edition2

module _ (file : List ℕ) {to : Edition} {before after : List ℕ} {a : Answer} where
  pub to_one : to ≡ One → (a ≡ (to_edition1 file before).answer) × (after ≡ (to_edition1 file before).output) → Gives (converted to file) before a after
  unfolding converted
  to_one q h = subst (λ (e : Edition). Gives (converted e file) before a after) (sym q) (gives h)

  pub to_two : to ≡ Two → (a ≡ (to_edition2 file before).answer) × (after ≡ (to_edition2 file before).output) → Gives (converted to file) before a after
  unfolding converted
  to_two q h = subst (λ (e : Edition). Gives (converted e file) before a after) (sym q) (gives h)
