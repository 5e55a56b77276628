use native.Mathlib.Omega.{arith}
use Prim.Native.Nat.{ℕ, ◌*◌}
use mathlib.Core.Path.{◌∙◌, ap, sym}
use lib.ListN.{length, get_or}
use Rattle.edition.specs.Meaning.{edition_of}
use Rattle.spelling.specs.ByField.{elements_at}
use Rattle.honest_words.specs.Sizes.{numbers}
use Rattle.honest_round.proofs.Rounds.{folded_is}
use Rattle.honest_round.proofs.fold.Goals as goal

pub fold-requires : goal.fold-requires
fold-requires c =
    let a = c.args in
    let k = c.folding_number-k.ensures in
    (omega (arith, k, (numbers c.requires.0).least_fold), c.requires.1 ∙ ap (λ (m : ℕ). m * length (elements_at (get_or a.w.now 0 0) a.out.now)) (sym k))

pub returns : goal.returns
returns c =
    let a = c.args in
    let k = c.folding_number-k in
    let v = c.fold in
    folded_is (edition_of a.e) a.w.now a.level k.result a.r a.f.now v.new.out k.ensures v.ensures
