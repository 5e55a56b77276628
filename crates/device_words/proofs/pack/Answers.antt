use Prim.Native.Nat.{ℕ}
use mathlib.Core.List.{List, ◌++◌}
use mathlib.Core.Path.{◌≡◌, ap, ◌∙◌}
use Rattle.registers.specs.Meaning.{device_of}
use Rattle.device_words.specs.Words.{device_in, words_of}
use Rattle.device_words.specs.Inverse.{device_back}
use Rattle.device_words.proofs.pack.Goals as goal

pub returns : goal.returns
unfolding words_of device_of
returns c =
    let f = c.first_words-first.ensures in
    let d = device_of c.args.d in
    let e : c.put_all.new.state ≡ words_of d = c.put_all.ensures ∙ ap (λ (l : List ℕ). l ++ d.folds) f.value in record { state_after = e; state_after_2 = λ taken treated. ap device_in e ∙ device_back d (taken, (treated, f.d_bound)) }
