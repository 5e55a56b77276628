-- A list of words that begins with the stream to write, after its sheet was laid anew: laws over plain lists.
use Prim.Native.Nat.{ℕ, ◌+◌, ◌-◌, ◌≤◌}
use native.Mathlib.Omega.{arith}
use mathlib.Core.List.{List, ◌++◌, append_assoc}
use mathlib.Core.Path.{◌≡◌, sym, ap, ◌∙◌}
use lib.ListN.{length, take, drop, length-append, length-take, take-append-drop}
use lib.Seq.{drop-drop, take_at, take-take}
use Rattle.definition.specs.Convert.{backward, body_of, forward, spread}
use Rattle.definition.specs.Layout.{layout, words_due}
use Rattle.definition.specs.Sheet.{edition1, edition2, sheet_of}
use Rattle.completeness.proofs.Conversion.{spread_words}
use Rattle.list_laws.specs.Lists.{drop_take}

-- a list that begins with s, past its first words
begins : (l s : List ℕ) (n d m : ℕ) → take n l ≡ s → d + m ≤ n → take m (drop d l) ≡ take m (drop d s)
begins l s n d m e h =
    let k : d + (n - d) ≡ n = omega arith in
    sym (take-take m (n - d) (drop d l) (omega arith)) ∙ ap (take m) (sym (drop_take d (n - d) l) ∙ ap (λ (x : ℕ). drop d (take x l)) k ∙ ap (drop d) e)

-- the rest of a list, after the words of the new stream
joined : (a x : List ℕ) (m : ℕ) {l₁ new : List ℕ} → l₁ ≡ a ++ x → a ++ take m x ≡ new → l₁ ≡ new ++ drop m x
joined a x m f e = f ∙ ap (λ (y : List ℕ). a ++ y) (sym (take-append-drop m x)) ∙ sym (append_assoc a (take m x) (drop m x)) ∙ ap (λ (y : List ℕ). y ++ drop m x) e

-- the stream s stands from place 6 on, and its sheet is laid anew
pub forward_begins : (l s : List ℕ) (n : ℕ) {l₁ : List ℕ} → take n (drop 6 l) ≡ s → words_due edition1 (sheet_of edition1 s) ≤ length s → l₁ ≡ spread (drop 6 l) ++ drop 18 l →
    l₁ ≡ forward s ++ drop (length (layout (sheet_of edition1 s))) (drop 18 l)
unfolding forward body_of words_due
forward_begins l s n e there f =
    let m = length (layout (sheet_of edition1 s)) in
    let few : 12 + m ≤ n = omega (arith, ap length e, length-take n (drop 6 l)) in
    let sheet : spread (drop 6 l) ≡ spread s = spread_words (drop 6 l) ∙ ap spread (begins (drop 6 l) s n 0 12 e (omega arith)) ∙ sym (spread_words s) in
    joined (spread (drop 6 l)) (drop 18 l) m f (λ i. sheet i ++ (ap (take m) (sym (drop-drop 12 6 l)) ∙ begins (drop 6 l) s n 12 m e few) i)

-- the stream s stands at the front, and its sheet is laid anew
pub backward_begins : (l s : List ℕ) (n : ℕ) {l₁ : List ℕ} → take n l ≡ s → words_due edition2 (sheet_of edition2 s) ≤ length s → l₁ ≡ take 12 l ++ drop 18 l →
    l₁ ≡ backward s ++ drop (length (layout (sheet_of edition2 s))) (drop 18 l)
unfolding backward body_of words_due
backward_begins l s n e there f =
    let m = length (layout (sheet_of edition2 s)) in
    let few : 18 + m ≤ n = omega (arith, ap length e, length-take n l) in
    joined (take 12 l) (drop 18 l) m f (λ i. begins l s n 0 12 e (omega arith) i ++ begins l s n 18 m e few i)

-- a list that begins with the words to write
module _ (new rest : List ℕ) {l₁ : List ℕ} {count : ℕ} (e : l₁ ≡ new ++ rest) (n : count ≡ length new) where
  pub begun_there : count ≤ length l₁
  begun_there = omega (arith, ap length e, length-append new rest)

  pub begun_is : take count l₁ ≡ new
  begun_is = ap (take count) e ∙ take_at new rest count (sym n)
