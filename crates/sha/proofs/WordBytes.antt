-- The bytes of a hash, one word after the other: a word's four bytes put behind those before it. Assumes nothing.
use Prim.Native.Nat.{ℕ, ◌+◌, ◌*◌, ◌≤◌, ◌<◌}
use native.Mathlib.Numerals.{add-one}
use native.Mathlib.Omega.{arith}
use native.Mathlib.Nat.{div-one}
use mathlib.Core.List.{List, [], ◌∷◌, ◌++◌, flat_map, append-nil, append_assoc}
use mathlib.Core.Path.{◌≡◌, refl, sym, ap, ◌∙◌}
use lib.ListN.{length, get_or, take}
use lib.Seq.{take-suc}
use mir.Syntax.{w32}
use borrow.Rule.Slice.PartMut.{put_mid}
use Rattle.std.proofs.Common.{length-append, length-take, length-drop}
use Rattle.std.specs.Int.{to_be_bytes}
use Rattle.std.proofs.lemmas.Slice.{take-put_mid}
use Rattle.hashing.specs.Sha256.{big_bytes}

pub word_bytes : (x : ℕ) → to_be_bytes w32 x ≡ big_bytes 4 x
unfolding big_bytes
word_bytes x = simp div-one

four : (x : ℕ) → length (big_bytes 4 x) ≡ 4
unfolding big_bytes
four x = refl

-- a part written over keeps the length
pub kept : (a k : ℕ) (xs ys : List ℕ) → a + k ≤ length xs → length ys ≡ k → length (put_mid a k xs ys) ≡ length xs
kept a k xs ys h e = simp (length-append, length-take, length-drop) (omega arith)

join : (a : List ℕ) (x : ℕ) → flat_map (big_bytes 4) (a ++ (x ∷ [])) ≡ flat_map (big_bytes 4) a ++ big_bytes 4 x
unfolding flat_map
join [] x = append-nil (big_bytes 4 x)
join (y ∷ a) x = rw (join a x) (sym (append_assoc (big_bytes 4 y) (flat_map (big_bytes 4) a) (big_bytes 4 x)))

pub next_word : (bytes words : List ℕ) (i k : ℕ) {r : List ℕ} → 4 * i + 4 ≤ length bytes → i < length words → r ≡ to_be_bytes w32 (get_or words i 0)
    → take (4 * i) bytes ≡ flat_map (big_bytes 4) (take i words) → take (4 * (i + 1)) (put_mid (4 * i) k bytes r) ≡ flat_map (big_bytes 4) (take (i + 1) words)
next_word bytes words i k {r} h l e s =
    let x = get_or words i 0 in
    let b : r ≡ big_bytes 4 x = e ∙ word_bytes x in
    let t : flat_map (big_bytes 4) (take (i + 1) words) ≡ flat_map (big_bytes 4) (take i words) ++ big_bytes 4 x = rw (add-one i, take-suc words i 0 l) (join (take i words) x) in
    take-put_mid (4 * i) k bytes r (4 * (i + 1)) (omega (arith, ap length b, four x)) (omega arith)
    ∙ ap (λ (q : List ℕ). q ++ r) s ∙ ap (λ (q : List ℕ). flat_map (big_bytes 4) (take i words) ++ q) b ∙ sym t
