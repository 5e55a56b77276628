-- The bytes of a line, and what it is to write more of them.
use Rattle.std.specs.Prelude.{ℕ, suc, ◌+◌, ◌<◌, ◌≡◌, refl, List, [], ◌∷◌, ◌++◌, length, take, get_or, set}
use Rattle.std.proofs.Common.{sym, ap, subst, ◌∙◌, append_assoc, append-nil, length-append, take-suc, take-suc-set, add-one, arith}
use Rattle.line.specs.declared.Line.{Line}

abbrev pub text_of : Line → List ℕ
text_of line = take line.length line.bytes

-- r is the line with so many bytes more
pub record Extends (line : Line) (more : List ℕ) (r : Line) : Type 0 where
  pub text : text_of r ≡ text_of line ++ more
  pub long : r.length ≡ line.length + length more

pub extends_none : (a : Line) → Extends a [] a
extends_none a = record { text = sym (append-nil (text_of a)); long = omega arith }

pub extends_then : (a b c : Line) (xs ys : List ℕ) → Extends a xs b → Extends b ys c → Extends a (xs ++ ys) c
extends_then a b c xs ys e h = record {
  text = h.text ∙ ap (λ (l : List ℕ). l ++ ys) e.text ∙ append_assoc (text_of a) xs ys;
  long = omega (arith, h.long, e.long, length-append xs ys);
}

-- a store behind the line's bytes
pub extends_store : (a : Line) (x : ℕ) → a.length < length a.bytes → Extends a (x ∷ []) (record { bytes = set a.bytes a.length x; length = a.length + 1 })
extends_store a x h = record { text = rw (add-one a.length) (take-suc-set a.bytes a.length x h); long = refl }

-- so many bytes of a list, and the next
pub extends_next : (a b c : Line) (xs : List ℕ) (i : ℕ) → i < length xs → Extends a (take i xs) b → Extends b (get_or xs i 0 ∷ []) c → Extends a (take (i + 1) xs) c
extends_next a b c xs i h e k =
    let more : take (i + 1) xs ≡ take i xs ++ (get_or xs i 0 ∷ []) = rw (add-one i) (take-suc xs i 0 h) in
    subst (λ (l : List ℕ). Extends a l c) (sym more) (extends_then a b c (take i xs) (get_or xs i 0 ∷ []) e k)

-- the next byte of a list that is copied behind the first `at` places of another
pub copied_next : (at i : ℕ) (before out xs : List ℕ) → at + i < length out → i < length xs → take (at + i) out ≡ take at before ++ take i xs →
    take (at + (i + 1)) (set out (at + i) (get_or xs i 0)) ≡ take at before ++ take (i + 1) xs
copied_next at i before out xs h k e =
    let x = get_or xs i 0 in
    let one : at + (i + 1) ≡ suc (at + i) = omega arith in
    ap (λ (n : ℕ). take n (set out (at + i) x)) one
    ∙ take-suc-set out (at + i) x h
    ∙ ap (λ (l : List ℕ). l ++ (x ∷ [])) e
    ∙ append_assoc (take at before) (take i xs) (x ∷ [])
    ∙ ap (λ (l : List ℕ). take at before ++ l) (sym (rw (add-one i) (take-suc xs i 0 k)))

-- the line's bytes are these
pub record Holds (line : Line) (bytes : List ℕ) : Type 0 where
  pub text : text_of line ≡ bytes
  pub long : line.length ≡ length bytes

-- a line made from the empty one
pub begun : (a r : Line) (xs : List ℕ) → a.length ≡ 0 → Extends a xs r → Holds r xs
begun a r xs none e = record { text = e.text ∙ ap (λ (n : ℕ). take n a.bytes ++ xs) none; long = omega (arith, none, e.long) }

-- a line and more bytes
pub held_then : (a r : Line) (xs ys : List ℕ) → Holds a xs → Extends a ys r → Holds r (xs ++ ys)
held_then a r xs ys h e = record { text = e.text ∙ ap (λ (l : List ℕ). l ++ ys) h.text; long = omega (arith, e.long, h.long, length-append xs ys) }
