-- Words put into places one after the other.
use Prim.Native.Nat.{ℕ, ◌+◌, ◌-◌, ◌≤◌, ◌<◌}
use native.Mathlib.Omega.{arith}
use native.Mathlib.Numerals.{add-one}
use mathlib.Core.List.{List, ◌++◌, append-nil}
use mathlib.Core.Path.{◌≡◌, ap, sym, ◌∙◌}
use lib.ListN.{length, take, drop, get_or, set, length-append, length-drop, drop_of_length-le}
use lib.Seq.{paste, paste-suc, take_all, take_at}

pub one_more : (before out words : List ℕ) (at i : ℕ) → at + length words ≤ length before → i < length words → out ≡ paste before at words i →
    set out (at + i) (get_or words i 0) ≡ paste before at words (i + 1)
one_more before out words at i room there e =
    ap (λ (l : List ℕ). set l (at + i) (get_or words i 0)) e ∙ paste-suc before at words i 0 (omega arith) there
    ∙ ap (paste before at words) (sym (add-one i))

pub all_put : (before out words : List ℕ) (at i : ℕ) → i ≡ length words → out ≡ paste before at words i → out ≡ take at before ++ words ++ drop (at + length words) before
all_put before out words at i e h =
    h ∙ ap (paste before at words) e
    ∙ ap (λ (l : List ℕ). take at before ++ l ++ drop (at + length words) before) (take_all (length words) words (omega arith))

-- the part from 8 on, put over all places
pub folds_put : (zeros state out : List ℕ) → length state ≡ 1160 → length zeros ≡ 1152 →
    out ≡ take 0 zeros ++ take (length state - 8) (drop 8 state) ++ drop (0 + length (take (length state - 8) (drop 8 state))) zeros → out ≡ drop 8 state
folds_put zeros state out long places h =
    let whole : take (length state - 8) (drop 8 state) ≡ drop 8 state = take_all (length state - 8) (drop 8 state) (omega (arith, length-drop 8 state)) in
    h ∙ ap (λ (l : List ℕ). l ++ drop (0 + length l) zeros) whole
    ∙ ap (λ (l : List ℕ). drop 8 state ++ l) (drop_of_length-le zeros {i = 0 + length (drop 8 state)} (omega (arith, length-drop 8 state, long, places))) ∙ append-nil (drop 8 state)

-- the first eight words, and then the folds
pub all_words : (first folds before between after : List ℕ) → length first ≡ 8 → length folds ≡ 1152 → length before ≡ 1160 →
    between ≡ take 0 before ++ first ++ drop (0 + length first) before → after ≡ take 8 between ++ folds ++ drop (8 + length folds) between → after ≡ first ++ folds
all_words first folds before between after a b c h k =
    let long : length between ≡ 1160 = ap length h ∙ omega (arith, length-append first (drop (0 + length first) before), length-drop (0 + length first) before) in
    k ∙ ap (λ (l : List ℕ). take 8 between ++ folds ++ l) (drop_of_length-le between {i = 8 + length folds} (omega (arith, long, b)))
    ∙ append-nil (take 8 between ++ folds)
    ∙ ap (λ (l : List ℕ). l ++ folds) (ap (take 8) h ∙ take_at first (drop (0 + length first) before) 8 a)
