-- What is read from the words after a sheet is settled by as many words as the layout has.
use Rattle.std.specs.Prelude.{ℕ, suc, ◌+◌, ◌≤◌, ◌<◌, ◌≡◌, refl, length, get_or, take, drop}
use Rattle.std.proofs.Common.{arith, sym, ap, ◌∙◌, drop-drop}
use mathlib.Core.List.{List, [], ◌∷◌, ◌++◌, zip_with}
use Rattle.definition.specs.Deciding.{out_in_domain}
use Rattle.definition.specs.Field.{Element, Spelling, begun_by, elements_in, number_in, word_count}
use Rattle.definition.specs.Layout.{Kind, coin, index, later_count, layout, message, out, read_rest, read_transcript, rest_layout, round_coins}
use Rattle.definition.specs.Sheet.{Level, Sheet, final_count, first_level, later_levels}
use Rattle.definition.specs.Transcript.{final, round}
use Rattle.layouts.proofs.LayoutFacts.{final_length, layout_length, rest_length}
use Rattle.layouts.specs.Levels.{element_at}
use Rattle.layouts.specs.Spellings.{at_take, begun_at, count_zero, read_drop, read_from}
use Rattle.layouts.specs.WholeCoins.{IsOut, Whole, whole_inside}
use Rattle.list_laws.specs.Lists.{same_fewer, same_part}
use Rattle.completeness.specs.EqualOuts.{SameOuts}

pub rest_front : (σ : Spelling) (s : ℕ) (b : Level) (ls : List Level) (c d : List ℕ) → take (length (rest_layout σ s b ls)) c ≡ take (length (rest_layout σ s b ls)) d → read_rest σ s b ls c ≡ read_rest σ s b ls d
unfolding read_rest
rest_front σ s b [] c d e =
    let n = final_length σ s b in
    let k = word_count σ (final_count b) in
    λ i. final (elements_in σ (same_fewer k (length (rest_layout σ s b [])) c d (omega (arith, n)) e i)) (same_part k b.repetitions (length (rest_layout σ s b [])) c d (omega (arith, n)) e i)
rest_front σ o b (l ∷ ls) c d e =
    let n = length (rest_layout σ o b (l ∷ ls)) in
    let r = rest_length σ o b l ls in
    let k = later_count σ b in
    let s = word_count σ o in
    let size = word_count σ l.size in
    let at : (x : List ℕ) (m : ℕ) → take m (drop s (drop size x)) ≡ take m (drop (size + s) x) = λ x m. ap (take m) (drop-drop s size x) in
    let after : (x : List ℕ) → drop s (drop s (drop size x)) ≡ drop (size + s + s) x = λ x. ap (drop s) (drop-drop s size x) ∙ drop-drop s (size + s) x in
    let outs : take s (drop size c) ≡ take s (drop size d) = same_part size s n c d (omega (arith, r)) e in
    let replies : take s (drop s (drop size c)) ≡ take s (drop s (drop size d)) = at c s ∙ same_part (size + s) s n c d (omega (arith, r)) e ∙ sym (at d s) in
    let later : take k (drop s (drop s (drop size c))) ≡ take k (drop s (drop s (drop size d))) = ap (take k) (after c) ∙ same_part (size + s + s) k n c d (omega (arith, r)) e ∙ sym (ap (take k) (after d)) in
    let over : (x : List ℕ) → drop k (drop s (drop s (drop size x))) ≡ drop (size + s + s + k) x = λ x. ap (drop k) (after x) ∙ drop-drop k (size + s + s) x in
    let m = length (rest_layout σ o l ls) in
    let rest : take m (drop k (drop s (drop s (drop size c)))) ≡ take m (drop k (drop s (drop s (drop size d)))) =
    ap (take m) (over c) ∙ same_part (size + s + s + k) m n c d (omega (arith, r)) e ∙ sym (ap (take m) (over d)) in
    λ i. round (record { table = elements_in σ (same_fewer size n c d (omega (arith, r)) e i); coins = round_coins σ l (outs i) (later i); replies = elements_in σ (replies i) })
    (rest_front σ o l ls (drop k (drop s (drop s (drop size c)))) (drop k (drop s (drop s (drop size d)))) rest i)

pub transcript_front : (h : Sheet) (c d : List ℕ) → take (length (layout h)) c ≡ take (length (layout h)) d → read_transcript h.spelling h c ≡ read_transcript h.spelling h d
unfolding read_transcript
transcript_front h c d e =
    let σ = h.spelling in
    let n = length (layout h) in
    let r = layout_length h in
    let m = length (rest_layout σ h.out_coins (first_level h) (later_levels h)) in
    let size = word_count σ h.size in
    let over : (x : List ℕ) → drop (word_count σ 1) (drop size x) ≡ drop (size + word_count σ 1) x = λ x. drop-drop (word_count σ 1) size x in
    let first : (x : List ℕ) → get_or (elements_in σ (take (word_count σ 1) (drop size x))) 0 (number_in σ 0) ≡ get_or (elements_in σ (drop size x)) 0 (number_in σ 0) =
    λ x. read_from σ x size (word_count σ 1) 0 (omega (arith, count_zero σ)) ∙ sym (read_drop σ x size 0) in
    λ i. record {
      table = elements_in σ (same_fewer size n c d (omega (arith, r)) e i);
      fold = (sym (first c) ∙ ap (λ (l : List ℕ). get_or (elements_in σ l) 0 (number_in σ 0)) (same_part size (word_count σ 1) n c d (omega (arith, r)) e) ∙ first d) i;
      rest = rest_front σ h.out_coins (first_level h) (later_levels h) (drop (word_count σ 1) (drop size c)) (drop (word_count σ 1) (drop size d))
          (ap (take m) (over c) ∙ same_part (size + word_count σ 1) m n c d (omega (arith, r)) e ∙ sym (ap (take m) (over d))) i;
    }

-- the tests by kind too
pub zip_front : {B : Type 0} (f : Kind → ℕ → B) (ks : List Kind) (xs z : List ℕ) → length ks ≤ length xs → zip_with f ks (take (length ks) xs ++ z) ≡ zip_with f ks xs
unfolding zip_with
zip_front f [] xs z l = refl
zip_front f (k ∷ ks) [] z l = absurd (omega arith)
zip_front {B} f (k ∷ ks) (x ∷ xs) z l = ap {B = List B} (λ t. f k x ∷ t) (zip_front f ks xs z (omega arith))

-- and those that look at what the words begin, of which they look at whole out coins
same_kind : {A : Type 0} (k : Kind) (x y : A) → (IsOut k → x ≡ y) → SameOuts k x y
same_kind message x y h = tt
same_kind coin x y h = tt
same_kind (out l) x y h = h tt
same_kind (index n) x y h = tt

pub begun_front : (σ : Spelling) (ks : List Kind) (u v : List ℕ) → Whole σ ks → length ks ≤ length u → length ks ≤ length v → take (length ks) u ≡ take (length ks) v →
    (j : ℕ) → j < length ks → SameOuts (get_or ks j message) (get_or (begun_by σ u) j (number_in σ 0)) (get_or (begun_by σ v) j (number_in σ 0))
begun_front σ ks u v whole lu lv e j l =
    same_kind (get_or ks j message) _ _
    (λ o. let n = whole_inside σ ks whole j l o in
    begun_at σ u j (omega (arith, n)) ∙ sym (at_take σ u (length ks) j n) ∙ ap (λ (x : List ℕ). element_at σ x j) e ∙ at_take σ v (length ks) j n ∙ sym (begun_at σ v j (omega (arith, n))))

inside_same : (σ : Spelling) (h : Sheet) (k : Kind) (x y : Element σ) → SameOuts k x y → out_in_domain σ h k x ≡ out_in_domain σ h k y
unfolding out_in_domain
inside_same σ h message x y e = refl
inside_same σ h coin x y e = refl
inside_same σ h (out l) x y e = ap (out_in_domain σ h (out l)) e
inside_same σ h (index n) x y e = refl

pub inside_front : (σ : Spelling) (h : Sheet) (d : Element σ) (ks : List Kind) (xs ys : List (Element σ)) → length ks ≤ length xs → length ks ≤ length ys →
    ((j : ℕ) → j < length ks → SameOuts (get_or ks j message) (get_or xs j d) (get_or ys j d)) → zip_with (out_in_domain σ h) ks xs ≡ zip_with (out_in_domain σ h) ks ys
unfolding zip_with
inside_front σ h d [] xs ys a b o = refl
inside_front σ h d (k ∷ ks) [] ys a b o = absurd (omega arith)
inside_front σ h d (k ∷ ks) (x ∷ xs) [] a b o = absurd (omega arith)
inside_front σ h d (k ∷ ks) (x ∷ xs) (y ∷ ys) a b o =
    λ i. inside_same σ h k x y (o 0 (omega arith)) i ∷ inside_front σ h d ks xs ys (omega arith) (omega arith) (λ j l. o (suc j) (omega arith)) i
