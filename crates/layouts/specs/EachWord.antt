-- Two lists place by place, the kinds of a layout and the words: how such facts are joined, split and counted, and how a test that finds nothing gives them.
use Rattle.std.specs.Prelude.{ℕ, zero, suc, ◌+◌, ◌*◌, ◌≤◌, ◌<◌, Bool, true, false, ◌≡◌, refl, length, take, drop, replicate}
use Rattle.std.proofs.Common.{arith, ap, subst, leb-false}
use mathlib.Core.List.{List, [], ◌∷◌, ◌++◌, flat_map, zip_with}
use Rattle.std.proofs.Math.Option.{none}
use Rattle.definition.specs.Deciding.{out_in_domain}
use Rattle.definition.specs.Field.{Element, Spelling, begun_by, elements_in, four, one, quads, word_count, words_of}
use Rattle.definition.specs.Layout.{Kind, coin, index, limit, out, out_layout}
use Rattle.definition.specs.Lists.{first_true}
use Rattle.definition.specs.Reading.{out_of_range}
use Rattle.definition.specs.Sheet.{Level, Sheet}
use Rattle.list_laws.specs.All.{All}
use Rattle.list_laws.specs.Booleans.{some≢none}

-- two lists of one length, related place by place
abbrev pub Each : {A : Type 0} → (Kind → A → Type 0) → List Kind → List A → Type 0
Each R [] [] = Unit {0}
Each R [] (x ∷ w) = ⊥
Each R (k ∷ ks) [] = ⊥
Each R (k ∷ ks) (x ∷ w) = R k x × Each R ks w

pub each_pair : {A : Type 0} (P Q : Kind → A → Type 0) (ks : List Kind) (w : List A) → Each P ks w → Each Q ks w → Each (λ k x. P k x × Q k x) ks w
each_pair P Q [] [] h g = tt
each_pair P Q [] (x ∷ w) h g = h
each_pair P Q (k ∷ ks) [] h g = h
each_pair P Q (k ∷ ks) (x ∷ w) h g = ((h.0, g.0), each_pair P Q ks w h.1 g.1)

pub each_map : {A : Type 0} {P Q : Kind → A → Type 0} (ks : List Kind) (w : List A) → Each P ks w → ((k : Kind) (x : A) → P k x → Q k x) → Each Q ks w
each_map [] [] h g = tt
each_map [] (x ∷ w) h g = h
each_map (k ∷ ks) [] h g = h
each_map (k ∷ ks) (x ∷ w) h g = (g k x h.0, each_map ks w h.1 g)

pub each_join : {A : Type 0} (R : Kind → A → Type 0) (ks ks' : List Kind) (u v : List A) → Each R ks u → Each R ks' v → Each R (ks ++ ks') (u ++ v)
each_join R [] ks' [] v h g = g
each_join R [] ks' (x ∷ u) v h g = absurd h
each_join R (k ∷ ks) ks' [] v h g = absurd h
each_join R (k ∷ ks) ks' (x ∷ u) v h g = (h.0, each_join R ks ks' u v h.1 g)

pub each_length : {A : Type 0} (R : Kind → A → Type 0) (ks : List Kind) (w : List A) → Each R ks w → length w ≡ length ks
each_length R [] [] h = refl
each_length R [] (x ∷ w) h = absurd h
each_length R (k ∷ ks) [] h = absurd h
each_length R (k ∷ ks) (x ∷ w) h = ap suc (each_length R ks w h.1)

pub each_same : {A : Type 0} (R : Kind → A → Type 0) (n : ℕ) (k : Kind) (w : List A) → length w ≡ n → All (R k) w → Each R (replicate n k) w
each_same R zero k [] l h = tt
each_same R zero k (x ∷ w) l h = absurd (omega arith)
each_same R (suc n) k [] l h = absurd (omega arith)
each_same R (suc n) k (x ∷ w) l h = (h.0, each_same R n k w (omega arith) h.1)

-- both parts of a joined list, cut at the length of the first
each_append : {A : Type 0} (R : Kind → A → Type 0) (ks ks' : List Kind) (w : List A) → Each R (ks ++ ks') w → Each R ks (take (length ks) w) × Each R ks' (drop (length ks) w)
each_append R [] ks' w h = (tt, h)
each_append R (k ∷ ks) ks' [] h = absurd h
each_append R (k ∷ ks) ks' (x ∷ w) h = let r = each_append R ks ks' w h.1 in ((h.0, r.0), r.1)

pub each_append_at : {A : Type 0} (R : Kind → A → Type 0) (n : ℕ) (ks ks' : List Kind) (w : List A) → length ks ≡ n → Each R (ks ++ ks') w → Each R ks (take n w) × Each R ks' (drop n w)
each_append_at R n ks ks' w e h = subst (λ (m : ℕ). Each R ks (take m w) × Each R ks' (drop m w)) e (each_append R ks ks' w h)

-- words of one kind, and the later coins of a round
pub each_replicate : {A : Type 0} (R : Kind → A → Type 0) (n : ℕ) (k : Kind) (w : List A) → Each R (replicate n k) w → (length w ≡ n) × All (R k) w
each_replicate R zero k [] h = (refl, tt)
each_replicate R zero k (x ∷ w) h = absurd h
each_replicate R (suc n) k [] h = absurd h
each_replicate R (suc n) k (x ∷ w) h = let r = each_replicate R n k w h.1 in (ap suc r.0, (h.0, r.1))

pub each_later : {A : Type 0} (R : Kind → A → Type 0) (c n m : ℕ) (v : List A) → Each R (replicate c coin ++ replicate n (index m)) v → (length v ≡ c + n) × All (R (index m)) (drop c v)
each_later R zero n m v h = let r = each_replicate R n (index m) v h in (omega (arith, r.0), r.1)
each_later R (suc c) n m [] h = absurd h
each_later R (suc c) n m (a ∷ v) h = let r = each_later R c n m v h.1 in (omega (arith, r.0), r.1)

-- no test is true
pub each_false : {A : Type 0} (t : Kind → A → Bool) (from : ℕ) (ks : List Kind) (w : List A) → length w ≡ length ks → first_true from (zip_with t ks w) ≡ none → Each (λ k x. t k x ≡ false) ks w
unfolding zip_with first_true
each_false t from [] [] l e = tt
each_false t from [] (x ∷ w) l e = omega arith
each_false t from (k ∷ ks) [] l e = omega arith
each_false t from (k ∷ ks) (x ∷ w) l e = go (t k x) refl e (each_false t (suc from) ks w (omega arith))
  where
    go : (b : Bool) → t k x ≡ b → first_true from (b ∷ zip_with t ks w) ≡ none → (first_true (suc from) (zip_with t ks w) ≡ none → Each (λ k' x'. t k' x' ≡ false) ks w) →
        (t k x ≡ false) × Each (λ k' x'. t k' x' ≡ false) ks w
    go true h f r = absurd (some≢none from f)
    go false h f r = (h, r f)

-- no test finds a fault, whatever follows the words
pub each_none : {A : Type 0} (t : Kind → A → Bool) (from : ℕ) (ks : List Kind) (w z : List A) → Each (λ k x. t k x ≡ false) ks w → first_true from (zip_with t ks (w ++ z)) ≡ none
unfolding zip_with first_true
each_none t from [] [] z h = refl
each_none t from [] (x ∷ w) z h = absurd h
each_none t from (k ∷ ks) [] z h = absurd h
each_none t from (k ∷ ks) (x ∷ w) z h = rw h.0 (each_none t (suc from) ks w z h.1)

-- the words begin with one of each kind, whatever follows them
abbrev pub Front : {A : Type 0} → (Kind → A → Type 0) → List Kind → List A → Type 0
Front R [] w = Unit {0}
Front R (k ∷ ks) [] = ⊥
Front R (k ∷ ks) (x ∷ w) = R k x × Front R ks w

-- a test finds no fault in them
pub front_false : {A : Type 0} (t : Kind → A → Bool) (from : ℕ) (ks : List Kind) (w : List A) → length ks ≤ length w →
    first_true from (zip_with t ks w) ≡ none → Front (λ k x. t k x ≡ false) ks w
unfolding zip_with first_true
front_false t from [] w l e = tt
front_false t from (k ∷ ks) [] l e = absurd (omega arith)
front_false t from (k ∷ ks) (x ∷ w) l e = go (t k x) refl e (front_false t (suc from) ks w (omega arith))
  where
    go : (b : Bool) → t k x ≡ b → first_true from (b ∷ zip_with t ks w) ≡ none → (first_true (suc from) (zip_with t ks w) ≡ none → Front (λ k' x'. t k' x' ≡ false) ks w) →
        (t k x ≡ false) × Front (λ k' x'. t k' x' ≡ false) ks w
    go true h f r = absurd (some≢none from f)
    go false h f r = (h, r f)

-- the first words, and those after them
front_split : {A : Type 0} (R : Kind → A → Type 0) (ks ks' : List Kind) (w : List A) → Front R (ks ++ ks') w → Each R ks (take (length ks) w) × Front R ks' (drop (length ks) w)
front_split R [] ks' w h = (tt, h)
front_split R (k ∷ ks) ks' [] h = absurd h
front_split R (k ∷ ks) ks' (x ∷ w) h = let r = front_split R ks ks' w h.1 in ((h.0, r.0), r.1)

pub front_at : {A : Type 0} (R : Kind → A → Type 0) (n : ℕ) (ks ks' : List Kind) (w : List A) → length ks ≡ n → Front R (ks ++ ks') w → Each R ks (take n w) × Front R ks' (drop n w)
front_at R n ks ks' w e h = subst (λ (m : ℕ). Each R ks (take m w) × Front R ks' (drop m w)) e (front_split R ks ks' w h)

pub front_run : {A : Type 0} (R : Kind → A → Type 0) (n : ℕ) (k : Kind) (w : List A) → Front R (replicate n k) w → All (R k) (take n w)
front_run R zero k w h = tt
front_run R (suc n) k [] h = absurd h
front_run R (suc n) k (x ∷ w) h = (h.0, front_run R n k w h.1)

pub front_tail : {A : Type 0} (R : Kind → A → Type 0) (k : Kind) (ks : List Kind) (w : List A) → Front R (k ∷ ks) w → Front R ks (drop 1 w)
front_tail R k ks [] h = absurd h
front_tail R k ks (x ∷ w) h = h.1

-- a word of its kind that refusal 5 does not meet, and an element, begun by a word of its kind, that refusal 7 does not
abbrev pub InRange : Sheet → Kind → ℕ → Type 0
InRange h k x = out_of_range h k x ≡ false

abbrev pub Outside : (h : Sheet) → Kind → Element h.spelling → Type 0
Outside h k x = out_in_domain h.spelling h k x ≡ false

pub in_range : (h : Sheet) (k : Kind) (x : ℕ) → InRange h k x → x < limit h.prime k
unfolding out_of_range
in_range h k x p = leb-false (limit h.prime k) x p

-- the words of a run of out coins
pub each_outs : (P : ℕ → Type 0) (R : Kind → ℕ → Type 0) (σ : Spelling) (s : ℕ) (l : Level) → ((x : ℕ) → R (out l) x → P x) → ((x : ℕ) → R coin x → P x) →
    (w : List ℕ) → Each R (out_layout σ s l) w → All P w
unfolding out_layout flat_map
each_outs P R one zero l f g [] h = tt
each_outs P R one zero l f g (x ∷ w) h = absurd h
each_outs P R one (suc s) l f g [] h = absurd h
each_outs P R one (suc s) l f g (x ∷ w) h = (f x h.0, each_outs P R one s l f g w h.1)
each_outs P R four zero l f g [] h = tt
each_outs P R four zero l f g (x ∷ w) h = absurd h
each_outs P R four (suc s) l f g [] h = absurd h
each_outs P R four (suc s) l f g (x ∷ []) h = absurd h.1
each_outs P R four (suc s) l f g (x ∷ y ∷ []) h = absurd h.1.1
each_outs P R four (suc s) l f g (x ∷ y ∷ z ∷ []) h = absurd h.1.1.1
each_outs P R four (suc s) l f g (x ∷ y ∷ z ∷ t ∷ w) h = (f x h.0, (g y h.1.0, (g z h.1.1.0, (g t h.1.1.1.0, each_outs P R four s l f g w h.1.1.1.1))))

-- the elements of a run of out coins, from those that its words begin
pub outs_begun : (σ : Spelling) (Q : Kind → Element σ → Type 0) (s : ℕ) (l : Level) (w : List ℕ) → word_count σ s ≤ length w →
    Each Q (out_layout σ s l) (take (word_count σ s) (begun_by σ w)) → All (Q (out l)) (elements_in σ (take (word_count σ s) w))
unfolding out_layout begun_by elements_in word_count flat_map quads
outs_begun one Q s l w long e = (each_replicate Q s (out l) (take s w) e).1
outs_begun four Q s l w long e = go s (4 * s) refl w long e
  where
    go : (m n : ℕ) → n ≡ 4 * m → (v : List ℕ) → n ≤ length v → Each Q (flat_map (λ k. k ∷ coin ∷ coin ∷ coin ∷ []) (replicate m (out l))) (take n (begun_by four v)) →
        All (Q (out l)) (quads (take n v))
    go zero zero q v u h = tt
    go zero (suc n) q v u h = absurd (omega arith)
    go (suc m) zero q v u h = absurd (omega arith)
    go (suc m) (suc zero) q v u h = absurd (omega arith)
    go (suc m) (suc (suc zero)) q v u h = absurd (omega arith)
    go (suc m) (suc (suc (suc zero))) q v u h = absurd (omega arith)
    go (suc m) (suc (suc (suc (suc n)))) q [] u h = absurd (omega arith)
    go (suc m) (suc (suc (suc (suc n)))) q (a ∷ []) u h = absurd (omega arith)
    go (suc m) (suc (suc (suc (suc n)))) q (a ∷ b ∷ []) u h = absurd (omega arith)
    go (suc m) (suc (suc (suc (suc n)))) q (a ∷ b ∷ c ∷ []) u h = absurd (omega arith)
    go (suc m) (suc (suc (suc (suc n)))) q (a ∷ b ∷ c ∷ d ∷ v) u h = (h.0, go m n (omega arith) v (omega arith) h.1.1.1.1)

-- a test that no word at the front fails finds nothing
pub front_none : {A : Type 0} (t : Kind → A → Bool) (from : ℕ) (ks : List Kind) (w : List A) → Front (λ k x. t k x ≡ false) ks w → first_true from (zip_with t ks w) ≡ none
unfolding zip_with first_true
front_none t from [] w h = refl
front_none t from (k ∷ ks) [] h = absurd h
front_none t from (k ∷ ks) (x ∷ w) h = rw h.0 (front_none t (suc from) ks w h.1)

-- and back: kinds of which nothing is asked, then out coins, before other words
pub begun_quiet : (σ : Spelling) (Q : Kind → Element σ → Type 0) (n : ℕ) (k : Kind) → ((x : Element σ) → Q k x) → (ks : List Kind) (u v : List ℕ) → length u ≡ n →
    Front Q ks (begun_by σ v) → Front Q (replicate n k ++ ks) (begun_by σ (u ++ v))
unfolding begun_by
begun_quiet one Q zero k q ks [] v e h = h
begun_quiet one Q zero k q ks (x ∷ u) v e h = absurd (omega arith)
begun_quiet one Q (suc n) k q ks [] v e h = absurd (omega arith)
begun_quiet one Q (suc n) k q ks (x ∷ u) v e h = (q x, begun_quiet one Q n k q ks u v (omega arith) h)
begun_quiet four Q zero k q ks [] v e h = h
begun_quiet four Q zero k q ks (x ∷ u) v e h = absurd (omega arith)
begun_quiet four Q (suc n) k q ks [] v e h = absurd (omega arith)
begun_quiet four Q (suc n) k q ks (x ∷ u) v e h = (q _, begun_quiet four Q n k q ks u v (omega arith) h)

pub begun_outs : (σ : Spelling) (Q : Kind → Element σ → Type 0) (coins : (x : Element σ) → Q coin x) (s : ℕ) (l : Level) (xs : List (Element σ)) (ks : List Kind) (v : List ℕ) →
    length xs ≡ s → All (Q (out l)) xs → Front Q ks (begun_by σ v) → Front Q (out_layout σ s l ++ ks) (begun_by σ (words_of σ xs ++ v))
unfolding out_layout begun_by words_of flat_map
begun_outs one Q coins zero l [] ks v e a h = h
begun_outs one Q coins zero l (x ∷ xs) ks v e a h = absurd (omega arith)
begun_outs one Q coins (suc s) l [] ks v e a h = absurd (omega arith)
begun_outs one Q coins (suc s) l (x ∷ xs) ks v e a h = (a.0, begun_outs one Q coins s l xs ks v (omega arith) a.1 h)
begun_outs four Q coins zero l [] ks v e a h = h
begun_outs four Q coins zero l (x ∷ xs) ks v e a h = absurd (omega arith)
begun_outs four Q coins (suc s) l [] ks v e a h = absurd (omega arith)
begun_outs four Q coins (suc s) l (x ∷ xs) ks v e a h = (a.0, (coins _, (coins _, (coins _, begun_outs four Q coins s l xs ks v (omega arith) a.1 h))))
