-- Equal out coins (02, CR 6): the walk for the second of two equal ones, word by word; and a stream whose coins have no such pair has none.
use Prim.Native.Nat.{ℕ, zero, suc, ◌≤◌, ◌<◌}
use native.Mathlib.Omega.{arith}
use Rattle.std.specs.Prelude.{Bool, false, ◌≡◌, length, get_or, replicate}
use mathlib.Core.List.{List, [], ◌∷◌, ◌++◌, flat_map}
use Rattle.std.proofs.Math.Option.{Option, none, some}
use Rattle.std.proofs.Math.Path.{refl, ap}
use Rattle.std.proofs.Common.{sym, ◌∙◌, subst}
use Rattle.definition.specs.Deciding.{out_before, out_repeated, repeated_outs, same_as}
use Rattle.definition.specs.Field.{Element, Field, Quad, Spelling, begun_by, four, one, word_count}
use Rattle.definition.specs.Layout.{Kind, coin, coin_kinds, index, message, out, out_layout}
use Rattle.definition.specs.Sheet.{Level}
use Rattle.list_laws.specs.All.{All}
use Rattle.layouts.specs.WholeCoins.{Coins, Whole}

module _ {A : Type 0} (F : Field A) where
  -- no element is an out coin equal to the one before it in its round
  abbrev pub NoRepeat : Option A → List Kind → List A → Type 0
  NoRepeat before ks xs = All (λ (b : Bool). b ≡ false) (repeated_outs F before ks xs)

-- ---- by number

-- the out coin before word j
unfoldable pub out_at : {A : Type 0} → Option A → List Kind → List A → ℕ → Option A
out_at before ks xs zero = before
out_at before [] xs (suc j) = before
out_at before (k ∷ ks) [] (suc j) = before
out_at before (k ∷ ks) (x ∷ xs) (suc j) = out_at (out_before before k x) ks xs j

pub at_next : {A : Type 0} (d : A) (before : Option A) (ks : List Kind) (xs : List A) (j : ℕ) → j < length ks → j < length xs →
    out_at before ks xs (suc j) ≡ out_before (out_at before ks xs j) (get_or ks j message) (get_or xs j d)
unfolding out_at
at_next d before [] xs j l u = absurd (omega arith)
at_next d before (k ∷ ks) [] j l u = absurd (omega arith)
at_next d before (k ∷ ks) (x ∷ xs) zero l u = refl
at_next d before (k ∷ ks) (x ∷ xs) (suc j) l u = at_next d (out_before before k x) ks xs j (omega arith) (omega arith)

module _ {A : Type 0} (F : Field A) where
  pub repeated_length : (before : Option A) (ks : List Kind) (xs : List A) → length ks ≤ length xs → length (repeated_outs F before ks xs) ≡ length ks
  unfolding repeated_outs
  repeated_length before [] xs l = refl
  repeated_length before (k ∷ ks) [] l = absurd (omega arith)
  repeated_length before (k ∷ ks) (x ∷ xs) l = ap suc (repeated_length (out_before before k x) ks xs (omega arith))

  pub repeated_at : (d : A) (before : Option A) (ks : List Kind) (xs : List A) (j : ℕ) → j < length ks → j < length xs →
      get_or (repeated_outs F before ks xs) j false ≡ out_repeated F (out_at before ks xs j) (get_or ks j message) (get_or xs j d)
  unfolding repeated_outs out_at
  repeated_at d before [] xs j l u = absurd (omega arith)
  repeated_at d before (k ∷ ks) [] j l u = absurd (omega arith)
  repeated_at d before (k ∷ ks) (x ∷ xs) zero l u = refl
  repeated_at d before (k ∷ ks) (x ∷ xs) (suc j) l u = repeated_at d (out_before before k x) ks xs j (omega arith) (omega arith)

  -- no more of them than words
  pub repeated_most : (before : Option A) (ks : List Kind) (xs : List A) → length (repeated_outs F before ks xs) ≤ length xs
  unfolding repeated_outs
  repeated_most before [] xs = omega arith
  repeated_most before (k ∷ ks) [] = omega arith
  repeated_most before (k ∷ ks) (x ∷ xs) = omega (arith, repeated_most (out_before before k x) ks xs)

-- what the walk looks at is the out coins
abbrev pub SameOuts : {A : Type 0} → Kind → A → A → Type 0
SameOuts message x y = Unit {0}
SameOuts coin x y = Unit {0}
SameOuts (out l) x y = x ≡ y
SameOuts (index n) x y = Unit {0}

module _ {A : Type 0} (F : Field A) where
  same_walk : (before : Option A) (k : Kind) (x y : A) → SameOuts k x y → (out_repeated F before k x ≡ out_repeated F before k y) × (out_before before k x ≡ out_before before k y)
  unfolding out_repeated out_before
  same_walk before message x y e = (refl, refl)
  same_walk before coin x y e = (refl, refl)
  same_walk before (out l) x y e = (ap (same_as F before) e, ap some e)
  same_walk before (index n) x y e = (refl, refl)

  pub repeated_same : (d : A) (before : Option A) (ks : List Kind) (v w : List A) → length ks ≤ length v → length ks ≤ length w →
      ((j : ℕ) → j < length ks → SameOuts (get_or ks j message) (get_or v j d) (get_or w j d)) → repeated_outs F before ks v ≡ repeated_outs F before ks w
  unfolding repeated_outs
  repeated_same d before [] v w a b o = refl
  repeated_same d before (k ∷ ks) [] w a b o = absurd (omega arith)
  repeated_same d before (k ∷ ks) (x ∷ v) [] a b o = absurd (omega arith)
  repeated_same d before (k ∷ ks) (x ∷ v) (y ∷ w) a b o =
      let s = same_walk before k x y (o 0 (omega arith)) in
      (λ i. s.0 i ∷ repeated_outs F (s.1 i) ks v)
      ∙ ap {B = List Bool} (λ bs. out_repeated F before k y ∷ bs) (repeated_same d (out_before before k y) ks v w (omega arith) (omega arith) (λ j l. o (suc j) (omega arith)))

-- ---- the coins among words

unfoldable pub coins_among : List Kind → List ℕ → List ℕ
coins_among [] w = []
coins_among (k ∷ ks) [] = []
coins_among (message ∷ ks) (x ∷ w) = coins_among ks w
coins_among (coin ∷ ks) (x ∷ w) = x ∷ coins_among ks w
coins_among (out l ∷ ks) (x ∷ w) = x ∷ coins_among ks w
coins_among (index n ∷ ks) (x ∷ w) = x ∷ coins_among ks w

pub among_append : (ks ks' : List Kind) (u v : List ℕ) → length u ≡ length ks → coins_among (ks ++ ks') (u ++ v) ≡ coins_among ks u ++ coins_among ks' v
unfolding coins_among
among_append [] ks' [] v e = refl
among_append [] ks' (x ∷ u) v e = absurd (omega arith)
among_append (k ∷ ks) ks' [] v e = absurd (omega arith)
among_append (message ∷ ks) ks' (x ∷ u) v e = among_append ks ks' u v (omega arith)
among_append (coin ∷ ks) ks' (x ∷ u) v e = ap {B = List ℕ} (λ r. x ∷ r) (among_append ks ks' u v (omega arith))
among_append (out l ∷ ks) ks' (x ∷ u) v e = ap {B = List ℕ} (λ r. x ∷ r) (among_append ks ks' u v (omega arith))
among_append (index n ∷ ks) ks' (x ∷ u) v e = ap {B = List ℕ} (λ r. x ∷ r) (among_append ks ks' u v (omega arith))

-- words past the kinds do not matter
pub among_front : (ks : List Kind) (u z : List ℕ) → length u ≡ length ks → coins_among ks (u ++ z) ≡ coins_among ks u
unfolding coins_among
among_front [] u z e = refl
among_front (k ∷ ks) [] z e = absurd (omega arith)
among_front (message ∷ ks) (x ∷ u) z e = among_front ks u z (omega arith)
among_front (coin ∷ ks) (x ∷ u) z e = ap {B = List ℕ} (λ r. x ∷ r) (among_front ks u z (omega arith))
among_front (out l ∷ ks) (x ∷ u) z e = ap {B = List ℕ} (λ r. x ∷ r) (among_front ks u z (omega arith))
among_front (index n ∷ ks) (x ∷ u) z e = ap {B = List ℕ} (λ r. x ∷ r) (among_front ks u z (omega arith))

pub among_messages : (n : ℕ) (ks : List Kind) (u v : List ℕ) → length u ≡ n → coins_among (replicate n message ++ ks) (u ++ v) ≡ coins_among ks v
unfolding coins_among
among_messages zero ks [] v e = refl
among_messages zero ks (x ∷ u) v e = absurd (omega arith)
among_messages (suc n) ks [] v e = absurd (omega arith)
among_messages (suc n) ks (x ∷ u) v e = among_messages n ks u v (omega arith)

pub among_coins : (n : ℕ) (ks : List Kind) (u v : List ℕ) → length u ≡ n → coins_among (replicate n coin ++ ks) (u ++ v) ≡ u ++ coins_among ks v
unfolding coins_among
among_coins zero ks [] v e = refl
among_coins zero ks (x ∷ u) v e = absurd (omega arith)
among_coins (suc n) ks [] v e = absurd (omega arith)
among_coins (suc n) ks (x ∷ u) v e = ap {B = List ℕ} (λ r. x ∷ r) (among_coins n ks u v (omega arith))

pub among_outs : (σ : Spelling) (n : ℕ) (l : Level) (ks : List Kind) (u v : List ℕ) → length u ≡ word_count σ n → coins_among (out_layout σ n l ++ ks) (u ++ v) ≡ u ++ coins_among ks v
unfolding coins_among out_layout flat_map word_count
among_outs one zero l ks [] v e = refl
among_outs one zero l ks (x ∷ u) v e = absurd (omega arith)
among_outs one (suc n) l ks [] v e = absurd (omega arith)
among_outs one (suc n) l ks (x ∷ u) v e = ap {B = List ℕ} (λ r. x ∷ r) (among_outs one n l ks u v (omega arith))
among_outs four zero l ks [] v e = refl
among_outs four zero l ks (x ∷ u) v e = absurd (omega arith)
among_outs four (suc n) l ks [] v e = absurd (omega arith)
among_outs four (suc n) l ks (x ∷ []) v e = absurd (omega arith)
among_outs four (suc n) l ks (x ∷ y ∷ []) v e = absurd (omega arith)
among_outs four (suc n) l ks (x ∷ y ∷ z ∷ []) v e = absurd (omega arith)
among_outs four (suc n) l ks (x ∷ y ∷ z ∷ t ∷ u) v e = ap {B = List ℕ} (λ r. x ∷ y ∷ z ∷ t ∷ r) (among_outs four n l ks u v (omega arith))

pub among_indices : (n m : ℕ) (u : List ℕ) → length u ≡ n → coins_among (replicate n (index m)) u ≡ u
unfolding coins_among
among_indices zero m [] e = refl
among_indices zero m (x ∷ u) e = absurd (omega arith)
among_indices (suc n) m [] e = refl
among_indices (suc n) m (x ∷ u) e = ap {B = List ℕ} (λ r. x ∷ r) (among_indices n m u (omega arith))

-- the coins that follow a word, alone and among other words
among_begun : (n : ℕ) (ks : List Kind) (w : List ℕ) → Coins n ks → (i : ℕ) → i < n → get_or (coins_among ks w) i 0 ≡ get_or w i 0
unfolding coins_among
among_begun zero ks w h i l = absurd (omega arith)
among_begun (suc n) [] w h i l = absurd h
among_begun (suc n) (message ∷ ks) w h i l = absurd h
among_begun (suc n) (coin ∷ ks) [] h i l = refl
among_begun (suc n) (coin ∷ ks) (x ∷ w) h zero l = refl
among_begun (suc n) (coin ∷ ks) (x ∷ w) h (suc i) l = among_begun n ks w h i (omega arith)
among_begun (suc n) (out a ∷ ks) w h i l = absurd h
among_begun (suc n) (index m ∷ ks) w h i l = absurd h

-- Messages end a round's out coins and are else passed over. So where the coins, by themselves, have no equal pair, the words have none: an out coin before a word is
-- also the one before it among the coins.
abbrev Weaker : {A : Type 0} → Option A → Option A → Type 0
Weaker none b = Unit {0}
Weaker (some x) b = some x ≡ b

weaker_same : {A : Type 0} (F : Field A) (a b : Option A) → Weaker a b → (x : A) → same_as F b x ≡ false → same_as F a x ≡ false
unfolding same_as
weaker_same F none b h x e = refl
weaker_same {A} F (some y) b h x e = ap (λ (o : Option A). same_as F o x) h ∙ e

pub stream_apart : (σ : Spelling) (F : Field (Element σ)) (a b : Option (Element σ)) → Weaker a b → (ks : List Kind) (w : List ℕ) → Whole σ ks →
    NoRepeat F b (coin_kinds ks) (begun_by σ (coins_among ks w)) → NoRepeat F a ks (begun_by σ w)
unfolding repeated_outs out_repeated out_before coin_kinds coins_among begun_by
stream_apart one F a b h [] w c r = tt
stream_apart one F a b h (k ∷ ks) [] c r = tt
stream_apart one F a b h (message ∷ ks) (x ∷ w) c r = (refl, stream_apart one F none b tt ks w c r)
stream_apart one F a b h (coin ∷ ks) (x ∷ w) c r = (refl, stream_apart one F a b h ks w c r.1)
stream_apart one F a b h (out l ∷ ks) (x ∷ w) c r = (weaker_same F a b h x r.0, stream_apart one F (some x) (some x) refl ks w c r.1)
stream_apart one F a b h (index n ∷ ks) (x ∷ w) c r = (refl, stream_apart one F none none tt ks w c r.1)
stream_apart four F a b h [] w c r = tt
stream_apart four F a b h (k ∷ ks) [] c r = tt
stream_apart four F a b h (message ∷ ks) (x ∷ w) c r = (refl, stream_apart four F none b tt ks w c r)
stream_apart four F a b h (coin ∷ ks) (x ∷ w) c r = (refl, stream_apart four F a b h ks w c r.1)
stream_apart four F a b h (out l ∷ ks) (x ∷ w) c r =
    let same : ◌≡◌ {A = Quad ℕ} (record { a = x; b = get_or (coins_among ks w) 0 0; c = get_or (coins_among ks w) 1 0; d = get_or (coins_among ks w) 2 0 }) (record { a = x; b = get_or w 0 0; c = get_or w 1 0; d = get_or w 2 0 })
    = λ i. record { a = x; b = among_begun 3 ks w c.0 0 (omega arith) i; c = among_begun 3 ks w c.0 1 (omega arith) i; d = among_begun 3 ks w c.0 2 (omega arith) i } in
    (weaker_same F a b h _ (subst (λ (q : Quad ℕ). same_as F b q ≡ false) same r.0), stream_apart four F _ _ (ap some (sym same)) ks w c.1 r.1)
stream_apart four F a b h (index n ∷ ks) (x ∷ w) c r = (refl, stream_apart four F none none tt ks w c r.1)
