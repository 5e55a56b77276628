-- The layout: the coins among its kinds, round by round; its length, and that of a round; and what holds of every kind in it.
use Prim.Native.Nat.{ℕ, zero, suc, ◌+◌, ◌*◌}
use Rattle.std.proofs.Common.{arith, ap, ◌∙◌, subst, length-append}
use mathlib.Core.List.{List, [], ◌∷◌, ◌++◌, append_assoc, flat_map}
use Rattle.std.specs.Prelude.{◌≡◌, refl, length, drop, replicate}
use Rattle.std.proofs.lemmas.List.{length-replicate}
use Rattle.definition.specs.Field.{Spelling, four, one, word_count}
use Rattle.definition.specs.Layout.{Kind, coin, coin_kinds, index, later_count, layout, message, out, out_layout, rest_layout, round_layout}
use Rattle.definition.specs.Sheet.{Level, Sheet, final_count, first_level, later_levels, shift_count}
use Rattle.list_laws.specs.All.{All, all_append, all_replicate}
use Rattle.layouts.specs.EachWord.{Each, each_append_at}
use Rattle.layouts.specs.KindsAfter.{CoinRuns, later_layout}
use Rattle.layouts.specs.LevelSizes.{Chain, Sized}
use Rattle.layouts.specs.LawfulSheets.{Step, Steps}

pub coins_append : (ks ks' : List Kind) → coin_kinds (ks ++ ks') ≡ coin_kinds ks ++ coin_kinds ks'
unfolding coin_kinds
coins_append [] ks' = refl
coins_append (message ∷ ks) ks' = coins_append ks ks'
coins_append (coin ∷ ks) ks' = ap {B = List Kind} (λ r. coin ∷ r) (coins_append ks ks')
coins_append (out l ∷ ks) ks' = ap {B = List Kind} (λ r. out l ∷ r) (coins_append ks ks')
coins_append (index n ∷ ks) ks' = ap {B = List Kind} (λ r. index n ∷ r) (coins_append ks ks')

pub coins_messages : (n : ℕ) → coin_kinds (replicate n message) ≡ []
unfolding coin_kinds
coins_messages zero = refl
coins_messages (suc n) = coins_messages n

pub coins_outs : (σ : Spelling) (n : ℕ) (l : Level) → coin_kinds (out_layout σ n l) ≡ out_layout σ n l
unfolding coin_kinds out_layout flat_map
coins_outs one zero l = refl
coins_outs one (suc n) l = ap {B = List Kind} (λ r. out l ∷ r) (coins_outs one n l)
coins_outs four zero l = refl
coins_outs four (suc n) l = ap {B = List Kind} (λ r. out l ∷ coin ∷ coin ∷ coin ∷ r) (coins_outs four n l)

pub outs_length : (σ : Spelling) (n : ℕ) (l : Level) → length (out_layout σ n l) ≡ word_count σ n
unfolding out_layout flat_map word_count
outs_length one n l = length-replicate n (out l)
outs_length four zero l = refl
outs_length four (suc n) l = ap (λ (m : ℕ). suc (suc (suc (suc m)))) (outs_length four n l) ∙ next n
  where
    next : (m : ℕ) → suc (suc (suc (suc (4 * m)))) ≡ 4 * suc m
    next m = omega arith

coins_coins : (n : ℕ) (ks : List Kind) → coin_kinds (replicate n coin ++ ks) ≡ replicate n coin ++ coin_kinds ks
unfolding coin_kinds
coins_coins zero ks = refl
coins_coins (suc n) ks = ap {B = List Kind} (λ r. coin ∷ r) (coins_coins n ks)

coins_indices : (n m : ℕ) → coin_kinds (replicate n (index m)) ≡ replicate n (index m)
unfolding coin_kinds
coins_indices zero m = refl
coins_indices (suc n) m = ap {B = List Kind} (λ r. index m ∷ r) (coins_indices n m)

pub coins_alone : (n : ℕ) → coin_kinds (replicate n coin) ≡ replicate n coin
unfolding coin_kinds
coins_alone zero = refl
coins_alone (suc n) = ap {B = List Kind} (λ r. coin ∷ r) (coins_alone n)

-- the coins of the rest, round by round
pub coins_final : (σ : Spelling) (s : ℕ) (b : Level) → coin_kinds (rest_layout σ s b []) ≡ replicate b.repetitions (index (shift_count b))
unfolding rest_layout
coins_final σ s b = coins_append (replicate (word_count σ (final_count b)) message) _ ∙ rw (coins_messages, coins_indices)

pub later_length : (σ : Spelling) (b : Level) → length (later_layout σ b) ≡ later_count σ b
unfolding later_count
later_length σ b =
    length-append (replicate (word_count σ 2) coin) _
    ∙ (λ i. length-replicate (word_count σ 2) coin i + length-replicate b.repetitions (index (shift_count b)) i)

later_coins : (σ : Spelling) (b : Level) → coin_kinds (later_layout σ b) ≡ later_layout σ b
later_coins σ b = coins_coins (word_count σ 2) _ ∙ ap (λ (r : List Kind). replicate (word_count σ 2) coin ++ r) (coins_indices b.repetitions (shift_count b))

pub round_coins_lem : (σ : Spelling) (s : ℕ) (b l : Level) → coin_kinds (round_layout σ s b l) ≡ out_layout σ s l ++ later_layout σ b
unfolding round_layout
round_coins_lem σ s b l =
    coins_append (replicate (word_count σ l.size) message) _ ∙ rw (coins_messages)
    (coins_append (out_layout σ s l) _ ∙ rw (coins_outs)
    (ap (λ (r : List Kind). out_layout σ s l ++ r)
    (coins_append (replicate (word_count σ s) message) _ ∙ rw coins_messages (later_coins σ b))))

pub coins_round : (σ : Spelling) (s : ℕ) (b l : Level) (ls : List Level) → coin_kinds (rest_layout σ s b (l ∷ ls))
    ≡ out_layout σ s l ++ (later_layout σ b ++ coin_kinds (rest_layout σ s l ls))
unfolding rest_layout
coins_round σ s b l ls =
    coins_append (round_layout σ s b l) (rest_layout σ s l ls)
    ∙ ap (λ (r : List Kind). r ++ coin_kinds (rest_layout σ s l ls)) (round_coins_lem σ s b l)
    ∙ append_assoc (out_layout σ s l) _ _

-- the number of words of a round
pub round_length : (σ : Spelling) (s : ℕ) (b l : Level) → length (round_layout σ s b l) ≡ word_count σ l.size + (word_count σ s + (word_count σ s + later_count σ b))
unfolding round_layout
round_length σ s b l =
    let t = replicate (word_count σ l.size) message in
    let o = out_layout σ s l in
    let p = replicate (word_count σ s) message in
    let q = later_layout σ b in
    omega (
      arith,
      length-append t (o ++ (p ++ q)),
      length-append o (p ++ q),
      length-append p q,
      length-replicate (word_count σ l.size) message,
      outs_length σ s l,
      length-replicate (word_count σ s) message,
      later_length σ b,
    )

-- of the final coefficients and indices, of a round and what follows it, and of all after the sheet
pub final_length : (σ : Spelling) (s : ℕ) (b : Level) → length (rest_layout σ s b []) ≡ word_count σ (final_count b) + b.repetitions
unfolding rest_layout
final_length σ s b =
    length-append (replicate (word_count σ (final_count b)) message) _
    ∙ (λ i. length-replicate (word_count σ (final_count b)) message i + length-replicate b.repetitions (index (shift_count b)) i)

pub rest_length : (σ : Spelling) (s : ℕ) (b l : Level) (ls : List Level) →
    length (rest_layout σ s b (l ∷ ls)) ≡ word_count σ l.size + (word_count σ s + (word_count σ s + later_count σ b)) + length (rest_layout σ s l ls)
unfolding rest_layout
rest_length σ s b l ls = length-append (round_layout σ s b l) (rest_layout σ s l ls) ∙ ap (λ (n : ℕ). n + length (rest_layout σ s l ls)) (round_length σ s b l)

pub layout_length : (h : Sheet) → length (layout h)
    ≡ word_count h.spelling h.size + (word_count h.spelling 1 + length (rest_layout h.spelling h.out_coins (first_level h) (later_levels h)))
unfolding layout
layout_length h =
    let σ = h.spelling in
    let rest = rest_layout σ h.out_coins (first_level h) (later_levels h) in
    omega (
      arith,
      length-append (replicate (word_count σ h.size) message) (replicate (word_count σ 1) coin ++ rest),
      length-append (replicate (word_count σ 1) coin) rest,
      length-replicate (word_count σ h.size) message,
      length-replicate (word_count σ 1) coin,
    )

-- fold coin 0 comes first among the coins
pub layout_coins : (h : Sheet) → coin_kinds (layout h)
    ≡ replicate (word_count h.spelling 1) coin ++ coin_kinds (rest_layout h.spelling h.out_coins (first_level h) (later_levels h))
unfolding layout
layout_coins h = coins_append (replicate (word_count h.spelling h.size) message) _ ∙ rw coins_messages (coins_coins (word_count h.spelling 1) _)

pub coin_runs : {A : Type 0} (R : Kind → A → Type 0) (σ : Spelling) (s : ℕ) (b : Level) (ls : List Level) (w : List A) →
    Each R (coin_kinds (rest_layout σ s b ls)) w → CoinRuns R σ s b ls w
coin_runs {A} R σ s b [] w h = subst (λ (ks : List Kind). Each R ks w) (coins_final σ s b) h
coin_runs {A} R σ s b (l ∷ ls) w h =
    let outs = out_layout σ s l in
    let later = later_layout σ b in
    let r = each_append_at R (word_count σ s) outs (later ++ coin_kinds (rest_layout σ s l ls)) w (outs_length σ s l) (subst (λ (ks : List Kind). Each R ks w) (coins_round σ s b l ls) h) in
    let q = each_append_at R (later_count σ b) later (coin_kinds (rest_layout σ s l ls)) (drop (word_count σ s) w) (later_length σ b) r.1 in
    (r.0, q.0, coin_runs R σ s l ls (drop (later_count σ b) (drop (word_count σ s) w)) q.1)

-- what holds of messages, coins, out coins of a level past level 0 and the indices of every level holds of every kind in the layout
module _ (P : Kind → Type 0) (a : ℕ) (messages : P message) (coins : P coin) (outs : (l : Level) (before : ℕ) → l.number ≡ suc before → P (out l))
    (indices : (b : Level) → Sized a b → P (index (shift_count b))) where
  outs_all : (σ : Spelling) (s : ℕ) (l : Level) → P (out l) → All P (out_layout σ s l)
  unfolding out_layout flat_map
  outs_all one s l p = all_replicate P s (out l) p
  outs_all four zero l p = tt
  outs_all four (suc s) l p = (p, (coins, (coins, (coins, outs_all four s l p))))

  round_all : (σ : Spelling) (s : ℕ) (b l : Level) → Sized a b → Step s b l → All P (round_layout σ s b l)
  unfolding round_layout
  round_all σ s b l r st =
      all_append P (replicate (word_count σ l.size) message) _ (all_replicate P (word_count σ l.size) message messages)
      (all_append P (out_layout σ s l) _ (outs_all σ s l (outs l st.before st.number))
      (all_append P (replicate (word_count σ s) message) _ (all_replicate P (word_count σ s) message messages)
      (all_append P (replicate (word_count σ 2) coin) _ (all_replicate P (word_count σ 2) coin coins) (all_replicate P b.repetitions (index (shift_count b)) (indices b r)))))

  rest_all : (σ : Spelling) (s : ℕ) (b : Level) (ls : List Level) → Chain a b ls → Steps s b ls → All P (rest_layout σ s b ls)
  unfolding rest_layout
  rest_all σ s b [] r st =
      all_append P (replicate (word_count σ (final_count b)) message) _ (all_replicate P (word_count σ (final_count b)) message messages)
      (all_replicate P b.repetitions (index (shift_count b)) (indices b r))
  rest_all σ s b (l ∷ ls) r st = all_append P (round_layout σ s b l) _ (round_all σ s b l r.0 st.0) (rest_all σ s l ls r.2 st.1)

  pub layout_all : (h : Sheet) → Chain a (first_level h) (later_levels h) → Steps h.out_coins (first_level h) (later_levels h) → All P (layout h)
  unfolding layout
  layout_all h r st =
      let σ = h.spelling in
      all_append P (replicate (word_count σ h.size) message) _ (all_replicate P (word_count σ h.size) message messages)
      (all_append P (replicate (word_count σ 1) coin) _ (all_replicate P (word_count σ 1) coin coins) (rest_all σ h.out_coins (first_level h) (later_levels h) r st))
