-- An out coin is whole in a layout: its first word, of kind `out l`, is followed by its other words, which count as of a coin.
use Rattle.std.specs.Prelude.{ℕ, zero, suc, ◌+◌, ◌≤◌, ◌<◌, length, get_or, replicate}
use Rattle.std.proofs.Common.{arith}
use mathlib.Core.List.{List, [], ◌∷◌, ◌++◌, flat_map}
use Rattle.definition.specs.Field.{Spelling, four, one, word_count}
use Rattle.definition.specs.Layout.{Kind, coin, coin_kinds, index, layout, message, out, out_layout, rest_layout, round_layout}
use Rattle.definition.specs.Sheet.{Level, Sheet, final_count, first_level, later_levels, shift_count}

-- kinds that begin with n of a coin
abbrev pub Coins : ℕ → List Kind → Type 0
Coins zero ks = Unit {0}
Coins (suc n) [] = ⊥
Coins (suc n) (message ∷ ks) = ⊥
Coins (suc n) (coin ∷ ks) = Coins n ks
Coins (suc n) (out l ∷ ks) = ⊥
Coins (suc n) (index m ∷ ks) = ⊥

abbrev pub Whole : Spelling → List Kind → Type 0
Whole one ks = Unit {0}
Whole four [] = Unit {0}
Whole four (message ∷ ks) = Whole four ks
Whole four (coin ∷ ks) = Whole four ks
Whole four (out l ∷ ks) = Coins 3 ks × Whole four ks
Whole four (index n ∷ ks) = Whole four ks

coins_more : (n : ℕ) (ks ks' : List Kind) → Coins n ks → Coins n (ks ++ ks')
coins_more zero ks ks' h = tt
coins_more (suc n) [] ks' h = absurd h
coins_more (suc n) (message ∷ ks) ks' h = absurd h
coins_more (suc n) (coin ∷ ks) ks' h = coins_more n ks ks' h
coins_more (suc n) (out l ∷ ks) ks' h = absurd h
coins_more (suc n) (index m ∷ ks) ks' h = absurd h

whole_append : (ks ks' : List Kind) → Whole four ks → Whole four ks' → Whole four (ks ++ ks')
whole_append [] ks' h g = g
whole_append (message ∷ ks) ks' h g = whole_append ks ks' h g
whole_append (coin ∷ ks) ks' h g = whole_append ks ks' h g
whole_append (out l ∷ ks) ks' h g = (coins_more 3 ks ks' h.0, whole_append ks ks' h.1 g)
whole_append (index n ∷ ks) ks' h g = whole_append ks ks' h g

whole_messages : (n : ℕ) → Whole four (replicate n message)
whole_messages zero = tt
whole_messages (suc n) = whole_messages n

whole_coins : (n : ℕ) → Whole four (replicate n coin)
whole_coins zero = tt
whole_coins (suc n) = whole_coins n

whole_indices : (n m : ℕ) → Whole four (replicate n (index m))
whole_indices zero m = tt
whole_indices (suc n) m = whole_indices n m

whole_outs : (s : ℕ) (l : Level) → Whole four (out_layout four s l)
unfolding out_layout flat_map
whole_outs zero l = tt
whole_outs (suc s) l = (tt, whole_outs s l)

whole_rest : (s : ℕ) (b : Level) (ls : List Level) → Whole four (rest_layout four s b ls)
unfolding rest_layout round_layout
whole_rest s b [] = whole_append (replicate (word_count four (final_count b)) message) _ (whole_messages (word_count four (final_count b))) (whole_indices b.repetitions (shift_count b))
whole_rest s b (l ∷ ls) =
    whole_append (round_layout four s b l) _
    (whole_append (replicate (word_count four l.size) message) _ (whole_messages (word_count four l.size))
    (whole_append (out_layout four s l) _ (whole_outs s l)
    (whole_append (replicate (word_count four s) message) _ (whole_messages (word_count four s))
    (whole_append (replicate (word_count four 2) coin) _ (whole_coins (word_count four 2)) (whole_indices b.repetitions (shift_count b))))))
    (whole_rest s l ls)

pub rest_whole : (σ : Spelling) (s : ℕ) (b : Level) (ls : List Level) → Whole σ (rest_layout σ s b ls)
rest_whole one s b ls = tt
rest_whole four s b ls = whole_rest s b ls

pub layout_whole : (h : Sheet) → Whole h.spelling (layout h)
unfolding layout
layout_whole h = go h.spelling
  where
    go : (σ : Spelling) → Whole σ (replicate (word_count σ h.size) message ++ (replicate (word_count σ 1) coin ++ rest_layout σ h.out_coins (first_level h) (later_levels h)))
    go one = tt
    go four =
        whole_append (replicate (word_count four h.size) message) _ (whole_messages (word_count four h.size))
        (whole_append (replicate (word_count four 1) coin) _ (whole_coins (word_count four 1)) (whole_rest h.out_coins (first_level h) (later_levels h)))

-- and it is whole among the coins alone
coins_stay : (n : ℕ) (ks : List Kind) → Coins n ks → Coins n (coin_kinds ks)
unfolding coin_kinds
coins_stay zero ks h = tt
coins_stay (suc n) [] h = absurd h
coins_stay (suc n) (message ∷ ks) h = absurd h
coins_stay (suc n) (coin ∷ ks) h = coins_stay n ks h
coins_stay (suc n) (out l ∷ ks) h = absurd h
coins_stay (suc n) (index m ∷ ks) h = absurd h

pub coins_whole : (σ : Spelling) (ks : List Kind) → Whole σ ks → Whole σ (coin_kinds ks)
unfolding coin_kinds
coins_whole one ks h = tt
coins_whole four [] h = tt
coins_whole four (message ∷ ks) h = coins_whole four ks h
coins_whole four (coin ∷ ks) h = coins_whole four ks h
coins_whole four (out l ∷ ks) h = (coins_stay 3 ks h.0, coins_whole four ks h.1)
coins_whole four (index n ∷ ks) h = coins_whole four ks h

-- so it ends inside the layout
coins_long : (n : ℕ) (ks : List Kind) → Coins n ks → n ≤ length ks
coins_long zero ks h = omega arith
coins_long (suc n) [] h = absurd h
coins_long (suc n) (message ∷ ks) h = absurd h
coins_long (suc n) (coin ∷ ks) h = omega (arith, coins_long n ks h)
coins_long (suc n) (out l ∷ ks) h = absurd h
coins_long (suc n) (index m ∷ ks) h = absurd h

-- a kind that is an out coin's
abbrev pub IsOut : Kind → Type 0
IsOut message = ⊥
IsOut coin = ⊥
IsOut (out l) = Unit {0}
IsOut (index n) = ⊥

pub whole_inside : (σ : Spelling) (ks : List Kind) → Whole σ ks → (j : ℕ) → j < length ks → IsOut (get_or ks j message) → j + word_count σ 1 ≤ length ks
unfolding word_count
whole_inside one ks h j l o = omega arith
whole_inside four [] h j l o = absurd (omega arith)
whole_inside four (message ∷ ks) h zero l o = absurd o
whole_inside four (coin ∷ ks) h zero l o = absurd o
whole_inside four (out a ∷ ks) h zero l o = omega (arith, coins_long 3 ks h.0)
whole_inside four (index n ∷ ks) h zero l o = absurd o
whole_inside four (message ∷ ks) h (suc j) l o = omega (arith, whole_inside four ks h j (omega arith) o)
whole_inside four (coin ∷ ks) h (suc j) l o = omega (arith, whole_inside four ks h j (omega arith) o)
whole_inside four (out a ∷ ks) h (suc j) l o = omega (arith, whole_inside four ks h.1 j (omega arith) o)
whole_inside four (index n ∷ ks) h (suc j) l o = omega (arith, whole_inside four ks h j (omega arith) o)
