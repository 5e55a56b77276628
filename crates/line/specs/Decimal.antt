-- The digits of a number in base ten: its tenth's, then the last; a number below 10^m has at most m.
use Rattle.std.specs.Prelude.{ℕ, zero, suc, ◌+◌, ◌/◌, ◌%◌, ◌^◌, ◌≤◌, ◌<◌, Bool, true, false, cond, ◌≡◌, refl, List, [], ◌∷◌, ◌++◌, ltb, length}
use Rattle.std.proofs.Common.{sym, ap, ◌∙◌, length-append, arith, pow-suc, lt-ltb, le-ltb, ltb-true, ltb-false}
use Rattle.definition.specs.Line.{decimal, decimal_within}

-- one place more than the number has changes nothing
within_more : (most n : ℕ) → n < most → decimal_within (suc most) n ≡ decimal_within most n
unfolding decimal_within
within_more zero n h = absurd (omega arith)
within_more (suc most) n h = go (ltb n 10) refl (λ l. within_more most (n / 10) l)
  where
    go : (b : Bool) → ltb n 10 ≡ b → (n / 10 < most → decimal_within (suc most) (n / 10) ≡ decimal_within most (n / 10)) →
        cond b ((48 + n) ∷ []) (decimal_within (suc most) (n / 10) ++ ((48 + n % 10) ∷ [])) ≡ cond b ((48 + n) ∷ []) (decimal_within most (n / 10) ++ ((48 + n % 10) ∷ []))
    go true e r = refl
    go false e r = ap (λ (l : List ℕ). l ++ ((48 + n % 10) ∷ [])) (r (omega (arith, ltb-false n 10 e)))

within_any : (most n : ℕ) → n < most → decimal_within most n ≡ decimal n
unfolding decimal
within_any zero n h = absurd (omega arith)
within_any (suc most) n h = go (ltb n most) refl (λ l. within_more most n l ∙ within_any most n l)
  where
    go : (b : Bool) → ltb n most ≡ b → (n < most → decimal_within (suc most) n ≡ decimal_within (suc n) n) → decimal_within (suc most) n ≡ decimal_within (suc n) n
    go true e r = r (ltb-true n most e)
    go false e r = let same : most ≡ n = omega (arith, ltb-false n most e) in ap (λ (m : ℕ). decimal_within (suc m) n) same

pub decimal_digit : (n : ℕ) → n < 10 → decimal n ≡ (48 + n) ∷ []
unfolding decimal decimal_within
decimal_digit n h = rw (lt-ltb n 10 h)

pub decimal_more : (n : ℕ) → 10 ≤ n → decimal n ≡ decimal (n / 10) ++ ((48 + n % 10) ∷ [])
unfolding decimal_within
decimal_more n h = sym (within_any (suc n) n (omega arith)) ∙ rw (le-ltb n 10 h) (ap (λ (l : List ℕ). l ++ ((48 + n % 10) ∷ [])) (within_any n (n / 10) (omega arith)))

pub decimal_shorter : (n : ℕ) → 10 ≤ n → length (decimal n) ≡ length (decimal (n / 10)) + 1
decimal_shorter n h = ap length (decimal_more n h) ∙ length-append (decimal (n / 10)) ((48 + n % 10) ∷ [])

pub decimal_long : (m n : ℕ) → n < 10 ^ suc m → length (decimal n) ≤ suc m
decimal_long zero n h = omega (arith, ap length (decimal_digit n h))
decimal_long (suc m) n h = go (ltb n 10) refl (λ l. decimal_long m (n / 10) l)
  where
    go : (b : Bool) → ltb n 10 ≡ b → (n / 10 < 10 ^ suc m → length (decimal (n / 10)) ≤ suc m) → length (decimal n) ≤ suc (suc m)
    go true e r = omega (arith, ap length (decimal_digit n (ltb-true n 10 e)))
    go false e r =
        let q : n / 10 < 10 ^ suc m = omega (arith, h, pow-suc 10 (suc m)) in
        omega (arith, r q, decimal_shorter n (ltb-false n 10 e))

-- what the words of the code have
pub long_32 : (n : ℕ) → n < 2 ^ 32 → length (decimal n) ≤ 10
long_32 n h = decimal_long 9 n (omega arith)

pub long_64 : (n : ℕ) → n < 2 ^ 64 → length (decimal n) ≤ 20
long_64 n h = decimal_long 19 n (omega arith)
