-- Sums of products whose high and low halves are kept apart. Assumes nothing.
use Prim.Native.Nat.{ℕ, suc, ◌+◌, ◌-◌, ◌*◌, ◌/◌, ◌%◌, ◌≤◌, ◌<◌}
use native.Mathlib.Nat.{mod-lt, mod-add-mod, mul-le-mul, mul-le-mul_left, mul-suc}
use native.Mathlib.Omega.{arith}
use mathlib.Core.Path.{◌≡◌, refl, sym, ap, ◌∙◌}
use mathlib.Core.List.{List, ◌∷◌}
use lib.ListN.{length, drop, get_or}
use lib.Seq.{drop-length}
use Rattle.definition.specs.Field.{prime_field, prime_of, field_of}
use Rattle.algebra.specs.ModularArithmetic.{mod_mul, mul_mod}
use Rattle.list_laws.specs.Backwards.{drop_back}
use Rattle.sums.specs.Sums.{products, products_of, products_remainder}
use Rattle.sums.specs.Primes.{prime_small, prime_some}
use Rattle.sums.specs.AtRoots.{every_nth, every_number, every_length}
use Rattle.algebra.specs.PrimeField.{laws}

-- the product of two remainders
pub remainders_fit : (field x y : ℕ) {a b : ℕ} → a ≡ x % prime_of field → b ≡ y % prime_of field → a * b ≤ 4611686018427387904
remainders_fit field x y {a} {b} ea eb =
    let la : a ≤ 2147483648 = omega (arith, ea, mod-lt x (prime_some field), prime_small field) in
    let lb : b ≤ 2147483648 = omega (arith, eb, mod-lt y (prime_some field), prime_small field) in
    mul-le-mul la lb

pub whole_is : (p high low : ℕ) {h u r : ℕ} → h ≡ high % p → u ≡ 4294967296 % p → r ≡ (h * u + low) % p → r ≡ (high * 4294967296 + low) % p
whole_is p high low {h} {u} eh eu er =
    er ∙ sym (mod-add-mod (h * u) p low)
    ∙ ap (λ (n : ℕ). (n + low) % p) ((λ i. eh i * eu i % p) ∙ mod_mul p high (4294967296 % p) ∙ mul_mod p high 4294967296)
    ∙ mod-add-mod (high * 4294967296) p low

products_cons : (a b : ℕ) (xs ys : List ℕ) → products_of (a ∷ xs) (b ∷ ys) ≡ a * b + products_of xs ys
unfolding products_of
products_cons a b xs ys = refl

-- the products from number i on are summed; each adds less than 2^32 to either half
unfoldable pub Summed : List ℕ → List ℕ → ℕ → ℕ → ℕ → Type 0
Summed xs ys i high low =
    (high ≤ (length xs - i) * 4294967296) × ((low ≤ (length xs - i) * 4294967296) × (high * 4294967296 + low ≡ products_of (drop i xs) (drop i ys)))

pub summed_end : (xs ys : List ℕ) → Summed xs ys (length xs) 0 0
unfolding Summed products_of
summed_end xs ys = (omega arith, (omega arith, rw drop-length))

pub summed_turn : (xs ys : List ℕ) (i high low : ℕ) {h l h' l' : ℕ} → 0 < i → i ≤ length xs → i ≤ length ys → Summed xs ys i high low →
    (h ≡ get_or xs (i - 1) 0 * get_or ys (i - 1) 0 / 4294967296) × (h < 4294967296) → (l ≡ get_or xs (i - 1) 0 * get_or ys (i - 1) 0 % 4294967296) × (l < 4294967296) →
    h' ≡ high + h → l' ≡ low + l → Summed xs ys (i - 1) h' l'
unfolding Summed
summed_turn xs ys i high low {h} {l} {h'} {l'} some hx hy s eh el eh' el' =
    let p : ℕ = get_or xs (i - 1) 0 * get_or ys (i - 1) 0 in (
      more (length xs) i high h h' some hx s.0 eh.1 eh',
      (
        more (length xs) i low l l' some hx s.1.0 el.1 el',
        turned high low p (products_of (drop i xs) (drop i ys)) h l h' l' s.1.1 eh.0 el.0 eh' el'
            ∙ sym (rw (drop_back xs 0 i some hx, drop_back ys 0 i some hy, products_cons (get_or xs (i - 1) 0) (get_or ys (i - 1) 0) (drop i xs) (drop i ys))),
      ),
    )
  where
    more : (n i sum h sum' : ℕ) → 0 < i → i ≤ n → sum ≤ (n - i) * 4294967296 → h < 4294967296 → sum' ≡ sum + h → sum' ≤ (n - (i - 1)) * 4294967296
    more n i sum h sum' a b c d e = omega arith

    turned : (high low p s h l h' l' : ℕ) → high * 4294967296 + low ≡ s → h ≡ p / 4294967296 → l ≡ p % 4294967296 → h' ≡ high + h → l' ≡ low + l →
        h' * 4294967296 + l' ≡ p + s
    turned high low p s h l h' l' e a b c d = omega arith

-- the sums stay small
pub summed_small : (xs ys : List ℕ) (i high low : ℕ) → length xs ≤ 65536 → Summed xs ys i high low → (high ≤ 281474976710656) × (low ≤ 281474976710656)
unfolding Summed
summed_small xs ys i high low few s = (go (length xs) high few s.0, go (length xs) low few s.1.0)
  where
    go : (n sum : ℕ) → n ≤ 65536 → sum ≤ (n - i) * 4294967296 → sum ≤ 281474976710656
    go n sum a b = omega arith

pub summed_all : (field : ℕ) (xs ys : List ℕ) (i high low : ℕ) {r : ℕ} → i ≡ 0 → Summed xs ys i high low → r ≡ (high * 4294967296 + low) % prime_of field →
    r ≡ products (field_of field) xs ys
unfolding Summed
summed_all field xs ys i high low e s er =
    er ∙ ap (λ (n : ℕ). n % prime_of field) (s.1.1 ∙ ap (λ (n : ℕ). products_of (drop n xs) (drop n ys)) e) ∙ products_remainder field xs ys

pub half_small : (p : ℕ) → p < 18446744073709551616 → p / 4294967296 < 4294967296
half_small p h = omega arith

-- ---- over every stride-th word

-- the place of number i - 1 is in the list
pub every_place : (from s i n words : ℕ) → from < s → s * n ≤ words → 0 < i → i ≤ n → from + s * (i - 1) < words
every_place from s i n words small room some few =
    let whole : suc (i - 1) ≡ i = omega arith in
    let less : s * (i - 1) + s ≤ s * n = rw (← mul-suc s (i - 1), whole) (mul-le-mul_left s few) in
    omega (arith, less)

module _ (field : ℕ) (f : List ℕ) (from s : ℕ) (b : List ℕ) where
  pub every_few : length b ≤ 65536 → length (every_nth (field_of field) f from s (length b)) ≤ 65536
  every_few few = rw (every_length (field_of field) (laws field) f from s (length b)) few

  pub every_end : Summed (every_nth (field_of field) f from s (length b)) b (length b) 0 0
  every_end = rw (every_length (field_of field) (laws field) f from s (length b)) at (summed_end (every_nth (field_of field) f from s (length b)) b)

  pub every_turn : (i high low : ℕ) {x h l h' l' : ℕ} → 0 < i → i ≤ length b → Summed (every_nth (field_of field) f from s (length b)) b i high low →
      x ≡ get_or f (from + s * (i - 1)) 0 → (h ≡ x * get_or b (i - 1) 0 / 4294967296) × (h < 4294967296) → (l ≡ x * get_or b (i - 1) 0 % 4294967296) × (l < 4294967296) →
      h' ≡ high + h → l' ≡ low + l → Summed (every_nth (field_of field) f from s (length b)) b (i - 1) h' l'
  unfolding field_of prime_field
  every_turn i high low {x} some few sum ex eh el eh' el' =
      let xs = every_nth (field_of field) f from s (length b) in
      let size : length xs ≡ length b = every_length (field_of field) (laws field) f from s (length b) in
      let here : x ≡ get_or xs (i - 1) 0 = ex ∙ sym (every_number (field_of field) (laws field) f from s (length b) (i - 1) (omega arith)) in
      summed_turn xs b i high low some (omega arith) few sum
      (eh.0 ∙ ap (λ (v : ℕ). v * get_or b (i - 1) 0 / 4294967296) here, eh.1) (el.0 ∙ ap (λ (v : ℕ). v * get_or b (i - 1) 0 % 4294967296) here, el.1) eh' el'
