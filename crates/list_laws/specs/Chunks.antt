-- Laws of a list cut into chunks, and of the fronts of chunks joined again.
use Rattle.std.specs.Prelude.{ℕ, zero, suc, ◌+◌, ◌*◌, ◌/◌, ◌%◌, ◌≤◌, ◌<◌, ◌≡◌, refl, length, get_or, take, drop}
use Rattle.std.proofs.Common.{mul_comm, mul-suc, mul-zero, suc-mul, zero-mul, arith, sym, ap, ◌∙◌, length-drop, take-append-drop}
use mathlib.Core.List.{List, [], ◌∷◌, ◌++◌, flat_map}
use lib.Seq.{drop-append-add, drop_at, drop-drop, get_or-take, length-take-le, take-add, take_at}
use Rattle.definition.specs.Lists.{chunks}
use Rattle.list_laws.specs.All.{All, all_drop, all_map, all_take}
use Rattle.list_laws.specs.Lists.{flat_map_length}

pub chunks_length : {A : Type 0} (count size : ℕ) (xs : List A) → length (chunks count size xs) ≡ count
unfolding chunks
chunks_length zero size xs = refl
chunks_length (suc count) size xs = ap suc (chunks_length count size (drop size xs))

pub chunks_at : {A : Type 0} (count size : ℕ) (xs : List A) (b : ℕ) → b < count → get_or (chunks count size xs) b [] ≡ take size (drop (size * b) xs)
unfolding chunks
chunks_at zero size xs b h = absurd (omega arith)
chunks_at (suc count) size xs zero h = rw mul-zero
chunks_at (suc count) size xs (suc b) h =
    let e : size + size * b ≡ size * suc b = omega (arith, mul-suc size b) in
    chunks_at count size (drop size xs) b (omega arith) ∙ ap (take size) (drop-drop (size * b) size xs ∙ ap (λ (k : ℕ). drop k xs) e)

pub chunk_sizes : {A : Type 0} (n size : ℕ) (xs : List A) → n * size ≤ length xs → All (λ x. length x ≡ size) (chunks n size xs)
unfolding chunks
chunk_sizes zero size xs h = tt
chunk_sizes (suc n) size xs h = (
  length-take-le size xs (omega (arith, h, suc-mul n size)),
  chunk_sizes n size (drop size xs) (omega (arith, h, suc-mul n size, length-drop size xs)),
)

-- the chunks joined are the list
pub chunks_joined : {A : Type 0} (n size : ℕ) (xs : List A) → length xs ≡ n * size → flat_map (λ x. x) (chunks n size xs) ≡ xs
unfolding chunks flat_map
chunks_joined zero size [] h = refl
chunks_joined zero size (x ∷ xs) h = absurd (omega (arith, h, zero-mul size))
chunks_joined (suc n) size xs h =
    ap (λ (t : List _). take size xs ++ t) (chunks_joined n size (drop size xs) (length-drop size xs ∙ omega (arith, h, suc-mul n size)))
    ∙ take-append-drop size xs

pub all_chunks : {A : Type 0} (P : A → Type 0) (n size : ℕ) (xs : List A) → All P xs → All (All P) (chunks n size xs)
unfolding chunks
all_chunks P zero size xs h = tt
all_chunks P (suc n) size xs h = (all_take P size xs h, all_chunks P n size (drop size xs) (all_drop P size xs h))

-- chunks of a list made of chunks
pub chunks_of : {A : Type 0} (size : ℕ) (xss : List (List A)) → All (λ xs. length xs ≡ size) xss → chunks (length xss) size (flat_map (λ xs. xs) xss) ≡ xss
unfolding chunks flat_map
chunks_of size [] h = refl
chunks_of {A} size (xs ∷ xss) h =
    let e : length xs ≡ size = h.0 in
    λ i. take_at xs (flat_map (λ ys. ys) xss) size e i ∷ (ap (chunks (length xss) size) (drop_at xs (flat_map (λ ys. ys) xss) size e) ∙ chunks_of size xss h.1) i

-- lists of 128 elements each
abbrev pub Blocks : List (List ℕ) → Type 0
Blocks xss = All (λ x. length x ≡ 128) xss

front_long : (x : List ℕ) → length x ≡ 128 → length (take 127 x) ≡ 127
front_long x e = length-take-le 127 x (omega (arith, e))

-- the first 127 elements of each, joined
pub fronts_length : (xss : List (List ℕ)) → Blocks xss → length (flat_map (take 127) xss) ≡ 127 * length xss
fronts_length xss h = flat_map_length (take 127) 127 xss (all_map xss h front_long) ∙ mul_comm (length xss) 127

pub fronts_part : (xss : List (List ℕ)) (b : ℕ) → Blocks xss → b < length xss → take 127 (drop (127 * b) (flat_map (take 127) xss)) ≡ take 127 (get_or xss b [])
unfolding flat_map
fronts_part [] b h l = absurd (omega arith)
fronts_part (x ∷ xss) zero h l = take_at (take 127 x) (flat_map (take 127) xss) 127 (front_long x h.0)
fronts_part (x ∷ xss) (suc b) h l =
    let e : 127 * suc b ≡ length (take 127 x) + 127 * b = omega (arith, front_long x h.0) in
    rw e (rw (drop-append-add (take 127 x) (flat_map (take 127) xss) (127 * b)) (fronts_part xss b h.1 (omega arith)))

-- the front of the joined list grows by the front of the next
pub fronts_next : (xss : List (List ℕ)) (b : ℕ) → Blocks xss → b < length xss
    → take (127 * b) (flat_map (take 127) xss) ++ take 127 (get_or xss b []) ≡ take (127 * (b + 1)) (flat_map (take 127) xss)
fronts_next xss b h l =
    let e : 127 * b + 127 ≡ 127 * (b + 1) = omega arith in
    sym (rw (← e) (take-add (127 * b) 127 (flat_map (take 127) xss) ∙ ap (λ (y : List ℕ). take (127 * b) (flat_map (take 127) xss) ++ y) (fronts_part xss b h l)))

pub fronts_at : (xss : List (List ℕ)) (n : ℕ) → Blocks xss → n < 127 * length xss → get_or (flat_map (take 127) xss) n 0 ≡ get_or (get_or xss (n / 127) []) (n % 127) 0
fronts_at xss n h l =
    let all = flat_map (take 127) xss in
    let b : n / 127 < length xss = omega arith in
    let r : n % 127 < 127 = omega arith in
    let e : 127 * (n / 127) + n % 127 ≡ n = omega arith in
    ap (λ (k : ℕ). get_or all k 0) (sym e)
    ∙ sym (lib.Seq.get_or-drop (127 * (n / 127)) all (n % 127) 0)
    ∙ sym (get_or-take 127 (drop (127 * (n / 127)) all) (n % 127) 0 r)
    ∙ ap (λ (y : List ℕ). get_or y (n % 127) 0) (fronts_part xss (n / 127) h b)
    ∙ get_or-take 127 (get_or xss (n / 127) []) (n % 127) 0 r
