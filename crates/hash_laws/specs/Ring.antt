-- The schedule kept in a ring of 16 words: word n stands at place n % 16 until word n + 16 takes it.
use Rattle.std.specs.Prelude.{ℕ, zero, suc, ◌+◌, ◌-◌, ◌%◌, ◌^◌, ◌≤◌, ◌<◌, ◌≡◌, refl, List, [], ◌∷◌, ◌++◌, length, drop, set}
use Rattle.std.proofs.Common.{eq-zero-or-pos, sym, ◌∙◌, length-append, length-set}
use native.Mathlib.Omega.{arith}
use Rattle.std.proofs.Math.Path.{ap}
use Rattle.std.proofs.Math.Logic.{⊎_elim}
use Rattle.std.proofs.Math.ListN.{get_or, get_or-append}
use Rattle.std.proofs.Math.Seq.{get_or-append_seam, get_or-set_other, get_or-set_same}
use Rattle.hashing.specs.Sha256.{State, small_sigma0, small_sigma1, next_word, schedule, turn, turns}
use Rattle.hash_laws.specs.Steps.{turns_next, turns_end}

-- the next word, from the words in a ring; i is its place
abbrev pub ring_word : List ℕ → ℕ → ℕ
ring_word w i =
    (small_sigma1 (get_or w ((i + 14) % 16) 0) + get_or w ((i + 9) % 16) 0 + small_sigma0 (get_or w ((i + 1) % 16) 0) + get_or w i 0) % 2 ^ 32

-- ---- the words of a schedule

-- the words so far stay, and count more come
pub schedule_keeps : (count : ℕ) (w : List ℕ) (n : ℕ) → n < length w → get_or (schedule count w) n 0 ≡ get_or w n 0
unfolding schedule
schedule_keeps zero w n h = refl
schedule_keeps (suc count) w n h =
    schedule_keeps count (w ++ (next_word w ∷ [])) n (omega (arith, length-append w (next_word w ∷ []))) ∙ get_or-append w (next_word w ∷ []) 0 n h

pub schedule_length : (count : ℕ) (w : List ℕ) → length (schedule count w) ≡ length w + count
unfolding schedule
schedule_length zero w = omega arith
schedule_length (suc count) w = schedule_length count (w ++ (next_word w ∷ [])) ∙ omega (arith, length-append w (next_word w ∷ []))

-- word t, by the words before it
pub ByWords : List ℕ → ℕ → Type 0
ByWords s t =
    get_or s t 0 ≡ (small_sigma1 (get_or s (t - 2) 0) + get_or s (t - 7) 0 + small_sigma0 (get_or s (t - 15) 0) + get_or s (t - 16) 0) % 2 ^ 32

schedule_at : (count : ℕ) (w : List ℕ) (t : ℕ) → 16 ≤ length w → length w ≤ t → t < length w + count → ByWords (schedule count w) t
unfolding schedule ByWords next_word
schedule_at zero w t m l h = absurd (omega arith)
schedule_at (suc count) w t m l h =
    let v = w ++ (next_word w ∷ []) in
    let n : length v ≡ suc (length w) = length-append w (next_word w ∷ []) ∙ omega arith in
    let old : (j : ℕ) → j < length w → get_or (schedule count v) j 0 ≡ get_or w j 0 =
    λ j b. schedule_keeps count v j (omega (arith, n)) ∙ get_or-append w (next_word w ∷ []) 0 j b in
    let new : get_or (schedule count v) (length w) 0 ≡ next_word w = schedule_keeps count v (length w) (omega (arith, n)) ∙ get_or-append_seam w (next_word w) [] 0 in
    let here : ByWords (schedule count v) (length w) =
    rw (new, old (length w - 2) (omega arith), old (length w - 7) (omega arith), old (length w - 15) (omega arith), old (length w - 16) (omega arith)) in
    ⊎_elim (λ z. let e : t ≡ length w = omega arith in rw e here)
    (λ z. schedule_at count v t (omega (arith, n)) (omega (arith, n)) (omega (arith, n))) (eq-zero-or-pos (t - length w))

pub whole_at : (block : List ℕ) (t : ℕ) → length block ≡ 16 → 16 ≤ t → t < 64 → ByWords (schedule 48 block) t
whole_at block t n l h = schedule_at 48 block t (omega arith) (omega arith) (omega arith)

-- ---- the ring

-- the last 16 of the first t words
pub Ring : List ℕ → ℕ → List ℕ → Type 0
Ring s t w = (n : ℕ) → n < t → t ≤ n + 16 → get_or w (n % 16) 0 ≡ get_or s n 0

pub ring_begins : (block : List ℕ) (w : List ℕ) → length block ≡ 16 → w ≡ block → Ring (schedule 48 block) 16 w
unfolding Ring
ring_begins block w l e n a b =
    let m : n % 16 ≡ n = omega arith in
    ap (λ (x : List ℕ). get_or x (n % 16) 0) e ∙ ap (λ (k : ℕ). get_or block k 0) m ∙ sym (schedule_keeps 48 block n (omega arith))

-- one word more
module _ (s w : List ℕ) (t i : ℕ) (r : Ring s t w) (far : 16 ≤ t) (place : t % 16 ≡ i) where
  ring_at : (j n : ℕ) → (t + j) % 16 ≡ n % 16 → n < t → t ≤ n + 16 → get_or w ((i + j) % 16) 0 ≡ get_or s n 0
  unfolding Ring
  ring_at j n e a b = let m : (i + j) % 16 ≡ n % 16 = omega arith in ap (λ (k : ℕ). get_or w k 0) m ∙ r n a b

  pub ring_word_lem : ByWords s t → ring_word w i ≡ get_or s t 0
  unfolding ByWords
  ring_word_lem by =
      let z : (i + 0) % 16 ≡ i = omega arith in
      rw (ring_at 14 (t - 2) (omega arith) (omega arith) (omega arith), ring_at 9 (t - 7) (omega arith) (omega arith) (omega arith), ring_at 1 (t - 15) (omega arith) (omega arith) (omega arith), ap (λ (k : ℕ). get_or w k 0) (sym z) ∙ ring_at 0 (t - 16) (omega arith) (omega arith) (omega arith))
      (sym by)

  pub ring_next : length w ≡ 16 → {x : ℕ} → x ≡ get_or s t 0 → Ring s (t + 1) (set w i x)
  unfolding Ring
  ring_next l {x} e n a b =
      ⊎_elim
      (λ z. let m : n ≡ t = omega arith in
      let q : n % 16 ≡ i = omega arith in
      ap (λ (k : ℕ). get_or (set w i x) k 0) q ∙ get_or-set_same w i x 0 (omega arith) ∙ e ∙ ap (λ (k : ℕ). get_or s k 0) (sym m))
      (λ z. get_or-set_other w i (n % 16) x 0 (λ q. omega arith) ∙ r n (omega arith) (omega arith)) (eq-zero-or-pos (t - n))

-- Where the rounds stand after t of them: the state's further rounds come to a state, and the ring holds the last words.
pub record Going (k block : List ℕ) (end : State) (t : ℕ) (v : State) (w : List ℕ) : Type 0 where
  pub rest : turns v (drop t k) (drop t (schedule 48 block)) ≡ end
  pub ring : Ring (schedule 48 block) t w
  pub long : length w ≡ 16

-- one round more, whose number is u; i is its place in the ring
pub going_next : {k block : List ℕ} {end : State} {t u : ℕ} (i : ℕ) {v v₁ : State} {w w₁ : List ℕ} → length block ≡ 16 → length k ≡ 64 → 16 ≤ t → t < 64
    → t % 16 ≡ i → u ≡ t + 1 → v₁ ≡ turn v (get_or k t 0) (ring_word w i) → w₁ ≡ set w i (ring_word w i) → Going k block end t v w → Going k block end u v₁ w₁
going_next {k} {block} {end} {t} {u} i {v} {v₁} {w} {w₁} n m l h p eu ev ew g =
    let s = schedule 48 block in
    let e : ring_word w i ≡ get_or s t 0 = ring_word_lem s w t i g.ring l p (whole_at block t n l h) in
    record {
      rest =
          (λ j. turns ((ev ∙ ap (turn v (get_or k t 0)) e) j) (drop (eu j) k) (drop (eu j) s))
          ∙ sym (turns_next v k s t (omega arith) (omega (arith, schedule_length 48 block))) ∙ g.rest;
      ring = rw (ew, eu) (ring_next s w t i g.ring l p g.long e);
      long = ap length ew ∙ length-set w i (ring_word w i) ∙ g.long;
    }

-- the rounds of the block's own words, one more
pub early_next : (k w : List ℕ) (v : State) {v₁ : State} (t : ℕ) {end : State} → length k ≡ 64 → length w ≡ 16 → t < 16 → v₁ ≡ turn v (get_or k t 0) (get_or w t 0)
    → turns v (drop t k) (drop t (schedule 48 w)) ≡ end → turns v₁ (drop (t + 1) k) (drop (t + 1) (schedule 48 w)) ≡ end
early_next k w v t m n h e s =
    ap (λ u. turns u (drop (t + 1) k) (drop (t + 1) (schedule 48 w))) (e ∙ ap (turn v (get_or k t 0)) (sym (schedule_keeps 48 w t (omega arith))))
    ∙ sym (turns_next v k (schedule 48 w) t (omega arith) (omega (arith, schedule_length 48 w))) ∙ s

-- where they end, the ring begins
pub going_begins : (k w : List ℕ) (v : State) {t : ℕ} → length w ≡ 16 → t ≡ 16 → Going k w (turns v (drop t k) (drop t (schedule 48 w))) t v w
going_begins k w v n e = record { rest = refl; ring = rw e (ring_begins w w n refl); long = n }

pub going_ends : {k block : List ℕ} {end : State} {t : ℕ} {v : State} {w : List ℕ} → length k ≡ 64 → 64 ≤ t → Going k block end t v w → v ≡ end
going_ends {k} {block} {end} {t} {v} m h g = sym (turns_end v k (schedule 48 block) t (omega arith)) ∙ g.rest

pub going_at : {k block : List ℕ} {end : State} {t u : ℕ} {v : State} {w : List ℕ} → t ≡ u → Going k block end t v w → Going k block end u v w
going_at e g = rw (sym e) g

-- the rounds from number t up to u lead from one state and ring to others, whatever the block
unfoldable pub Turned : List ℕ → ℕ → ℕ → State → List ℕ → State → List ℕ → Type 0
Turned k t u v w v₁ w₁ = (block : List ℕ) → (end : State) → length block ≡ 16 → Going k block end t v w → Going k block end u v₁ w₁
