-- Words of given kinds, drawn one after the other: those of two lists of kinds, and one word more.
use Prim.Native.Nat.{ℕ, zero, suc, ◌+◌, ◌≤◌, ◌<◌}
use native.Mathlib.Numerals.{add-one}
use native.Mathlib.Omega.{arith}
use mathlib.Core.List.{List, [], ◌∷◌, ◌++◌}
use mathlib.Core.Option.{Option, none, some}
use mathlib.Core.Path.{◌≡◌, refl, sym, ap, ◌∙◌}
use lib.ListN.{length, take, replicate, length-replicate, replicate-append-replicate, set}
use lib.Seq.{take-suc-set}
use Rattle.definition.specs.Deciding.{out_before}
use Rattle.definition.specs.Layout.{Kind, coin, index, out}
use Rattle.definition.specs.Load.{Drawn, draw_kind, draw_kinds}
use Rattle.definition.specs.Sheet.{Level, Sheet}
use Rattle.generator.specs.Draws.{draw_many}

-- the out coin before the words that come after some
unfoldable pub out_after : Option ℕ → List Kind → List ℕ → Option ℕ
out_after before [] w = before
out_after before (k ∷ ks) [] = before
out_after before (k ∷ ks) (x ∷ w) = out_after (out_before before k x) ks w

pub after_append : (before : Option ℕ) (ks ks' : List Kind) (u w : List ℕ) → length u ≡ length ks → out_after before (ks ++ ks') (u ++ w) ≡ out_after (out_after before ks u) ks' w
unfolding out_after
after_append before [] ks' [] w e = refl
after_append before [] ks' (x ∷ u) w e = absurd (omega arith)
after_append before (k ∷ ks) ks' [] w e = absurd (omega arith)
after_append before (k ∷ ks) ks' (x ∷ u) w e = after_append (out_before before k x) ks ks' u w (omega arith)

after_indices : (n m : ℕ) (w : List ℕ) → out_after none (replicate n (index m)) w ≡ none
unfolding out_after out_before
after_indices zero m w = refl
after_indices (suc n) m [] = refl
after_indices (suc n) m (x ∷ w) = after_indices n m w

-- the indices of a round end its out coins
pub after_later : (before : Option ℕ) (n m : ℕ) (w : List ℕ) → 1 ≤ n → length w ≡ 2 + n → out_after before (coin ∷ coin ∷ replicate n (index m)) w ≡ none
unfolding out_after out_before
after_later before zero m w l e = absurd (omega arith)
after_later before (suc n) m [] l e = absurd (omega arith)
after_later before (suc n) m (x ∷ []) l e = absurd (omega arith)
after_later before (suc n) m (x ∷ y ∷ []) l e = absurd (omega arith)
after_later before (suc n) m (x ∷ y ∷ z ∷ w) l e = after_indices n m w

pub after_coin : (w : List ℕ) → out_after none (coin ∷ []) w ≡ none
unfolding out_after out_before
after_coin [] = refl
after_coin (x ∷ w) = refl

module _ (h : Sheet) where
  pub drawn_length : (before : Option ℕ) (ks : List Kind) (v : ℕ) → length (draw_kinds h before ks v).value ≡ length ks
  unfolding draw_kinds
  drawn_length before [] v = refl
  drawn_length before (k ∷ ks) v = let x = draw_kind h before k v in ap suc (drawn_length (out_before before k x.value) ks x.next)

  -- the words of the first list, then those of the second on the generator as it then is
  draws_append : (before : Option ℕ) (ks ks' : List Kind) (v : ℕ) →
      let a = draw_kinds h before ks v in
      let b = draw_kinds h (out_after before ks a.value) ks' a.next in
      draw_kinds h before (ks ++ ks') v ≡ record { value = a.value ++ b.value; next = b.next }
  unfolding draw_kinds out_after
  draws_append before [] ks' v = refl
  draws_append before (k ∷ ks) ks' v =
      let x = draw_kind h before k v in
      ap (λ (d : Drawn (List ℕ)). record { value = x.value ∷ d.value; next = d.next }) (draws_append (out_before before k x.value) ks ks' x.next)

  pub drawn_both : (before : Option ℕ) {after : Option ℕ} (ks ks' : List Kind) (v : ℕ) {words front back : List ℕ} {next last : ℕ} → words ≡ front ++ back →
      ◌≡◌ {A = Drawn (List ℕ)} (record { value = front; next = next }) (draw_kinds h before ks v) → out_after before ks front ≡ after →
      ◌≡◌ {A = Drawn (List ℕ)} (record { value = back; next = last }) (draw_kinds h after ks' next) →
      ◌≡◌ {A = Drawn (List ℕ)} (record { value = words; next = last }) (draw_kinds h before (ks ++ ks') v)
  drawn_both before {after} ks ks' v {back = back} {last = last} e first state second =
      let b : ◌≡◌ {A = Drawn (List ℕ)} (record { value = back; next = last }) (draw_kinds h (out_after before ks (draw_kinds h before ks v).value) ks' (draw_kinds h before ks v).next) =
      second ∙ (λ t. draw_kinds h (sym state t) ks' (first t).next) ∙ (λ t. draw_kinds h (out_after before ks (first t).value) ks' (draw_kinds h before ks v).next) in
      (λ t. record { value = e t; next = last })
      ∙ (λ t. record { value = (first t).value ++ (b t).value; next = (b t).next })
      ∙ sym (draws_append before ks ks' v)

  -- the first i places are filled, and then one more
  pub drawn_more : (k : Kind) (i v : ℕ) (places : List ℕ) {before : Option ℕ} {current x next : ℕ} → i < length places →
      ◌≡◌ {A = Drawn (List ℕ)} (record { value = take i places; next = current }) (draw_kinds h none (replicate i k) v) → out_after none (replicate i k) (take i places) ≡ before →
      ◌≡◌ {A = Drawn ℕ} (record { value = x; next = next }) (draw_kind h before k current) →
      ◌≡◌ {A = Drawn (List ℕ)} (record { value = take (i + 1) (set places i x); next = next }) (draw_kinds h none (replicate (i + 1) k) v)
  unfolding draw_kinds
  drawn_more k i v places {x = x} l first state one =
      drawn_both none (replicate i k) (k ∷ []) v (rw (add-one i) (take-suc-set places i x l)) first state (λ t. record { value = (one t).value ∷ []; next = (one t).next })
      ∙ ap (λ (ks : List Kind). draw_kinds h none ks v) (replicate-append-replicate i 1 k)

  -- and the last of them is the out coin before the next
  pub after_more : (l : Level) (i x : ℕ) (places : List ℕ) → i < length places → length (take i places) ≡ i →
      out_after none (replicate (i + 1) (out l)) (take (i + 1) (set places i x)) ≡ some x
  unfolding out_after out_before
  after_more l i x places u e =
      (λ t. out_after none (sym (replicate-append-replicate i 1 (out l)) t) (taken t))
      ∙ after_append none (replicate i (out l)) (out l ∷ []) (take i places) (x ∷ []) (e ∙ sym (length-replicate i (out l)))
    where
      taken : take (i + 1) (set places i x) ≡ take i places ++ (x ∷ [])
      taken = rw (add-one i) (take-suc-set places i x u)

  -- one coin, and two
  pub one_coin : (before : Option ℕ) (v : ℕ) → draw_many h.prime 1 v ≡ draw_kinds h before (coin ∷ []) v
  unfolding draw_many draw_kinds draw_kind
  one_coin before v = refl

  pub two_coins : (before : Option ℕ) (v : ℕ) → draw_many h.prime 2 v ≡ draw_kinds h before (coin ∷ coin ∷ []) v
  unfolding draw_many draw_kinds draw_kind
  two_coins before v = refl
