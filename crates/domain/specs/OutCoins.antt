-- Elements and coins that lie in a domain: the first of a run of elements, and the first out coin among words by their kinds, run by run.
use Prim.Native.Nat.{ℕ, zero, suc, ◌+◌, ◌/◌, ◌^◌, ◌≤◌}
use native.Mathlib.Omega.{arith}
use Rattle.std.specs.Prelude.{◌≡◌, Bool, true, false, cond, get_or, drop, replicate}
use Rattle.std.proofs.Math.Path.{refl, ap}
use Rattle.std.proofs.Common.{◌∙◌, drop-cons}
use mathlib.Core.List.{List, [], ◌∷◌, ◌++◌, flat_map, zip_with}
use Rattle.std.proofs.Math.Option.{Option, none, some}
use Rattle.std.proofs.Math.ListN.{length}
use Rattle.list_laws.specs.All.{All, all_replicate}
use Rattle.layouts.specs.Levels.{element_at}
use Rattle.layouts.specs.Spellings.{begun_at, begun_length, count_add, count_zero}
use Rattle.definition.specs.Deciding.{out_in_domain}
use Rattle.definition.specs.Domain.{in_domain}
use Rattle.definition.specs.Field.{Element, Spelling, begun_by, field_in, four, number_in, one, prime_of, spelling_of, word_count}
use Rattle.definition.specs.Layout.{Kind, coin, index, message, out, out_layout}
use Rattle.definition.specs.Lists.{first_true}
use Rattle.definition.specs.Sheet.{Level, Sheet, root_of_unity}
use Rattle.domain.specs.Powers.{Powers}

-- the first of `count` elements from word `at` on that lies in the domain of a level, by the number of its first word; p is the prime
unfoldable pub first_inside : Spelling → ℕ → ℕ → Level → List ℕ → ℕ → ℕ → Option ℕ
first_inside σ p ω l w at zero = none
first_inside σ p ω l w at (suc count) =
    cond (in_domain (field_in σ p) (number_in σ ω) l (element_at σ w at)) (some at) (first_inside σ p ω l w (at + word_count σ 1) count)

-- v is that number, for every ω that the table is of, and every level with 2^i = scale and n_i = n0/scale
abbrev pub FirstInside : ℕ → List ℕ → List ℕ → ℕ → ℕ → ℕ → Option ℕ → Type 0
FirstInside field w pw scale at count v =
    (ω : ℕ) (l : Level) → Powers field ω pw → 2 ^ l.number ≡ scale → l.size ≡ length pw / scale → v ≡ first_inside (spelling_of field) (prime_of field) ω l w at count

first_cons : (at : ℕ) (b : Bool) (bs : List Bool) → first_true at (b ∷ bs) ≡ cond b (some at) (first_true (suc at) bs)
unfolding first_true
first_cons at true bs = refl
first_cons at false bs = refl

module _ {A : Type 0} (z : A) (t : Kind → A → Bool) where
  -- words of kinds that no test is true of, n in number; xs has what each word begins
  pub passed_over : (ks ks' : List Kind) (xs : List A) (at n : ℕ) → length ks ≡ n → All (λ k. (x : A) → t k x ≡ false) ks → at + n ≤ length xs →
      first_true at (zip_with t (ks ++ ks') (drop at xs)) ≡ first_true (at + n) (zip_with t ks' (drop (at + n) xs))
  unfolding zip_with first_true
  passed_over [] ks' xs at n f h l = let e : at ≡ at + n = omega arith in ap (λ (m : ℕ). first_true m (zip_with t ks' (drop m xs))) e
  passed_over (k ∷ ks) ks' xs at n f h l =
      let e : suc at + length ks ≡ at + n = omega arith in
      rw (drop-cons xs at z (omega arith)) (rw (h.0 (get_or xs at z)) (passed_over ks ks' xs (suc at) (length ks) refl h.1 (omega arith)
      ∙ ap (λ (m : ℕ). first_true m (zip_with t ks' (drop m xs))) e))

  pub all_passed_over : (ks : List Kind) (xs : List A) (at : ℕ) → All (λ k. (x : A) → t k x ≡ false) ks → first_true at (zip_with t ks xs) ≡ none
  unfolding zip_with first_true
  all_passed_over [] xs at h = refl
  all_passed_over (k ∷ ks) [] at h = refl
  all_passed_over (k ∷ ks) (x ∷ xs) at h = rw (h.0 x) (all_passed_over ks xs (suc at) h.1)

  -- an out coin: its first word counts, and its others are passed over
  pub outs_step : (σ : Spelling) (l : Level) (ks' : List Kind) (xs : List A) (count at : ℕ) → ((x : A) → t coin x ≡ false) → at + word_count σ 1 ≤ length xs →
      first_true at (zip_with t (out_layout σ (suc count) l ++ ks') (drop at xs))
      ≡ cond (t (out l) (get_or xs at z)) (some at) (first_true (at + word_count σ 1) (zip_with t (out_layout σ count l ++ ks') (drop (at + word_count σ 1) xs)))
  unfolding zip_with first_true out_layout word_count flat_map
  outs_step one l ks' xs count at f h =
      let e : suc at ≡ at + 1 = omega arith in
      rw (drop-cons xs at z (omega arith))
      (first_cons at (t (out l) (get_or xs at z)) (zip_with t (out_layout one count l ++ ks') (drop (suc at) xs)) ∙ ap {B = Option ℕ} (cond (t (out l) (get_or xs at z)) (some at)) (ap (λ (m : ℕ). first_true m (zip_with t (out_layout one count l ++ ks') (drop m xs))) e))
  outs_step four l ks' xs count at f h =
      let e : suc at + 3 ≡ at + 4 = omega arith in
      rw (drop-cons xs at z (omega arith))
      (first_cons at (t (out l) (get_or xs at z)) (zip_with t ((coin ∷ coin ∷ coin ∷ []) ++ (out_layout four count l ++ ks')) (drop (suc at) xs))
      ∙ ap {B = Option ℕ} (cond (t (out l) (get_or xs at z)) (some at))
      (passed_over (coin ∷ coin ∷ coin ∷ []) (out_layout four count l ++ ks') xs (suc at) 3 refl (f, (f, (f, tt))) (omega arith)
      ∙ ap (λ (m : ℕ). first_true m (zip_with t (out_layout four count l ++ ks') (drop m xs))) e))

-- the first place found, or else the next
abbrev pub or_else : Option ℕ → Option ℕ → Option ℕ
or_else none v = v
or_else (some n) v = some n

-- no out coins at all
pub no_outs : (σ : Spelling) (l : Level) → out_layout σ 0 l ≡ []
unfolding out_layout flat_map
no_outs one l = refl
no_outs four l = refl

-- out coins of a level
pub outs_run : (σ : Spelling) (h : Sheet) (l : Level) (ks' : List Kind) (w : List ℕ) (count at : ℕ) → at + word_count σ count ≤ length w →
    first_true at (zip_with (out_in_domain σ h) (out_layout σ count l ++ ks') (drop at (begun_by σ w)))
    ≡ or_else (first_inside σ h.prime (root_of_unity h) l w at count) (first_true (at + word_count σ count) (zip_with (out_in_domain σ h) ks' (drop (at + word_count σ count) (begun_by σ w))))
unfolding first_inside out_in_domain
outs_run σ h l ks' w zero at g =
    let e : at ≡ at + word_count σ 0 = omega (arith, count_zero σ) in
    ap (λ (ks : List Kind). first_true at (zip_with (out_in_domain σ h) (ks ++ ks') (drop at (begun_by σ w)))) (no_outs σ l)
    ∙ ap (λ (n : ℕ). first_true n (zip_with (out_in_domain σ h) ks' (drop n (begun_by σ w)))) e
outs_run σ h l ks' w (suc count) at g =
    outs_step (number_in σ 0) (out_in_domain σ h) σ l ks' (begun_by σ w) count at (λ x. refl) (omega (arith, begun_length σ w, e))
    ∙ ap (λ (x : Element σ). cond (in_domain (field_in σ h.prime) (number_in σ (root_of_unity h)) l x) (some at)
    (first_true (at + word_count σ 1) (zip_with (out_in_domain σ h) (out_layout σ count l ++ ks') (drop (at + word_count σ 1) (begun_by σ w))))) (begun_at σ w at (omega (arith, e)))
    ∙ go (in_domain (field_in σ h.prime) (number_in σ (root_of_unity h)) l (element_at σ w at)) (outs_run σ h l ks' w count (at + word_count σ 1) (omega (arith, e)))
  where
    e : at + word_count σ 1 + word_count σ count ≡ at + word_count σ (suc count)
    e = let s : 1 + count ≡ suc count = omega arith in omega (arith, count_add σ 1 count, ap (word_count σ) s)

    go : (b : Bool) → first_true (at + word_count σ 1) (zip_with (out_in_domain σ h) (out_layout σ count l ++ ks') (drop (at + word_count σ 1) (begun_by σ w)))
        ≡ or_else (first_inside σ h.prime (root_of_unity h) l w (at + word_count σ 1) count)
        (first_true (at + word_count σ 1 + word_count σ count) (zip_with (out_in_domain σ h) ks' (drop (at + word_count σ 1 + word_count σ count) (begun_by σ w)))) →
        cond b (some at) (first_true (at + word_count σ 1) (zip_with (out_in_domain σ h) (out_layout σ count l ++ ks') (drop (at + word_count σ 1) (begun_by σ w))))
        ≡ or_else (cond b (some at) (first_inside σ h.prime (root_of_unity h) l w (at + word_count σ 1) count))
        (first_true (at + word_count σ (suc count)) (zip_with (out_in_domain σ h) ks' (drop (at + word_count σ (suc count)) (begun_by σ w))))
    go true r = refl
    go false r = r ∙ ap (λ (n : ℕ). or_else (first_inside σ h.prime (root_of_unity h) l w (at + word_count σ 1) count) (first_true n (zip_with (out_in_domain σ h) ks' (drop n (begun_by σ w))))) e

module _ (σ : Spelling) (h : Sheet) where
  pub messages_not_outs : (n : ℕ) → All (λ k. (x : Element σ) → out_in_domain σ h k x ≡ false) (replicate n message)
  unfolding out_in_domain
  messages_not_outs n = all_replicate (λ k. (x : Element σ) → out_in_domain σ h k x ≡ false) n message (λ x. refl)

  pub indices_not_outs : (n m : ℕ) → All (λ k. (x : Element σ) → out_in_domain σ h k x ≡ false) (replicate n (index m))
  unfolding out_in_domain
  indices_not_outs n m = all_replicate (λ k. (x : Element σ) → out_in_domain σ h k x ≡ false) n (index m) (λ x. refl)

  pub coin_not_out : (x : Element σ) → out_in_domain σ h coin x ≡ false
  unfolding out_in_domain
  coin_not_out x = refl
