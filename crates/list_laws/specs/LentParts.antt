-- A list whose first places, and then the others, are lent and filled. Assumes nothing.
use Rattle.std.specs.Prelude.{ℕ, ◌-◌, ◌≤◌, List, [], ◌++◌, ◌≡◌, refl, length, take, drop}
use Rattle.std.proofs.Common.{le_of_eq, arith, append-nil, ap, ◌∙◌, drop_of_length-le, length-append, length-drop, length-take, length-take-le, take_at}
use borrow.Rule.Slice.PartMut.{put_mid}

-- l after its first n places became front
abbrev pub begun : List ℕ → List ℕ → ℕ → List ℕ
begun l front n = front ++ drop n l

-- the places of it that are lent second
abbrev pub others : List ℕ → List ℕ → ℕ → List ℕ
others l front n = take (length (begun l front n) - n) (drop n (begun l front n))

-- l after both became front and back
abbrev pub filled : List ℕ → List ℕ → List ℕ → ℕ → List ℕ
filled l front back n = put_mid n (length (begun l front n) - n) (begun l front n) back

module _ (l front : List ℕ) (n : ℕ) (inside : n ≤ length l) (same : length front ≡ length (take n l)) where
  front_long : length front ≡ n
  front_long = same ∙ length-take-le n l inside

  pub begun_long : length (begun l front n) ≡ length l
  begun_long = simp (length-append, length-drop) (omega (arith, front_long))

  pub others_long : length (others l front n) ≡ length l - n
  others_long = simp (length-take, length-drop) (omega (arith, begun_long))

  pub joined : (back : List ℕ) {x y : List ℕ} → front ≡ x → back ≡ y → filled l front back n ≡ x ++ y
  joined back ex ey =
      let z : drop (length (begun l front n) - n) (drop n (begun l front n)) ≡ [] =
      drop_of_length-le (drop n (begun l front n)) {i = length (begun l front n) - n} (le_of_eq (length-drop n (begun l front n))) in
      ap (λ (x : List ℕ). x ++ (back ++ drop (length (begun l front n) - n) (drop n (begun l front n)))) (take_at front (drop n l) n front_long)
      ∙ ap (λ (x : List ℕ). front ++ (back ++ x)) z ∙ ap (λ (x : List ℕ). front ++ x) (append-nil back)
      ∙ (λ i. ex i ++ ey i)

  pub filled_long : (back : List ℕ) → length back ≡ length (others l front n) → length (filled l front back n) ≡ length l
  filled_long back e = ap length (joined back refl refl) ∙ length-append front back ∙ omega (arith, front_long, others_long)

  -- the places filled are as they were lent
  pub front_stays : take n (begun l front n) ≡ front
  front_stays = take_at front (drop n l) n front_long

  pub front_there : length (take n (begun l front n)) ≡ n
  front_there = ap length front_stays ∙ front_long
