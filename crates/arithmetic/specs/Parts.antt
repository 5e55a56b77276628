-- Words that hold elements one after the other: how many, and in a part of the words. Each takes the trait's law that it follows from. Assumes nothing.
use Rattle.std.specs.Prelude.{ℕ, List, ◌++◌, ◌≡◌, ◌+◌, ◌-◌, ◌*◌, ◌/◌, ◌≤◌, ◌<◌, length, take, drop}
use Rattle.std.proofs.Common.{arith, ap, ap₂, sym, ◌∙◌}
use Rattle.std.proofs.Math.Nat.{mul-le-mul_left, mul-div-le, mul_comm, mul-div_cancel}
use Rattle.std.proofs.Math.Seq.{length-take-le, take_at, drop_at}
use Rattle.std.proofs.lemmas.List.{take-append-drop}

module _ {C : Type 0} (width : ℕ) (elements : List ℕ → List C) (counted : (w : List ℕ) → length w / width ≡ length (elements w)) where
  -- words of one length hold as many elements
  pub even : (v w : List ℕ) → length v ≡ length w → length (elements v) ≡ length (elements w)
  even v w e = sym (counted v) ∙ ap (λ (m : ℕ). m / width) e ∙ counted w

  -- the words of the first n elements are there
  pub fit : (n : ℕ) (w : List ℕ) → n ≤ length (elements w) → width * n ≤ length w
  fit n w h =
      let few : n ≤ length w / width = omega (arith, counted w) in
      omega (arith, mul-le-mul_left width few, mul-div-le (length w) width)

  -- the first n elements, where the words of n are m
  pub front_length : ((n : ℕ) (w : List ℕ) → elements (take (width * n) w) ≡ take n (elements w)) → (n : ℕ) (w : List ℕ) {m : ℕ} → m ≡ width * n → n ≤ length (elements w) →
      length (elements (take m w)) ≡ n
  front_length first n w e h = ap (λ (k : ℕ). length (elements (take k w))) e ∙ ap length (first n w) ∙ length-take-le n (elements w) h

  -- words of n elements hold n
  pub many : 0 < width → (n : ℕ) (w : List ℕ) → length w ≡ width * n → length (elements w) ≡ n
  many wide n w e = sym (counted w) ∙ ap (λ (m : ℕ). m / width) (e ∙ mul_comm width n) ∙ mul-div_cancel n wide

  -- the words of the elements from number `from` to the last of n are there
  pub part_fit : (from n : ℕ) (w : List ℕ) {a b : ℕ} → a ≡ width * from → b ≡ width * (n - from) → from ≤ n → n ≡ length (elements w) → a + b ≤ length w
  part_fit from n w ea eb h en =
      let whole : from + (n - from) ≡ n = omega arith in
      omega (arith, ea, eb, ap (λ (k : ℕ). width * k) whole, fit n w (omega (arith, en)))

module _ {C : Type 0} (width : ℕ) (elements : List ℕ → List C) (first : (n : ℕ) (w : List ℕ) → elements (take (width * n) w) ≡ take n (elements w))
    (behind : (n : ℕ) (w : List ℕ) → elements (drop (width * n) w) ≡ drop n (elements w)) where
  -- a part of the words is that part of the elements
  pub part_of : (from e : ℕ) (w p : List ℕ) {a b : ℕ} → a ≡ width * from → b ≡ width * e → p ≡ take b (drop a w) → elements p ≡ take e (drop from (elements w))
  part_of from e w p ea eb ep =
      ap elements (ep ∙ ap₂ (λ (m n : ℕ). take n (drop m w)) ea eb) ∙ first e (drop (width * from) w) ∙ ap (take e) (behind from w)

  -- whole elements in front: the elements of both parts
  pub joined_of : (n : ℕ) (f r : List ℕ) → length f ≡ width * n → elements (f ++ r) ≡ elements f ++ elements r
  joined_of n f r e =
      sym (take-append-drop n (elements (f ++ r)))
      ∙ ap₂ (λ (x y : List C). x ++ y) (sym (first n (f ++ r)) ∙ ap elements (take_at f r (width * n) e)) (sym (behind n (f ++ r)) ∙ ap elements (drop_at f r (width * n) e))
