-- A sheet drawn word by word, as the code draws it, over plain numbers and lists. Assumes nothing.
use Prim.Native.Nat.{ℕ, ◌+◌, ◌-◌, ◌%◌, ◌≤◌, ◌<◌}
use native.Mathlib.Nat.{mod-lt}
use native.Mathlib.Numerals.{add-one}
use native.Mathlib.Omega.{arith}
use mathlib.Core.Bool.{Bool, true, cond}
use mathlib.Core.List.{List, [], ◌∷◌, ◌++◌}
use mathlib.Core.Path.{◌≡◌, refl, sym, ap, ◌∙◌, subst}
use lib.Dec.{eqb}
use lib.ListN.{length, get_or, take, set, length-set}
use lib.Seq.{get_or-take, length-take-le, take_all, take-suc-set}
use borrow.Author.Tests.{eq-eqb, ne_eqb}
use Rattle.list_laws.specs.All.{at_place}
use Rattle.layouts.proofs.SheetByWord.{keep_all, kept_more, rule_kept}
use Rattle.layouts.specs.PlainRules.{Kept}
use Rattle.definition.specs.Load.{Drawn, step, draw_below, candidates, permits, permitted, worked_sheet, draw_words, draw_sheet}

-- After j words, with the generator at v: they keep their rules, and the words to come make the sheet that is drawn from the state `first`.
pub record Drawing (first : ℕ) (w : List ℕ) (j v : ℕ) : Type 0 where
  pub words : length w ≡ 12
  pub kept : Kept (take j w)
  pub rest : draw_words (12 - j) (take j w) v ≡ draw_sheet first

pub none_drawn : (v : ℕ) (w : List ℕ) → length w ≡ 12 → Drawing v w 0 v
unfolding draw_sheet
none_drawn v w e = record { words = e; kept = λ i l. absurd (omega arith); rest = refl }

pub all_drawn : {first j v : ℕ} {w : List ℕ} → Drawing first w j v → j ≡ 12 → ◌≡◌ {A = Drawn (List ℕ)} (record { value = w; next = v }) (draw_sheet first)
unfolding draw_words
all_drawn {first} {j} {v} {w} t h =
    let e : 12 - j ≡ 0 = omega arith in
    ap {B = Drawn (List ℕ)} (λ (l : List ℕ). record { value = l; next = v }) (sym (take_all j w (omega (arith, t.words))))
    ∙ ap (λ (n : ℕ). draw_words n (take j w) v) (sym e) ∙ t.rest

-- a draw is below its limit
pub draw_below_lem : (n v : ℕ) {d next : ℕ} → 0 < n → ◌≡◌ {A = Drawn ℕ} (record { value = d; next = next }) (draw_below n v) → d < n
unfolding draw_below
draw_below_lem n v {d} h e = let s : d ≡ step v % n = ap (λ (x : Drawn ℕ). x.value) e in omega (arith, s, mod-lt (step v) {m = n} h)

module _ {first j v : ℕ} {w : List ℕ} (values : List ℕ) (n : ℕ) (t : Drawing first w j v) (l : j < 12) (p : take n values ≡ permitted (take j w)) (m : n ≤ 56) (room : length values ≡ 56) where
  -- the number of permitted values
  number : length (permitted (take j w)) ≡ n
  number = sym (ap length p) ∙ length-take-le n values (omega arith)

  -- the next word, and those after it
  next : cond (eqb n 0) (record { value = worked_sheet; next = v }) (draw_words (12 - (j + 1)) (take j w ++ (get_or (take n values) (step v % n) 0 ∷ [])) (step v)) ≡ draw_sheet first
  unfolding draw_words
  next =
      let e : 12 - j ≡ 12 - (j + 1) + 1 = omega arith in
      (λ z. cond (eqb (sym number z) 0) (record { value = worked_sheet; next = v }) (draw_words (12 - (j + 1)) (take j w ++ (get_or (p z) (step v % sym number z) 0 ∷ [])) (step v)))
      ∙ ap (λ (c : ℕ). draw_words c (take j w) v) (sym (e ∙ add-one (12 - (j + 1)))) ∙ t.rest

  pub none_left : {u : List ℕ} → n ≡ 0 → u ≡ worked_sheet → ◌≡◌ {A = Drawn (List ℕ)} (record { value = u; next = v }) (draw_sheet first)
  none_left {u} z e =
      ap {B = Drawn (List ℕ)} (λ (s : List ℕ). record { value = s; next = v }) e
      ∙ ap (λ (b : Bool). cond b (record { value = worked_sheet; next = v }) (draw_words (12 - (j + 1)) (take j w ++ (get_or (take n values) (step v % n) 0 ∷ [])) (step v))) (sym (eq-eqb n 0 z))
      ∙ next

  module _ (u : List ℕ) {d later : ℕ} (z : n ≡ 0 → ⊥) (long : length u ≡ 12) (front : take j u ≡ take j w)
      (e : ◌≡◌ {A = Drawn ℕ} (record { value = d; next = later }) (draw_below n v)) where
    below : d < n
    below = draw_below_lem n v (omega arith) e

    -- the value picked
    picked : get_or values d 0 ≡ get_or (take n values) d 0
    picked = sym (get_or-take n values d 0 below)

    allowed : permits (take j w) (get_or values d 0) ≡ true
    unfolding permitted
    allowed =
        subst (λ (x : ℕ). permits (take j w) x ≡ true) (sym (picked ∙ ap (λ (xs : List ℕ). get_or xs d 0) p))
        (at_place (λ x. permits (take j w) x ≡ true) (permitted (take j w)) 0 (keep_all (permits (take j w)) candidates) d (omega (arith, below, number)))

    words_now : take (j + 1) (set u j (get_or values d 0)) ≡ take j w ++ (get_or values d 0 ∷ [])
    words_now = rw (add-one j) (take-suc-set u j (get_or values d 0) (omega arith) ∙ ap (λ (s : List ℕ). s ++ (get_or values d 0 ∷ [])) front)

    pub one_drawn : Drawing first (set u j (get_or values d 0)) (j + 1) later
    unfolding draw_below
    one_drawn = record {
      words = length-set u j (get_or values d 0) ∙ long;
      kept = subst (λ (s : List ℕ). Kept s) (sym words_now) (kept_more (take j w) (get_or values d 0) t.kept (rule_kept (take j w) (get_or values d 0) allowed));
      rest =
          ap (λ (s : List ℕ). draw_words (12 - (j + 1)) s later) words_now
          ∙ ap (λ (x : ℕ). draw_words (12 - (j + 1)) (take j w ++ (x ∷ [])) later) picked
          ∙ (λ i. draw_words (12 - (j + 1)) (take j w ++ (get_or (take n values) (e i).value 0 ∷ [])) (e i).next)
          ∙ ap (λ (b : Bool). cond b (record { value = worked_sheet; next = v }) (draw_words (12 - (j + 1)) (take j w ++ (get_or (take n values) (step v % n) 0 ∷ [])) (step v))) (sym (ne_eqb n 0 z))
          ∙ next;
    }
