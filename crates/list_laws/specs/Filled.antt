-- Loops that store to a list from the front, one or two places a turn. Assumes nothing.
use Rattle.std.specs.Prelude.{◌≡◌, refl, List, ℕ, ◌+◌, ◌≤◌, ◌<◌, length, get_or, set}
use Rattle.std.proofs.Common.{◌∙◌, arith, below_none, below_more, length-set, get_or-set_same, get_or-set_other}

-- entry k is f k, for each k passed, and the others are as before; z stands for what is read outside the list
pub record FilledOver {A : Type 0} (z : A) (f : ℕ → A) (old new : List A) (e : ℕ) : Type 0 where
  pub same : length new ≡ length old
  pub passed : (k : ℕ) → k < e → get_or new k z ≡ f k
  pub left : (k : ℕ) → e ≤ k → get_or new k z ≡ get_or old k z

-- the same of words
abbrev pub Filled : (ℕ → ℕ) → List ℕ → List ℕ → ℕ → Type 0
Filled = FilledOver 0

module _ {A : Type 0} {z : A} (f : ℕ → A) (old : List A) where
  pub filled_first : FilledOver z f old old 0
  filled_first = record { same = refl; passed = below_none (λ (k : ℕ). get_or old k z ≡ f k); left = λ k l. refl }

  pub filled_next : (new : List A) (e : ℕ) {v : A} → FilledOver z f old new e → e < length old → v ≡ f e → FilledOver z f old (set new e v) (e + 1)
  filled_next new e {v} t h q = record {
    same = length-set new e v ∙ t.same;
    passed = below_more (λ (k : ℕ). get_or (set new e v) k z ≡ f k) e
        (λ k l. get_or-set_other new e k v z (λ s. omega arith) ∙ t.passed k l)
        (get_or-set_same new e v z (omega (arith, t.same)) ∙ q);
    left = λ k l. get_or-set_other new e k v z (λ s. omega arith) ∙ t.left k (omega arith);
  }

-- entry k is lo k and entry h + k is hi k, for each k passed, and the others are as before
pub record Paired (lo hi : ℕ → ℕ) (h : ℕ) (old new : List ℕ) (e : ℕ) : Type 0 where
  pub size : length new ≡ length old
  pub low : (k : ℕ) → k < e → get_or new k 0 ≡ lo k
  pub high : (k : ℕ) → k < e → get_or new (h + k) 0 ≡ hi k
  pub low_left : (k : ℕ) → e ≤ k → k < h → get_or new k 0 ≡ get_or old k 0
  pub high_left : (k : ℕ) → e ≤ k → k < h → get_or new (h + k) 0 ≡ get_or old (h + k) 0

module _ (lo hi : ℕ → ℕ) (h : ℕ) (old : List ℕ) where
  pub paired_first : Paired lo hi h old old 0
  paired_first = record {
    size = refl;
    low = below_none (λ (k : ℕ). get_or old k 0 ≡ lo k);
    high = below_none (λ (k : ℕ). get_or old (h + k) 0 ≡ hi k);
    low_left = λ k l u. refl;
    high_left = λ k l u. refl;
  }

  pub paired_next : (new : List ℕ) (e : ℕ) {v w : ℕ} → Paired lo hi h old new e → e < h → length old ≡ h + h → v ≡ lo e → w ≡ hi e →
      Paired lo hi h old (set (set new e v) (h + e) w) (e + 1)
  paired_next new e {v} {w} t below two ev ew = record {
    size = simp length-set t.size;
    low = below_more (λ (k : ℕ). get_or both k 0 ≡ lo k) e
        (λ k l. other k (λ s. omega arith) (λ s. omega arith) ∙ t.low k l)
        (get_or-set_other (set new e v) (h + e) e w 0 (λ s. omega arith) ∙ get_or-set_same new e v 0 (omega (arith, t.size)) ∙ ev);
    high = below_more (λ (k : ℕ). get_or both (h + k) 0 ≡ hi k) e
        (λ k l. other (h + k) (λ s. omega arith) (λ s. omega arith) ∙ t.high k l)
        (get_or-set_same (set new e v) (h + e) w 0 (simp length-set (omega (arith, t.size))) ∙ ew);
    low_left = λ k l u. other k (λ s. omega arith) (λ s. omega arith) ∙ t.low_left k (omega arith) u;
    high_left = λ k l u. other (h + k) (λ s. omega arith) (λ s. omega arith) ∙ t.high_left k (omega arith) u;
  }
    where
      both : List ℕ
      both = set (set new e v) (h + e) w

      other : (k : ℕ) → (k ≡ e → ⊥) → (k ≡ h + e → ⊥) → get_or both k 0 ≡ get_or new k 0
      other k a b = get_or-set_other (set new e v) (h + e) k w 0 b ∙ get_or-set_other new e k v 0 a
