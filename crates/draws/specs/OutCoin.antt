-- An out coin, drawn again while it lies in its domain or is equal to the one before it in its round.
use Prim.Native.Nat.{ℕ, zero, suc, ◌/◌, ◌%◌, ◌^◌, ◌<◌}
use Rattle.std.proofs.Math.Nat.{mod-lt}
use Rattle.std.proofs.Common.{arith, ◌∙◌, eq-eqb, ne_eqb}
use Rattle.std.specs.Prelude.{Bool, true, false, ◌||◌, List, length}
use Rattle.std.proofs.Math.Bool.{cond, not, not-not, or-false, or-true}
use Rattle.std.proofs.Math.Option.{Option, none, some}
use Rattle.std.proofs.Math.Path.{◌≡◌, sym, ap}
use Rattle.std.proofs.Math.Dec.{eqb}
use Rattle.algebra.specs.PrimeField.{suited}
use Rattle.definition.specs.Deciding.{out_in_domain, out_repeated, same_as}
use Rattle.definition.specs.Domain.{in_domain}
use Rattle.definition.specs.Field.{field_in, field_of, number_in, prime_field, prime_of}
use Rattle.definition.specs.Layout.{out}
use Rattle.definition.specs.Load.{Drawn, draw_below, draw_out, not_allowed, smallest_allowed, step, undrawn}
use Rattle.definition.specs.Sheet.{Level, Sheet, root_of_unity}
use Rattle.domain.specs.Powers.{Inside, Powers}

-- x may be drawn after the word `before`, for every field, ω and level that the table is of
abbrev pub MayBe : List ℕ → ℕ → ℕ → ℕ → Bool → Type 0
MayBe pw scale before x r =
    (field ω : ℕ) (l : Level) → Powers field ω pw → 2 ^ l.number ≡ scale → l.size ≡ length pw / scale → r ≡ not (in_domain (field_of field) ω l x || eqb x before)

-- the word that stands for the out coin before: p, which no element is equal to, for none
abbrev pub StandsFor : Sheet → Option ℕ → ℕ → Type 0
StandsFor h none x = x ≡ h.prime
StandsFor h (some y) x = x ≡ y

-- of level l of the sheet h, after an out coin or none: the field and the level are those of the table; the word before stands for the out coin; and the smallest
-- element allowed after y is 1 where y is 0, else 0
pub record Suits (field : ℕ) (pw : List ℕ) (scale before : ℕ) (h : Sheet) (o : Option ℕ) (l : Level) : Type 0 where
  pub prime : h.prime ≡ prime_of field
  pub powers : Powers field (root_of_unity h) pw
  pub number : 2 ^ l.number ≡ scale
  pub size : l.size ≡ length pw / scale
  pub stands : StandsFor h o before
  pub smallest : (y : ℕ) → smallest_allowed h (some y) (out l) ≡ cond (eqb 0 y) 1 0

-- d is the definition's draw of an out coin there
abbrev pub OutDrawn : ℕ → List ℕ → ℕ → ℕ → ℕ → Drawn ℕ → Type 0
OutDrawn field pw scale before v d = (h : Sheet) (o : Option ℕ) (l : Level) → Suits field pw scale before h o l → d ≡ draw_out h o (out l) 64 v

-- the smallest element allowed by the word before
pub one_after : (before : ℕ) → before ≡ 0 → ◌≡◌ {A = ℕ} 1 (cond (eqb 0 before) 1 0)
one_after before e = sym (ap (λ (b : Bool). cond b 1 0) (eq-eqb 0 before (sym e)))

pub zero_after : (before : ℕ) → (before ≡ 0 → ⊥) → ◌≡◌ {A = ℕ} 0 (cond (eqb 0 before) 1 0)
zero_after before d = sym (ap (λ (b : Bool). cond b 1 0) (ne_eqb 0 before (λ e. d (sym e))))

pub may_not : (pw : List ℕ) (scale before x : ℕ) → x ≡ before → MayBe pw scale before x false
may_not pw scale before x e field ω l w n z = sym (ap (λ (b : Bool). not (in_domain (field_of field) ω l x || b)) (eq-eqb x before e) ∙ ap not (or-true (in_domain (field_of field) ω l x)))

pub may_be : (pw : List ℕ) (scale before x : ℕ) {inside : Bool} → (x ≡ before → ⊥) → Inside pw scale x inside → MayBe pw scale before x (not inside)
may_be pw scale before x d test field ω l w n z =
    ap not (test field ω l w n z ∙ sym (or-false (in_domain (field_of field) ω l x)) ∙ ap (λ (b : Bool). in_domain (field_of field) ω l x || b) (sym (ne_eqb x before d)))

module _ (field : ℕ) (pw : List ℕ) (scale before : ℕ) where
  -- so many draws are left, and what they give is what the whole gives
  abbrev pub OutLeft : ℕ → ℕ → ℕ → Type 0
  OutLeft v again generator = (h : Sheet) (o : Option ℕ) (l : Level) → Suits field pw scale before h o l → draw_out h o (out l) again generator ≡ draw_out h o (out l) 64 v

  -- the word before says whether an element repeats the out coin before it
  same_word : (h : Sheet) (o : Option ℕ) (x : ℕ) → StandsFor h o before → x < h.prime → same_as (prime_field h.prime) o x ≡ eqb x before
  unfolding same_as prime_field
  same_word h none x e l = sym (ne_eqb x before (λ q. omega (arith, e, q)))
  same_word h (some y) x e l = ap (eqb x) (sym e)

  positive : (h : Sheet) → h.prime ≡ prime_of field → 0 < h.prime
  positive h e = omega (arith, e, (suited field).large)

  module _ (v again generator : ℕ) {p x next : ℕ} {taken : Bool} (ep : p ≡ prime_of field) (left : OutLeft v again generator)
      (drawn : ◌≡◌ {A = Drawn ℕ} (record { value = x; next = next }) (draw_below p generator)) (test : MayBe pw scale before x taken) where
    -- the test of the definition is that of the code
    tested : (h : Sheet) (o : Option ℕ) (l : Level) → Suits field pw scale before h o l → not taken ≡ not_allowed h o (out l) (step generator % h.prime)
    unfolding draw_below not_allowed out_in_domain out_repeated field_of field_in number_in
    tested h o l s =
        let value : x ≡ step generator % h.prime = ap (λ (d : Drawn ℕ). d.value) drawn ∙ ap (λ (q : ℕ). step generator % q) (ep ∙ sym s.prime) in
        let below : step generator % h.prime < h.prime = mod-lt (step generator) (positive h s.prime) in
        ap not (test field (root_of_unity h) l s.powers s.number s.size) ∙ not-not _
        ∙ (λ i. in_domain (prime_field (sym s.prime i)) (root_of_unity h) l (value i) || eqb (value i) before)
        ∙ ap (λ (b : Bool). in_domain (prime_field h.prime) (root_of_unity h) l (step generator % h.prime) || b) (sym (same_word h o (step generator % h.prime) s.stands below))

    below_is : (h : Sheet) → h.prime ≡ prime_of field → ◌≡◌ {A = Drawn ℕ} (record { value = x; next = next }) (draw_below h.prime generator)
    below_is h e = drawn ∙ ap (λ (q : ℕ). draw_below q generator) (ep ∙ sym e)

    next_is : next ≡ step generator
    unfolding draw_below
    next_is = ap (λ (d : Drawn ℕ). d.next) drawn

    -- allowed, it is taken,
    pub out_here : taken ≡ true → OutDrawn field pw scale before v (record { value = x; next = next })
    unfolding draw_out
    out_here on h o l s = go again (left h o l s)
      where
        go : (a : ℕ) → draw_out h o (out l) a generator ≡ draw_out h o (out l) 64 v → ◌≡◌ {A = Drawn ℕ} (record { value = x; next = next }) (draw_out h o (out l) 64 v)
        go zero k =
            below_is h s.prime
            ∙ ap (λ (b : Bool). cond b (record { value = undrawn h o (out l); next = step generator }) (draw_below h.prime generator)) (sym (ap not on) ∙ tested h o l s) ∙ k
        go (suc a) k =
            below_is h s.prime ∙ ap (λ (b : Bool). cond b (draw_out h o (out l) a (step generator)) (draw_below h.prime generator)) (sym (ap not on) ∙ tested h o l s) ∙ k

    -- else it is drawn again,
    pub out_again : (a : ℕ) → again ≡ suc a → taken ≡ false → OutLeft v a next
    unfolding draw_out
    out_again a ea off h o l s =
        ap (draw_out h o (out l) a) next_is
        ∙ ap (λ (b : Bool). cond b (draw_out h o (out l) a (step generator)) (draw_below h.prime generator)) (sym (ap not off) ∙ tested h o l s)
        ∙ ap (λ (m : ℕ). draw_out h o (out l) m generator) (sym ea) ∙ left h o l s

    -- the smallest element allowed
    smallest_is : (h : Sheet) (o : Option ℕ) (l : Level) → Suits field pw scale before h o l → cond (eqb 0 before) 1 0 ≡ undrawn h o (out l)
    unfolding undrawn
    smallest_is h none l s = ap (λ (b : Bool). cond b 1 0) (ne_eqb 0 before (λ e. omega (arith, e, s.stands, positive h s.prime)))
    smallest_is h (some y) l s = ap (λ (m : ℕ). cond (eqb 0 m) 1 0) s.stands ∙ sym (s.smallest y)

    -- and after the last draw that stands in its place
    pub out_last : again ≡ 0 → taken ≡ false → {smallest : ℕ} → smallest ≡ cond (eqb 0 before) 1 0 → OutDrawn field pw scale before v (record { value = smallest; next = next })
    unfolding draw_out
    out_last ea off {smallest} es h o l s =
        (λ i. record { value = (es ∙ smallest_is h o l s) i; next = next_is i })
        ∙ ap (λ (b : Bool). cond b (record { value = undrawn h o (out l); next = step generator }) (draw_below h.prime generator)) (sym (ap not off) ∙ tested h o l s)
        ∙ ap (λ (m : ℕ). draw_out h o (out l) m generator) (sym ea) ∙ left h o l s
