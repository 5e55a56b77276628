-- Draws below one limit, one after the other.
use Rattle.std.specs.Prelude.{ℕ, zero, suc, ◌+◌, ◌<◌, ◌≡◌, refl, List, [], ◌∷◌, ◌++◌, length, take, replicate, set}
use Rattle.std.proofs.Common.{sym, ap, ◌∙◌, add-one, take-suc-set}
use Rattle.std.proofs.Math.Option.{Option, none}
use Rattle.definition.specs.Deciding.{out_before}
use Rattle.definition.specs.Layout.{index, message}
use Rattle.definition.specs.Load.{Drawn, draw_below, draw_kind, draw_kinds}
use Rattle.definition.specs.Sheet.{Sheet}

unfoldable pub draw_many : ℕ → ℕ → ℕ → Drawn (List ℕ)
draw_many limit zero v = record { value = []; next = v }
draw_many limit (suc count) v =
    let xs = draw_many limit count (draw_below limit v).next in
    record { value = (draw_below limit v).value ∷ xs.value; next = xs.next }

-- the definition's draws of words of one kind
pub messages_drawn : (h : Sheet) (before : Option ℕ) (count v : ℕ) → draw_kinds h before (replicate count message) v ≡ draw_many h.prime count v
unfolding draw_many draw_kinds draw_kind out_before
messages_drawn h before zero v = refl
messages_drawn h before (suc count) v =
    ap (λ (d : Drawn (List ℕ)). record { value = (draw_below h.prime v).value ∷ d.value; next = d.next }) (messages_drawn h none count (draw_below h.prime v).next)

pub indices_drawn : (h : Sheet) (before : Option ℕ) (n count v : ℕ) → draw_kinds h before (replicate count (index n)) v ≡ draw_many n count v
unfolding draw_many draw_kinds draw_kind out_before
indices_drawn h before n zero v = refl
indices_drawn h before n (suc count) v =
    ap (λ (d : Drawn (List ℕ)). record { value = (draw_below n v).value ∷ d.value; next = d.next }) (indices_drawn h none n count (draw_below n v).next)

-- one draw more at the end
pub many_last : (limit count v : ℕ) →
    draw_many limit (suc count) v
    ≡ record { value = (draw_many limit count v).value ++ ((draw_below limit (draw_many limit count v).next).value ∷ []); next = (draw_below limit (draw_many limit count v).next).next }
unfolding draw_many
many_last limit zero v = refl
many_last limit (suc count) v =
    ap (λ (d : Drawn (List ℕ)). record { value = (draw_below limit v).value ∷ d.value; next = d.next }) (many_last limit count (draw_below limit v).next)

-- ---- the places filled so far

pub many_none : (limit v : ℕ) (places : List ℕ) → ◌≡◌ {A = Drawn (List ℕ)} (record { value = take 0 places; next = v }) (draw_many limit 0 v)
unfolding draw_many
many_none limit v places = refl

pub many_next : (limit i v : ℕ) (places : List ℕ) {generator x next : ℕ} → i < length places →
    ◌≡◌ {A = Drawn (List ℕ)} (record { value = take i places; next = generator }) (draw_many limit i v) →
    ◌≡◌ {A = Drawn ℕ} (record { value = x; next = next }) (draw_below limit generator) →
    ◌≡◌ {A = Drawn (List ℕ)} (record { value = take (i + 1) (set places i x); next = next }) (draw_many limit (i + 1) v)
many_next limit i v places {generator} {x} {next} h e d =
    let g : generator ≡ (draw_many limit i v).next = ap (λ (r : Drawn (List ℕ)). r.next) e in
    let b : ◌≡◌ {A = Drawn ℕ} (record { value = x; next = next }) (draw_below limit (draw_many limit i v).next) = d ∙ ap (draw_below limit) g in
    rw (add-one i) (
    (λ t. record { value = take-suc-set places i x h t; next = next })
    ∙ (λ t. record { value = (e t).value ++ ((b t).value ∷ []); next = (b t).next })
    ∙ sym (many_last limit i v))
