-- A file without a fault keeps every condition, and one that keeps every condition has no fault; so verify's outcome is exactly what the faults say.
use Rattle.std.specs.Prelude.{ℕ, zero, suc, ◌≤◌, ◌<◌, ◌%◌, List, ◌↔◌, ◌≡◌, refl, eqb, length, get_or}
use Rattle.std.proofs.Math.Decide.{dec_lt}
use Rattle.std.proofs.Common.{arith, sym, ap, ◌∙◌, eq-eqb, eqb-true}
use Rattle.definition.specs.Block.{stream_of}
use Rattle.definition.specs.Field.{Element, Field}
use Rattle.definition.specs.Sheet.{Edition, Sheet}
use Rattle.definition.specs.Verdict.{accepted, refused}
use Rattle.definition.specs.Verify.{verify_in}
use Rattle.algebra.specs.Laws.{FieldLaws}
use Rattle.layouts.specs.Levels.{element_at, out_coin_count, rounds_of, sheet_field}
use Rattle.completeness.specs.Faults.{Fault, FirstFault, Kept, NoFault, faults_of, number_turn, outs, part_element, sheet_in, turn_of}
use Rattle.completeness.specs.FirstFaults.{accepted_then, first_then, none_then, refused_then}
use Rattle.completeness.specs.Ready.{sheet_laws}
use Rattle.completeness.specs.TestsByNumber.{equal_same}
use Rattle.completeness.proofs.VerifyExactly.{apart, exact, is_true, numbered, own_turn}

stable : (a b : ℕ) → ((a ≡ b → ⊥) → ⊥) → a ≡ b
stable a b h = eqb-true a b (is_true (eqb a b) (λ k. h (λ e. k (eq-eqb a b e))))

stable_element : {A : Type 0} (F : Field A) (L : FieldLaws F) (a b : A) → ((a ≡ b → ⊥) → ⊥) → a ≡ b
stable_element F L a b h = L.equal_true a b (is_true (F.equal a b) (λ k. h (λ e. k (equal_same F L a b e))))

stable_less : (a b : ℕ) → (b ≤ a → ⊥) → a < b
stable_less a b h = go (dec_lt a b)
  where
    go : Dec (a < b) → a < b
    go (yes l) = l
    go (no l) = absurd (h (omega arith))

module _ (ed : Edition) (file : List ℕ) where
  abbrev w : List ℕ
  w = stream_of file

  abbrev h : Sheet
  h = sheet_in ed file

  abbrev F : Field (Element (sheet_in ed file).spelling)
  F = sheet_field (sheet_in ed file)

  L : FieldLaws (sheet_field (sheet_in ed file))
  L = sheet_laws ed (stream_of file)

  no_fault_kept : ((n q : ℕ) → Fault ed file n q → ⊥) → Kept ed file
  no_fault_kept clear = record {
    length_positive = stable_less 0 (length file) (λ l. clear 1 0 (refl, λ g. omega (arith, g.0)));
    length_whole = stable (length file % 512) 0 (λ k. clear 1 0 (refl, λ g. k g.1));
    checks = λ b l. stable _ _ (λ k. clear 2 b (l, k));
    rules = λ i l. is_true _ (λ k. clear 3 i (l, k));
    blocks = stable _ _ (λ k. clear 4 _ (refl, k));
    range = λ x d j l. stable_less _ _ (λ k. clear 5 _ (x, d, (j, l, refl, k)));
    fill = λ n l u. stable _ _ (λ k. clear 6 n (l, u, k));
    outside = λ i l j u m v e. clear 7 _ (i, l, (j, u, refl, (m, v, e)));
    apart = λ i l a b la lb e. same_coin i l a b la lb e (dec_lt a b) (dec_lt b a);
    agree = λ i l a b la lb e. stable_element F L _ _ (λ k. clear 8 (suc i) (i, l, refl, (a, b, la, lb, λ g. k (g e))));
    match = λ j l. stable_element F L _ _ (λ k. clear 9 j (l, k));
  }
    where
      same_coin : (i : ℕ) → i < rounds_of h → (a b : ℕ) → a < out_coin_count h → b < out_coin_count h → part_element ed h w (outs i) a ≡ part_element ed h w (outs i) b → Dec (a < b) → Dec (b < a) → a ≡ b
      same_coin i l a b la lb e (yes u) v = absurd (clear 14 _ (i, l, (b, lb, refl, (a, u, sym e))))
      same_coin i l a b la lb e (no u) (yes v) = absurd (clear 14 _ (i, l, (a, la, refl, (b, v, e))))
      same_coin i l a b la lb e (no u) (no v) = omega arith

  kept_no_fault : Kept ed file → (n q : ℕ) → Fault ed file n q → ⊥
  kept_no_fault k n q p = at_turn (number_turn n) p
    where
      at_turn : (t : ℕ) → get_or (faults_of ed file) t NoFault q → ⊥
      at_turn zero p = p
      at_turn (suc zero) p = p.1 (k.length_positive, k.length_whole)
      at_turn (suc (suc zero)) p = p.1 (k.checks q p.0)
      at_turn (suc (suc (suc zero))) p = p.1 (k.rules q p.0)
      at_turn (suc (suc (suc (suc zero)))) p = p.1 (k.blocks ∙ sym p.0)
      at_turn (suc (suc (suc (suc (suc zero))))) p = let r = p.2 in omega (arith, r.3, k.range p.0 p.1 r.0 r.1, ap (λ (n : ℕ). get_or w n 0) r.2)
      at_turn (suc (suc (suc (suc (suc (suc zero)))))) p = p.2 (k.fill q p.0 p.1)
      at_turn (suc (suc (suc (suc (suc (suc (suc zero))))))) p = let r = p.2 in k.outside p.0 p.1 r.0 r.1 r.3.0 r.3.1 (ap (element_at (sheet_in ed file).spelling w) (sym r.2) ∙ r.3.2)
      at_turn (suc (suc (suc (suc (suc (suc (suc (suc zero)))))))) p =
          let r = p.2 in
          let a = r.3 in
          let e : r.0 ≡ a.0 = k.apart p.0 p.1 r.0 a.0 r.1 (omega (arith, a.1, r.1)) (ap (element_at (sheet_in ed file).spelling w) (sym r.2) ∙ a.2) in
          omega (arith, e, a.1)
      at_turn (suc (suc (suc (suc (suc (suc (suc (suc (suc zero))))))))) p = let r = p.3 in r.4 (k.agree p.0 p.1 r.0 r.1 r.2 r.3)
      at_turn (suc (suc (suc (suc (suc (suc (suc (suc (suc (suc zero)))))))))) p = p.1 (k.match q p.0)
      at_turn (suc (suc (suc (suc (suc (suc (suc (suc (suc (suc (suc t))))))))))) p = p

  pub accepted_exactly : ((verify_in ed file).outcome ≡ accepted) ↔ Kept ed file
  accepted_exactly = (
    λ e. no_fault_kept (accepted_then (Fault ed file) (turn_of ed) number_turn own_turn (verify_in ed file).outcome (exact ed file) (numbered ed file) (apart ed file) e),
    λ k. none_then (Fault ed file) (turn_of ed) number_turn own_turn (verify_in ed file).outcome (exact ed file) (numbered ed file) (apart ed file) (kept_no_fault k),
  )

  pub refused_exactly : (n q : ℕ) → ((verify_in ed file).outcome ≡ refused n q) ↔ FirstFault ed file n q
  refused_exactly n q = (
    λ e. let r = refused_then (Fault ed file) (turn_of ed) number_turn own_turn (verify_in ed file).outcome (exact ed file) (numbered ed file) (apart ed file) n q e in
        record { there = r.0; place_first = r.1; number_first = r.2 },
    λ f. first_then (Fault ed file) (turn_of ed) number_turn own_turn (verify_in ed file).outcome (exact ed file) (numbered ed file) (apart ed file) n q f.there f.place_first f.number_first,
  )
