-- A run: busy with m coins treated after m ticks, done with the last coin treated.
use Prim.Native.Nat.{ℕ, zero, suc, ◌-◌, ◌<◌}
use Rattle.std.proofs.Common.{arith, ◌∙◌}
use Rattle.std.specs.Prelude.{false, ◌≡◌, refl, length, take}
use mathlib.Core.List.{List, flat_map}
use Rattle.std.proofs.Math.Path.{sym, ap, subst}
use Rattle.definition.specs.Deciding.{reads_of}
use Rattle.device_definition.specs.Device.{Device, Phase, began, busy, done, ended, is_busy, start, start_by, start_tests, tick_in, treated_one}
use Rattle.definition.specs.Lists.{different, range}
use Rattle.definition.specs.Verdict.{Outcome, Verdict, accepted, refused}
use Rattle.definition.specs.Verify.{verify}
use Rattle.coinwise.specs.Folds.{places_to}
use Rattle.device_laws.specs.Events.{Runs, after_start, ticked}
use Rattle.device_laws.proofs.Histories.{begun, refusal_verdict}
use Rattle.device_laws.proofs.Quiet.{start_does, tick_does}
use Rattle.device_laws.specs.Running.{Running, S, few, next, reads_are, still_running, tick_done, tick_goes_on}

module _ (d : Device) (buffer : List ℕ) (free : is_busy d.phase ≡ false) (long : length buffer ≡ 65536) where
  abbrev x : List ℕ
  x = take d.taken buffer

  after : ℕ → Device
  after n = after_start n d buffer

  at_start : after 0 ≡ start_by d (start_tests x)
  unfolding after after_start ticked start
  at_start = start_does d buffer free long

  after_tick : (m : ℕ) → (after m).taken ≡ d.taken → after (suc m) ≡ tick_in (after m).phase (after m) x
  unfolding after after_start ticked
  after_tick m e = tick_does (after m) buffer long ∙ ap (λ (n : ℕ). tick_in (after m).phase (after m) (take n buffer)) e

  -- done at once
  at_once : (number place : ℕ) → start_tests x ≡ refused number place → Runs d buffer x
  unfolding after start_by ended began places_to reads_of different range flat_map
  at_once number place e =
      let b : after 0 ≡ ended (began d) (refused number place) = at_start ∙ ap (start_by d) e in
      let v = refusal_verdict x number place e in
      record {
        coins = 0;
        most = omega arith;
        before = λ m l. absurd (omega arith);
        last = (ap (λ (z : Device). z.phase) b ∙ ap (λ (w : Verdict). done w.outcome) v, ap (λ (z : Device). z.treated) b, ap (λ (z : Device). z.flag) b);
        reads = sym (ap (λ (w : Verdict). w.reads) v);
      }

  module _ (e : start_tests x ≡ accepted) where
    N : ℕ
    N = (S x e).coins

    record At (m : ℕ) : Type 0 where
      running : Running x e (after m)
      treated : (after m).treated ≡ m
      bytes : (after m).taken ≡ d.taken
      flag : (after m).flag ≡ d.flag

    began_is : after 0 ≡ began d
    unfolding start_by
    began_is = at_start ∙ ap (start_by d) e

    first : At 0
    unfolding began
    first = record {
      running = subst (Running x e) (sym began_is) (begun d x e);
      treated = ap (λ (z : Device). z.treated) began_is;
      bytes = ap (λ (z : Device). z.taken) began_is;
      flag = ap (λ (z : Device). z.flag) began_is;
    }

    tick_busy : (m : ℕ) → At m → after (suc m) ≡ tick_in busy (after m) x
    tick_busy m k = after_tick m k.bytes ∙ ap (λ (p : Phase). tick_in p (after m) x) k.running.going

    goes_on : (m : ℕ) → suc m < N → At m → At (suc m)
    unfolding treated_one N
    goes_on m l k =
        let u : suc (after m).treated < (S x e).coins = omega (arith, l, k.treated) in
        let t : after (suc m) ≡ next x e (after m) k.running = tick_busy m k ∙ tick_goes_on x e (after m) k.running u in
        record {
          running = subst (Running x e) (sym t) (still_running x e (after m) k.running u);
          treated = ap (λ (z : Device). z.treated) t ∙ ap suc k.treated;
          bytes = ap (λ (z : Device). z.taken) t ∙ k.bytes;
          flag = ap (λ (z : Device). z.flag) t ∙ k.flag;
        }

    at : (m : ℕ) → m < N → At m
    at zero l = first
    at (suc m) l = goes_on m l (at m (omega arith))

    by_coins : Runs d buffer x
    unfolding N treated_one ended after
    by_coins =
        let n = (S x e).coins - 1 in
        let s = (S x e).some_coin in
        let k = at n (omega (arith, s)) in
        let u : suc (after n).treated ≡ (S x e).coins = omega (arith, s, k.treated) in
        let t : after (suc n) ≡ ended (next x e (after n) k.running) (verify x).outcome = tick_busy n k ∙ tick_done x e (after n) k.running u in
        let q : suc n ≡ (S x e).coins = omega (arith, s) in
        let z : after (S x e).coins ≡ ended (next x e (after n) k.running) (verify x).outcome = ap after (sym q) ∙ t in
        record {
          coins = (S x e).coins;
          most = few x e;
          before = λ m l. let a = at m l in (a.running.going, a.treated, a.flag);
          last = (ap (λ (y : Device). y.phase) z, ap (λ (y : Device). y.treated) z ∙ u, ap (λ (y : Device). y.flag) z);
          reads = reads_are x e;
        }

  by_outcome : (o : Outcome) → start_tests x ≡ o → Runs d buffer x
  by_outcome accepted e = by_coins e
  by_outcome (refused number place) e = at_once number place e

  pub runs : Runs d buffer (take d.taken buffer)
  runs = by_outcome (start_tests x) refl
