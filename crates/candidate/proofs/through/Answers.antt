use Prim.Native.Nat.{ℕ}
use native.Mathlib.Omega.{arith}
use mathlib.Core.Path.{◌∙◌, subst}
use Rattle.tables.specs.OnDomain.{DomainTable}
use Rattle.candidate.proofs.Backwards.{through_is, through_elements}
use Rattle.candidate.proofs.through.Goals as goal

-- `candidate::through` meets its contract.
pub on_domain-requires : goal.on_domain-requires
on_domain-requires c =
    let p = c.requires in
    let h = p.halves.0 in record { halves = record { log = h.log; log_size = h.log_size; count_is = p.halves.1 ∙ h.count_is; size_is = p.values_len.0 ∙ h.size_is; fits = h.fits }; scale_nonzero = (omega arith, omega (arith, p.values_len.0)) }

pub returns : goal.returns
returns c =
    let a = c.args in
    let o = c.on_domain in
    let l = o.new.out in
    let r = c.turn_round in record {
      through = through_is a.field a.pw.now a.table.now l r.new.out (o.auto.out ∙ c.requires.values_len.0)
          (subst (λ (m : ℕ). DomainTable a.field a.table.now a.pw.now 1 m l) c.requires.values_len.0 o.ensures) r.ensures;
      elements = through_elements a.field a.pw.now l r.ensures;
    }
