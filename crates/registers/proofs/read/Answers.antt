use Rattle.registers.specs.Meaning.{device_of}
use Prim.Native.Nat.{ℕ, ◌/◌, ◌%◌}
use mathlib.Core.Path.{sym, ap, ◌∙◌}
use Rattle.device_definition.specs.Device.{read}
use Rattle.definition.specs.Sheet.{between}
use Rattle.registers.proofs.Shown.{place_low, shows_nothing}
use Rattle.registers.proofs.read.Goals as goal

pub returns-in-1 : goal.returns-in-1
unfolding read device_of
returns-in-1 c =
    c.status.ensures ∙ sym (ap (λ (n : ℕ). read (device_of c.args.d) n) c.in-1.is)

pub returns-in-2 : goal.returns-in-2
unfolding read device_of
returns-in-2 c =
    c.bit.ensures ∙ sym (ap (λ (n : ℕ). read (device_of c.args.d) n) c.in-2.is)

pub returns-in-3 : goal.returns-in-3
unfolding read device_of
returns-in-3 c =
    c.bit-in-3.ensures ∙ sym (ap (λ (n : ℕ). read (device_of c.args.d) n) c.in-3.is)

pub returns-in-4 : goal.returns-in-4
unfolding read device_of
returns-in-4 c =
    ap (λ (n : ℕ). n % 256) c.number.ensures ∙ sym (ap (λ (n : ℕ). read (device_of c.args.d) n) c.in-4.is)

pub returns-in-5 : goal.returns-in-5
unfolding read device_of
returns-in-5 c =
    ap (λ (n : ℕ). n % 256) c.place.ensures ∙ place_low (device_of c.args.d) ∙ sym (ap (λ (n : ℕ). read (device_of c.args.d) n) c.in-5.is)

pub returns-in-6 : goal.returns-in-6
unfolding read device_of between
returns-in-6 c =
    ap (λ (n : ℕ). n / 256 % 256) c.place-in-6.ensures ∙ sym (ap (λ (n : ℕ). read (device_of c.args.d) n) c.in-6.is)

pub returns-in-7 : goal.returns-in-7
unfolding read device_of between
returns-in-7 c =
    ap (λ (n : ℕ). n / 65536 % 256) c.place-in-7.ensures ∙ sym (ap (λ (n : ℕ). read (device_of c.args.d) n) c.in-7.is)

pub returns-in-8 : goal.returns-in-8
unfolding read device_of between
returns-in-8 c =
    ap (λ (n : ℕ). n / 16777216 % 256) c.place-in-8.ensures ∙ sym (ap (λ (n : ℕ). read (device_of c.args.d) n) c.in-8.is)

pub returns-in_default : goal.returns-in_default
unfolding device_of
returns-in_default c =
    let r = c.in_default.in_default-own.rest in shows_nothing (device_of c.args.d) c.args.register r.0.0.0.0.0.0.0.1 r.0.0.0.0.0.0.1 r.0.0.0.0.0.1 r.0.0.0.0.1 r.0.0.0.1 r.0.0.1 r.0.1 r.1
