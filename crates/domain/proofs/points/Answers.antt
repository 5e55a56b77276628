use mathlib.Core.Path.{◌≡◌, ◌∙◌, ap}
use Prim.Native.Nat.{◌*◌, ◌/◌}
use native.Mathlib.Omega.{arith}
use lib.ListN.{length}
use Rattle.powers.specs.TableLaws.{every_length, stored_length}
use Rattle.powers.specs.Table.{stored_powers}
use Rattle.domain.specs.Roots.{size_positive, whole_steps}
use Rattle.domain.proofs.Tables.{held_by_all, held_by_few, points_by_products, points_from_stored, steps_fit}
use Rattle.domain.proofs.points.Goals as goal

pub nonzero_div-size : goal.nonzero_div-size
nonzero_div-size c = omega (arith, size_positive c.requires.fitting)

pub from_stored-requires : goal.from_stored-requires
from_stored-requires c =
    let a = c.args in
    let t = c.stored_few-table in
    let w : 256 / a.size * a.size ≡ 256 = whole_steps 8 a.field a.size c.requires.fitting (omega arith) in let both = steps_fit 256 a.size (length a.out.now) (length t.result) (omega arith) (omega arith) (size_positive c.requires.fitting) w c.requires.out_len
    (ap length t.ensures ∙ every_length 16 256 stored_powers) in record { step_nonzero = both.0; table_len_bound = both.1 }

pub from_stored-requires-else-size-le256 : goal.from_stored-requires-else-size-le256
from_stored-requires-else-size-le256 c =
    let a = c.args in
    let t = c.stored-table in
    let w : 4096 / a.size * a.size ≡ 4096 = whole_steps 12 a.field a.size c.requires.fitting c.requires.fitting.most in let both = steps_fit 4096 a.size (length a.out.now) (length t.result) (omega arith) (omega arith) (size_positive c.requires.fitting) w c.requires.out_len
    (ap length t.ensures ∙ stored_length) in record { step_nonzero = both.0; table_len_bound = both.1 }

pub returns-then-field-lt2 : goal.returns-then-field-lt2
returns-then-field-lt2 c =
    let a = c.args in
    let b = c.by_products in
    let w = c.root_of in let both = points_by_products a.field a.size (length a.out.now) w.result b.new.out (omega arith) c.requires.fitting c.requires.out_len b.auto.out
    w.ensures b.ensures in record { powers = both.0; from_stored = both.1 }

pub returns-then-size-le256 : goal.returns-then-size-le256
returns-then-size-le256 c =
    let a = c.args in
    let p = c.from_stored in
    let t = c.stored_few-table in
    let w : 256 / a.size * a.size ≡ 256 = whole_steps 8 a.field a.size c.requires.fitting (omega arith) in let both = points_from_stored a.field a.size (length a.out.now) (256 / a.size) t.result p.new.out (omega arith) c.requires.fitting c.requires.out_len
    p.auto.out (held_by_few a.size t.result (size_positive c.requires.fitting) w t.ensures) p.ensures in record { powers = both.0; from_stored = both.1 }

pub returns-else-size-le256 : goal.returns-else-size-le256
returns-else-size-le256 c =
    let a = c.args in
    let p = c.from_stored-else-size-le256 in
    let t = c.stored-table in let both = points_from_stored a.field a.size (length a.out.now) (4096 / a.size) t.result p.new.out (omega arith) c.requires.fitting c.requires.out_len
    p.auto.out (held_by_all a.size t.result t.ensures) p.ensures in record { powers = both.0; from_stored = both.1 }
