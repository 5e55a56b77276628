use Prim.Native.Nat.{◌+◌}
use native.Mathlib.Omega.{arith}
use mathlib.Core.Path.{◌≡◌, sym, ◌∙◌}
use lib.ListN.{length, take}
use lib.Seq.{length-take-le}
use Rattle.definition.specs.Field.{spelling_of}
use Rattle.spelling.specs.ByField.{elements_at}
use Rattle.spelling.specs.Words.{elements_even, elements_inside, elements_many}
use Rattle.elements.specs.Meaning.{value_at}
use Rattle.combination.proofs.Cases.{factor_is, filled_none}
use Rattle.combination.proofs.factor.Goals as goal

pub slice_bounds-powers-end : goal.slice_bounds-powers-end
slice_bounds-powers-end c =
    let s = c.requires in
    let a = c.args in
    let inside = elements_inside (spelling_of a.field) (a.e + 1) a.list.now (omega (arith, s.0)) in
    omega (arith, inside, c.words-n.ensures.0, c.fill.auto.out)

pub slice_bounds-powers-end-2 : goal.slice_bounds-powers-end-2
slice_bounds-powers-end-2 c =
    let a = c.args in
    let inside = elements_inside (spelling_of a.field) (a.e + 1) a.list.now (omega (arith, c.requires.0)) in
    sym (length-take-le c.words-n.result c.fill.new.out (omega (arith, inside, c.words-n.ensures.0, c.fill.auto.out)))

pub powers-requires : goal.powers-requires
powers-requires c =
    let a = c.args in
    let f = c.fill in
    let inside = elements_inside (spelling_of a.field) (a.e + 1) a.list.now (omega (arith, c.requires.0)) in
    let front = length-take-le c.words-n.result f.new.out (omega (arith, inside, c.words-n.ensures.0, f.auto.out)) in
    let some : length (elements_at a.field (take c.words-n.result f.new.out)) ≡ a.e + 1 = elements_many (spelling_of a.field) (a.e + 1) (take c.words-n.result f.new.out) (front ∙ c.words-n.ensures.0) in
    omega (arith, some)

pub returns : goal.returns
returns c =
    let a = c.args in
    let f = c.fill in
    let p = c.powers in
    let inside = elements_inside (spelling_of a.field) (a.e + 1) a.list.now (omega (arith, c.requires.0)) in
    let same = elements_even (spelling_of a.field) f.new.out a.list.now f.auto.out in
    factor_is a.field (value_at a.field a.r) a.e c.words-n.result p.new.out f.new.out (omega (arith, same, c.requires.0)) (filled_none a.field a.list.now f.new.out f.ensures) c.words-n.ensures.0
    (p.auto.out ∙ length-take-le c.words-n.result f.new.out (omega (arith, inside, c.words-n.ensures.0, f.auto.out))) p.ensures
