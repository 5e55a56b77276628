use Prim.Native.Nat.{ℕ}
use native.Mathlib.Omega.{arith}
use mathlib.Core.Path.{◌∙◌, subst, sym}
use lib.ListN.{get_or}
use Rattle.definition.specs.Field.{spelling_of}
use Rattle.definition.specs.Sheet.{sheet_of}
use Rattle.edition.specs.Meaning.{edition_of}
use Rattle.layouts.specs.Spellings.{read_length}
use Rattle.lists.specs.Correcting.{Columned}
use Rattle.round_words.specs.Coins.{coin_at}
use Rattle.round_words.proofs.Made.{before_combination, by_field}
use Rattle.round_words.proofs.Ready.{apart_part, combination_there, corrected_part}
use Rattle.round_words.proofs.correction.Goals as goal

pub overflow_cast-s : goal.overflow_cast-s
overflow_cast-s c = omega (arith, c.shared_slice_known-4-1.given 5)

pub overflow_add-state-2 : goal.overflow_add-state-2
overflow_add-state-2 c =
    let a = c.args in
    let h = sheet_of (edition_of a.e) a.w.now in
    omega (arith, combination_there (edition_of a.e) h a.w.now a.state c.requires.round_inside, c.shared_slice_known-4-1.given 5)

pub overflow_add-state-3 : goal.overflow_add-state-3
overflow_add-state-3 c =
    let a = c.args in
    let h = sheet_of (edition_of a.e) a.w.now in
    omega (arith, combination_there (edition_of a.e) h a.w.now a.state c.requires.round_inside, c.shared_slice_known-4-1.given 5)

pub words-requires : goal.words-requires
words-requires c =
    let a = c.args in
    let h = sheet_of (edition_of a.e) a.w.now in
    omega (arith, combination_there (edition_of a.e) h a.w.now a.state c.requires.round_inside, c.shared_slice_known-4-1.given 5)

pub overflow_add-at : goal.overflow_add-at
overflow_add-at c =
    let a = c.args in
    let i = c.requires.round_inside in
    let h = sheet_of (edition_of a.e) a.w.now in
    omega (arith, combination_there (edition_of a.e) h a.w.now a.state i, before_combination h a.state _ i.numbers.spelling i.numbers.outs c.words.ensures.0)

pub at-requires : goal.at-requires
at-requires c =
    let a = c.args in
    let i = c.requires.round_inside in
    let h = sheet_of (edition_of a.e) a.w.now in
    omega (arith, combination_there (edition_of a.e) h a.w.now a.state i, before_combination h a.state _ i.numbers.spelling i.numbers.outs c.words.ensures.0)

pub correction-requires : goal.correction-requires
correction-requires c =
    let a = c.args in
    let p = c.requires in
    let i = p.round_inside in
    let n = p.from_bound in
    let m = p.ac_len in
    let h = sheet_of (edition_of a.e) a.w.now in
    let field = get_or a.w.now 0 0 in
    let e = i.numbers.spelling in
    let lx = read_length (spelling_of field) 50 a.px.now (by_field h field e 50 n.1.0) in
    let ly = read_length (spelling_of field) 50 a.py.now (by_field h field e 50 n.1.1) in
    let k = c.fold-k.ensures.0 ∙ i.next in record { from_in_bounds = (omega (arith, n.0, lx), (omega (arith, lx), ly ∙ sym lx)); k_nonzero = (omega (arith, k, i.next_large), omega (arith, k, i.next_small)); ac_len = (by_field h field e 66 m.0, by_field h field e 132 m.1); apart = apart_part (edition_of a.e) a.w.now a.state a.px.now a.py.now a.from p.apart }

pub returns : goal.returns
returns c =
    let a = c.args in
    let i = c.requires.round_inside in
    let h = sheet_of (edition_of a.e) a.w.now in
    let q = c.correction in
    let v = c.at in record {
      columned = subst (λ (k : ℕ). Columned k q.result) (c.fold-k.ensures.0 ∙ i.next) q.ensures.columned;
      next_correcting = corrected_part (edition_of a.e) a.w.now a.state a.px.now a.py.now a.from q.result q.new.ac q.new.vg v.result
          (coin_at (edition_of a.e) a.w.now v.result (before_combination h a.state _ i.numbers.spelling i.numbers.outs c.words.ensures.0) v.ensures) q.ensures.correcting_over;
    }
