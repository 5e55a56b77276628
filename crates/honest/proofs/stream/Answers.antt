use native.Mathlib.Omega.{arith}
use Rattle.completeness.proofs.Allowed.{allowed_enough}
use Rattle.layouts.specs.SheetRules.{long_enough}
use Rattle.domain.specs.OfSheet.{fitting}
use Rattle.edition.specs.Meaning.{edition_of}
use lib.ListN.{get_or}
use Rattle.definition.specs.Field.{spelling_of}
use Rattle.layouts.specs.Spellings.{count_least}
use Rattle.honest.proofs.Beginning.{first_half, first_most}
use Rattle.honest.proofs.stream.Goals as goal

-- `honest::stream` meets its contract. Assumes nothing.
pub bounds-w-1 : goal.bounds-w-1
bounds-w-1 c =
    omega (arith, long_enough (edition_of c.args.e) c.args.w.now (allowed_enough c.requires.allowed))

pub overflow_cast-size : goal.overflow_cast-size
overflow_cast-size c =
    let a = c.args in
    omega (arith, (fitting (edition_of a.e) a.w.now (allowed_enough c.requires.allowed) c.requires.allowed.sheet).most)

pub bounds-w-0 : goal.bounds-w-0
bounds-w-0 c =
    omega (arith, long_enough (edition_of c.args.e) c.args.w.now (allowed_enough c.requires.allowed))

pub words-requires : goal.words-requires
words-requires c =
    let a = c.args in
    omega (arith, (fitting (edition_of a.e) a.w.now (allowed_enough c.requires.allowed) c.requires.allowed.sheet).most)

pub stream_with-requires : goal.stream_with-requires
stream_with-requires c =
    let ok = c.requires.allowed in
    let a = c.args in
    let least = count_least (spelling_of (get_or a.w.now 0 0)) (get_or a.w.now 1 0) in
    record { allowed = ok; places = (omega (arith, c.if-words-le256.true, c.words.ensures.0, least), (omega arith, omega arith)); fold = omega (arith, c.if-words-le256.true, c.words.ensures.0, first_half ok); out_len = c.requires.out_len }

pub stream_with-requires-else-words-le256 : goal.stream_with-requires-else-words-le256
stream_with-requires-else-words-le256 c =
    let ok = c.requires.allowed in
    let a = c.args in
    let fits = fitting (edition_of a.e) a.w.now (allowed_enough ok) ok.sheet in
    record { allowed = ok; places = (omega (arith, fits.most), (omega arith, omega arith)); fold = omega (arith, first_half ok, first_most ok); out_len = c.requires.out_len }
