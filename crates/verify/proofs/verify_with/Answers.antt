use Prim.Native.Nat.{◌*◌, ◌/◌}
use mathlib.Core.Path.{sym}
use native.Mathlib.Omega.{arith}
use lib.ListN.{length}
use lib.Seq.{length-take-le}
use Rattle.edition.specs.Meaning.{edition_of}
use Rattle.outcome.specs.Meaning.{outcome_of, verdict_of}
use Rattle.verify.proofs.Joined.{decided_is, few, handed, refused_is}
use Rattle.verify.proofs.verify_with.Goals as goal

pub returns-in-Refused : goal.returns-in-Refused
unfolding verdict_of outcome_of
returns-in-Refused c =
    refused_is (edition_of c.args.e) c.args.file.now c.read-read.ensures c.in-Refused.is

pub slice_bounds-deciding-end : goal.slice_bounds-deciding-end
slice_bounds-deciding-end c =
    let f = c.args.file.now in
    let e = few (edition_of c.args.e) f c.read-read.ensures c.in_default.is in
    omega (arith, e, c.requires, c.read-read.auto.words)

pub slice_bounds-deciding-end-2 : goal.slice_bounds-deciding-end-2
slice_bounds-deciding-end-2 c =
    let f = c.args.file.now in
    let e = few (edition_of c.args.e) f c.read-read.ensures c.in_default.is in
    sym (length-take-le (127 * (length f / 512)) c.read-read.new.words (omega (arith, e, c.requires, c.read-read.auto.words)))

pub deciding-requires : goal.deciding-requires
deciding-requires c =
    let h = handed (edition_of c.args.e) c.args.file.now c.read-read.ensures c.in_default.is in record { w_value = (h.sheet, h.range); w_in_bounds = h.there }

pub returns : goal.returns
returns c =
    decided_is (edition_of c.args.e) c.args.file.now c.read-read.ensures c.in_default.is c.deciding.ensures
