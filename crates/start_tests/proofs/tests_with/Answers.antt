use native.Mathlib.Omega.{arith}
use lib.Seq.{length-take-le}
use lib.ListN.{length}
use mathlib.Core.Path.{sym}
use Prim.Native.Nat.{◌*◌, ◌/◌}
use Rattle.outcome.specs.Meaning.{outcome_of}
use Rattle.edition.specs.Meaning.{edition_of}
use Rattle.start_tests.proofs.Joined.{few, handed, refused_is, tested_is}
use Rattle.start_tests.proofs.tests_with.Goals as goal

pub returns-in-Refused : goal.returns-in-Refused
unfolding outcome_of
returns-in-Refused c =
    refused_is (edition_of c.args.e) c.args.file.now c.read-read.ensures c.in-Refused.is

pub slice_bounds-outs-end : goal.slice_bounds-outs-end
slice_bounds-outs-end c =
    let e = few (edition_of c.args.e) c.args.file.now c.read-read.ensures c.in_default.is in
    omega (arith, e, c.requires, c.read-read.auto.words)

pub slice_bounds-outs-end-2 : goal.slice_bounds-outs-end-2
slice_bounds-outs-end-2 c =
    let e = few (edition_of c.args.e) c.args.file.now c.read-read.ensures c.in_default.is in
    sym (length-take-le (127 * (length c.args.file.now / 512)) c.read-read.new.words (omega (arith, e, c.requires, c.read-read.auto.words)))

pub outs-requires : goal.outs-requires
outs-requires c = let both = handed (edition_of c.args.e) c.args.file.now c.read-read.ensures c.in_default.is in record { w_value = both.0; w_in_bounds = both.1 }

pub returns : goal.returns
returns c =
    tested_is (edition_of c.args.e) c.args.file.now c.read-read.ensures c.in_default.is c.outs.ensures
