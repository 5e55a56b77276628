use Rattle.std.specs.Prelude.{◌≡◌, ◌+◌, None}
use Rattle.edition.specs.Meaning.{edition_of}
use Rattle.ranges.proofs.Turns.{AtRound, AtWord}
use Rattle.ranges.proofs.first_beyond.Given as goal

abbrev pub invariant-loop-j : goal.invariant-loop-j
invariant-loop-j l = AtWord l.alone (edition_of l.e) l.w l.words l.from l.p l.rounds l.round l.first l.count l.below l.j (l.at + l.j) × (l.found ≡ None)

abbrev pub invariant-walk : goal.invariant-walk
invariant-walk l = AtRound l.alone (edition_of l.e) l.w l.words l.from l.p l.rounds l.round l.at × (l.found ≡ None)
