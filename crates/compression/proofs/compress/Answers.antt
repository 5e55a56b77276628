use Rattle.hash_laws.specs.Steps.{compress_law, constants_length}
use Rattle.compression.specs.Meaning.{state_of}
use Rattle.compression.proofs.compress.Goals as goal

-- src/lib.rt:213:9
pub rounds-t-requires : goal.rounds-t-requires
rounds-t-requires c = (constants_length c.requires.0, c.requires.1)

-- src/lib.rt:209:1
pub returns : goal.returns
returns c = compress_law (state_of c.args.s) c.args.k.now c.args.w.now c.requires.0 c.rounds-t.ensures c.joined.ensures
