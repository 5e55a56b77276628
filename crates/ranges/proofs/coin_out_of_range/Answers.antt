use Rattle.edition.specs.Meaning.{edition_of}
use Rattle.ranges.proofs.ByKind.{coin_word, coins_there, fine}
use Rattle.ranges.proofs.coin_out_of_range.Goals as goal

-- `ranges::coin_out_of_range`: the walk over the coins.
-- src/lib.rt:163:5
pub first_beyond-requires : goal.first_beyond-requires
first_beyond-requires c =
    let w = c.args.w.now in
    let e = edition_of c.args.e in record { fine = fine e w c.requires.e_in_bounds.0 c.requires.e_in_bounds.1; w_in_bounds = coins_there e w c.requires.e_in_bounds.0 c.requires.e_in_bounds.1 c.args.coins.now c.requires.coins_len }

-- src/lib.rt:157:1
pub returns : goal.returns
returns c =
    coin_word (edition_of c.args.e) c.args.w.now c.requires.e_in_bounds.0 c.requires.e_in_bounds.1 c.args.coins.now c.first_beyond.ensures
