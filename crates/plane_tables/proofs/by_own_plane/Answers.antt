use Rattle.plane_tables.proofs.Cases.{lent_asked, lent_table}
use Rattle.plane_tables.proofs.by_own_plane.Goals as goal

pub by_planes-requires : goal.by_planes-requires
by_planes-requires g c =
    let n = c.count-n in
    let both = lent_asked g.row.POINTS n.result c.args.out.now n.ensures c.requires.out_len.1.0 c.args.f.now c.args.pw.now c.args.at c.args.step
    c.requires.halves.0 c.requires.halves.1 c.requires.out_len.0 in record { halves = both.0; out_len = both.1 }

pub returns : goal.returns
returns g c =
    let n = c.count-n in
    let t = c.by_planes in
    lent_table g.row.POINTS n.result c.args.out.now n.ensures c.requires.out_len.1.0 c.args.f.now c.args.pw.now c.args.at c.args.step t.new.out t.ensures
