use Rattle.convert.proofs.convert_to.Goals as goal

pub returns-then-file-le4096 : goal.returns-then-file-le4096
returns-then-file-le4096 c = c.by_way.ensures

pub returns : goal.returns
returns c = c.by_way-2.ensures
