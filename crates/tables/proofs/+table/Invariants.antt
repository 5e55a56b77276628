use Rattle.tables.proofs.+table.Given as goal

abbrev pub decreases-table : goal.decreases-table
decreases-table l = l.count
