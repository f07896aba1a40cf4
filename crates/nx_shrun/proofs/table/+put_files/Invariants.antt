use Rattle.nx_shrun.proofs.table.+put_files.Given as goal

abbrev pub decreases-put_files : goal.decreases-put_files
decreases-put_files l = l.count
