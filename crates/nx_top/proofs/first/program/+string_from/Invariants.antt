use Rattle.nx_top.proofs.first.program.+string_from.Given as goal

abbrev pub decreases-string_from : goal.decreases-string_from
decreases-string_from l = l.left
