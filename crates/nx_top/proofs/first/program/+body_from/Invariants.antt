use Rattle.nx_top.proofs.first.program.+body_from.Given as goal

abbrev pub decreases-body_from : goal.decreases-body_from
decreases-body_from l = l.left
