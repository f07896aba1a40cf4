use Rattle.nx_codegen.proofs.frame.+array_from_here.Given as goal

abbrev pub decreases-array_from_here : goal.decreases-array_from_here
decreases-array_from_here l = l.number
