use Rattle.nx_lowerexpr.proofs.variables.+first_arrays.Given as goal

abbrev pub decreases-first_arrays : goal.decreases-first_arrays
decreases-first_arrays l = l.i
