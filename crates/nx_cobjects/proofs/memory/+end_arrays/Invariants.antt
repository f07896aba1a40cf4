use Rattle.nx_cobjects.proofs.memory.+end_arrays.Given as goal

abbrev pub decreases-end_arrays : goal.decreases-end_arrays
decreases-end_arrays l = l.count
