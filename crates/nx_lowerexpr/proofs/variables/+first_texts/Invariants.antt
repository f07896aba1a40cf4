use Rattle.nx_lowerexpr.proofs.variables.+first_texts.Given as goal

abbrev pub decreases-first_texts : goal.decreases-first_texts
decreases-first_texts l = l.i
