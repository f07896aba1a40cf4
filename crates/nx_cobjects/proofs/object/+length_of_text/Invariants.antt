use Rattle.nx_cobjects.proofs.object.+length_of_text.Given as goal

abbrev pub decreases-length_of_text : goal.decreases-length_of_text
decreases-length_of_text l = l.n
