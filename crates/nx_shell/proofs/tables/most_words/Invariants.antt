use Rattle.nx_shell.proofs.TablePlaces.{HoldsTo}
use Rattle.nx_shell.proofs.tables.most_words.Given as goal

abbrev pub invariant-loop-node : goal.invariant-loop-node
invariant-loop-node l = HoldsTo l.nodes l.node-index l.most
