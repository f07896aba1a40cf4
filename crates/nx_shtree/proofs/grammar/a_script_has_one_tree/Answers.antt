use Rattle.nx_shtree.proofs.ScriptReads.{script_reads}
use Rattle.nx_shtree.proofs.grammar.a_script_has_one_tree.Goals as goal

pub returns : goal.returns
returns c = λ limit ts xs ys h k. c.one_tree.ensures script_reads limit ts xs ys h k
