use Rattle.nx_cparse.proofs.FileReads.{file_reads}
use Rattle.nx_cparse.proofs.grammar.a_file_has_one_tree.Goals as goal

pub returns : goal.returns
returns c = λ limit ts a b x y. c.one_tree.ensures file_reads limit ts a b x y
