use Rattle.nx_path.proofs.tree.Tree.open.Goals as goal

pub returns-else-has_flag-2-clause-absent : goal.returns-else-has_flag-2-clause-absent
returns-else-has_flag-2-clause-absent c = c.open_node.ensures.absent c.args.self.now.entries
