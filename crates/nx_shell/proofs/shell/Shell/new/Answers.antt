use Rattle.std.proofs.Common.{refl}
use Rattle.nx_shell.proofs.Shelled.{begins_at}
use Rattle.nx_shell.proofs.shell.Shell.new.Goals as goal

pub returns-clause-at : goal.returns-clause-at
returns-clause-at c =
    let t = c.in_ok-table.table in
    begins_at (record { nodes = t.nodes; at = 0; status = 0; walk = c.in_ok-walk.walk }) c.come.new.self t.nodes.items c.args.script.now t.start c.in_ok-table.ensures refl c.come.ensures.came
