use Rattle.std.proofs.Common.{◌∙◌, ap, refl}
use Rattle.nx_ctok.specs.Views.{named}
use Rattle.nx_ctok.proofs.Definitions.{insert_named}
use Rattle.nx_ctok.proofs.table.Table.put.Goals as goal

pub returns : goal.returns
returns c = ap named c.in_ok-insert.ensures.entries ∙ insert_named c.self.inside.entries.entries c.args.name c.args.value
    ∙ rw c.self.view_is refl
