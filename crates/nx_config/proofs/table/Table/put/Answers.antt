use Rattle.std.proofs.Common.{◌∙◌, ap, refl}
use Rattle.nx_config.specs.Tables.{named}
use Rattle.nx_config.proofs.Entries.{insert_named}
use Rattle.nx_config.proofs.table.Table.put.Goals as goal

pub returns : goal.returns
returns c = ap named c.in_ok-insert.ensures.entries ∙ insert_named c.self.inside.entries.entries c.into_vec.result c.args.kept
    ∙ rw (c.into_vec.ensures, c.self.view_is) refl
