use Rattle.std.proofs.Common.{◌∙◌, ap, refl}
use Rattle.nx_ctype.specs.Named.{named}
use Rattle.nx_ctype.proofs.Tables.{insert_named}
use Rattle.nx_ctype.proofs.names.Functions.put.Goals as goal

pub returns : goal.returns
returns c = ap named c.in_ok-insert.ensures.entries ∙ insert_named c.self.inside.entries.entries c.args.name c.args.function
    ∙ rw c.self.view_is refl
