use Rattle.std.proofs.Common.{◌∙◌, ap, refl}
use Rattle.std.specs.Str.{bytes_eq}
use Rattle.indexmap.specs.IndexMap.{insert_entry}
use Rattle.nx_ctok.specs.Views.{values_in}
use Rattle.nx_ctok.proofs.Definitions.{values_put}
use Rattle.nx_ctok.proofs.reader.Reader.define.Goals as goal

pub returns : goal.returns
returns c =
    let n = c.in_ok-name.ensures.items ∙ c.bytes.ensures in
    (refl, ap values_in (c.in_ok-put.ensures ∙ ap (λ m. insert_entry bytes_eq c.args.self.now.table m c.args.definition.value) n) ∙ values_put c.args.self.now.table c.args.definition, refl, refl)
